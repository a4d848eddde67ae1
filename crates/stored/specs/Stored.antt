-- A file that comes in portions, as plain numbers. The places are those of the table in src/lib.rt.
use Rattle.std.specs.Prelude.{ℕ, ◌≡◌, Bool, true, false, cond, List, [], ◌∷◌, eqb, get_or}
use Rattle.carried.specs.Flats.{one, is_on}
use Rattle.carried.specs.Words.{pass_of}
use Rattle.portions.specs.declared.Portions.{Portions}

-- the state that stands in some numbers
unfoldable pub state_in : List ℕ → ℕ → List ℕ → List ℕ → List ℕ → List ℕ → Portions
state_in wide length narrow frame small text =
    record {
      going = record {
        pass = pass_of (record { wide = wide; narrow = narrow; small = small });
        held = record { text = text; len = length; cr = is_on (get_or frame 7 0) };
        at = get_or frame 4 0;
        came = get_or frame 5 0;
      };
      code = get_or frame 1 0;
      day = get_or frame 2 0;
      bytes = get_or frame 3 0;
      seen = is_on (get_or frame 6 0);
      takes = eqb (get_or frame 0 0) 0x43455254;
    }

abbrev pub frame_of : Portions → List ℕ
frame_of p =
    cond p.takes 0x43455254 0 ∷ p.code ∷ p.day ∷ p.bytes ∷ p.going.at ∷ p.going.came ∷ one p.seen ∷ one p.going.held.cr ∷ []

-- a state was stored, or nothing was
pub record Puts (done : Bool) (p : Portions) (w : List ℕ) (l : ℕ) (n f s t w' : List ℕ) (l' : ℕ) (n' f' s' t' : List ℕ) : Type 0 where
  pub put : done ≡ true → state_in w' l' n' f' s' t' ≡ p
  pub kept : done ≡ false → (w' ≡ w) × (l' ≡ l) × (n' ≡ n) × (f' ≡ f) × (s' ≡ s) × (t' ≡ t)
