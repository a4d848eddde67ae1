-- A state that was stored reads back as itself, and one whose mark is taken away as closed.
use Prim.Native.Nat.{ℕ}
use mathlib.Core.Path.{◌≡◌, refl, sym, ap, ◌∙◌}
use mathlib.Core.Bool.{Bool, true, false, cond, true≢false}
use mathlib.Core.List.{List, [], ◌∷◌}
use lib.Dec.{eqb}
use lib.ListN.{set}
use Rattle.carried.specs.declared.Words.{Words}
use Rattle.carried.specs.Words.{pass_of}
use Rattle.carried.proofs.Back.{on_back}
use Rattle.portions.specs.declared.Portions.{Portions}
use Rattle.portions.specs.States.{shut_of}
use Rattle.stored.specs.Stored.{state_in, frame_of, Puts}

takes_back : (b : Bool) → eqb (cond b 0x43455254 0) 0x43455254 ≡ b
takes_back true = refl
takes_back false = refl

pub state_back : (p : Portions) (w : Words) (f : List ℕ) → pass_of w ≡ p.going.pass → f ≡ frame_of p → state_in w.wide p.going.held.len w.narrow f w.small p.going.held.text ≡ p
unfolding state_in
state_back p w f e ef =
    ap (λ (g : List ℕ). state_in w.wide p.going.held.len w.narrow g w.small p.going.held.text) ef
    ∙ (λ i. record {
      going = record {
        pass = e i;
        held = record { text = p.going.held.text; len = p.going.held.len; cr = on_back p.going.held.cr i };
        at = p.going.at;
        came = p.going.came;
      };
      code = p.code;
      day = p.day;
      bytes = p.bytes;
      seen = on_back p.seen i;
      takes = takes_back p.takes i;
    })

-- the mark taken away
pub state_shut : (w : List ℕ) (l : ℕ) (n f s t : List ℕ) → state_in w l n (set f 0 0) s t ≡ shut_of (state_in w l n f s t)
unfolding state_in
state_shut w l n [] s t = refl
state_shut w l n (m ∷ f) s t = refl

-- ---- storing

pub nothing_put : {done : Bool} {p : Portions} {w : List ℕ} {l : ℕ} {n f s t : List ℕ} → done ≡ false → Puts done p w l n f s t w l n f s t
nothing_put e = record { put = λ k. absurd (true≢false (sym k ∙ e)); kept = λ _. (refl, refl, refl, refl, refl, refl) }

pub was_put : {done : Bool} {p : Portions} {w : List ℕ} {l : ℕ} {n f s t : List ℕ} → done ≡ true → (v : Words) → pass_of v ≡ p.going.pass → {f' : List ℕ} → f' ≡ frame_of p
    → Puts done p w l n f s t v.wide p.going.held.len v.narrow f' v.small p.going.held.text
was_put {p = p} e v ep {f'} ef = record { put = λ _. state_back p v f' ep ef; kept = λ k. absurd (true≢false (sym e ∙ k)) }
