-- A portion of a file that arrives slowly (document 02, A5): what it answers, and the state that it leaves. '18, a portion .. after closing,
-- which changes nothing'
use Rattle.std.specs.Prelude.{ℕ, ◌≡◌, Bool, false, cond, List, ◌++◌, Result, is_ok, IfOk}
use Rattle.portions.specs.declared.Portions.{Portions}
use Rattle.portions.specs.Usable.{is_open}
use Rattle.portions.specs.States.{Holds}
use Rattle.portions_adding.specs.declared.NotOpen.{NotOpen}

-- the state with another count
abbrev pub counting : Portions → ℕ → Portions
counting p n = record { going = p.going; code = p.code; day = p.day; bytes = n; seen = p.seen; takes = p.takes }

-- whatever file the state held, it holds that file and s behind it
abbrev pub GoesOn : List ℕ → Portions → List ℕ → List ℕ → List ℕ → List ℕ → Portions → List ℕ → List ℕ → List ℕ → List ℕ → Type 0
GoesOn s p ls rs ps stood q ls' rs' ps' stood' =
    (code day : ℕ) (file : List ℕ) → Holds code day file p ls rs ps stood → Holds code day (file ++ s) q ls' rs' ps' stood'

abbrev pub adding_number : Bool → ℕ
adding_number taken = cond taken 0 18

pub record Adds (s : List ℕ) (p : Portions) (ls rs ps stood : List ℕ) (r : Result Portions NotOpen) (ls' rs' ps' stood' : List ℕ) : Type 0 where
  pub taken : is_ok r ≡ is_open p ls rs ps
  pub kept : is_open p ls rs ps ≡ false → (ls' ≡ ls) × (rs' ≡ rs) × (ps' ≡ ps) × (stood' ≡ stood)
  pub goes_on : IfOk r (λ q. GoesOn s p ls rs ps stood q ls' rs' ps' stood')
