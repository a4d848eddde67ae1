-- However a file is cut into portions, closing answers and lists what checking the whole does with room for 256.
use Prim.Native.Nat.{ℕ}
use mathlib.Core.Path.{◌≡◌, sym, ap, subst, ◌∙◌}
use mathlib.Core.Bool.{true, false, true≢false}
use mathlib.Core.List.{List, [], ◌++◌}
use Rattle.rules.specs.Terms.{input}
use Rattle.joining.specs.Portions.{concat}
use Rattle.going.proofs.Pieces.{Thens, held_all}
use Rattle.listing.specs.Checking.{Checks}
use Rattle.listing.proofs.Unique.{check_unique}
use Rattle.portions.specs.declared.Portions.{Portions}
use Rattle.std.specs.Prelude.{Result, Ok, Err}
use Rattle.std.specs.Result.{result_unwrap_or}
use Rattle.portions_adding.specs.declared.NotOpen.{NotOpen}
use Rattle.answering.specs.declared.Closed.{Closed}
use Rattle.portions.specs.Usable.{is_open}
use Rattle.portions.specs.States.{Rooms, Holds}
use Rattle.portions_opening.specs.Opening.{Opens}
use Rattle.portions_adding.specs.Adding.{Adds}
use Rattle.answering.specs.Closing.{checked_in, Closes}
use Rattle.portions.proofs.Bounds.{shut_shut}

-- ---- the calls

-- a state, with its arrays as they stand
pub record State : Type 0 where
  pub numbers : Portions
  pub lines_in : List ℕ
  pub rules_in : List ℕ
  pub offsets_in : List ℕ
  pub stood_in : List ℕ

abbrev pub HoldsAt : ℕ → ℕ → List ℕ → State → Type 0
HoldsAt code day file a = Holds code day file a.numbers a.lines_in a.rules_in a.offsets_in a.stood_in

-- a new state was opened, in arrays of 256
pub record OpenedAs (code day : ℕ) (a : State) : Type 0 where
  pub before : List ℕ
  pub opens : Opens code day before (Ok a.numbers) a.stood_in
  pub rooms : Rooms a.lines_in a.rules_in a.offsets_in

-- a portion came to a, which made it b; where it is refused the numbers stay
pub record Then (s : List ℕ) (a b : State) : Type 0 where
  pub answer : Result Portions NotOpen
  pub adds : Adds s a.numbers a.lines_in a.rules_in a.offsets_in a.stood_in answer b.lines_in b.rules_in b.offsets_in b.stood_in
  pub is : b.numbers ≡ result_unwrap_or answer a.numbers

-- it was closed, with three lists of 256 lent
pub record ClosedAs (a : State) (os₀ qs₀ ts₀ : List ℕ) (r : Closed) (os qs ts : List ℕ) : Type 0 where
  pub lines_after : List ℕ
  pub rules_after : List ℕ
  pub offsets_after : List ℕ
  pub stood_after : List ℕ
  pub closes : Closes a.numbers a.lines_in a.rules_in a.offsets_in a.stood_in os₀ qs₀ ts₀ r lines_after rules_after offsets_after stood_after os qs ts
  pub rooms : Rooms os₀ qs₀ ts₀

-- ---- what is held

opened_holds : {code day : ℕ} {a : State} → OpenedAs code day a → HoldsAt code day [] a
opened_holds O = O.opens.holds _ _ _ O.rooms

added_holds : (code day : ℕ) (s : List ℕ) (a b : State) → Then s a b → (file : List ℕ) → HoldsAt code day file a → HoldsAt code day (file ++ s) b
added_holds code day s a b T file H = go T.answer T.adds T.is
  where
    go : (r : Result Portions NotOpen) → Adds s a.numbers a.lines_in a.rules_in a.offsets_in a.stood_in r b.lines_in b.rules_in b.offsets_in b.stood_in → b.numbers ≡ result_unwrap_or r a.numbers → HoldsAt code day (file ++ s) b
    go (Ok p) A e = subst (λ (p : Portions). Holds code day (file ++ s) p b.lines_in b.rules_in b.offsets_in b.stood_in) (sym e) (A.goes_on code day file H)
    go (Err u) A e = absurd (true≢false (sym (A.taken ∙ H.usable)))

-- ---- the theorem of A5

pub cut_anyhow : {code day : ℕ} {ss : List (List ℕ)} {a b : State} {os₀ qs₀ ts₀ os qs ts : List ℕ} {r : Closed} → OpenedAs code day a → Thens Then ss a b → ClosedAs b os₀ qs₀ ts₀ r os qs ts
    → Checks (concat ss) (input code day) os₀ qs₀ ts₀ (checked_in r.answer) os qs ts
cut_anyhow {code} {day} {ss} {a} O T C = C.closes.checks code day (concat ss) (held_all (HoldsAt code day) (added_holds code day) T [] (opened_holds O)) C.rooms

-- so two cuttings of one file, or a cutting and the whole, are answered and listed alike
pub cut_same : {code day : ℕ} {ss tt : List (List ℕ)} {a b a' b' : State} {os₀ qs₀ ts₀ os qs ts os' qs' ts' : List ℕ} {r r' : Closed} → concat ss ≡ concat tt
    → OpenedAs code day a → Thens Then ss a b → ClosedAs b os₀ qs₀ ts₀ r os qs ts → OpenedAs code day a' → Thens Then tt a' b' → ClosedAs b' os₀ qs₀ ts₀ r' os' qs' ts'
    → (checked_in r.answer ≡ checked_in r'.answer) × (os ≡ os') × (qs ≡ qs') × (ts ≡ ts')
cut_same {code} {day} {os₀ = os₀} {qs₀} {ts₀} {os' = os'} {qs'} {ts'} {r' = r'} e O T C O' T' C' =
    check_unique (cut_anyhow O T C) (subst (λ (f : List ℕ). Checks f (input code day) os₀ qs₀ ts₀ (checked_in r'.answer) os' qs' ts') (sym e) (cut_anyhow O' T' C'))

-- ---- after closing

-- '18, a portion or a second closing call after closing, which changes nothing', whatever stands in the arrays
pub closed_stays : {p : Portions} {ls rs ps stood os₀ qs₀ ts₀ : List ℕ} {r : Closed} {ls' rs' ps' stood' os qs ts : List ℕ} → Closes p ls rs ps stood os₀ qs₀ ts₀ r ls' rs' ps' stood' os qs ts
    → is_open p ls rs ps ≡ true → (ms ns ks : List ℕ) → is_open r.state ms ns ks ≡ false
closed_stays {p} C o ms ns ks = ap (λ (q : Portions). is_open q ms ns ks) (C.state ∙ rw o) ∙ shut_shut p ms ns ks
