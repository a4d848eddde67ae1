-- A file that comes in portions, at the C face: what the calls leave, by what the jobs promise; and that however the file is cut,
-- closing leaves what certis_check of the whole leaves with room for 256.
use Prim.Native.Nat.{ℕ, ◌+◌, ◌≤◌}
use native.Mathlib.Omega.{arith}
use mathlib.Core.Path.{◌≡◌, refl, sym, ap, subst, ◌∙◌}
use mathlib.Core.Bool.{Bool, true, false, cond, not, true≢false}
use mathlib.Core.List.{List, [], ◌∷◌, ◌++◌}
use lib.Dec.{ltb, eqb}
use lib.ListN.{length, set}
use borrow.Author.Tests.{eq-eqb, ne_eqb}
use Rattle.laws.specs.Refusals.{◌if◌, first}
use Rattle.rules.specs.Terms.{input}
use Rattle.joining.specs.Portions.{concat}
use Rattle.listing.specs.Checking.{check_refusals, checked_number, checked_or, Checks}
use Rattle.portions.specs.declared.Portions.{Portions}
use Rattle.std.specs.Prelude.{Result, Ok, Err, MatchResult}
use Rattle.portions_opening.specs.declared.OpenError.{OpenError}
use Rattle.portions_opening.specs.declared.OpenError.TheVariants.{BadCode, BadDay}
use Rattle.portions_adding.specs.declared.NotOpen.{NotOpen}
use Rattle.answering.specs.declared.CloseError.{CloseError}
use Rattle.answering.specs.declared.CloseError.TheVariants.{Refused, Late}
use Rattle.answering.specs.declared.Closed.{Closed}
use Rattle.portions.specs.Usable.{is_open}
use Rattle.portions.specs.States.{Rooms, Holds}
use Rattle.portions_opening.specs.Opening.{open_refusals, unopened_number, Opens}
use Rattle.portions_adding.specs.Adding.{adding_number, Adds}
use Rattle.answering.specs.Closing.{file_refusals, close_refusals, unclosed_number, closing_number, closing_or, checked_in, Closes}
use Rattle.portions.proofs.Bounds.{shut_shut}
use Rattle.going.proofs.Pieces.{Thens, held_all}
use Rattle.stored.specs.Stored.{Puts}
use Rattle.stored.proofs.Back.{state_shut}
use Rattle.checking_face.specs.Face.{CheckedAt}
use Rattle.portions_face.specs.Arriving.{Numbers, state_of, Lent, is_open_at, HoldsAt, PortionsOpenedAt, PortionAddedAt, closed_of, PortionsClosedAt}

-- numbers that were kept
abbrev pub Same : Numbers → Numbers → Type 0
Same y x = (y.wide ≡ x.wide) × (y.length ≡ x.length) × (y.narrow ≡ x.narrow) × (y.frame ≡ x.frame) × (y.small ≡ x.small) × (y.text ≡ x.text)

same_is : (x y : Numbers) → Same y x → y ≡ x
same_is x y (a, b, c, d, e, f) = λ i. record { wide = a i; length = b i; narrow = c i; frame = d i; small = e i; text = f i }

abbrev pub PutIn : Bool → Portions → Numbers → Numbers → Type 0
PutIn done p x y = Puts done p x.wide x.length x.narrow x.frame x.small x.text y.wide y.length y.narrow y.frame y.small y.text

-- ---- opening

pub opened_at : {code day : ℕ} (x y : Numbers) {stood stood' : List ℕ} {p : Portions} → Opens code day stood (Ok p) stood' → PutIn true p x y
    → PortionsOpenedAt code day x stood 0 y stood'
opened_at {code} {day} x y {stood' = stood'} O P = record {
  number = O.number;
  kept = λ f. absurd (f refl);
  holds = λ _ ls rs ps rooms. subst (λ (p : Portions). Holds code day [] p ls rs ps stood') (sym (P.put refl)) (O.holds ls rs ps rooms);
}

some_number : (u : OpenError) → 1 ≤ unopened_number u
some_number BadCode = omega arith
some_number BadDay = omega arith

pub not_opened : {code day : ℕ} (x : Numbers) {stood stood' : List ℕ} {u : OpenError} {r : ℕ} → Opens code day stood (Err u) stood' → r ≡ unopened_number u → PortionsOpenedAt code day x stood r x stood'
not_opened {code} {day} x {stood} {u = u} {r} O e =
    let n : r ≡ first (open_refusals code day) = e ∙ O.number in
    let z : (r ≡ 0 → ⊥) = λ q. omega (arith, e, q, some_number u) in
    record { number = n; kept = λ _. (refl, O.stood_after ∙ rw (sym n, ne_eqb r 0 z)); holds = λ q. absurd (z q) }

-- ---- a portion

pub added_at : {s : List ℕ} (a b : Lent) {p q : Portions} → q ≡ state_of a.numbers → Adds s q a.lines a.rules a.offsets a.stood (Ok p) b.lines b.rules b.offsets b.stood
    → PutIn true p a.numbers b.numbers → PortionAddedAt s a 0 b
added_at {s} a b {p} is Q P =
    let A : Adds s (state_of a.numbers) a.lines a.rules a.offsets a.stood (Ok p) b.lines b.rules b.offsets b.stood =
    subst (λ (q : Portions). Adds s q a.lines a.rules a.offsets a.stood (Ok p) b.lines b.rules b.offsets b.stood) is Q in
    record {
      number = ap adding_number A.taken;
      kept = λ f. absurd (f refl);
      goes_on = λ code day file H.
          subst (λ (p : Portions). Holds code day (file ++ s) p b.lines b.rules b.offsets b.stood) (sym (P.put refl)) (A.goes_on code day file H);
    }

pub not_added : {s : List ℕ} (a : Lent) {u : NotOpen} {q : Portions} {k : ℕ} {ls rs ps stood : List ℕ} → q ≡ state_of a.numbers → Adds s q a.lines a.rules a.offsets a.stood (Err u) ls rs ps stood
    → k ≡ adding_number false → PortionAddedAt s a k (record { numbers = a.numbers; lines = ls; rules = rs; offsets = ps; stood = stood })
not_added {s} a {u} {q} {k} {ls} {rs} {ps} {stood} is Q e =
    let A : Adds s (state_of a.numbers) a.lines a.rules a.offsets a.stood (Err u) ls rs ps stood =
    subst (λ (q : Portions). Adds s q a.lines a.rules a.offsets a.stood (Err u) ls rs ps stood) is Q in
    let K = A.kept (sym A.taken) in
    record {
      number = e ∙ ap adding_number A.taken;
      kept = λ _. λ i. record { numbers = a.numbers; lines = K.0 i; rules = K.1 i; offsets = K.2 i; stood = K.3 i };
      goes_on = λ code day file H. absurd (true≢false (sym H.usable ∙ sym A.taken));
    }

-- ---- closing

-- none of the file's own numbers is 18
own_number : (p : Portions) → eqb (first (file_refusals p)) 18 ≡ false
own_number p = go (ltb 10000000 p.bytes) (not p.seen) (ltb (p.going.came + 1) p.bytes) (eqb p.going.came 0)
  where
    go : (a b c d : Bool) → eqb (first ((3 if a) ∷ (5 if b) ∷ (9 if c) ∷ (6 if d) ∷ [])) 18 ≡ false
    go true b c d = refl
    go false true c d = refl
    go false false true d = refl
    go false false false true = refl
    go false false false false = refl

-- an open state is answered as checking answers
answered : (p : Portions) (ls rs ps : List ℕ) → is_open p ls rs ps ≡ true → (q : Result ℕ CloseError) → closing_number q ≡ first (close_refusals p ls rs ps)
    → (closing_number q ≡ checked_number (checked_in q)) × ((old : ℕ) → closing_or q old ≡ checked_or (checked_in q) old)
answered p ls rs ps o (Ok t) e = (refl, λ _. refl)
answered p ls rs ps o (Err (Refused u)) e = (refl, λ _. refl)
answered p ls rs ps o (Err Late) e =
    let n : 18 ≡ first (file_refusals p) = e ∙ rw o in
    absurd (true≢false (ap (λ (k : ℕ). eqb k 18) n ∙ own_number p))

-- the number that is told of an answer
number_is : (q : Result ℕ CloseError) {k : ℕ} → MatchResult q (λ _. k ≡ 0) (λ e. k ≡ unclosed_number e) → k ≡ closing_number q
number_is (Ok _) e = e
number_is (Err _) e = e

-- where something is refused there is no total
no_total : (q : Result ℕ CloseError) (old : ℕ) → (closing_number q ≡ 0 → ⊥) → closing_or q old ≡ old
no_total (Ok _) old z = absurd (z refl)
no_total (Err _) old z = refl

-- other numbers in the frame
abbrev pub framed : Numbers → List ℕ → Numbers
framed x f = record { wide = x.wide; length = x.length; narrow = x.narrow; frame = f; small = x.small; text = x.text }

closed_frame : (a : Lent) {k : ℕ} {f : List ℕ} → k ≡ first (close_refusals (state_of a.numbers) a.lines a.rules a.offsets) → f ≡ cond (not (eqb k 18)) (set a.numbers.frame 0 0) a.numbers.frame
    → (o : Bool) → is_open_at a ≡ o → framed a.numbers f ≡ cond o (closed_of a.numbers) a.numbers
closed_frame a {k} number v true o =
    let w : k ≡ first (file_refusals (state_of a.numbers)) = number ∙ rw o in
    let n : eqb k 18 ≡ false = ap (λ (j : ℕ). eqb j 18) w ∙ own_number (state_of a.numbers) in
    ap (framed a.numbers) (v ∙ rw n)
closed_frame a {k} number v false o =
    let w : k ≡ 18 = number ∙ rw o in
    let n : eqb k 18 ≡ true = eq-eqb k 18 w in
    ap (framed a.numbers) (v ∙ rw n)

pub closed_at : (a : Lent) (before : ℕ) {os₀ qs₀ ts₀ os qs ts : List ℕ} {c : Closed} {k after : ℕ} {ls' rs' ps' stood' f : List ℕ} {q : Portions} → q ≡ state_of a.numbers
    → Closes q a.lines a.rules a.offsets a.stood os₀ qs₀ ts₀ c ls' rs' ps' stood' os qs ts → MatchResult c.answer (λ _. k ≡ 0) (λ e. k ≡ unclosed_number e) → after ≡ closing_or c.answer before
    → f ≡ cond (not (eqb k 18)) (set a.numbers.frame 0 0) a.numbers.frame
    → PortionsClosedAt a os₀ qs₀ ts₀ before k (record { numbers = framed a.numbers f; lines = ls'; rules = rs'; offsets = ps'; stood = stood' }) os qs ts after
closed_at a before {os₀} {qs₀} {ts₀} {os} {qs} {ts} {c} {k} {after} {ls'} {rs'} {ps'} {stood'} {f} {q} is D m u v =
    let p : Portions = state_of a.numbers in
    let e : k ≡ closing_number c.answer = number_is c.answer m in
    let C : Closes p a.lines a.rules a.offsets a.stood os₀ qs₀ ts₀ c ls' rs' ps' stood' os qs ts =
    subst (λ (x : Portions). Closes x a.lines a.rules a.offsets a.stood os₀ qs₀ ts₀ c ls' rs' ps' stood' os qs ts) is D in
    let number : k ≡ first (close_refusals p a.lines a.rules a.offsets) = e ∙ C.number in
    record {
      number = number;
      numbers = closed_frame a number v (is_open_at a) refl;
      kept = λ g. let K = C.kept (λ z. g (number ∙ z)) in (K.0, K.1, K.2, K.3, K.4, K.5, K.6, u ∙ no_total c.answer before (λ z. g (e ∙ z)));
      checks = λ code day file H rooms.
          let K : Checks file (input code day) os₀ qs₀ ts₀ (checked_in c.answer) os qs ts = C.checks code day file H rooms in
          let A = answered p a.lines a.rules a.offsets H.usable c.answer C.number in
          let n : k ≡ first (check_refusals file (input code day) (length os₀) (length qs₀) (length ts₀)) = e ∙ A.0 ∙ K.number in
          record {
            number = n;
            total = u ∙ A.1 before ∙ K.total before ∙ rw n;
            lines = K.lines ∙ rw n;
            rules = K.rules ∙ rw n;
            offsets = K.offsets ∙ rw n;
          };
    }

-- ---- the calls one after the other

-- a portion came to a, which made it b
pub record Then (s : List ℕ) (a b : Lent) : Type 0 where
  pub answer : ℕ
  pub adds : PortionAddedAt s a answer b

-- 'For each cutting of a file, after the closing call its pairs, total or refusal equal those of checking the whole with room for 256'
-- (A5): opened, any portions added, closed
pub cut_anyhow : {code day : ℕ} {x : Numbers} {stood : List ℕ} {ss : List (List ℕ)} {k : ℕ} {a b c : Lent} {os₀ qs₀ ts₀ os qs ts : List ℕ} {before after : ℕ}
    → PortionsOpenedAt code day x stood 0 a.numbers a.stood → Rooms a.lines a.rules a.offsets → Thens Then ss a b → PortionsClosedAt b os₀ qs₀ ts₀ before k c os qs ts after → Rooms os₀ qs₀ ts₀
    → CheckedAt (concat ss) code day os₀ qs₀ ts₀ before k os qs ts after
cut_anyhow {code} {day} {ss = ss} {a = a} O rooms T C outs = C.checks code day (concat ss) (held_all (HoldsAt code day) (λ s a b T file H. T.adds.goes_on code day file H) T [] (O.holds refl a.lines a.rules a.offsets rooms)) outs

-- '18, a portion or a second closing call after closing, which changes nothing': closed it is not open, whatever stands in its lists
pub closed_stays : {a b : Lent} {os₀ qs₀ ts₀ os qs ts : List ℕ} {before k after : ℕ} → PortionsClosedAt a os₀ qs₀ ts₀ before k b os qs ts after → is_open_at a ≡ true
    → (ls rs ps : List ℕ) → is_open (state_of b.numbers) ls rs ps ≡ false
closed_stays {a} {b} C o ls rs ps =
    let x : Numbers = a.numbers in
    ap (λ (y : Numbers). is_open (state_of y) ls rs ps) (C.numbers ∙ rw o)
    ∙ ap (λ (q : Portions). is_open q ls rs ps) (state_shut x.wide x.length x.narrow x.frame x.small x.text)
    ∙ shut_shut (state_of x) ls rs ps
