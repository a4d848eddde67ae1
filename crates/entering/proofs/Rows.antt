-- Over any row of files, refused ones among them, no day and number is taken twice, and none is taken that the register held before; and a
-- register stays one.
-- A range that was dropped cannot matter: the accounting days of a row do not fall, and a file's days are within ten of its own.
use Prim.Native.Nat.{ℕ, ◌+◌, ◌≤◌}
use native.Mathlib.Omega.{arith}
use mathlib.Core.Path.{◌≡◌, refl, sym, ap, ◌∙◌, subst}
use mathlib.Core.Bool.{Bool, true, false, cond, not, ◌&&◌, ◌||◌, and-true, or_assoc, false≢true}
use mathlib.Core.List.{List, [], ◌∷◌, ◌++◌}
use lib.Dec.{eqb}
use borrow.Author.Tests.{eqb-true, ltb-false, le-ltb}
use Rattle.days.specs.Days.{is_real, later, day_number}
use Rattle.register.specs.Register.{Range, Register, register_of, register_bytes, is_register}
use Rattle.register.specs.Entering.{Use, kept, holds, stands_in, clash, entered}
use Rattle.register.proofs.Sets.{turned, kept_members}
use Rattle.entering.specs.Jobs.{uses_of}
use Rattle.entering.specs.Rows.{Handed, refusal_of, after, through, taken}
use Rattle.entering.proofs.Again.{UseDays, number_le, was_register, day_real, day_from, unused, uses_days, entered_stands, read_back}
use Rattle.entering.proofs.Held.{entered_holds}

-- ---- no clash, one number after the other
neither : (a b : Bool) → (a || b) ≡ false → (a ≡ false) × (b ≡ false)
neither true b e = absurd (false≢true (sym e))
neither false b e = (refl, e)

none_holds : (a b : Bool) → a ≡ false → b ≡ false → (a || b) ≡ false
none_holds true b p q = p
none_holds false b p q = q

abbrev Clear : List Range → List Use → Type 0
Clear rs [] = Unit {0}
Clear rs (u ∷ us) = (holds rs u ≡ false) × (stands_in u us ≡ false) × Clear rs us

clash_clear : (rs : List Range) (us : List Use) → clash rs us ≡ false → Clear rs us
clash_clear rs [] e = tt
clash_clear rs (u ∷ us) e =
    let a = neither (holds rs u) (stands_in u us || clash rs us) e in
    let b = neither (stands_in u us) (clash rs us) a.1 in
    (a.0, b.0, clash_clear rs us b.1)

clear_clash : (rs : List Range) (us : List Use) → Clear rs us → clash rs us ≡ false
clear_clash rs [] C = refl
clear_clash rs (u ∷ us) C = none_holds (holds rs u) (stands_in u us || clash rs us) C.0 (none_holds (stands_in u us) (clash rs us) C.1 (clear_clash rs us C.2))

-- ---- numbers after others
stands_append : (u : Use) (us vs : List Use) → stands_in u (us ++ vs) ≡ (stands_in u us || stands_in u vs)
stands_append u [] vs = refl
stands_append u (v ∷ us) vs =
    ap (λ (b : Bool). (eqb u.day v.day && eqb u.number v.number) || b) (stands_append u us vs)
    ∙ sym (or_assoc (eqb u.day v.day && eqb u.number v.number) (stands_in u us) (stands_in u vs))

-- none of the second stands in the first
abbrev Off : List Use → List Use → Type 0
Off us [] = Unit {0}
Off us (v ∷ vs) = (stands_in v us ≡ false) × Off us vs

off_head : (u : Use) (us vs : List Use) → Off (u ∷ us) vs → stands_in u vs ≡ false
off_head u us [] O = refl
off_head u us (v ∷ vs) O =
    let a = (neither (eqb v.day u.day && eqb v.number u.number) (stands_in v us) O.0).0 in
    none_holds (eqb u.day v.day && eqb u.number v.number) (stands_in u vs) ((λ i. turned u.day v.day i && turned u.number v.number i) ∙ a) (off_head u us vs O.1)

off_rest : (u : Use) (us vs : List Use) → Off (u ∷ us) vs → Off us vs
off_rest u us [] O = tt
off_rest u us (v ∷ vs) O = ((neither (eqb v.day u.day && eqb v.number u.number) (stands_in v us) O.0).1, off_rest u us vs O.1)

clear_append : (rs : List Range) (us vs : List Use) → Clear rs us → Clear rs vs → Off us vs → Clear rs (us ++ vs)
clear_append rs [] vs C D O = D
clear_append rs (u ∷ us) vs C D O = (
  C.0,
  stands_append u us vs ∙ none_holds (stands_in u us) (stands_in u vs) C.1 (off_head u us vs O),
  clear_append rs us vs C.2 D (off_rest u us vs O),
)

-- ---- numbers of days that a register of a latest day does not drop
abbrev InReach : ℕ → List Use → Type 0
InReach today [] = Unit {0}
InReach today (u ∷ us) = (later today u.day 10 ≡ false) × InReach today us

reach_append : (today : ℕ) (us vs : List Use) → InReach today us → InReach today vs → InReach today (us ++ vs)
reach_append today [] vs R Q = Q
reach_append today (u ∷ us) vs R Q = (R.0, reach_append today us vs R.1 Q)

reach_before : (old today : ℕ) → day_number old ≤ day_number today → (us : List Use) → InReach today us → InReach old us
reach_before old today h [] R = tt
reach_before old today h (u ∷ us) R =
    let l = ltb-false (day_number u.day + 10) (day_number today) R.0 in
    (le-ltb (day_number u.day + 10) (day_number old) (omega (arith, l, h)), reach_before old today h us R.1)

days_reach : (today : ℕ) (us : List Use) → UseDays today us → InReach today us
days_reach today [] D = tt
days_reach today (u ∷ us) D = (D.0.2, days_reach today us D.1)

-- ---- one file that is entered
module _ (s : List ℕ) (h : Handed) (e : refusal_of s h ≡ 0) where
  abbrev rs : List Range
  rs = (register_of s).ranges

  abbrev us : List Use
  us = uses_of h.file

  abbrev new : List ℕ
  new = register_bytes (entered (register_of s) h.day us)

  latest_is : (register_of new).latest ≡ h.day
  latest_is = ap (λ (g : Register). g.latest) (read_back s h.file h.code h.day h.room e)

  us_reach : InReach h.day us
  us_reach = days_reach h.day us (uses_days s h.file h.code h.day h.room e)

  new_real : is_real (register_of new).latest ≡ true
  new_real = ap is_real latest_is ∙ day_real s h.file h.code h.day h.room e

  -- what is taken after it is in reach of the register before it
  reach_on : is_real (register_of s).latest ≡ true → (vs : List Use) → InReach (register_of new).latest vs → InReach (register_of s).latest (us ++ vs)
  reach_on r vs R =
      reach_before (register_of s).latest h.day (number_le (register_of s).latest h.day r (day_real s h.file h.code h.day h.room e) (day_from s h.file h.code h.day h.room e)) (us ++ vs)
      (reach_append h.day us vs us_reach (subst (λ (d : ℕ). InReach d vs) latest_is R))

  stays : (v : Use) → later h.day v.day 10 ≡ false → (holds rs v && not (later h.day v.day 10)) ≡ holds rs v
  stays v p = ap (λ (b : Bool). holds rs v && not b) p ∙ and-true (holds rs v)

  own : (vs : List Use) → InReach h.day vs → Clear (kept h.day rs) vs → Clear rs vs
  own [] R C = tt
  own (v ∷ vs) R C = (sym (kept_members h.day rs v ∙ stays v R.0) ∙ C.0, C.1, own vs R.1 C.2)

  parts : (v : Use) → holds (entered (register_of s) h.day us).ranges v ≡ false → ((holds rs v && not (later h.day v.day 10)) ≡ false) × (stands_in v us ≡ false)
  parts v c = neither (holds rs v && not (later h.day v.day 10)) (stands_in v us) (sym (entered_holds s h.file h.day (was_register s h.file h.code h.day h.room e) v) ∙ c)

  further : (vs : List Use) → InReach h.day vs → Clear (entered (register_of s) h.day us).ranges vs → Clear rs vs
  further [] R C = tt
  further (v ∷ vs) R C = (sym (stays v R.0) ∙ (parts v C.0).0, C.1, further vs R.1 C.2)

  off : (vs : List Use) → Clear (entered (register_of s) h.day us).ranges vs → Off us vs
  off [] C = tt
  off (v ∷ vs) C = ((parts v C.0).1, off vs C.2)

  clear_on : (vs : List Use) → InReach (register_of new).latest vs → clash (register_of new).ranges vs ≡ false → clash rs (us ++ vs) ≡ false
  clear_on vs R c =
      let Q = subst (λ (d : ℕ). InReach d vs) latest_is R in
      let C = clash_clear (entered (register_of s) h.day us).ranges vs (subst (λ (g : Register). clash g.ranges vs ≡ false) (read_back s h.file h.code h.day h.room e) c) in
      clear_clash rs (us ++ vs)
      (clear_append rs us vs (own us us_reach (clash_clear (kept h.day rs) us (unused s h.file h.code h.day h.room e))) (further vs Q C) (off vs C))

-- ---- a row of files
-- the register after a file, by whether it is entered
abbrev next : Bool → List ℕ → Handed → List ℕ
next x s h = cond x (register_bytes (entered (register_of s) h.day (uses_of h.file))) s

reach : (s : List ℕ) (hs : List Handed) → is_real (register_of s).latest ≡ true → InReach (register_of s).latest (taken s hs)
reach s [] r = tt
reach s (h ∷ hs) r = go (eqb (refusal_of s h) 0) refl (λ q. reach (after s h) hs q)
  where
    go : (x : Bool) → eqb (refusal_of s h) 0 ≡ x
        → (is_real (register_of (next x s h)).latest ≡ true → InReach (register_of (next x s h)).latest (taken (next x s h) hs))
        → InReach (register_of s).latest (cond x (uses_of h.file) [] ++ taken (next x s h) hs)
    go true q ih = let e = eqb-true (refusal_of s h) 0 q in reach_on s h e r (taken (new s h e) hs) (ih (new_real s h e))
    go false q ih = ih r

pub never_twice : (s : List ℕ) (hs : List Handed) → clash (register_of s).ranges (taken s hs) ≡ false
never_twice s [] = refl
never_twice s (h ∷ hs) = go (eqb (refusal_of s h) 0) refl (never_twice (after s h) hs)
  where
    go : (x : Bool) → eqb (refusal_of s h) 0 ≡ x
        → clash (register_of (next x s h)).ranges (taken (next x s h) hs) ≡ false
        → clash (register_of s).ranges (cond x (uses_of h.file) [] ++ taken (next x s h) hs) ≡ false
    go true q ih = let e = eqb-true (refusal_of s h) 0 q in clear_on s h e (taken (new s h e) hs) (reach (new s h e) hs (new_real s h e)) ih
    go false q ih = ih

pub row_stands : (s : List ℕ) (hs : List Handed) → is_register s ≡ true → is_register (through s hs) ≡ true
row_stands s [] r = r
row_stands s (h ∷ hs) r = row_stands (after s h) hs (go (eqb (refusal_of s h) 0) refl)
  where
    go : (x : Bool) → eqb (refusal_of s h) 0 ≡ x → is_register (next x s h) ≡ true
    go true q = entered_stands s h.file h.code h.day h.room (eqb-true (refusal_of s h) 0 q)
    go false q = r
