-- Entering and a new register, by their tests in order.
use Prim.Native.Nat.{ℕ, zero, suc, ◌+◌, ◌-◌, ◌≤◌, ◌<◌}
use native.Mathlib.Omega.{arith}
use mathlib.Core.Path.{◌≡◌, refl, sym, ap, ◌∙◌, subst}
use mathlib.Core.Bool.{Bool, true, false, cond, not, ◌&&◌, ◌||◌}
use mathlib.Core.List.{List, [], ◌∷◌, ◌++◌, append-nil}
use lib.Dec.{eqb, leb, ltb}
use lib.ListN.{length, take, drop}
use borrow.Author.Tests.{eq-eqb, ne_eqb, lt-ltb, le-ltb, ltb-true, ltb-false, le-leb, lt-leb}
use Rattle.laws.specs.Refusals.{Refusal, ◌if◌, first}
use Rattle.laws.proofs.Put.{put_is}
use Rattle.text.specs.Strings.{Wrote}
use Rattle.lines.specs.Lines.{body}
use Rattle.file_body.proofs.Body.{body_take}
use Rattle.rules.specs.Terms.{is_code, input}
use Rattle.rules.specs.Faults.{faults}
use Rattle.item_reader.specs.Slips.{slips_from}
use Rattle.std.specs.Prelude.{Result, Ok, Err}
use Rattle.listing.specs.declared.checking.Unchecked.{Unchecked}
use Rattle.listing.proofs.Answers.{body_and_mark}
use Rattle.listing.proofs.Unique.{some_number}
use Rattle.listing.specs.Checking.{check_refusals, unchecked_number, checked_number, checked_or, Totals}
use Rattle.register.specs.Register.{head_bytes, register_bytes, register_of, is_register}
use Rattle.register.specs.Entering.{used, entered}
use Rattle.register.proofs.RoundTrip.{length_register}
use Rattle.entering.specs.declared.blanking.BlankError.TheVariants.{BadCode as BadBlank, TooShort as TooShortBlank}
use Rattle.adding.specs.declared.EnterError.{EnterError}
use Rattle.adding.specs.declared.EnterError.TheVariants.{Refused, NotRegister, OtherCode, DayBefore, HasFaults}
use Rattle.adding.specs.Answers.{uses_refusals}
use Rattle.entering.specs.Jobs.{uses_of, enter_refusals, Enters, new_register, Blanks}
use Rattle.adding.specs.Steps.{EntersUses}
use Rattle.adding.proofs.Answered.{refused, answers_as}
use Rattle.laws.proofs.Refusals.{none_applies, first_here, first_past}

-- ---- entering
module _ (register file : List ℕ) (code day : ℕ) (before : List ℕ) where
  abbrev refusal : ℕ
  refusal = first (enter_refusals register file code day (length before))

  abbrev from_24 : List Refusal
  from_24 =
      (24 if not (eqb (register_of register).code code)) ∷
      (25 if ltb day (register_of register).latest) ∷
      (26 if not (eqb (length (faults (input code day) file)) 0)) ∷
      uses_refusals (register_of register) (uses_of file) day (length before)

  module _ {c : Result ℕ Unchecked} (C : Totals file (input code day) c) where
    pub refused_by : (u : Unchecked) → c ≡ Err u → Enters register file code day before (Err (Refused u)) before
    refused_by u e =
        refused (Err (Refused u))
        (sym (first_here (check_refusals file (input code day) 0 0 0) ((23 if not (is_register register)) ∷ from_24) (unchecked_number u) (sym (sym (ap checked_number e) ∙ C.number)) (some_number u)))
        (some_number u) (λ old. refl)

    module _ (n : ℕ) (e : c ≡ Ok n) where
      none : first (check_refusals file (input code day) 0 0 0) ≡ 0
      none = sym (sym (ap checked_number e) ∙ C.number)

      pub total_is : n ≡ length (faults (input code day) file)
      total_is =
          sym (ap (λ (c : Result ℕ Unchecked). checked_or c 0) e) ∙ C.total 0
          ∙ ap (λ (b : Bool). cond b (length (faults (input code day) file)) 0) (eq-eqb (first (check_refusals file (input code day) 0 0 0)) 0 none)

      pub not_long : length file ≤ 10000000
      not_long = ltb-false 10000000 (length file) (none_applies (check_refusals file (input code day) 0 0 0) tt none).1.1.0

      -- the mark stands, and it stands last
      pub mark_last : (1 ≤ length file) × (length file - 1 ≡ length (body file))
      mark_last = let b = body_and_mark file (input code day) 0 0 0 none in (omega (arith, b), omega (arith, b))

      past : refusal ≡ first ((23 if not (is_register register)) ∷ from_24)
      past = first_past (check_refusals file (input code day) 0 0 0) ((23 if not (is_register register)) ∷ from_24) tt none

      pub not_register : is_register register ≡ false → Enters register file code day before (Err NotRegister) before
      not_register a = refused (Err NotRegister) (sym (past ∙ ap (λ (b : Bool). first ((23 if not b) ∷ from_24)) a)) (omega arith) (λ old. refl)

      module _ (a : is_register register ≡ true) where
        past_23 : refusal ≡ first from_24
        past_23 = past ∙ ap (λ (b : Bool). first ((23 if not b) ∷ from_24)) a

        pub other_code : ((register_of register).code ≡ code → ⊥) → Enters register file code day before (Err OtherCode) before
        other_code h =
            refused (Err OtherCode)
            (sym (past_23 ∙ ap (λ (b : Bool). first ((24 if not b) ∷ (25 if ltb day (register_of register).latest) ∷ (26 if not (eqb (length (faults (input code day) file)) 0)) ∷ uses_refusals (register_of register) (uses_of file) day (length before))) (ne_eqb (register_of register).code code h)))
            (omega arith) (λ old. refl)

        module _ (b : (register_of register).code ≡ code) where
          past_24 : refusal ≡ first ((25 if ltb day (register_of register).latest) ∷ (26 if not (eqb (length (faults (input code day) file)) 0)) ∷ uses_refusals (register_of register) (uses_of file) day (length before))
          past_24 = past_23 ∙ ap (λ (b : Bool). first ((24 if not b) ∷ (25 if ltb day (register_of register).latest) ∷ (26 if not (eqb (length (faults (input code day) file)) 0)) ∷ uses_refusals (register_of register) (uses_of file) day (length before))) (eq-eqb (register_of register).code code b)

          pub day_before : day < (register_of register).latest → Enters register file code day before (Err DayBefore) before
          day_before h =
              refused (Err DayBefore)
              (sym (past_24 ∙ ap (λ (b : Bool). first ((25 if b) ∷ (26 if not (eqb (length (faults (input code day) file)) 0)) ∷ uses_refusals (register_of register) (uses_of file) day (length before))) (lt-ltb day (register_of register).latest h)))
              (omega arith) (λ old. refl)

          module _ (d : (register_of register).latest ≤ day) where
            past_25 : refusal ≡ first ((26 if not (eqb (length (faults (input code day) file)) 0)) ∷ uses_refusals (register_of register) (uses_of file) day (length before))
            past_25 = past_24 ∙ ap (λ (b : Bool). first ((25 if b) ∷ (26 if not (eqb (length (faults (input code day) file)) 0)) ∷ uses_refusals (register_of register) (uses_of file) day (length before))) (le-ltb day (register_of register).latest d)

            pub has_faults : (n ≡ 0 → ⊥) → Enters register file code day before (Err HasFaults) before
            has_faults h =
                refused (Err HasFaults)
                (sym (past_25 ∙ ap (λ (b : Bool). first ((26 if not b) ∷ uses_refusals (register_of register) (uses_of file) day (length before))) (ne_eqb (length (faults (input code day) file)) 0 (λ z. h (total_is ∙ z)))))
                (omega arith) (λ old. refl)

            pub items : n ≡ 0 → (k : ℕ) → k ≡ length (body file) → {r : Result ℕ EnterError} {after : List ℕ} → EntersUses (register_of register) (used (slips_from 1 (take k file))) code day before r after
                → Enters register file code day before r after
            items z k q {r} {after} A =
                let t : take k file ≡ body file = ap (λ (n : ℕ). take n file) q ∙ body_take file in
                let A' : EntersUses (register_of register) (uses_of file) code day before r after =
                subst (λ (s : List ℕ). EntersUses (register_of register) (used (slips_from 1 s)) code day before r after) t A in
                let w : refusal ≡ first (uses_refusals (register_of register) (uses_of file) day (length before)) =
                past_25 ∙ ap (λ (b : Bool). first ((26 if not b) ∷ uses_refusals (register_of register) (uses_of file) day (length before))) (eq-eqb (length (faults (input code day) file)) 0 (sym total_is ∙ z)) in
                answers_as (sym w) (λ _. ap (λ (k : ℕ). record { code = k; latest = day; ranges = (entered (register_of register) day (uses_of file)).ranges }) (sym b)) A'

pub front_fits : (k : ℕ) (l : List ℕ) → length (take k l) ≤ length l
front_fits zero l = omega arith
front_fits (suc k) [] = omega arith
front_fits (suc k) (x ∷ l) = let h = front_fits k l in omega arith

-- ---- a new register
module _ (code : ℕ) (before : List ℕ) where
  pub blank_bad : not (is_code code) ≡ true → Blanks code before (Err BadBlank) before
  blank_bad b = record { number = rw b; target = rw b }

  module _ (b : not (is_code code) ≡ false) where
    pub blank_short : length before < 13 → Blanks code before (Err TooShortBlank) before
    blank_short h = let c : ltb (length before) 13 ≡ true = lt-ltb _ _ h in record { number = rw (b, c); target = rw (b, c) }

    pub blank_done : 13 ≤ length before → {after : List ℕ} {n : ℕ} → Wrote before 0 (head_bytes code 0 0) after n → Blanks code before (Ok tt) after
    blank_done h {after} w =
        let c : ltb (length before) 13 ≡ false = le-ltb _ _ h in
        let l : 0 + length (head_bytes code 0 0) ≡ 13 = (let s = length_register (new_register code) in let t = ap length (append-nil (head_bytes code 0 0)) in omega arith) in
        let q : after ≡ register_bytes (new_register code) ++ drop 13 before =
        w.holds ∙ put_is before 0 (head_bytes code 0 0) ∙ (λ i. sym (append-nil (head_bytes code 0 0)) i ++ drop (l i) before) in
        record { number = rw (b, c); target = q ∙ (rw (b, c)) }
