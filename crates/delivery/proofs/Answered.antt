-- An answer by the number of its refusal: what is refused, what is written, and the same answer in other words.
use Prim.Native.Nat.{ℕ, ◌+◌, ◌≤◌}
use native.Mathlib.Omega.{arith}
use mathlib.Core.Path.{◌≡◌, sym, ap, ◌∙◌}
use mathlib.Core.Bool.{Bool, cond}
use mathlib.Core.List.{List, ◌++◌}
use lib.Dec.{eqb}
use lib.ListN.{length, drop}
use borrow.Author.Tests.{eq-eqb, ne_eqb}
use Rattle.laws.proofs.Put.{put_is}
use Rattle.laws.proofs.Refusals.{chosen}
use Rattle.text.specs.Strings.{Wrote}
use Rattle.std.specs.Prelude.{Result, Ok}
use Rattle.delivery.specs.declared.DeliverError.{DeliverError}
use Rattle.delivery.specs.Delivery.{delivered_number, delivered_or}
use Rattle.delivery.specs.Model.{Answers}

abbrev target_by : Bool → List ℕ → List ℕ → List ℕ
target_by b text before = cond b (text ++ drop (length text) before) before

module _ {refusal : ℕ} {text before : List ℕ} where
  -- a refusal leaves the target as it was
  pub refused : (r : Result ℕ DeliverError) → delivered_number r ≡ refusal → 1 ≤ delivered_number r → ((old : ℕ) → delivered_or r old ≡ old) → Answers refusal text before r before
  refused r e h w =
      let z = ne_eqb refusal 0 (λ q. omega (arith, e, h, q)) in
      record {
        number = e;
        written = λ old. w old ∙ sym (ap (λ (b : Bool). cond b (length text) old) z);
        target = sym (ap (λ (b : Bool). target_by b text before) z);
      }

  pub done : refusal ≡ 0 → {after : List ℕ} {n : ℕ} → Wrote before 0 text after n → Answers refusal text before (Ok n) after
  done e {after} {n} w =
      let z = eq-eqb refusal 0 e in
      record {
        number = sym e;
        written = λ old. (let q : n ≡ length text = omega (arith, w.ends) in q) ∙ sym (ap (λ (b : Bool). cond b (length text) old) z);
        target =
            w.holds ∙ put_is before 0 text
            ∙ ap (λ (k : ℕ). text ++ drop k before) (let q : 0 + length text ≡ length text = omega arith in q)
            ∙ sym (ap (λ (b : Bool). target_by b text before) z);
      }

  -- the same answer by another list of refusals, of which the same comes first; where none does, of the same text
  pub answers_as : {refusal' : ℕ} {text' : List ℕ} {r : Result ℕ DeliverError} {after : List ℕ} → refusal ≡ refusal' → (refusal ≡ 0 → text ≡ text')
      → Answers refusal text before r after → Answers refusal' text' before r after
  answers_as {refusal'} {text'} {r} {after} e f A = record {
    number = A.number ∙ e;
    written = λ old.
        A.written old ∙ chosen refusal (length text) (length text') old (λ z. ap length (f z))
        ∙ ap (λ (k : ℕ). cond (eqb k 0) (length text') old) e;
    target =
        A.target
        ∙ chosen refusal (text ++ drop (length text) before) (text' ++ drop (length text') before) before (λ z. ap (λ (t : List ℕ). t ++ drop (length t) before) (f z))
        ∙ ap (λ (k : ℕ). target_by (eqb k 0) text' before) e;
  }
