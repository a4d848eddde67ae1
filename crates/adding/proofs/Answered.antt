-- What the jobs answer, by their tests in order.
use Prim.Native.Nat.{ℕ, zero, suc, ◌+◌, ◌-◌, ◌*◌, ◌≤◌, ◌<◌}
use native.Mathlib.Omega.{arith}
use mathlib.Core.Path.{◌≡◌, refl, sym, ap, ◌∙◌, subst}
use mathlib.Core.Bool.{Bool, true, false, cond}
use mathlib.Core.List.{List, [], ◌∷◌, ◌++◌}
use lib.Dec.{eqb, ltb}
use lib.ListN.{length, take, drop}
use lib.Seq.{take-nil}
use borrow.Author.Tests.{eq-eqb, ne_eqb, lt-ltb, le-ltb}
use Rattle.laws.proofs.Truth.{by_test}
use Rattle.laws.specs.Refusals.{Refusal, first}
use Rattle.laws.proofs.Put.{put_is}
use Rattle.laws.proofs.Refusals.{chosen}
use Rattle.text.specs.Strings.{Wrote}
use Rattle.register.specs.Register.{Register, size_of, register_bytes, count_in, ranges_in, register_of}
use Rattle.register.specs.Entering.{kept}
use Rattle.register.specs.Spans.{Span, spans_of, froms, tos, ranges_of}
use Rattle.register.proofs.RoundTrip.{length_register}
use Rattle.std.specs.Prelude.{Result, Ok, Err, Option, None, Some}
use Rattle.adding.specs.declared.EnterError.{EnterError}
use Rattle.adding.specs.declared.EnterError.TheVariants.{UsedAlready, TooMany, TooShort}
use Rattle.gathering.specs.Keys.{Kept}
use Rattle.merging.specs.Merging.{paired, weave, hits, closed, Closes, Merges}
use Rattle.adding.specs.Answers.{entered_number, written_or, target_after, size_after, Answers}
use Rattle.adding.specs.Steps.{closed_up, keys_refusals, keys_register, EntersKeys}

-- ---- an answer
module _ {refusals : List Refusal} {g : Register} {before : List ℕ} where
  -- a refusal leaves the target as it was
  pub refused : (r : Result ℕ EnterError) → entered_number r ≡ first refusals → 1 ≤ entered_number r → ((old : ℕ) → written_or r old ≡ old) → Answers refusals g before r before
  refused r e h w =
      let z = ne_eqb (first refusals) 0 (λ q. omega (arith, e, h, q)) in
      record {
        number = e;
        written = λ old. w old ∙ sym (ap (λ (b : Bool). cond b (size_of (length g.ranges)) old) z);
        target = sym (ap (λ (b : Bool). cond b (register_bytes g ++ drop (size_of (length g.ranges)) before) before) z);
      }

  pub done : first refusals ≡ 0 → {after : List ℕ} {n : ℕ} → Wrote before 0 (register_bytes g) after n → Answers refusals g before (Ok n) after
  done e {after} {n} w =
      let z = eq-eqb (first refusals) 0 e in
      let s = length_register g in
      record {
        number = sym e;
        written = λ old. (let q : n ≡ size_of (length g.ranges) = omega (arith, w.ends, s) in q) ∙ sym (ap (λ (b : Bool). cond b (size_of (length g.ranges)) old) z);
        target =
            w.holds ∙ put_is before 0 (register_bytes g)
            ∙ ap (λ (k : ℕ). register_bytes g ++ drop k before) (let q : 0 + length (register_bytes g) ≡ size_of (length g.ranges) = omega (arith, s) in q)
            ∙ sym (ap (λ (b : Bool). cond b (register_bytes g ++ drop (size_of (length g.ranges)) before) before) z);
      }

  -- the same answer to other refusals, of which the same comes first, and to the same register
  pub answers_as : {refusals' : List Refusal} {g' : Register} {r : Result ℕ EnterError} {after : List ℕ} → first refusals ≡ first refusals' → (first refusals ≡ 0 → g ≡ g')
      → Answers refusals g before r after → Answers refusals' g' before r after
  answers_as {refusals'} {g'} {r} {after} e f A = record {
    number = A.number ∙ e;
    written = λ old.
        A.written old ∙ chosen (first refusals) (size_of (length g.ranges)) (size_of (length g'.ranges)) old (λ z. ap (λ (g : Register). size_of (length g.ranges)) (f z))
        ∙ ap (λ (k : ℕ). size_after k g' old) e;
    target =
        A.target
        ∙ chosen (first refusals) (register_bytes g ++ drop (size_of (length g.ranges)) before) (register_bytes g' ++ drop (size_of (length g'.ranges)) before) before (λ z. ap (λ (g : Register). register_bytes g ++ drop (size_of (length g.ranges)) before) (f z))
        ∙ ap (λ (k : ℕ). target_after k g' before) e;
  }

-- ---- keys in order and the spans that stay
paired_back : (ss : List Span) → paired (froms ss) (tos ss) ≡ ss
paired_back [] = refl
paired_back (s ∷ ss) = ap (λ (l : List Span). s ∷ l) (paired_back ss)

-- what a merge says of the spans whose ends it was lent
pub record MergedOf (ss : List Span) (keys : List ℕ) (count : ℕ) (xs ys : List ℕ) : Type 0 where
  pub apart : hits 0 (weave ss keys) ≡ false
  pub closes : Closes (weave ss keys) count xs ys

module _ {ss : List Span} {k : ℕ} {starts ends : List ℕ} (K : Kept ss k starts ends) (keys : List ℕ) {m : Option ℕ} (xs ys : List ℕ) where
  pub merged_clash : Merges keys (take k starts) (take k ends) m xs ys → m ≡ None → hits 0 (weave ss keys) ≡ true
  merged_clash M e =
      let M' : Merges keys (froms ss) (tos ss) None xs ys = rw (K.starts_at, K.ends_at, e) at M in
      ap (λ (l : List Span). hits 0 (weave l keys)) (sym (paired_back ss)) ∙ M'

  pub merged_of : {count : ℕ} → Merges keys (take k starts) (take k ends) m xs ys → m ≡ Some count → MergedOf ss keys count xs ys
  merged_of {count} M e =
      let M' : Merges keys (froms ss) (tos ss) (Some count) xs ys = rw (K.starts_at, K.ends_at, e) at M in
      subst (λ (l : List Span). MergedOf l keys count xs ys) (paired_back ss) (record { apart = M'.0; closes = M'.1 })

-- the ranges read by their count are the register's
pub kept_as : (reg : List ℕ) (day : ℕ) {n : ℕ} → n ≡ count_in reg → {k : ℕ} {starts ends : List ℕ} → Kept (spans_of (kept day (ranges_in n (drop 13 reg)))) k starts ends
    → Kept (spans_of (kept day (register_of reg).ranges)) k starts ends
kept_as reg day q {k} {starts} {ends} K = subst (λ (n : ℕ). Kept (spans_of (kept day (ranges_in n (drop 13 reg)))) k starts ends) q K

some_closed : (a b : ℕ) (l : List Span) → 1 ≤ length (closed a b l)
unfolding closed
some_closed a b [] = omega arith
some_closed a b (s ∷ l) = by_test (eqb (b + 1) s.from)
    (λ q. rw q (some_closed a s.to l))
    (λ q. rw q (omega arith))

drop_take : (n : ℕ) (xs : List ℕ) → 1 ≤ n → drop 1 (take n xs) ≡ take (n - 1) (drop 1 xs)
drop_take zero xs h = absurd (omega arith)
drop_take (suc n) [] h = sym (ap (λ (m : ℕ). take m []) (let q : suc n - 1 ≡ n = omega arith in q) ∙ take-nil n)
drop_take (suc n) (x ∷ xs) h = ap (λ (m : ℕ). take m xs) (let q : n ≡ suc n - 1 = omega arith in q)

froms_drop : (ss : List Span) → drop 1 (froms ss) ≡ froms (drop 1 ss)
froms_drop [] = refl
froms_drop (s ∷ ss) = refl

tos_drop : (ss : List Span) → drop 1 (tos ss) ≡ tos (drop 1 ss)
tos_drop [] = refl
tos_drop (s ∷ ss) = refl

module _ (ss : List Span) (keys : List ℕ) (code day : ℕ) (before : List ℕ) where
  pub keys_clash : hits 0 (weave ss keys) ≡ true → EntersKeys ss keys code day before (Err UsedAlready) before
  keys_clash e = refused (Err UsedAlready) (rw e) (omega arith) (λ old. refl)

module _ {ss : List Span} {keys : List ℕ} (code day : ℕ) (before : List ℕ) {count : ℕ} {xs ys : List ℕ} (M : MergedOf ss keys count xs ys) where
  e : hits 0 (weave ss keys) ≡ false
  e = M.apart

  n : count ≡ length (closed_up ss keys)
  n = M.closes.count

  pub keys_some : 1 ≤ count
  keys_some = omega (arith, n, some_closed 0 0 (weave ss keys))

  pub keys_many : 1025 < count → EntersKeys ss keys code day before (Err TooMany) before
  keys_many h = let f : ltb 1025 (length (closed_up ss keys)) ≡ true = lt-ltb 1025 (length (closed_up ss keys)) (omega (arith, n, h)) in refused (Err TooMany) (rw (e, f)) (omega arith) (λ old. refl)

  module _ (h : count ≤ 1025) where
    f : ltb 1025 (length (closed_up ss keys)) ≡ false
    f = le-ltb 1025 (length (closed_up ss keys)) (omega (arith, n, h))

    pub keys_short : length before < 13 + 12 * (count - 1) → EntersKeys ss keys code day before (Err TooShort) before
    keys_short l =
        let s : ltb (length before) (size_of (length (closed_up ss keys) - 1)) ≡ true = lt-ltb (length before) (size_of (length (closed_up ss keys) - 1)) (omega (arith, n, l)) in
        refused (Err TooShort) (rw (e, f, s)) (omega arith) (λ old. refl)

    pub keys_done : 13 + 12 * (count - 1) ≤ length before → count ≤ length xs → count ≤ length ys → {after : List ℕ} {size : ℕ}
        → Wrote before 0 (register_bytes (record { code = code; latest = day; ranges = ranges_of (take (count - 1) (drop 1 xs)) (take (count - 1) (drop 1 ys)) })) after size
        → EntersKeys ss keys code day before (Ok size) after
    keys_done l hx hy {after} {size} w =
        let s : ltb (length before) (size_of (length (closed_up ss keys) - 1)) ≡ false = le-ltb (length before) (size_of (length (closed_up ss keys) - 1)) (omega (arith, n, l)) in
        let a : take (count - 1) (drop 1 xs) ≡ froms (drop 1 (closed_up ss keys)) = sym (drop_take count xs keys_some) ∙ ap (drop 1) (M.closes.firsts hx) ∙ froms_drop (closed_up ss keys) in
        let b : take (count - 1) (drop 1 ys) ≡ tos (drop 1 (closed_up ss keys)) = sym (drop_take count ys keys_some) ∙ ap (drop 1) (M.closes.lasts hy) ∙ tos_drop (closed_up ss keys) in
        done {refusals = keys_refusals ss keys (length before)} {g = keys_register ss keys code day} {before = before} (rw (e, f, s))
        (subst (λ (g : Register). Wrote before 0 (register_bytes g) after size) (λ i. record { code = code; latest = day; ranges = ranges_of (a i) (b i) }) w)
