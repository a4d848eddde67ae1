-- A heading that is derived fits its digits, so its 54 bytes read as that heading: no part is cut.
use mathlib.Core.Path.{◌≡◌}
use mathlib.Core.Bool.{Bool, true, false, cond, ◌&&◌}
use mathlib.Core.List.{List}
use Prim.Native.Nat.{ℕ, ◌≤◌, ◌<◌}
use native.Mathlib.Omega.{arith}
use lib.ListN.{length, take, drop}
use lib.Seq.{take_at}
use lib.Dec.{eqb, leb}
use borrow.Author.Tests.{leb-true}
use Rattle.laws.specs.Refusals.{first}
use Rattle.laws.proofs.Truth.{and_parts}
use Rattle.headings.specs.declared.Code.{Code}
use Rattle.headings.specs.declared.ItemNo.{ItemNo}
use Rattle.headings.specs.declared.Heading.{Heading}
use Rattle.headings.specs.ItemTypes.{is_trilateral, is_priority}
use Rattle.headings.specs.Reading.{heading_of}
use Rattle.heading_writer.specs.Writing.{heading_text}
use Rattle.heading_writer.proofs.Answers.{text_size}
use Rattle.heading_writer.proofs.RoundTrips.{read_written, fits_read}
use Rattle.outcome_tables.specs.Outcomes.{codes, in_class}
use Rattle.turning.specs.Turning.{turned}
use Rattle.outcomes.specs.Deriving.{numbered, derive_refusals, derived_target}
use Rattle.outcome_tables.proofs.Seven.{seven}
use Rattle.turning.proofs.Steps.{one_of_seven}
use Rattle.outcomes.proofs.Granted.{granted}
use Rattle.outcome_tables.proofs.Cells.{two_digits}
use Rattle.outcomes.proofs.Small.{Small, small, fits_small}
use Rattle.std.specs.Prelude.{Some}

small_codes : (b : Bool) (x y z : Code) → x.0 < 10000000 → y.0 < 10000000 → z.0 < 10000000 → (o : ℕ) → 1 ≤ o → o ≤ 7
    → ((codes b o x y z).first.0 < 10000000) × ((codes b o x y z).second.0 < 10000000) × ((codes b o x y z).third.0 < 10000000)
unfolding codes
small_codes true x y z a b c = seven _ (a, c, b) (a, c, b) (a, b, c) (a, b, c) (b, a, c) (b, a, c) (b, a, c)
small_codes false x y z a b c =
    let n : 0 < 10000000 = omega arith in
    seven _ (a, b, n) (a, b, n) (a, b, n) (a, b, n) (a, b, n) (a, a, b) (a, a, b)

-- a number of one of three ranges is small where their ends are
small_of : (n l₁ g₁ l₂ g₂ l₃ g₃ : ℕ) (x p : Bool) → cond x (leb l₃ n && leb n g₃) (cond p (leb l₂ n && leb n g₂) (leb l₁ n && leb n g₁)) ≡ true
    → g₁ < 10000000 → g₂ < 10000000 → g₃ < 10000000 → n < 10000000
small_of n l₁ g₁ l₂ g₂ l₃ g₃ x p e u v w = go x p e
  where
    below : (l g : ℕ) → g < 10000000 → (leb l n && leb n g) ≡ true → n < 10000000
    below l g h q = omega (arith, h, leb-true n g (and_parts (leb l n) (leb n g) q).1)

    go : (x p : Bool) → cond x (leb l₃ n && leb n g₃) (cond p (leb l₂ n && leb n g₂) (leb l₁ n && leb n g₁)) ≡ true → n < 10000000
    go true p q = below l₃ g₃ w q
    go false true q = below l₂ g₂ v q
    go false false q = below l₁ g₁ u q

pub small_number : (kind n : ℕ) → in_class kind n ≡ true → n < 10000000
unfolding in_class
small_number kind n e = small_of n _ _ _ _ _ _ (eqb kind 44) (is_priority kind) e (omega arith) (omega arith) (omega arith)

small_derived : (h : Heading) (o : ℕ) (n : ItemNo) → Small h → 1 ≤ o → o ≤ 7 → in_class h.kind n.0 ≡ true → Small (numbered (turned h o) n)
unfolding turned
small_derived h o n w l g i =
    let cs = small_codes (is_trilateral h.kind) h.first h.second h.third w.first w.second w.third o l g in
    record {
      kind = two_digits h.kind o l g;
      day = w.day;
      first = cs.0;
      number = w.number;
      second = cs.1;
      output = small_number h.kind n.0 i;
      third = cs.2;
    }

module _ (s : List ℕ) (o p : ℕ) (n : ItemNo) (t : List ℕ) (h : Heading) (r : heading_of s ≡ Some h) (z : first (derive_refusals s o p n (length t)) ≡ 0) where
  -- the first 54 bytes of the target read as the heading that was turned and numbered
  pub derived_reads : heading_of (take 54 (derived_target s o p n t)) ≡ Some (numbered (turned h o) n)
  unfolding derived_target
  derived_reads =
      let g = granted s o p n (length t) h r z in
      let v = one_of_seven o g.outcome in
      let w = small_derived h o n (small h (fits_read s h r)) v.0 v.1 g.in_class_lem in
      rw (z, r) (rw (take_at (heading_text (numbered (turned h o) n)) (drop 54 t) 54 (text_size (numbered (turned h o) n)))
      (read_written (numbered (turned h o) n) (fits_small (numbered (turned h o) n) w)))
