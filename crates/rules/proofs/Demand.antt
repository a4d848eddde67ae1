-- The third demand, of the faults of a file: each pair of a line and a rule broken there, once, and no other pair, by line and then by
-- rule; the total is the sum of the sizes of the lines' sets, and 0 exactly when no rule is broken anywhere in the file.
use Prim.Native.Nat.{ℕ}
use mathlib.Core.Path.{◌≡◌}
use mathlib.Core.Bool.{Bool, true}
use mathlib.Core.List.{List, Memᴰ, map}
use mathlib.Core.Logic.{◌↔◌}
use lib.ListN.{length}
use Rattle.lines.specs.Lines.{body, lines}
use Rattle.rules.specs.Terms.{Terms}
use Rattle.rules.specs.Rows.{rows_from}
use Rattle.rules.specs.Tree.{tree}
use Rattle.rules.specs.Tests.{◌if◌, Spot}
use Rattle.rules.specs.Faults.{Fault, fault, faults_in, faults}
use Rattle.rules.specs.Demand.{count_from, spots_of, FaultIn, sizes, Ascending}
use Rattle.rules.proofs.Rising.{Rising}
use Rattle.rules.proofs.Orderly.{Orderly, spots_orderly}
use Rattle.rules.proofs.Numbers.{every_number, lines_rise}
use Rattle.rules.proofs.Members.{faults_ascend, faults_members, listed_by_test, never_untested, faults_none, faults_count, same_members}

module _ (terms : Terms) (file : List ℕ) where
  orderly : Orderly (spots_of terms file)
  orderly = spots_orderly terms (tree (rows_from 1 (lines (body file))))

  rise : Rising 1 (map (λ (s : Spot). s.line) (spots_of terms file))
  rise = lines_rise terms 1 (lines (body file))

  -- every line of the file has one spot, and no other line has one
  pub every_line_once : map (λ (s : Spot). s.line) (spots_of terms file) ≡ count_from 1 (length (lines (body file)))
  every_line_once = every_number terms 1 (lines (body file))

  -- a pair is in the list exactly when its rule is broken at its line
  pub just_the_broken : (f : Fault) → Memᴰ f (faults terms file) ↔ FaultIn terms file f
  unfolding faults faults_in
  just_the_broken f = faults_members f (spots_of terms file)

  -- that is: at a line of the file, exactly when the test of its rule there says so ..
  pub listed_by_its_test : (s : Spot) → Memᴰ s (spots_of terms file) → (r : ℕ) (b : Bool) → Memᴰ (r if b) s.tests
      → Memᴰ (fault s.line r) (faults terms file) ↔ (b ≡ true)
  unfolding faults faults_in
  listed_by_its_test s m r b t = listed_by_test 1 (spots_of terms file) rise s m r orderly b t

  -- .. and never where it is not tested
  pub not_listed_untested : (s : Spot) → Memᴰ s (spots_of terms file) → (r : ℕ) → ((b : Bool) → Memᴰ (r if b) s.tests → ⊥)
      → Memᴰ (fault s.line r) (faults terms file) → ⊥
  unfolding faults faults_in
  not_listed_untested s m r h = never_untested 1 (spots_of terms file) rise s m r h

  pub once_in_order : Ascending (faults terms file)
  unfolding faults faults_in
  once_in_order = faults_ascend 1 (spots_of terms file) orderly rise

  -- no other list has just these, once and in order
  pub no_other_list : (fs : List Fault) → Ascending fs → ((f : Fault) → Memᴰ f fs ↔ FaultIn terms file f) → fs ≡ faults terms file
  no_other_list fs A h =
      same_members fs (faults terms file) A once_in_order (λ f. (λ m. (just_the_broken f).1 ((h f).0 m), λ m. (h f).1 ((just_the_broken f).0 m)))

  -- 'the total is the sum of their sizes'
  pub total_of_sizes : length (faults terms file) ≡ sizes (spots_of terms file)
  unfolding faults faults_in
  total_of_sizes = faults_count (spots_of terms file)

  pub nought_when_none : (length (faults terms file) ≡ 0) ↔ ((f : Fault) → FaultIn terms file f → ⊥)
  unfolding faults faults_in
  nought_when_none = faults_none (spots_of terms file)
