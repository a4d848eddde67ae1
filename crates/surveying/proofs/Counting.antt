-- How many items a slice has.
use Prim.Native.Nat.{ℕ, ◌+◌, ◌<◌, ◌≤◌, min}
use native.Mathlib.Omega.{arith}
use mathlib.Core.Path.{◌≡◌, ap}
use mathlib.Core.List.{List, [], map}
use lib.ListN.{length, drop, length-map}
use Rattle.lines.specs.Lines.{Line}
use Rattle.lines.proofs.Lines.{lines_past}
use Rattle.rules.specs.Rows.{rows_from}
use Rattle.rules.specs.Tree.{tree}
use Rattle.item_reader.specs.declared.Next.{Next}
use Rattle.item_reader.specs.Slips.{slip_of, file_from, slips_from, Headed, IsFirst, IsSlip}
use Rattle.surveying.specs.Items.{items_of}

-- n items were seen, no more than 30,001
pub record Count (s : List ℕ) (n at : ℕ) : Type 0 where
  pub many : n + length (slips_from 1 (drop at s)) ≡ length (items_of s)
  pub few : n ≤ 30001
  pub to : at ≤ length s
  pub headed : at < length s → Headed s at

module _ (s : List ℕ) where
  items_many : length (slips_from 1 s) ≡ length (items_of s)
  unfolding items_of
  items_many = length-map (file_from 1 s).items slip_of

  none_left : (at : ℕ) → length s ≤ at → slips_from 1 (drop at s) ≡ []
  unfolding rows_from
  none_left at h = ap (λ (ls : List Line). map slip_of (tree (rows_from 1 ls)).items) (lines_past s at h)

module _ {s : List ℕ} where
  pub count_start : {at : ℕ} → IsFirst s 0 at → Count s 0 at
  count_start F = record { many = omega (arith, ap length (F.after 1), items_many s); few = omega arith; to = F.within; headed = F.headed }

  pub count_on : {n at : ℕ} {x : Next} → Count s n at → n ≤ 30000 → IsSlip s at x → Count s (n + 1) x.next
  count_on C l S = record { many = omega (arith, ap length (S.cut 1), C.many); few = omega arith; to = S.within; headed = S.headed }

  pub count_full : {n at : ℕ} → Count s n at → 30000 < n → n ≡ min 30001 (length (items_of s))
  count_full C l = omega (arith, C.many, C.few)

  pub count_end : {n at : ℕ} → Count s n at → length s ≤ at → n ≡ min 30001 (length (items_of s))
  count_end {n} {at} C h = omega (arith, C.many, C.few, ap length (none_left s at h))
