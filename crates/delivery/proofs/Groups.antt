-- The groups as far as their caps: of 30,000 items no count is capped, and where no capped sum is too large no sum is capped.
use Prim.Native.Nat.{ℕ, suc, ◌≤◌, min}
use native.Mathlib.Omega.{arith}
use mathlib.Core.Path.{◌≡◌, refl, sym, ◌∙◌}
use mathlib.Core.Bool.{Bool, true, false, ◌||◌}
use mathlib.Core.List.{List, [], ◌∷◌, map}
use lib.Dec.{leb, eqb}
use lib.ListN.{length}
use borrow.Author.Tests.{le-leb, lt-leb, leb-true, leb-false}
use Rattle.laws.proofs.Truth.{by_test}
use Rattle.laws.specs.Lists.{any_of, sum}
use Rattle.laws.proofs.Any.{or_left, or_right}
use Rattle.headings.specs.ItemTypes.{group_of}
use Rattle.rules.specs.declared.First.{First}
use Rattle.rules.specs.declared.First.TheVariants.{Missing, Unread, Says}
use Rattle.rules.specs.declared.Payment.{Payment}
use Rattle.rules.specs.Tree.{Item}
use Rattle.rules.specs.Blocks.{with_amount}
use Rattle.blocks.specs.Model.{count_cap, sum_cap}
use Rattle.account.specs.Summary.{ten}
use Rattle.item_reader.specs.Slips.{kc_among}
use Rattle.outgoing_lines.specs.Outgoing.{Orders}
use Rattle.surveying.specs.Items.{out_kind, amounts_out, counts_out, sums_out}
use Rattle.delivery.specs.Delivery.{is_large_sum}

-- ---- counts
with_few : (kc : First Payment) (b : Bool) (ns : List ℕ) → length (with_amount kc b ns) ≤ suc (length ns)
with_few Missing b ns = omega arith
with_few Unread b ns = omega arith
with_few (Says p) true ns = omega arith
with_few (Says p) false ns = omega arith

amounts_few : (q : Orders) (d k : ℕ) (is : List Item) → length (amounts_out q d k is) ≤ length is
unfolding amounts_out
amounts_few q d k [] = omega arith
amounts_few q d k (i ∷ is) =
    let h = amounts_few q d (suc k) is in
    omega (arith, h, with_few (kc_among i.fields) (eqb (group_of (out_kind q k i)) d) (amounts_out q d (suc k) is))

pub counts_whole : (q : Orders) (is : List Item) → length is ≤ 30000 → ten (λ d. min count_cap (length (amounts_out q d 0 is))) ≡ counts_out q is
counts_whole q is l =
    let f : (d : ℕ) → min count_cap (length (amounts_out q d 0 is)) ≡ length (amounts_out q d 0 is) = λ d. (let h = amounts_few q d 0 is in omega arith) in
    (λ i. ten (λ d. f d i))

-- ---- sums
large_capped : (x : ℕ) → is_large_sum (min sum_cap x) ≡ is_large_sum x
large_capped x = by_test (leb sum_cap x)
    (λ e. let h = leb-true sum_cap x e in le-leb sum_cap (min sum_cap x) (omega (arith, h)) ∙ sym e)
    (λ e. let h = leb-false sum_cap x e in lt-leb sum_cap (min sum_cap x) (omega (arith, h)) ∙ sym e)

any_capped : (xs : List ℕ) → any_of is_large_sum (map (min sum_cap) xs) ≡ any_of is_large_sum xs
unfolding any_of
any_capped [] = refl
any_capped (x ∷ xs) = (λ i. large_capped x i || any_capped xs i)

all_whole : (xs : List ℕ) → any_of is_large_sum (map (min sum_cap) xs) ≡ false → map (min sum_cap) xs ≡ xs
unfolding any_of
all_whole [] e = refl
all_whole (x ∷ xs) e =
    let l = leb-false sum_cap x (sym (large_capped x) ∙ or_left (is_large_sum (min sum_cap x)) (any_of is_large_sum (map (min sum_cap) xs)) e) in
    let p : min sum_cap x ≡ x = omega (arith, l) in
    let r = all_whole xs (or_right (is_large_sum (min sum_cap x)) (any_of is_large_sum (map (min sum_cap) xs)) e) in
    (λ i. p i ∷ r i)

abbrev capped_sums : Orders → List Item → List ℕ
capped_sums q is = ten (λ d. min sum_cap (sum (amounts_out q d 0 is)))

pub large_same : (q : Orders) (is : List Item) → any_of is_large_sum (capped_sums q is) ≡ any_of is_large_sum (sums_out q is)
large_same q is = any_capped (sums_out q is)

pub sums_whole : (q : Orders) (is : List Item) → any_of is_large_sum (capped_sums q is) ≡ false → capped_sums q is ≡ sums_out q is
sums_whole q is e = all_whole (sums_out q is) e
