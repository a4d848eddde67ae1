use Rattle.std.proofs.Common.{rules, ℕ, ◌≡◌, length, sym, ◌∙◌}
use Rattle.std.specs.Prelude.{get_or}
use Rattle.carried.specs.Flats.{flat}
use Rattle.carried.proofs.Back.{ten_all, ten_known}
use Rattle.carried.proofs.wide_of.Goals as goal

pub slice_bounds-wide-end-4 : goal.slice_bounds-wide-end-4
slice_bounds-wide-end-4 c =
    let lc : length c.args.counts ≡ 10 = search rules in
    let ls : length c.args.sums ≡ 10 = search rules in
    let first = c.copy_from_slice.ensures.after in
    let counts = c.copy_from_slice-2.ensures.after ∙ sym (ten_all 0 c.args.counts lc) in
    let sums = c.copy_from_slice-3.ensures.after ∙ sym (ten_all 0 c.args.sums ls) in
    rw (first, counts, sums) (search rules)

pub returns : goal.returns
returns c =
    let lc : length c.args.counts ≡ 10 = search rules in
    let ls : length c.args.sums ≡ 10 = search rules in
    let first = c.copy_from_slice.ensures.after in
    let counts = c.copy_from_slice-2.ensures.after ∙ sym (ten_all 0 c.args.counts lc) in
    let sums = c.copy_from_slice-3.ensures.after ∙ sym (ten_all 0 c.args.sums ls) in
    let amounts = c.copy_from_slice-4.ensures.after ∙ ten_known 0 (λ (i : ℕ). (get_or c.args.s i (flat 0 0 0 0)).amount) c.map.result c.map.ensures.items.long
    (λ i l. let called = c.map.ensures.items.at i (flat 0 0 0 0) 0 l in search rules) in
    (rw (first, counts, sums, amounts), lc, ls)
