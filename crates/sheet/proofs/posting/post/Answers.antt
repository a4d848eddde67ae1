use Prim.Native.Nat.{suc, ◌-◌}
use native.Mathlib.Omega.{arith}
use mathlib.Core.Bool.{not}
use mathlib.Core.Path.{◌≡◌, refl, sym, ap, ◌∙◌}
use lib.ListN.{length}
use Rattle.std.proofs.lemmas.Result.{err_from_is_err_and}
use Rattle.lines.specs.Lines.{body}
use Rattle.participants.proofs.Listing.{list_few}
use Rattle.sheet.proofs.Answers.{bad_list, refused, has_faults, one_mark, items}
use Rattle.sheet.proofs.posting.post.Goals as goal

pub returns-then-not-is_list : goal.returns-then-not-is_list
returns-then-not-is_list c =
    let s = c.args in
    bad_list s.codes.now s.turnovers.now s.file.now s.code s.day (ap not (sym c.is_list.ensures ∙ c.if-not-is_list.true))

pub returns-in_err-faults : goal.returns-in_err-faults
returns-in_err-faults c =
    let s = c.args in
    let p = err_from_is_err_and c.from_residual.result c.from_residual.ensures.1 in
    rw (p.1, p.2) (refused s.codes.now s.turnovers.now s.file.now s.code s.day (ap not (sym c.is_list.ensures ∙ c.if-not-is_list.false)) c.in_err-faults.ensures _ refl)

pub returns-then-has_faults : goal.returns-then-has_faults
returns-then-has_faults c =
    let s = c.args in
    has_faults s.codes.now s.turnovers.now s.file.now s.code s.day (ap not (sym c.is_list.ensures ∙ c.if-not-is_list.false)) c.in_ok-faults.ensures _ refl c.if-has_faults.true

-- the file is accepted: one byte of it is its mark
pub overflow_sub-k : goal.overflow_sub-k
overflow_sub-k c =
    let s = c.args in
    let marked : suc (length (body s.file.now)) ≡ length s.file.now =
    one_mark s.codes.now s.turnovers.now s.file.now s.code s.day (ap not (sym c.is_list.ensures ∙ c.if-not-is_list.false)) c.in_ok-faults.ensures _ refl in
    omega (arith, marked)

pub post_items-requires : goal.post_items-requires
post_items-requires c = list_few c.args.codes.now (sym c.is_list.ensures ∙ c.if-not-is_list.false)

pub returns : goal.returns
returns c =
    let s = c.args in
    let listed = ap not (sym c.is_list.ensures ∙ c.if-not-is_list.false) in
    let marked : suc (length (body s.file.now)) ≡ length s.file.now =
    one_mark s.codes.now s.turnovers.now s.file.now s.code s.day listed c.in_ok-faults.ensures _ refl in
    items s.codes.now s.turnovers.now s.file.now s.code s.day listed c.in_ok-faults.ensures _ refl c.if-has_faults.false (length s.file.now - 1) (omega (arith, marked)) c.post_items.ensures
