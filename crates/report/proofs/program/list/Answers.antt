use mathlib.Core.Path.{sym}
use native.Mathlib.Omega.{arith}
use Rattle.listing_texts.proofs.Jobs.{whole}
use Rattle.listing_texts.proofs.Listings.{begins_same}
use Rattle.report.proofs.Answers.{too_long, no_job, has_job}
use Rattle.report.proofs.program.list.Goals as goal

pub returns-then-input-gt65536 : goal.returns-then-input-gt65536
returns-then-input-gt65536 c = begins_same (too_long _ _ _ c.if-input-gt65536.true) c.put_refused.ensures

pub slice_bounds-list_file-count : goal.slice_bounds-list_file-count
slice_bounds-list_file-count c = omega (arith, whole _ _ (sym c.in-Some.ensures))

pub slice_bounds-list_file-start : goal.slice_bounds-list_file-start
slice_bounds-list_file-start c = omega (arith, whole _ _ (sym c.in-Some.ensures))

pub returns-in-Some : goal.returns-in-Some
returns-in-Some c = begins_same (has_job _ _ _ c.if-input-gt65536.false _ (sym c.in-Some.ensures)) c.list_file.ensures

pub returns-in-None : goal.returns-in-None
returns-in-None c = begins_same (no_job _ _ _ c.if-input-gt65536.false (sym c.in-None.ensures)) c.put_refused-in-None.ensures
