use Rattle.std.proofs.lemmas.Result.{err_from_is_err_and}
use Rattle.outcomes.proofs.Joined.{stops, goes_on}
use Rattle.outcomes.proofs.derive.Goals as goal

pub returns-in_err-h : goal.returns-in_err-h
returns-in_err-h c =
    let p = err_from_is_err_and c.from_residual.result c.from_residual.ensures.1 in
    rw (p.1, p.2) (stops _ _ _ _ _ c.in_err-h.field-0.0 c.in_err-h.ensures.number)

pub returns : goal.returns
returns c =
    let b = c.in_ok-h in
    goes_on _ _ _ _ _ b.h b.g _ _ b.ensures.said b.ensures.number b.ensures.goes c.issue.ensures.answer c.issue.ensures.after
