use mathlib.Core.Path.{sym, ap, ◌∙◌}
use mathlib.Core.Bool.{not}
use Rattle.entering.proofs.Tests.{blank_bad, blank_short, blank_done}
use Rattle.entering.proofs.blanking.blank.Goals as goal

pub returns-then-not-is_code : goal.returns-then-not-is_code
returns-then-not-is_code c = blank_bad c.args.code c.args.target.now (ap not (sym c.is_code.ensures ∙ c.if-not-is_code.true))

pub returns-then-target-lt13 : goal.returns-then-target-lt13
returns-then-target-lt13 c = blank_short c.args.code c.args.target.now (ap not (sym c.is_code.ensures ∙ c.if-not-is_code.false)) c.if-target-lt13.true

pub returns : goal.returns
returns c = blank_done c.args.code c.args.target.now (ap not (sym c.is_code.ensures ∙ c.if-not-is_code.false)) c.if-target-lt13.false c.put_head.ensures.text
