use mathlib.Core.Path.{sym, ◌∙◌}
use Rattle.heading_writer.proofs.Answers.{at_start, done}
use Rattle.heading_writer.proofs.write.Goals as goal

pub returns : goal.returns
returns c =
    let r = done c.args.h c.args.target.now (sym c.fits.ensures ∙ c.if-not-fits.false) c.if-target-lt54.false in
    (r.0, at_start c.args.h c.put_heading.ensures.text ∙ r.1)
