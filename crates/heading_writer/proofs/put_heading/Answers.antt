use Rattle.text.specs.Forms.{form_text}
use Rattle.text.specs.Digits.{digits}
use Rattle.text.proofs.Wrote.{then}
use Rattle.heading_writer.specs.Writing.{heading_text}
use Rattle.heading_writer.proofs.put_heading.Goals as goal

pub returns-clause-text : goal.returns-clause-text
unfolding heading_text form_text digits
returns-clause-text c =
    then c.put-next.ensures (then c.put_digits-next.ensures.text (then c.put_spaced-next.ensures.text (then c.put_spaced-next-2.ensures.text
    (then c.put_spaced-next-3.ensures.text (then c.put_spaced-next-4.ensures.text (then c.put_spaced-next-5.ensures.text c.put_spaced.ensures.text))))))
