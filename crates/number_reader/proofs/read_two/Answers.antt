use Rattle.number_reader.proofs.Pairs.{short, ended, other, few, found}
use Rattle.number_reader.proofs.read_two.Goals as goal
use Rattle.number_reader.proofs.read_two.Goals.{then-mid-lo1-via-then-mid-lo1, then-mid-lo1-via-else-mid-lo1+then-t-mid, then-mid-lo1-via-else-mid-lo1+else-t-mid+then-t-mid-ne32}

pub returns-then-mid-lo1 : goal.returns-then-mid-lo1
returns-then-mid-lo1 c =
    elim c.then-mid-lo1.branch [
      | then-mid-lo1-via-then-mid-lo1 w ↦ short _ _ _ _ _ _ c.number_at-a.ensures.0 w.if-mid-lo1.true
      | then-mid-lo1-via-else-mid-lo1+then-t-mid w ↦ ended _ _ _ _ _ _ c.number_at-a.ensures.0 w.if-t-mid.true
      | then-mid-lo1-via-else-mid-lo1+else-t-mid+then-t-mid-ne32 w ↦ other _ _ _ _ _ _ c.number_at-a.ensures.0 w.if-t-mid.false w.if-t-mid-ne32.true
    ]

pub returns-then-b-mid : goal.returns-then-b-mid
returns-then-b-mid c = few _ _ _ _ _ _ c.number_at-a.ensures.0 c.if-t-mid.false _ c.number_at-b.ensures.0 c.if-b-mid.true

pub returns : goal.returns
returns c = found _ _ _ _ _ _ c.number_at-a.ensures.0 c.if-t-mid.false _ c.number_at-b.ensures.0 c.if-mid-lo1.false c.if-t-mid-ne32.false c.if-b-mid.false
    c.number_at-b.ensures.1
