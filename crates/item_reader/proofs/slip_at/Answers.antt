use mathlib.Core.Path.{◌∙◌}
use Rattle.item_reader.proofs.Slips.{title_within, gap_first, slip_is}
use Rattle.item_reader.proofs.slip_at.Goals as goal
use Rattle.item_reader.proofs.slip_at.Goals.{then-continued_from, else-continued_from}

pub continued_from-requires : goal.continued_from-requires
continued_from-requires c = title_within c.requires.0 c.requires.1 c.title_at-title.ensures

pub gap_from-gap-requires : goal.gap_from-gap-requires
gap_from-gap-requires c = title_within c.requires.0 c.requires.1 c.title_at-title.ensures

pub kc_within-kc-requires : goal.kc_within-kc-requires
kc_within-kc-requires c = (title_within c.requires.0 c.requires.1 c.title_at-title.ensures, c.gap_from-gap.ensures)

pub returns : goal.returns
returns c =
    let first = gap_first _ _ (title_within c.requires.0 c.requires.1 c.title_at-title.ensures) c.gap_from-gap.ensures in
    elim c.if-continued_from.branch [
      | then-continued_from w ↦ rw w.head-is (slip_is c.requires.0 c.requires.1 c.title_at-title.ensures (λ n. c.continued_from.ensures n ∙ w.if-continued_from.true) first c.kc_within-kc.ensures)
      | else-continued_from w ↦ rw w.head-is (slip_is c.requires.0 c.requires.1 c.title_at-title.ensures (λ n. c.continued_from.ensures n ∙ w.if-continued_from.false) first c.kc_within-kc.ensures)
    ]
