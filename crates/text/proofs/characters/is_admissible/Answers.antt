use mathlib.Core.Path.{◌∙◌}
use borrow.Author.Rules.{rules}
use borrow.Author.Tests.{lt-ltb, le-ltb}
use Rattle.text.proofs.Admissible.{asked_is}
use Rattle.text.proofs.characters.is_admissible.Goals as goal
use Rattle.text.proofs.characters.is_admissible.Goals.{then-b-lt192, else-b-lt192}

pub returns-then-b-lt128 : goal.returns-then-b-lt128
returns-then-b-lt128 c = c.is_plain.ensures ∙ (rw (lt-ltb _ 0x80 c.if-b-lt128.true) at (asked_is c.args.b (search rules)))

pub returns : goal.returns
returns c =
    let b = c.args.b in
    let high = le-ltb b 0x80 c.if-b-lt128.false in
    elim c.if-b-lt192.branch [
      | then-b-lt192 w ↦ rw w.word-is (rw (high, lt-ltb b 0xC0 w.if-b-lt192.true) at (asked_is b (search rules)))
      | else-b-lt192 w ↦ rw w.word-is (rw (high, le-ltb b 0xC0 w.if-b-lt192.false) at (asked_is b (search rules)))
    ]
