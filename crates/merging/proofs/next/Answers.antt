use native.Mathlib.Omega.{arith}
use Rattle.merging.proofs.Turns.{takes_span_alone, takes_key_alone, takes_key, takes_span}
use Rattle.merging.proofs.next.Goals as goal

pub returns-then-keys-i : goal.returns-then-keys-i
returns-then-keys-i c = takes_span_alone c.args.keys.now c.args.starts.now c.args.ends.now c.args.i c.args.j c.requires.3 c.if-keys-i.true c.requires.1 (omega (arith, c.requires.0, c.if-keys-i.true))

pub returns-then-starts-j : goal.returns-then-starts-j
returns-then-starts-j c = takes_key_alone c.args.keys.now c.args.starts.now c.args.ends.now c.args.i c.args.j c.requires.3 c.if-keys-i.false c.if-starts-j.true c.requires.2

pub returns-then-key-start : goal.returns-then-key-start
returns-then-key-start c = takes_key c.args.keys.now c.args.starts.now c.args.ends.now c.args.i c.args.j c.requires.3 c.if-keys-i.false c.if-starts-j.false c.if-key-start.true

pub returns : goal.returns
returns c = takes_span c.args.keys.now c.args.starts.now c.args.ends.now c.args.i c.args.j c.requires.3 c.if-keys-i.false c.if-starts-j.false c.if-key-start.false
