use Prim.Native.Nat.{ℕ}
use native.Mathlib.Omega.{arith}
use mathlib.Core.Path.{sym, ◌∙◌}
use mathlib.Core.List.{List}
use Rattle.laws.specs.Ascii.{ascii}
use Rattle.text.specs.Strings.{begins}
use Rattle.sign_finder.proofs.Signs.{sign_size}
use Rattle.item_reader.proofs.Slips.{asked, full, kc_line_lem, kc_sign, kc_nowhere}
use Rattle.item_reader.proofs.kc_within.Goals as goal

pub kc_at-requires : goal.kc_at-requires
kc_at-requires c = full c.args.s.now c.args.at (ascii "KC:") (omega arith) (asked c.args.s.now c.args.at (λ (x : List ℕ). begins x (ascii "KC:")) c.starts.ensures ∙ c.if-starts.true)

pub returns-then-starts : goal.returns-then-starts
returns-then-starts c =
    let e = asked c.args.s.now c.args.at (λ (x : List ℕ). begins x (ascii "KC:")) c.starts.ensures ∙ c.if-starts.true in
    λ n. kc_line_lem c.args.s.now c.args.at (full c.args.s.now c.args.at (ascii "KC:") (omega arith) e) e n ∙ sym c.kc_at.ensures

pub kc_at-requires-then-sign-gap : goal.kc_at-requires-then-sign-gap
kc_at-requires-then-sign-gap c = omega (arith, sign_size c.args.s.now 0x4b 0x43 c.sign_from-sign.result (c.sign_from-sign.ensures.there c.if-sign-gap.true))

pub returns-then-sign-gap : goal.returns-then-sign-gap
returns-then-sign-gap c =
    let e = asked c.args.s.now c.args.at (λ (x : List ℕ). begins x (ascii "KC:")) c.starts.ensures ∙ c.if-starts.false in
    λ n. kc_sign _ _ c.requires.0 c.requires.1 c.sign_from-sign.ensures e c.if-sign-gap.true n ∙ sym c.kc_at-then-sign-gap.ensures

pub returns : goal.returns
returns c =
    let e = asked c.args.s.now c.args.at (λ (x : List ℕ). begins x (ascii "KC:")) c.starts.ensures ∙ c.if-starts.false in
    kc_nowhere _ _ c.requires.0 c.requires.1 c.sign_from-sign.ensures e c.if-sign-gap.false
