use Rattle.joining.proofs.Padded.{text_is, text_behind, kept_is, few}
use mathlib.Core.Path.{◌≡◌, sym, ap, ◌∙◌}
use mathlib.Core.Bool.{Bool}
use mathlib.Core.List.{◌++◌, append-nil}
use native.Mathlib.Omega.{arith}
use Rattle.joining.specs.declared.Text.{Text}
use Rattle.joining.specs.declared.Held.{Held}
use Rattle.joining.specs.Short.{cr_if}
use Rattle.joining.specs.Held.{as_text, kept_in}
use lib.ListN.{take}
use Prim.Native.Nat.{min}
use Rattle.joining.proofs.with_cr.Goals as goal

-- what the start of what is kept is
started : (h : Held) {t : Text} → t ≡ as_text (take (min 65 h.len) h.text) → t ≡ as_text (kept_in h).text
started h e = e ∙ ap as_text (sym (kept_is h))

pub put-end-requires : goal.put-end-requires
put-end-requires c = let p = text_is _ _ (started c.args.h c.start_of-t.ensures) (omega (arith, few c.args.h)) in omega (arith, few c.args.h, p.0, p.1)

pub returns-then-cr : goal.returns-then-cr
returns-then-cr c =
    text_behind _ _ (started c.args.h c.start_of-t.ensures) (omega (arith, few c.args.h)) c.put-end.ensures
    ∙ ap (λ (t : Bool). as_text ((kept_in c.args.h).text ++ cr_if t)) (sym c.if-cr.true)

pub returns : goal.returns
returns c = started c.args.h c.start_of-t.ensures ∙ ap as_text (sym (ap (λ (t : Bool). (kept_in c.args.h).text ++ cr_if t) c.if-cr.false ∙ append-nil (kept_in c.args.h).text))
