use Rattle.std.proofs.lemmas.Iterator.{empty_from_Zip}
use Rattle.text.proofs.Matching.{unequal, goes_on, ended, as_long}
use Rattle.text.proofs.forms.has_form.Goals as goal

pub returns-then-template-s : goal.returns-then-template-s
returns-then-template-s c = unequal _ _ c.if-template-s.true

pub loop-t-preserved : goal.loop-t-preserved
loop-t-preserved c = let h = c.in-Some.ensures.steps in
    rw c.fits_byte-all.ensures record {
      alike = as_long _ _ _ _ _ _ h.0 h.1 c.loop-t.invariant.alike;
      so_far = goes_on _ _ _ _ c.loop-t.invariant.so_far _ _ _ _ h.0 h.1;
    }

pub returns : goal.returns
returns c =
    let e = empty_from_Zip c.loop-t.t-iterator c.next.new.self _ c.in-None.is c.next.ensures.steps c.loop-t.invariant.alike in
    ended _ _ _ _ c.loop-t.invariant.so_far e.0 e.1
