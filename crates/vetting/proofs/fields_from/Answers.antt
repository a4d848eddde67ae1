use Rattle.std.proofs.Common.{arith, ◌≡◌, ◌+◌, ◌<◌, sym, subst, ◌∙◌, ℕ, List, slice_set}
use Rattle.rules.specs.declared.First.{First}
use Rattle.rules.specs.declared.Payment.{Payment}
use Rattle.vetting.specs.Vetting.{Stamped}
use Rattle.vetting.proofs.Here.{ends, field_in}
use Rattle.vetting.proofs.Fields.{Fielding, fields_start, fields_more, fields_bar, fields_end, stamped_after, stamped_set}
use Rattle.vetting.proofs.fields_from.Goals as goal

-- every stamp after the one that a field sets
stamped_still : (stood after : List ℕ) (stamp ident : ℕ) → after ≡ slice_set stood ident stamp → ident < 1296 → Stamped stood (stamp + 1) → Stamped after (stamp + 1)
stamped_still stood after stamp ident e h S = subst (λ (x : List ℕ). Stamped x (stamp + 1)) (sym e) (stamped_set stood stamp ident h S)

pub loop-ident-init : goal.loop-ident-init
loop-ident-init c =
    let a = c.args in
    record {
      from = omega arith;
      within = c.requires.1;
      clear = c.requires.2;
      stamped = stamped_after a.stood.now a.stamp c.requires.3;
      fielding = λ terms q n. fields_start terms a.h a.s.now a.at n a.stamp a.stood.now c.requires.3;
    }

pub stood_in-again-requires : goal.stood_in-again-requires
stood_in-again-requires c = (field_in c.args.s.now c.loop-ident.next c.in-Field.ident (sym c.in-Field.ensures)).1

pub bounds-codes-ident : goal.bounds-codes-ident
bounds-codes-ident c = (field_in c.args.s.now c.loop-ident.next c.in-Field.ident (sym c.in-Field.ensures)).1

pub field_at-requires : goal.field_at-requires
field_at-requires c =
    let h = field_in c.args.s.now c.loop-ident.next c.in-Field.ident (sym c.in-Field.ensures) in
    (c.requires.0, h.0, sym c.in-Field.ensures, c.codes-codes.ensures c.in-Field.ident h.1)

pub returns-in_err-field-clause-fields_to : goal.returns-in_err-field-clause-fields_to
returns-in_err-field-clause-fields_to c =
    rw c.from_residual.ensures
    (λ terms q n. fields_bar (c.loop-ident.invariant.fielding terms q n) (field_in c.args.s.now c.loop-ident.next c.in-Field.ident (sym c.in-Field.ensures)).1 c.stood_in-again.ensures.value (c.in_err-field.ensures.field_to terms q))

pub returns-in_err-field-clause-stamped : goal.returns-in_err-field-clause-stamped
returns-in_err-field-clause-stamped c =
    stamped_still c.loop-ident.stood _ c.args.stamp c.in-Field.ident c.stood_in-again.ensures.stood_after (field_in c.args.s.now c.loop-ident.next c.in-Field.ident (sym c.in-Field.ensures)).1 c.loop-ident.invariant.stamped

pub loop-ident-smaller : goal.loop-ident-smaller
loop-ident-smaller c =
    let r = c.in_ok-field.ensures.field_leads in
    omega (arith, r.0, r.1)

pub loop-ident-preserved : goal.loop-ident-preserved
loop-ident-preserved c =
    let a = c.args in
    let l = c.loop-ident in
    let I = l.invariant in
    let next = c.in_ok-field.field.next in
    let h = field_in a.s.now l.next c.in-Field.ident (sym c.in-Field.ensures) in
    let r = c.in_ok-field.ensures.field_leads in
    let stood = c.stood_in-again.ensures.stood_after in
    record {
      from = omega (arith, r.0, I.from);
      within = r.1;
      clear = r.2;
      stamped = stamped_still l.stood _ a.stamp c.in-Field.ident stood h.1 I.stamped;
      fielding = λ terms q n.
          let A = c.in_ok-field.ensures.field_to terms q in
          let F = I.fielding terms q n in
          subst (λ (x : List ℕ). Fielding terms a.h a.s.now a.at n a.stamp x c.first_of-kc.result next) (sym stood)
          (subst (λ (k : First Payment). Fielding terms a.h a.s.now a.at n a.stamp (slice_set l.stood c.in-Field.ident a.stamp) k next) (sym c.first_of-kc.ensures)
          (fields_more F h.1 (omega (arith, h.1, I.stamped.0)) c.stood_in-again.ensures.value (A.0 F.below) A.1));
    }

pub returns-clause-fields_to : goal.returns-clause-fields_to
returns-clause-fields_to c =
    let l = c.loop-ident in
    let I = l.invariant in
    let E = ends c.args.s.now l.next I.clear (λ i e. c.in_default.not-Field i (c.kind_at.ensures ∙ e)) in
    λ terms q. (λ n. fields_end (I.fielding terms q n) E, I.from, I.within, E.headed, (I.fielding terms q 0).known)
