use Rattle.std.proofs.Common.{arith, ◌≡◌, ◌≤◌, sym, ap, subst, ◌∙◌, length, ℕ, Bool, List, Option, None, Some}
use Rattle.lines.specs.Reading.{line_at, span, IsNext}
use Rattle.headings.specs.declared.Heading.{Heading}
use Rattle.fields.specs.declared.classes.Class.{Class}
use Rattle.fields.specs.declared.readings.Reading.{Reading}
use Rattle.fields.specs.Classes.{class_of}
use Rattle.fields.specs.Codes.{code_by, code_of}
use Rattle.fields.specs.Readings.{text_of, reading_of}
use Rattle.rules.specs.declared.First.{First}
use Rattle.rules.specs.declared.Payment.{Payment}
use Rattle.rules.specs.Terms.{Terms}
use Rattle.own_rules.specs.declared.Basis.{Basis}
use Rattle.own_rules.specs.Model.{basis_of}
use Rattle.vetting.specs.declared.own_line.Judged.{Judged}
use Rattle.vetting.specs.Parts.{bad_at, judged_at, own_breaks, TailTo, FieldTo}
use Rattle.vetting.proofs.Here.{here}
use Rattle.vetting.proofs.OneField.{own_bars, below_bars, passes, sure}
use Rattle.vetting.proofs.own_field.field_at.Goals as goal

-- what the field's own line says
said_is : (s : List ℕ) (at ident class : ℕ) {j : Judged} {r : Reading} → j ≡ judged_at s at → class ≡ code_of ident
    → ((k : Class) → code_by k ≡ class → r ≡ reading_of k (text_of (span at j.end s)))
    → r ≡ reading_of (class_of ident) (text_of (span at (line_at s at).end s))
unfolding code_of
said_is s at ident class e k S =
    S (class_of ident) (sym k) ∙ ap (λ (j : Judged). reading_of (class_of ident) (text_of (span at j.end s))) e

-- whether that breaks a rule
breaks_is : (s : List ℕ) (at : ℕ) (h : Heading) (ident : ℕ) (again : Bool) (r : Reading) (terms : Terms) {basis : Basis} {j : Judged} {b : Bool} → j ≡ judged_at s at
    → basis ≡ basis_of terms → b ≡ own_breaks basis h ident again j.bad r → b ≡ own_breaks (basis_of terms) h ident again (bad_at s at) r
breaks_is s at h ident again r terms e q w = w ∙ (λ i. own_breaks (q i) h ident again (e i).bad r)

-- what stands below it
tail_is : (s : List ℕ) (at ident class : ℕ) (stop : Option ℕ) {j : Judged} → j ≡ judged_at s at → class ≡ code_of ident → TailTo s j.next class stop
    → TailTo s (line_at s at).next (code_of ident) stop
tail_is s at ident class stop e k T =
    subst (λ (k : ℕ). TailTo s (line_at s at).next k stop) k (subst (λ (p : ℕ). TailTo s p class stop) (ap (λ (j : Judged). j.next) e) T)

pub slice_bounds-said_at-end : goal.slice_bounds-said_at-end
slice_bounds-said_at-end c =
    let next : IsNext c.args.s.now c.args.at (line_at c.args.s.now c.args.at) = here _ _ c.requires.1 in
    let e = ap (λ (j : Judged). j.end) c.judged_at-l.ensures in
    omega (arith, next.starts, next.closes, next.within, e)

pub returns-then-own_breaks-clause-field_to : goal.returns-then-own_breaks-clause-field_to
returns-then-own_breaks-clause-field_to c =
    let a = c.args in
    let S = said_is a.s.now a.at a.ident a.class c.judged_at-l.ensures c.requires.3 c.said_at-said.ensures in
    λ terms q.
    own_bars a.s.now a.at a.ident c.requires.1 c.requires.2 S terms a.h a.again
    (sym (breaks_is a.s.now a.at a.h a.ident a.again c.said_at-said.result terms c.judged_at-l.ensures q c.own_breaks.ensures) ∙ c.if-own_breaks.true)

pub tail_end-requires : goal.tail_end-requires
tail_end-requires c =
    let next : IsNext c.args.s.now c.args.at (line_at c.args.s.now c.args.at) = here _ _ c.requires.1 in
    (c.requires.0, subst (λ (k : ℕ). k ≤ length c.args.s.now) (sym (ap (λ (j : Judged). j.next) c.judged_at-l.ensures)) next.within)

pub returns-clause-field_to : goal.returns-clause-field_to
returns-clause-field_to c =
    let a = c.args in
    let S = said_is a.s.now a.at a.ident a.class c.judged_at-l.ensures c.requires.3 c.said_at-said.ensures in
    let T = tail_is a.s.now a.at a.ident a.class (Some c.in_ok-next.next) c.judged_at-l.ensures c.requires.3 c.in_ok-next.ensures in
    λ terms q.
    let whole = sym (breaks_is a.s.now a.at a.h a.ident a.again c.said_at-said.result terms c.judged_at-l.ensures q c.own_breaks.ensures) ∙ c.if-own_breaks.false in
    subst (λ (k : First Payment). FieldTo terms a.h a.s.now a.at a.ident a.again (Some (record { kc = k; next = c.in_ok-next.next }))) (sym c.kc_of.ensures) (
      λ n. passes a.s.now a.at a.ident c.requires.1 c.requires.2 S terms a.h a.again whole n (T.0 _),
      sure a.s.now a.at a.ident c.requires.1 c.requires.2 S terms a.h a.again whole,
    )

pub returns-clause-field_leads : goal.returns-clause-field_leads
returns-clause-field_leads c =
    let a = c.args in
    let next : IsNext a.s.now a.at (line_at a.s.now a.at) = here _ _ c.requires.1 in
    let T = tail_is a.s.now a.at a.ident a.class (Some c.in_ok-next.next) c.judged_at-l.ensures c.requires.3 c.in_ok-next.ensures in
    (omega (arith, next.moves, T.1), T.2, T.3)

pub returns-in_err-next-clause-field_to : goal.returns-in_err-next-clause-field_to
returns-in_err-next-clause-field_to c =
    let a = c.args in
    let S = said_is a.s.now a.at a.ident a.class c.judged_at-l.ensures c.requires.3 c.said_at-said.ensures in
    let T = tail_is a.s.now a.at a.ident a.class None c.judged_at-l.ensures c.requires.3 c.in_err-next.ensures in
    rw c.from_residual.ensures (λ terms q. below_bars a.s.now a.at a.ident c.requires.1 c.requires.2 S terms a.h a.again T)
