use mathlib.Core.Path.{◌≡◌, sym, ap, ◌∙◌}
use mathlib.Core.List.{List, ◌++◌}
use Prim.Native.Nat.{◌-◌, ◌≤◌, ◌^◌}
use native.Mathlib.Omega.{arith}
use Rattle.rules.specs.Faults.{Fault}
use Rattle.ledger.specs.Marks.{marked}
use Rattle.ledger.proofs.Entering.{entered_both}
use Rattle.account.specs.Model.{groups_on}
use Rattle.items.specs.Claims.{claims_as}
use Rattle.judging.specs.Opening.{read_as, close_claims}
use Rattle.closing.specs.Closing.{last_marks}
use Rattle.shutting.proofs.Waiting.{entered_list}
use Rattle.pass.specs.Standing.{claims_in}
use Rattle.pass.proofs.Walk.{close_few, groups_took, groups_left, end_any, end_wait, end_faults}
use Rattle.pass.proofs.Standing.{stand_end}
use Rattle.pass.proofs.Feeding.{bounded_room}
use borrow.Author.Rules.{rules}
use Rattle.pass.proofs.finish.Statement.{statement}
use Rattle.pass.proofs.finish.Lts.{then-p-h, else-p-h}
use Rattle.pass.proofs.finish.Tie as tie

-- what the item claims, with the open field
claims_are : (c : tie.After-stated_closed-stated) → let p = c.args.p in
    claims_as p.kc c.span_closed-span.result c.stated_closed-stated.result ≡ close_claims (claims_in p) p.field p.pend
claims_are c =
    let p = c.args.p in
    λ i. claims_as p.kc (c.span_closed-span.ensures i) (c.stated_closed-stated.ensures i)

-- 30 to 39 of the item that closes, and how many they are at most
groups_are : (c : tie.Joined-p-h) → let p = c.args.p in
    (c.if-p-h.groups ≡ groups_on p.block.counts p.block.sums c.stated_closed-stated.result (read_as p.reads p.heading)) × (c.if-p-h.groups ≤ 2 ^ 40 - 2 ^ 30)
groups_are c =
    let p = c.args.p in
    let stated = c.stated_closed-stated.result in
    elim c.if-p-h.branch [
      | then-p-h w ↦ (
        groups_took p.block.counts p.block.sums stated p.reads p.heading w.if-p-h.true (w.groups-is ∙ w.group_marks_of-groups.ensures.0),
        omega (arith, w.groups-is, w.group_marks_of-groups.ensures.1),
      )
      | else-p-h w ↦ (groups_left p.block.counts p.block.sums stated p.reads p.heading w.if-p-h.false w.groups-is, omega (arith, w.groups-is))
    ]

course-of-requires : tie.Need-course_of-course-requires
course-of-requires c κs = search rules

span-closed-requires : tie.Need-span_closed-span-requires
span-closed-requires c κs = search rules

stated-closed-requires : tie.Need-stated_closed-stated-requires
stated-closed-requires c κs = search rules

group-marks-of-requires : tie.Need-group_marks_of-groups-requires
group-marks-of-requires c κs = search rules

shut-all-requires : tie.Need-shut_all-t-requires
shut-all-requires c κs =
    let B = c.requires in
    (B.ready, (B.level, (bounded_room (omega arith) B, B.calm, B.top_few, (groups_are c.before.before.before).1)))

last-marks-requires : tie.Need-last_marks-last-requires
last-marks-requires c κs =
    c.shut_all-t.ensures.1.0.2

enter-requires : tie.Need-enter-requires
enter-requires c κs =
    let p = c.args.p in
    let basis = c.args.basis in
    let read = read_as p.reads p.heading in
    let claims = claims_are c.before.before.before.before.before.before.before.before.before.before.before.before.before.before.before.before.before.before.before.before in
    let groups = (groups_are c.before.before.before.before.before.before.before.before.before.before.before.before.before.before.before.before.before).0 in
    let ec = c.course_of-course.ensures in
    let all = c.shut_all-t.ensures in
    let kept = c.shut_all-t.auto in
    let B = c.requires in
    let E = entered_list (ap (λ (xs : List Fault). marked p.field.no p.field.marks ++ xs) (end_faults basis p.block p.wait p.since p.top read ec claims groups)) all.0 in
    (E.put.ready, (kept.lines ∙ B.level ∙ sym kept.offsets, omega (arith, E.sum, bounded_room (omega arith) B, close_few p.field basis p.block p.wait p.since p.top read (close_claims (claims_in p) p.field p.pend))))

same_length : tie.Need-shape_of-lines
same_length c =
    c.enter.auto.lines ∙ c.shut_all-t.auto.lines

same-length-2 : tie.Need-shape_of-rules
same-length-2 c =
    c.enter.auto.rules ∙ c.shut_all-t.auto.rules

same-length-3 : tie.Need-shape_of-offsets
same-length-3 c =
    c.enter.auto.offsets ∙ c.shut_all-t.auto.offsets

returns : tie.Need-returns
returns c =
    let p = c.args.p in
    let basis = c.args.basis in
    let read = read_as p.reads p.heading in
    let claims = claims_are c.before.before.before.before.before.before.before.before.before.before.before.before.before.before.before.before.before.before.before.before.before.before.before.before.before.before.before in
    let groups = (groups_are c.before.before.before.before.before.before.before.before.before.before.before.before.before.before.before.before.before.before.before.before.before.before.before.before).0 in
    let ec = c.course_of-course.ensures in
    let all = c.shut_all-t.ensures in
    let kept = c.shut_all-t.auto in
    let last = c.last_marks-last.ensures.0 in
    let one = c.enter.ensures in
    let ea = end_any basis p.block p.wait p.since p.top read ec claims groups all.1.0.0 in
    let ew = end_wait basis p.block p.wait p.since p.top read ec claims groups all.1.0.1 in
    λ terms past ls₀ rs₀ ps₀ stood ej S. stand_end S ej
    (entered_both c.requires.ready (entered_list (ap (λ (xs : List Fault). marked p.field.no p.field.marks ++ xs) (end_faults basis p.block p.wait p.since p.top read ec claims groups)) all.0) (entered_list (ap (marked _) last ∙ (λ i. marked (ew i).line (last_marks (ea i) (ew i)))) one.0))
    (λ off ps G B. one.1.1 off ps (all.1.1.1 off G.1) (all.1.1.0 off ps G B))

pub finish_spec : {M : Type 1} → statement M
finish_spec =
    tie.close
    (tie.spec
    course-of-requires
    span-closed-requires
    stated-closed-requires
    group-marks-of-requires
    shut-all-requires
    last-marks-requires
    enter-requires
    same_length
    same-length-2
    same-length-3
    returns)
