use mathlib.Core.Path.{◌≡◌, refl, sym, ap, ◌∙◌}
use mathlib.Core.Bool.{true}
use mathlib.Core.List.{List, ◌++◌}
use Prim.Native.Nat.{suc, ◌+◌, ◌-◌, ◌≤◌, ◌<◌, ◌^◌}
use native.Mathlib.Omega.{arith}
use lib.ListN.{length, get_or}
use Rattle.fields.specs.Classes.{class_of}
use Rattle.fields.specs.Codes.{code_of}
use Rattle.fields.specs.Readings.{text_of, reading_of}
use Rattle.lines.specs.Reading.{span, IsNext}
use Rattle.lines.proofs.Reading.{is_next, span_long}
use Rattle.rules.specs.Faults.{Fault}
use Rattle.ledger.specs.Marks.{marked}
use Rattle.blocks.specs.Model.{block_of}
use Rattle.account.specs.Model.{groups_on}
use Rattle.items.specs.Claims.{claims_as}
use Rattle.judging.specs.Opening.{low_open, read_as, span_closed, stated_closed, close_claims}
use Rattle.closing.proofs.Sets.{line_marks}
use Rattle.shutting.proofs.Waiting.{entered_list}
use Rattle.pass.proofs.Walk.{own_at, claims_kept, groups_took, groups_left, shut_block, shut_wait, shut_faults, own_above, own_inside, own_plain, ident_few}
use Rattle.pass.proofs.Feeding.{Feeding, bounded_room, bounded_tail, feed_start, feed_close, feed_end, feed_other, feed_more, feed_field, feed_head}
use borrow.Author.Rules.{rules}
use Rattle.pass.proofs.feed.Statement.{statement}
use Rattle.pass.proofs.feed.Lts.{then-open-ge5, else-open-ge5, then-open-ge5-2, else-open-ge5-2, then-reads-h, else-reads-h}
use Rattle.pass.proofs.feed.Tie as tie

abbrev invariant-loop-at : tie.invariant-loop-at
invariant-loop-at s base basis lines₀ rules₀ offsets₀ stood₀ places table codes g₀ open₀ pend₀ since₀ top₀ reads₀ h₀ kc₀ span₀ stated₀ course₀ counts₀ sums₀ wait₀ starts₀ at₀ n₀ lines rules offsets stood g «open» pend since top reads h kc span stated course counts sums wait starts at n =
    Feeding s base basis lines₀ rules₀ offsets₀ stood₀ (record { ledger = g₀; field = open₀; pend = pend₀; since = since₀; top = top₀; reads = reads₀; heading = h₀; kc = kc₀; span = span₀; stated = stated₀; block = block_of course₀ counts₀ sums₀; wait = wait₀; starts = starts₀; n = n₀ })
    lines rules offsets stood (record { ledger = g; field = «open»; pend = pend; since = since; top = top; reads = reads; heading = h; kc = kc; span = span; stated = stated; block = block_of course counts sums; wait = wait; starts = starts; n = n }) at

abbrev decreases-loop-at : tie.decreases-loop-at
decreases-loop-at s base basis lines₀ rules₀ offsets₀ stood₀ places table codes g₀ open₀ pend₀ since₀ top₀ reads₀ h₀ kc₀ span₀ stated₀ course₀ counts₀ sums₀ wait₀ starts₀ at₀ n₀ lines rules offsets stood g «open» pend since top reads h kc span stated course counts sums wait starts at n =
    length s - at

-- the line that was found
next : (c : tie.After-line_from-f invariant-loop-at decreases-loop-at) → IsNext c.args.s.now c.loop-at.at c.line_from-f.result
next c = is_next _ _ _ c.line_from-f.ensures c.loop-at-test.true

-- the text, and what is counted with, are within their bounds
within : (c : tie.After-line_from-f invariant-loop-at decreases-loop-at) → c.args.base + c.loop-at.at ≤ 10000000
within c = omega (arith, c.loop-at.invariant.to, c.requires.0)

-- marks 1 and 4 of it
own_is : (c : tie.After-line_marks-own invariant-loop-at decreases-loop-at)
    → c.line_marks-own.result ≡ line_marks (record { no = suc c.loop-at.n; bytes = span c.loop-at.at c.line_from-f.result.end c.args.s.now; ended = c.line_from-f.result.ended })
own_is c = own_at (next c.before.before.before.before) _ c.holds_inadmissible-bad.ensures c.line_marks-own.ensures.0

-- the claims are touched only where the open field makes one
claims-at-heading : (c : tie.Joined-open-ge5 invariant-loop-at decreases-loop-at)
    → (c.if-open-ge5.span ≡ span_closed c.loop-at.span c.loop-at.«open» c.loop-at.pend) × (c.if-open-ge5.stated ≡ stated_closed c.loop-at.stated c.loop-at.«open» c.loop-at.pend)
claims-at-heading c =
    elim c.if-open-ge5.branch [
      | then-open-ge5 w ↦ (w.span-is ∙ w.span_closed-span.ensures, w.stated-is ∙ w.stated_closed-stated.ensures)
      | else-open-ge5 w ↦
          let kept = claims_kept c.loop-at.«open» c.loop-at.pend c.loop-at.span c.loop-at.stated w.if-open-ge5.false in
          (w.span-is ∙ kept.0, w.stated-is ∙ kept.1)
    ]

claims-at-field : (c : tie.Joined-open-ge5-2 invariant-loop-at decreases-loop-at)
    → (c.if-open-ge5-2.span ≡ span_closed c.loop-at.span c.loop-at.«open» c.loop-at.pend) × (c.if-open-ge5-2.stated ≡ stated_closed c.loop-at.stated c.loop-at.«open» c.loop-at.pend)
claims-at-field c =
    elim c.if-open-ge5-2.branch [
      | then-open-ge5-2 w ↦ (w.span-is ∙ w.span_closed-span-then-open-ge5-2.ensures, w.stated-is ∙ w.stated_closed-stated-then-open-ge5-2.ensures)
      | else-open-ge5-2 w ↦
          let kept = claims_kept c.loop-at.«open» c.loop-at.pend c.loop-at.span c.loop-at.stated w.if-open-ge5-2.false in
          (w.span-is ∙ kept.0, w.stated-is ∙ kept.1)
    ]

-- 30 to 39 of the item that closes, and how many they are at most
groups_are : (c : tie.Joined-reads-h invariant-loop-at decreases-loop-at)
    → (c.if-reads-h.groups ≡ groups_on c.loop-at.counts c.loop-at.sums c.if-open-ge5.stated (read_as c.loop-at.reads c.loop-at.h))
    × (c.if-reads-h.groups ≤ 2 ^ 40 - 2 ^ 30)
groups_are c =
    let l = c.loop-at in
    let stated = c.if-open-ge5.stated in
    elim c.if-reads-h.branch [
      | then-reads-h w ↦ (
        groups_took l.counts l.sums stated l.reads l.h w.if-reads-h.true (w.groups-is ∙ w.group_marks_of-groups.ensures.0),
        omega (arith, w.groups-is, w.group_marks_of-groups.ensures.1),
      )
      | else-reads-h w ↦ (groups_left l.counts l.sums stated l.reads l.h w.if-reads-h.false w.groups-is, omega (arith, w.groups-is))
    ]

places-requires : tie.Need-places-places-requires invariant-loop-at decreases-loop-at
places-requires c κs = search rules

table-requires : tie.Need-table-table-requires invariant-loop-at decreases-loop-at
table-requires c κs = search rules

codes-requires : tie.Need-codes-codes-requires invariant-loop-at decreases-loop-at
codes-requires c κs = search rules

course-of-requires : tie.Need-course_of-course-requires invariant-loop-at decreases-loop-at
course-of-requires c κs = search rules

loop-holds : tie.Need-loop-at-init invariant-loop-at decreases-loop-at
loop-holds c =
    feed_start c.requires.1

line-from-requires : tie.Need-line_from-f-requires invariant-loop-at decreases-loop-at
line-from-requires c κs = search rules

cast-here : tie.Need-overflow_cast-here invariant-loop-at decreases-loop-at
cast-here c =
    omega (arith, within c)

add-here : tie.Need-overflow_add-here invariant-loop-at decreases-loop-at
add-here c =
    omega (arith, within c)

add-n : tie.Need-overflow_add-n invariant-loop-at decreases-loop-at
add-n c =
    omega (arith, c.loop-at.invariant.bounded.few, within c)

sub-holds-inadmissible : tie.Need-slice_bounds-holds_inadmissible-count invariant-loop-at decreases-loop-at
sub-holds-inadmissible c =
    let found = next c.before in
    omega (arith, found.starts, found.closes, found.within)

part-holds-inadmissible-start : tie.Need-slice_bounds-holds_inadmissible-start invariant-loop-at decreases-loop-at
part-holds-inadmissible-start c =
    let found = next c.before in
    omega (arith, found.starts, found.closes, found.within)

part-holds-inadmissible-end : tie.Need-slice_bounds-holds_inadmissible-end invariant-loop-at decreases-loop-at
part-holds-inadmissible-end c =
    let found = next c.before in
    omega (arith, found.starts, found.closes, found.within)

holds-inadmissible-requires : tie.Need-holds_inadmissible-bad-requires invariant-loop-at decreases-loop-at
holds-inadmissible-requires c κs =
    c.table-table.ensures

line-marks-requires : tie.Need-line_marks-own-requires invariant-loop-at decreases-loop-at
line-marks-requires c κs = search rules

sub-kind-from : tie.Need-slice_bounds-kind_from-count invariant-loop-at decreases-loop-at
sub-kind-from c =
    let found = next c.before.before.before.before.before in
    omega (arith, found.starts, found.closes, found.within)

part-kind-from-start : tie.Need-slice_bounds-kind_from-start invariant-loop-at decreases-loop-at
part-kind-from-start c =
    let found = next c.before.before.before.before.before in
    omega (arith, found.starts, found.closes, found.within)

part-kind-from-end : tie.Need-slice_bounds-kind_from-end invariant-loop-at decreases-loop-at
part-kind-from-end c =
    let found = next c.before.before.before.before.before in
    omega (arith, found.starts, found.closes, found.within)

kind-from-requires : tie.Need-kind_from-x-requires invariant-loop-at decreases-loop-at
kind-from-requires c κs =
    c.places-places.ensures

enum_told : tie.Need-enum_told-1 invariant-loop-at decreases-loop-at
enum_told c = search rules

span-closed-requires : tie.Need-span_closed-span-requires invariant-loop-at decreases-loop-at
span-closed-requires c κs = search rules

stated-closed-requires : tie.Need-stated_closed-stated-requires invariant-loop-at decreases-loop-at
stated-closed-requires c κs = search rules

group-marks-of-requires : tie.Need-group_marks_of-groups-requires invariant-loop-at decreases-loop-at
group-marks-of-requires c κs = search rules

shut-all-requires : tie.Need-shut_all-t-requires invariant-loop-at decreases-loop-at
shut-all-requires c κs =
    let B = c.loop-at.invariant.bounded in
    let room = bounded_room (within c.before.before.before.before.before.before.before.before.before.before.before.before.before.before.before) B in
    (B.ready, (B.level, (omega (arith, room), B.calm, B.top_few, (groups_are c.before.before.before).1)))

count-item-requires : tie.Need-count_item-requires invariant-loop-at decreases-loop-at
count-item-requires c κs = search rules

no-sums-requires : tie.Need-no_sums-stated-requires invariant-loop-at decreases-loop-at
no-sums-requires c κs = search rules

none-open-requires : tie.Need-none_open-open-requires invariant-loop-at decreases-loop-at
none-open-requires c κs = search rules

sub_read : tie.Need-slice_bounds-read-count invariant-loop-at decreases-loop-at
sub_read c =
    let found = next c.before.before.before.before.before.before.before.before.before.before.before.before.before.before.before.before.before.before.before.before.before.before.before.before.before.before.before.before.before.before in
    omega (arith, found.starts, found.closes, found.within)

part-read-start : tie.Need-slice_bounds-read-start invariant-loop-at decreases-loop-at
part-read-start c =
    let found = next c.before.before.before.before.before.before.before.before.before.before.before.before.before.before.before.before.before.before.before.before.before.before.before.before.before.before.before.before.before.before in
    omega (arith, found.starts, found.closes, found.within)

part-read-end : tie.Need-slice_bounds-read-end invariant-loop-at decreases-loop-at
part-read-end c =
    let found = next c.before.before.before.before.before.before.before.before.before.before.before.before.before.before.before.before.before.before.before.before.before.before.before.before.before.before.before.before.before.before in
    omega (arith, found.starts, found.closes, found.within)

read-requires : tie.Need-read-read-requires invariant-loop-at decreases-loop-at
read-requires c κs = search rules

heading-in-requires : tie.Need-heading_in-h-requires invariant-loop-at decreases-loop-at
heading-in-requires c κs = search rules

does-read-requires : tie.Need-does_read-reads-requires invariant-loop-at decreases-loop-at
does-read-requires c κs = search rules

loop-less : tie.Need-loop-at-smaller-in-Heading invariant-loop-at decreases-loop-at
loop-less c =
    let found = next c.before.before.before.before.before.before.before.before.before.before.before.before.before.before.before.before.before.before.before.before.before.before.before.before.before.before.before.before.before.before.before.before.before.before in
    omega (arith, found.moves, found.within)

loop-again : tie.Need-loop-at-preserved-in-Heading invariant-loop-at decreases-loop-at
loop-again c =
    let shut = c.shut_all-t.ensures in
    let counted = c.count_item.ensures in
    let here = c.loop-at in
    let basis = c.args.basis in
    let read = read_as here.reads here.h in
    let closes = claims-at-heading c.before.before.before.before.before.before.before.before.before.before.before.before.before.before.before.before.before.before.before.before.before.before.before.before in
    let claims : claims_as here.kc c.if-open-ge5.span c.if-open-ge5.stated ≡ close_claims (claims_as here.kc here.span here.stated) here.«open» here.pend = λ i. claims_as here.kc (closes.0 i) (closes.1 i) in
    let groups = (groups_are c.before.before.before.before.before.before.before.before.before.before.before.before.before.before.before.before.before.before.before.before.before.before).0 in
    feed_head c.loop-at.invariant (next c.before.before.before.before.before.before.before.before.before.before.before.before.before.before.before.before.before.before.before.before.before.before.before.before.before.before.before.before.before.before.before.before.before.before) c.kind_from-x.ensures (own_is c.before.before.before.before.before.before.before.before.before.before.before.before.before.before.before.before.before.before.before.before.before.before.before.before.before.before.before.before.before.before) c.in-Heading.is c.read-read.ensures.1 c.none_open-open.ensures c.heading_in-h.ensures c.does_read-reads.ensures c.no_sums-stated.ensures
    (shut_block basis here.course here.counts here.sums here.wait here.since here.top read claims groups shut.1.0.0 counted.0 counted.1)
    (shut_wait basis here.course here.counts here.sums here.wait here.since here.top read claims groups shut.1.0.1) shut.1.0.2
    (entered_list (ap (λ (xs : List Fault). marked here.«open».no here.«open».marks ++ xs) (shut_faults basis here.course here.counts here.sums here.wait here.since here.top read claims groups)) shut.0) shut.1.1.0 shut.1.1.1 c.shut_all-t.auto.offsets

enum-told-2 : tie.Need-enum_told-in-Continuation invariant-loop-at decreases-loop-at
enum-told-2 c = search rules

low-marks-requires : tie.Need-low_marks-requires invariant-loop-at decreases-loop-at
low-marks-requires c κs = search rules

enter-requires : tie.Need-enter-g-requires invariant-loop-at decreases-loop-at
enter-requires c κs =
    let B = c.loop-at.invariant.bounded in
    let room = bounded_room (within c.before.before.before.before.before.before.before.before.before.before.before.before) B in
    (B.ready, (B.level, omega (arith, room)))

sub-with-low : tie.Need-overflow_sub-end invariant-loop-at decreases-loop-at
sub-with-low c =
    let found = next c.before.before.before.before.before.before.before.before.before.before.before.before.before.before.before.before.before.before.before.before in
    omega (arith, found.starts, found.closes, found.within)

with-low-requires : tie.Need-with_low-open-requires invariant-loop-at decreases-loop-at
with-low-requires c κs =
    bounded_tail (within c.before.before.before.before.before.before.before.before.before.before.before.before.before.before.before.before.before.before.before.before) c.loop-at.invariant.bounded

loop-less-2 : tie.Need-loop-at-smaller-in-Continuation invariant-loop-at decreases-loop-at
loop-less-2 c =
    let found = next c.before.before.before.before.before.before.before.before.before.before.before.before.before.before.before.before.before.before.before.before.before in
    omega (arith, found.moves, found.within)

loop-again-2 : tie.Need-loop-at-preserved-in-Continuation invariant-loop-at decreases-loop-at
loop-again-2 c =
    feed_more c.loop-at.invariant (next c.before.before.before.before.before.before.before.before.before.before.before.before.before.before.before.before.before.before.before.before.before) c.kind_from-x.ensures (own_is c.before.before.before.before.before.before.before.before.before.before.before.before.before.before.before.before.before) c.in-Continuation.is c.low_marks.ensures (c.with_low-open.ensures ∙ ap (low_open true c.loop-at.«open») (span_long (next c.before.before.before.before.before.before.before.before.before.before.before.before.before.before.before.before.before.before.before.before.before))) c.enter-g.ensures.0 c.enter-g.ensures.1.1 c.enter-g.auto.offsets

enum-known-x : tie.Need-enum_known-x invariant-loop-at decreases-loop-at
enum-known-x c = search rules

enter-requires-2 : tie.Need-enter-g-requires-in-Field invariant-loop-at decreases-loop-at
enter-requires-2 c κs =
    let B = c.loop-at.invariant.bounded in
    let room = bounded_room (within c.before.before.before.before.before.before.before.before.before.before.before) B in
    (B.ready, (B.level, omega (arith, room)))

span-closed-requires-2 : tie.Need-span_closed-span-requires-then-open-ge5-2 invariant-loop-at decreases-loop-at
span-closed-requires-2 c κs = search rules

stated-closed-requires-2 : tie.Need-stated_closed-stated-requires-then-open-ge5-2 invariant-loop-at decreases-loop-at
stated-closed-requires-2 c κs = search rules

again-requires : tie.Need-again-stands-requires invariant-loop-at decreases-loop-at
again-requires c κs =
    ident_few (span c.loop-at.at c.line_from-f.result.end c.args.s.now) c.kind_from-x.ensures c.in-Field.ident c.in-Field.is

-- the field's identifier, and the number of its class
few-is : (c : tie.After-again-stands invariant-loop-at decreases-loop-at) → c.in-Field.ident < 1296
few-is c = ident_few (span c.loop-at.at c.line_from-f.result.end c.args.s.now) c.kind_from-x.ensures c.in-Field.ident c.in-Field.is

number_is : (c : tie.After-again-stands invariant-loop-at decreases-loop-at) → get_or c.codes-codes.result c.in-Field.ident 0 ≡ code_of c.in-Field.ident
number_is c = c.codes-codes.ensures c.in-Field.ident (few-is c)

array-read-class : tie.Need-bounds-codes-ident invariant-loop-at decreases-loop-at
array-read-class c =
    few-is c

sub-read-claim : tie.Need-slice_bounds-read_claim-count invariant-loop-at decreases-loop-at
sub-read-claim c =
    let found = next c.before.before.before.before.before.before.before.before.before.before.before.before.before.before.before.before.before.before.before.before.before.before.before in
    omega (arith, found.starts, found.closes, found.within)

part-read-claim-start : tie.Need-slice_bounds-read_claim-start invariant-loop-at decreases-loop-at
part-read-claim-start c =
    let found = next c.before.before.before.before.before.before.before.before.before.before.before.before.before.before.before.before.before.before.before.before.before.before.before in
    omega (arith, found.starts, found.closes, found.within)

part-read-claim-end : tie.Need-slice_bounds-read_claim-end invariant-loop-at decreases-loop-at
part-read-claim-end c =
    let found = next c.before.before.before.before.before.before.before.before.before.before.before.before.before.before.before.before.before.before.before.before.before.before.before in
    omega (arith, found.starts, found.closes, found.within)

read-claim-requires : tie.Need-read_claim-said-requires invariant-loop-at decreases-loop-at
read-claim-requires c κs = search rules

field-open-requires : tie.Need-field_open-open-requires invariant-loop-at decreases-loop-at
field-open-requires c κs =
    (number_is c.before.before.before, c.line_marks-own.ensures.1)

kc-own-requires : tie.Need-kc_own-kc-requires invariant-loop-at decreases-loop-at
kc-own-requires c κs = search rules

keep-own-requires : tie.Need-keep_own-pend-requires invariant-loop-at decreases-loop-at
keep-own-requires c κs =
    number_is c.before.before.before.before.before.before

-- what a field says that claims something
said-is : (c : tie.After-read_claim-said invariant-loop-at decreases-loop-at)
    → c.read_claim-said.result ≡ reading_of (class_of c.in-Field.ident) (text_of (span c.loop-at.at c.line_from-f.result.end c.args.s.now))
unfolding code_of
said-is c = c.read_claim-said.ensures (class_of c.in-Field.ident) (sym (number_is c.before.before.before)) c.if-class.true

loop-less-3 : tie.Need-loop-at-smaller-then-since-ne0 invariant-loop-at decreases-loop-at
loop-less-3 c =
    let found = next c.before.before.before.before.before.before.before.before.before.before.before.before.before.before.before.before.before.before.before.before.before.before.before.before.before.before.before.before.before in
    omega (arith, found.moves, found.within)

loop-again-3 : tie.Need-loop-at-preserved-then-since-ne0 invariant-loop-at decreases-loop-at
loop-again-3 c =
    let closes = claims-at-field c.before.before.before.before.before.before.before.before.before in
    let asked = c.again-stands.ensures in
    let own = own_inside c.loop-at.since c.in-Field.ident c.read_claim-said.result c.loop-at.kc c.loop-at.pend c.if-since-ne0.true c.kc_own-kc.ensures c.keep_own-pend.ensures in
    feed_field c.loop-at.invariant (next c.before.before.before.before.before.before.before.before.before.before.before.before.before.before.before.before.before.before.before.before.before.before.before.before.before.before.before.before.before) c.kind_from-x.ensures (own_is c.before.before.before.before.before.before.before.before.before.before.before.before.before.before.before.before.before.before.before.before.before.before.before.before.before) c.in-Field.ident c.in-Field.is closes.0 closes.1 asked.0 (said-is c.before.before.before.before) c.field_open-open.ensures own.0 own.1 asked.1 c.enter-g-in-Field.ensures.0 c.enter-g-in-Field.ensures.1.1 c.enter-g-in-Field.auto.offsets

loop-less-4 : tie.Need-loop-at-smaller-else-since-ne0 invariant-loop-at decreases-loop-at
loop-less-4 c =
    let found = next c.before.before.before.before.before.before.before.before.before.before.before.before.before.before.before.before.before.before.before.before.before.before.before.before.before.before.before in
    omega (arith, found.moves, found.within)

loop-again-4 : tie.Need-loop-at-preserved-else-since-ne0 invariant-loop-at decreases-loop-at
loop-again-4 c =
    let closes = claims-at-field c.before.before.before.before.before.before.before in
    let asked = c.again-stands.ensures in
    let own = own_above c.loop-at.since c.in-Field.ident c.read_claim-said.result c.loop-at.kc c.loop-at.pend c.if-since-ne0.false in
    feed_field c.loop-at.invariant (next c.before.before.before.before.before.before.before.before.before.before.before.before.before.before.before.before.before.before.before.before.before.before.before.before.before.before.before) c.kind_from-x.ensures (own_is c.before.before.before.before.before.before.before.before.before.before.before.before.before.before.before.before.before.before.before.before.before.before.before) c.in-Field.ident c.in-Field.is closes.0 closes.1 asked.0 (said-is c.before.before) c.field_open-open.ensures own.0 own.1 asked.1 c.enter-g-in-Field.ensures.0 c.enter-g-in-Field.ensures.1.1 c.enter-g-in-Field.auto.offsets

sub-plain-open : tie.Need-slice_bounds-plain_open-count invariant-loop-at decreases-loop-at
sub-plain-open c =
    let found = next c.before.before.before.before.before.before.before.before.before.before.before.before.before.before.before.before.before.before.before.before.before.before.before in
    omega (arith, found.starts, found.closes, found.within)

part-plain-open-start : tie.Need-slice_bounds-plain_open-start invariant-loop-at decreases-loop-at
part-plain-open-start c =
    let found = next c.before.before.before.before.before.before.before.before.before.before.before.before.before.before.before.before.before.before.before.before.before.before.before in
    omega (arith, found.starts, found.closes, found.within)

part-plain-open-end : tie.Need-slice_bounds-plain_open-end invariant-loop-at decreases-loop-at
part-plain-open-end c =
    let found = next c.before.before.before.before.before.before.before.before.before.before.before.before.before.before.before.before.before.before.before.before.before.before.before in
    omega (arith, found.starts, found.closes, found.within)

plain-open-requires : tie.Need-plain_open-open-requires invariant-loop-at decreases-loop-at
plain-open-requires c κs =
    c.line_marks-own.ensures.1

loop-less-5 : tie.Need-loop-at-smaller-else-class invariant-loop-at decreases-loop-at
loop-less-5 c =
    let found = next c.before.before.before.before.before.before.before.before.before.before.before.before.before.before.before.before.before.before.before.before.before.before.before.before.before in
    omega (arith, found.moves, found.within)

loop-again-5 : tie.Need-loop-at-preserved-else-class invariant-loop-at decreases-loop-at
loop-again-5 c =
    let closes = claims-at-field c.before.before.before.before.before in
    let asked = c.again-stands.ensures in
    let own = own_plain c.loop-at.since c.in-Field.ident (reading_of (class_of c.in-Field.ident) (text_of (span c.loop-at.at c.line_from-f.result.end c.args.s.now))) c.loop-at.kc c.loop-at.pend (number_is c.before.before.before) c.if-class.false in
    feed_field c.loop-at.invariant (next c.before.before.before.before.before.before.before.before.before.before.before.before.before.before.before.before.before.before.before.before.before.before.before.before.before) c.kind_from-x.ensures (own_is c.before.before.before.before.before.before.before.before.before.before.before.before.before.before.before.before.before.before.before.before.before) c.in-Field.ident c.in-Field.is closes.0 closes.1 asked.0 refl (c.plain_open-open.ensures c.args.basis c.loop-at.kc (read_as c.loop-at.reads c.loop-at.h) c.in-Field.ident (number_is c.before.before.before) c.if-class.false) own.0 own.1 asked.1 c.enter-g-in-Field.ensures.0 c.enter-g-in-Field.ensures.1.1 c.enter-g-in-Field.auto.offsets

enum-told-3 : tie.Need-enum_told-in-Other invariant-loop-at decreases-loop-at
enum-told-3 c = search rules

low-marks-requires-2 : tie.Need-low_marks-requires-in-Other invariant-loop-at decreases-loop-at
low-marks-requires-2 c κs = search rules

enter-requires-3 : tie.Need-enter-g-requires-in-Other invariant-loop-at decreases-loop-at
enter-requires-3 c κs =
    let B = c.loop-at.invariant.bounded in
    let room = bounded_room (within c.before.before.before.before.before.before.before.before.before.before.before.before) B in
    (B.ready, (B.level, omega (arith, room)))

loop-less-6 : tie.Need-loop-at-smaller invariant-loop-at decreases-loop-at
loop-less-6 c =
    let found = next c.before.before.before.before.before.before.before.before.before.before.before.before.before.before.before.before.before.before.before in
    omega (arith, found.moves, found.within)

loop-again-6 : tie.Need-loop-at-preserved invariant-loop-at decreases-loop-at
loop-again-6 c =
    feed_other c.loop-at.invariant (next c.before.before.before.before.before.before.before.before.before.before.before.before.before.before.before.before.before.before.before) c.kind_from-x.ensures (own_is c.before.before.before.before.before.before.before.before.before.before.before.before.before.before.before) c.in-Other.is c.low_marks-in-Other.ensures c.enter-g-in-Other.ensures.0 c.enter-g-in-Other.ensures.1.1 c.enter-g-in-Other.auto.offsets

block-of-requires : tie.Need-block_of-block-requires invariant-loop-at decreases-loop-at
block-of-requires c κs = search rules

same_length : tie.Need-shape_of-lines invariant-loop-at decreases-loop-at
same_length c =
    c.loop-at.invariant.lines_long

same-length-2 : tie.Need-shape_of-rules invariant-loop-at decreases-loop-at
same-length-2 c =
    c.loop-at.invariant.rules_long

same-length-3 : tie.Need-shape_of-offsets invariant-loop-at decreases-loop-at
same-length-3 c =
    c.loop-at.invariant.places_long

returns : tie.Need-returns invariant-loop-at decreases-loop-at
returns c =
    let here = c.loop-at in
    let start = c.args in
    feed_close start.s.now start.base start.basis start.p (record { ledger = here.g; field = here.«open»; pend = here.pend; since = here.since; top = here.top; reads = here.reads; heading = here.h; kc = here.kc; span = here.span; stated = here.stated; block = block_of here.course here.counts here.sums; wait = here.wait; starts = here.starts; n = here.n })
    c.course_of-course.ensures c.block_of-block.ensures (feed_end here.invariant (omega (arith, c.loop-at-test)))

pub feed_spec : {M : Type 1} → statement M
feed_spec =
    tie.close
    (tie.spec
    invariant-loop-at
    decreases-loop-at
    places-requires
    table-requires
    codes-requires
    course-of-requires
    loop-holds
    line-from-requires
    cast-here
    add-here
    add-n
    sub-holds-inadmissible
    part-holds-inadmissible-start
    part-holds-inadmissible-end
    holds-inadmissible-requires
    line-marks-requires
    sub-kind-from
    part-kind-from-start
    part-kind-from-end
    kind-from-requires
    enum_told
    span-closed-requires
    stated-closed-requires
    group-marks-of-requires
    shut-all-requires
    count-item-requires
    no-sums-requires
    none-open-requires
    sub_read
    part-read-start
    part-read-end
    read-requires
    heading-in-requires
    does-read-requires
    loop-less
    loop-again
    enum-told-2
    low-marks-requires
    enter-requires
    sub-with-low
    with-low-requires
    loop-less-2
    loop-again-2
    enum-known-x
    enter-requires-2
    span-closed-requires-2
    stated-closed-requires-2
    again-requires
    array-read-class
    sub-read-claim
    part-read-claim-start
    part-read-claim-end
    read-claim-requires
    field-open-requires
    kc-own-requires
    keep-own-requires
    loop-less-3
    loop-again-3
    loop-less-4
    loop-again-4
    sub-plain-open
    part-plain-open-start
    part-plain-open-end
    plain-open-requires
    loop-less-5
    loop-again-5
    enum-told-3
    low-marks-requires-2
    enter-requires-3
    loop-less-6
    loop-again-6
    block-of-requires
    same_length
    same-length-2
    same-length-3
    returns)
