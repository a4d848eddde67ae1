-- Model of the code, not part of the statement: what each function of `blocks` computes, one definition for each. The rules of blocks are
-- asked of a running account here, and not of the items above.
use Rattle.std.specs.Prelude.{ℕ, ◌+◌, ◌^◌, Bool, true, false, not, ◌&&◌, ◌||◌, List, eqb, ltb, get_or}
use Rattle.laws.specs.Tests.{mark}
use Rattle.headings.specs.declared.ItemNo.{ItemNo}
use Rattle.headings.specs.declared.Heading.{Heading}
use Rattle.headings.specs.ItemTypes.{is_payment, is_priority}
use Rattle.rules.specs.declared.First.{First}
use Rattle.rules.specs.declared.First.TheVariants.{Missing, Unread, Says}
use Rattle.rules.specs.declared.Range.{Range}
use Rattle.rules.specs.declared.Statement.{Statement}
use Rattle.rules.specs.declared.Sum.{Sum}
use Rattle.rules.specs.declared.Sums.{Sums}
use Rattle.rules.specs.BlockRules.{unlike, stated_in}
use Rattle.blocks.specs.declared.Block.{Block}
use Rattle.blocks.specs.declared.Course.{Course}

-- ---- an account and its parts
abbrev pub course_of : Block → Course
course_of b = b.course

abbrev pub block_of : Course → List ℕ → List ℕ → Block
block_of c counts sums = record { course = c; counts = counts; sums = sums }

-- ---- the rules of blocks
abbrev pub breaks18 : Bool → ℕ → ℕ → Bool
breaks18 some first day = some && not (eqb day first)

abbrev pub skips_to : Bool → ItemNo → ItemNo → Bool
skips_to some last n = some && not (eqb n.0 (last.0 + 1))

-- 19 at a heading that is no 51, and at one that is
abbrev pub breaks19 : Bool → ItemNo → ItemNo → Bool
breaks19 some last n = eqb n.0 0 || skips_to some last n

abbrev pub breaks19_closing : Bool → ItemNo → ItemNo → Bool
breaks19_closing some last n = not (eqb n.0 0) && skips_to some last n

abbrev pub breaks20 : Bool → Bool → ℕ → Bool
breaks20 classed priority kind = is_payment kind && (classed && unlike (is_priority kind) priority)

abbrev pub breaks21 : Bool → ItemNo → ItemNo → First Range → Bool
breaks21 some first last Missing = true
breaks21 some first last Unread = false
breaks21 some first last (Says p) = some && not (eqb p.first.0 first.0 && eqb p.last.0 last.0)

-- the caps: a true count or sum that reaches its cap equals no Sd
abbrev pub count_cap : ℕ
count_cap = 10 ^ 7

abbrev pub sum_cap : ℕ
sum_cap = 10 ^ 17

-- c and s are the count n and the sum t, neither of which has reached its cap
abbrev pub tells_capped : (n t c s : ℕ) → Bool
tells_capped n t c s = ltb n count_cap && (ltb t sum_cap && (eqb c n && eqb s t))

abbrev pub misstated_capped : ℕ → ℕ → First Statement → Bool
misstated_capped n t Missing = not (tells_capped n t 0 0)
misstated_capped n t Unread = false
misstated_capped n t (Says p) = not (tells_capped n t p.count p.sum.0)

unfoldable pub group_breaks : List ℕ → List ℕ → List Sum → ℕ → Bool
group_breaks counts sums groups d = misstated_capped (get_or counts d 0) (get_or sums d 0) (stated_in groups d)

unfoldable pub group_marks : List ℕ → List ℕ → List Sum → ℕ
group_marks counts sums groups =
    mark 30 (group_breaks counts sums groups 0) + mark 31 (group_breaks counts sums groups 1)
    + mark 32 (group_breaks counts sums groups 2) + mark 33 (group_breaks counts sums groups 3)
    + mark 34 (group_breaks counts sums groups 4) + mark 35 (group_breaks counts sums groups 5)
    + mark 36 (group_breaks counts sums groups 6) + mark 37 (group_breaks counts sums groups 7)
    + mark 38 (group_breaks counts sums groups 8) + mark 39 (group_breaks counts sums groups 9)

-- 18 to 20 at a heading that is no 51
unfoldable pub open_marks : Course → Heading → ℕ
open_marks c h =
    mark 18 (breaks18 c.some c.day h.day) + mark 19 (breaks19 c.some c.last h.number)
    + mark 20 (breaks20 c.classed c.priority h.kind)

-- 17 to 19 and 21 at a 51
unfoldable pub ending_marks : Course → Heading → First Range → ℕ
ending_marks c h span =
    mark 17 (not c.any) + mark 18 (breaks18 c.some c.day h.day)
    + mark 19 (breaks19_closing c.some c.last h.number)
    + mark 21 (breaks21 c.some c.first c.last span)

-- with 30 to 39
unfoldable pub closing_marks : Block → Heading → First Range → Sums → ℕ
closing_marks b h span stated = ending_marks (course_of b) h span + group_marks b.counts b.sums stated.groups
