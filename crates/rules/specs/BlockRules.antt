-- The rules of blocks, 16 to 21 and 30 to 39, said over the items above a heading, nearest first, and for 16 those below it.
-- No running account is named here.
use Rattle.std.specs.Prelude.{ℕ, ◌+◌, Bool, true, false, cond, not, ◌&&◌, ◌||◌, List, [], ◌∷◌, eqb, length, get_or}
use Rattle.laws.specs.Lists.{sum}
use Rattle.headings.specs.declared.ItemNo.{ItemNo}
use Rattle.headings.specs.declared.Heading.{Heading}
use Rattle.headings.specs.ItemTypes.{is_closing, is_payment, is_priority}
use Rattle.rules.specs.declared.First.{First}
use Rattle.rules.specs.declared.First.TheVariants.{Missing, Unread, Says}
use Rattle.rules.specs.declared.Range.{Range}
use Rattle.rules.specs.declared.Statement.{Statement}
use Rattle.rules.specs.declared.Sum.{Sum}
use Rattle.rules.specs.declared.Sums.{Sums}
use Rattle.rules.specs.declared.Digest.{Digest}
use Rattle.rules.specs.Blocks.{empty, oldest, none_closes, block_above, readable, payments, amounts}

-- '16: the first heading (readable or not) after the last block, or the file's first if it has no block'
abbrev pub rule16 : List Digest → Digest → List Digest → Bool
rule16 above it below = empty (block_above above) && none_closes (it ∷ below)

-- ---- 'The rest concern readable headings'; h is one
-- '17: a 51 whose block has no other heading, readable or not'
abbrev pub rule17 : List Digest → Heading → Bool
rule17 above h = is_closing h.kind && empty (block_above above)

-- '18: day differs from the block's first'
abbrev pub rule18 : List Digest → Heading → Bool
rule18 above h = not (eqb h.day (oldest h (readable (block_above above))).day)

-- a number isn't one more than that of the nearest heading, if there is one
abbrev pub skips : List Heading → ItemNo → Bool
skips [] n = false
skips (g ∷ gs) n = not (eqb n.0 (g.number.0 + 1))

-- '19: not a 51: number is 0, or isn't one more than that of the previous one in the block; a 51: number not 0 and not one more
-- than the last, if there is one'
abbrev pub rule19 : List Digest → Heading → Bool
rule19 above h =
    cond (is_closing h.kind) (not (eqb h.number.0 0) && skips (readable (block_above above)) h.number)
    (eqb h.number.0 0 || skips (readable (block_above above)) h.number)

abbrev pub unlike : Bool → Bool → Bool
unlike p q = (p && not q) || (not p && q)

-- '20: input type other than 51 whose class differs from the file's first such'
abbrev pub rule20 : List Digest → Heading → Bool
rule20 above h = is_payment h.kind && unlike (is_priority h.kind) (is_priority (oldest h.kind (payments (readable above))))

abbrev pub span_wrong : List Heading → First Range → Bool
span_wrong hs Missing = true
span_wrong hs Unread = false
span_wrong [] (Says p) = false
span_wrong (g ∷ gs) (Says p) = not (eqb p.first.0 (oldest g gs).number.0 && eqb p.last.0 g.number.0)

-- '21: a 51 with no IN, or whose first IN reads and isn't the first and last number of the block's other headings, if any'
abbrev pub rule21 : List Digest → Heading → First Range → Bool
rule21 above h span = is_closing h.kind && span_wrong (readable (block_above above)) span

-- what reads and isn't the count n and the sum t; absent means 0 and 0. 'A true sum of 10^17 or more equals no Sd': it has 17 digits
-- (`large_sum`, `large_count` of `account`)
abbrev pub misstated : ℕ → ℕ → First Statement → Bool
misstated n t Missing = not (eqb 0 n && eqb 0 t)
misstated n t Unread = false
misstated n t (Says p) = not (eqb p.count n && eqb p.sum.0 t)

abbrev pub stated_in : List Sum → ℕ → First Statement
stated_in groups d = (get_or groups d (record { stated = Missing })).stated

-- '30 to 38: for group d = 0 to 8, a 51 whose first Sd reads (absent means 0 and 0) and isn't the count and sum over the block's items of
-- input type other than 51 with tens digit d and a first KC that reads': here 30 + d; 'group 9 joins as rule 39' (document 02, A3)
abbrev pub rule30 : ℕ → List Digest → Heading → Sums → Bool
rule30 d above h stated =
    is_closing h.kind
    && misstated (length (amounts d (block_above above))) (sum (amounts d (block_above above))) (stated_in stated.groups d)
