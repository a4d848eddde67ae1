-- Model of the code, not part of the statement: what the pass holds, as plain numbers and back. The places are those of the table in
-- src/lib.rt.
use Rattle.std.specs.Prelude.{ℕ, ◌+◌, List, [], ◌∷◌, ◌++◌, map, get_or}
use Rattle.headings.specs.declared.Heading.{Heading}
use Rattle.rules.specs.declared.First.{First}
use Rattle.rules.specs.declared.Payment.{Payment}
use Rattle.rules.specs.declared.Range.{Range}
use Rattle.rules.specs.declared.Sum.{Sum}
use Rattle.rules.specs.declared.Sums.{Sums}
use Rattle.ledger.specs.declared.Ledger.{Ledger}
use Rattle.blocks.specs.declared.Block.{Block}
use Rattle.items.specs.Claims.{no_sum}
use Rattle.judging.specs.declared.opening.Open.{Open}
use Rattle.judging.specs.declared.opening.Pend.{Pend}
use Rattle.closing.specs.declared.Wait.{Wait}
use Rattle.shutting.specs.declared.Starts.{Starts}
use Rattle.pass.specs.declared.Pass.{Pass}
use Rattle.carried.specs.declared.flats.Flat.{Flat}
use Rattle.carried.specs.declared.Words.{Words}
use Rattle.carried.specs.Flats.{flat, one, is_on, flat_reading, reading_from, flat_kc, kc_from, flat_in, in_from, flat_sum, sum_from}

-- ten from a place on
abbrev pub ten_of : {A : Type 0} → A → List A → ℕ → List A
ten_of d xs k =
    get_or xs k d ∷ get_or xs (k + 1) d ∷ get_or xs (k + 2) d ∷ get_or xs (k + 3) d ∷ get_or xs (k + 4) d
    ∷ get_or xs (k + 5) d ∷ get_or xs (k + 6) d ∷ get_or xs (k + 7) d ∷ get_or xs (k + 8) d ∷ get_or xs (k + 9) d ∷ []

-- ---- written

abbrev pub flat_at : List Sum → ℕ → Flat
flat_at groups i = flat_sum (get_or groups i no_sum).stated

abbrev pub flats_of : List Sum → List Flat
flats_of groups = map (λ (s : Sum). flat_sum s.stated) (ten_of no_sum groups 0)

-- of ten enums
abbrev pub each_of : (Flat → ℕ) → List Flat → List ℕ
each_of f s = map f (ten_of (flat 0 0 0 0) s 0)

abbrev pub wide_of : List ℕ → List ℕ → Pass → Flat → Flat → List Flat → List ℕ
wide_of counts sums p said kc s =
    (p.ledger.kept ∷ p.ledger.total ∷ p.field.marks ∷ p.pend.ident ∷ said.amount ∷ p.top ∷ kc.amount ∷ p.wait.marks ∷ [])
    ++ (ten_of 0 counts 0 ++ (ten_of 0 sums 0 ++ each_of (λ (f : Flat). f.amount) s))

abbrev pub narrow_of : Pass → Flat → Flat → Flat → List Flat → List ℕ
narrow_of p said kc span s =
    (p.field.no ∷ p.field.tail ∷ said.a ∷ said.b ∷ p.since ∷ p.heading.kind ∷ p.heading.day ∷ p.heading.first.0
    ∷ p.heading.number.0 ∷ p.heading.second.0 ∷ p.heading.output.0 ∷ p.heading.third.0 ∷ kc.a ∷ span.a ∷ span.b
    ∷ p.block.course.day ∷ p.block.course.first.0 ∷ p.block.course.last.0 ∷ p.wait.line ∷ p.starts.field ∷ p.starts.head ∷ p.starts.wait
    ∷ p.n ∷ [])
    ++ each_of (λ (f : Flat). f.a) s

abbrev pub small_of : Pass → Flat → Flat → Flat → List Flat → List ℕ
small_of p said kc span s =
    (p.field.class ∷ said.tag ∷ one p.reads ∷ kc.tag ∷ span.tag ∷ one p.block.course.classed ∷ one p.block.course.priority
    ∷ one p.block.course.any ∷ one p.block.course.some ∷ [])
    ++ each_of (λ (f : Flat). f.tag) s

unfoldable pub words_of : Pass → Words
words_of p =
    record {
      wide = wide_of p.block.counts p.block.sums p (flat_reading p.pend.said) (flat_kc p.kc) (flats_of p.stated.groups);
      narrow = narrow_of p (flat_reading p.pend.said) (flat_kc p.kc) (flat_in p.span) (flats_of p.stated.groups);
      small = small_of p (flat_reading p.pend.said) (flat_kc p.kc) (flat_in p.span) (flats_of p.stated.groups);
    }

-- ---- read back

abbrev pub wide_at : Words → ℕ → ℕ
wide_at w k = get_or w.wide k 0

abbrev pub narrow_at : Words → ℕ → ℕ
narrow_at w k = get_or w.narrow k 0

abbrev pub small_at : Words → ℕ → ℕ
small_at w k = get_or w.small k 0

abbrev pub ledger_in : Words → Ledger
ledger_in w = record { kept = wide_at w 0; total = wide_at w 1 }

abbrev pub field_in : Words → Open
field_in w = record { no = narrow_at w 0; marks = wide_at w 2; class = small_at w 0; tail = narrow_at w 1 }

abbrev pub said_in : Words → Flat
said_in w = flat (small_at w 1) (wide_at w 4) (narrow_at w 2) (narrow_at w 3)

abbrev pub pend_in : Words → Pend
pend_in w = record { ident = wide_at w 3; said = reading_from (said_in w) }

abbrev pub heading_in : Words → Heading
heading_in w =
    record {
      kind = narrow_at w 5;
      day = narrow_at w 6;
      first = record { 0 = narrow_at w 7 };
      number = record { 0 = narrow_at w 8 };
      second = record { 0 = narrow_at w 9 };
      output = record { 0 = narrow_at w 10 };
      third = record { 0 = narrow_at w 11 };
    }

abbrev pub kc_in : Words → First Payment
kc_in w = kc_from (flat (small_at w 3) (wide_at w 6) (narrow_at w 12) 0)

abbrev pub span_in : Words → First Range
span_in w = in_from (flat (small_at w 4) 0 (narrow_at w 13) (narrow_at w 14))

abbrev pub group_at : Words → ℕ → Flat
group_at w i = flat (small_at w (9 + i)) (wide_at w (28 + i)) (narrow_at w (23 + i)) 0

abbrev pub group_in : Words → ℕ → Sum
group_in w i = record { stated = sum_from (group_at w i) }

abbrev pub stated_in : Words → Sums
stated_in w = record { groups = map (group_in w) (0 ∷ 1 ∷ 2 ∷ 3 ∷ 4 ∷ 5 ∷ 6 ∷ 7 ∷ 8 ∷ 9 ∷ []) }

abbrev pub block_in : Words → Block
block_in w =
    record {
      course = record {
        classed = is_on (small_at w 5);
        priority = is_on (small_at w 6);
        any = is_on (small_at w 7);
        some = is_on (small_at w 8);
        day = narrow_at w 15;
        first = record { 0 = narrow_at w 16 };
        last = record { 0 = narrow_at w 17 };
      };
      counts = ten_of 0 w.wide 8;
      sums = ten_of 0 w.wide 18;
    }

abbrev pub wait_in : Words → Wait
wait_in w = record { line = narrow_at w 18; marks = wide_at w 7 }

abbrev pub starts_in : Words → Starts
starts_in w = record { field = narrow_at w 19; head = narrow_at w 20; wait = narrow_at w 21 }

unfoldable pub pass_of : Words → Pass
pass_of w =
    record {
      ledger = ledger_in w;
      field = field_in w;
      pend = pend_in w;
      since = narrow_at w 4;
      top = wide_at w 5;
      reads = is_on (small_at w 2);
      heading = heading_in w;
      kc = kc_in w;
      span = span_in w;
      stated = stated_in w;
      block = block_in w;
      wait = wait_in w;
      starts = starts_in w;
      n = narrow_at w 22;
    }
