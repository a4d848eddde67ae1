-- What is written reads back: of each enum, of ten in a row, and of the whole.
use Prim.Native.Nat.{ℕ}
use mathlib.Core.Path.{◌≡◌, refl, sym, ◌∙◌}
use mathlib.Core.Bool.{Bool, true, false}
use mathlib.Core.List.{List, [], ◌∷◌, map}
use native.Mathlib.Omega.{arith}
use mir.Val.{bool_byte}
use lib.ListN.{length}
use Rattle.std.specs.Prelude.{get_or, ◌<◌}
use Rattle.figures.specs.declared.parts.Number.{Number}
use Rattle.figures.specs.declared.parts.Number.TheVariants.{Good, Failing, Zero}
use Rattle.fields.specs.declared.readings.Reading.{Reading}
use Rattle.fields.specs.declared.readings.Reading.TheVariants.{Broken, Plain, Paid, Span, Stated, Party}
use Rattle.rules.specs.declared.First.{First}
use Rattle.rules.specs.declared.First.TheVariants.{Missing, Unread, Says}
use Rattle.rules.specs.declared.Payment.{Payment}
use Rattle.rules.specs.declared.Range.{Range}
use Rattle.rules.specs.declared.Statement.{Statement}
use Rattle.rules.specs.declared.Sum.{Sum}
use Rattle.items.specs.Claims.{no_sum}
use Rattle.pass.specs.declared.Pass.{Pass}
use Rattle.carried.specs.Flats.{flat, one, is_on, number_no, number_from, flat_reading, reading_from, flat_kc, kc_from, flat_in, in_from, flat_sum, sum_from}
use Rattle.carried.specs.Words.{ten_of, words_of, pass_of}

pub on_back : (b : Bool) → is_on (one b) ≡ b
on_back true = refl
on_back false = refl

-- a bool as a byte, in code
pub byte_one : (b : Bool) → bool_byte b ≡ one b
byte_one true = refl
byte_one false = refl

pub number_back : (n : Number) → number_from (number_no n) ≡ n
number_back Good = refl
number_back Failing = refl
number_back Zero = refl

pub reading_back : (r : Reading) → reading_from (flat_reading r) ≡ r
reading_back Broken = refl
reading_back Plain = refl
reading_back (Paid x d) = refl
reading_back (Span m n) = refl
reading_back (Stated n x) = refl
reading_back (Party h) = λ i. Party (record { prefix = on_back h.prefix i; number = number_back h.number i })

-- what stands at the places that the others do not use is no part of it
pub kc_back : (k : First Payment) (n : ℕ) → kc_from (flat (flat_kc k).tag (flat_kc k).amount (flat_kc k).a n) ≡ k
kc_back Missing n = refl
kc_back Unread n = refl
kc_back (Says p) n = refl

pub in_back : (k : First Range) (n : ℕ) → in_from (flat (flat_in k).tag n (flat_in k).a (flat_in k).b) ≡ k
in_back Missing n = refl
in_back Unread n = refl
in_back (Says p) n = refl

pub sum_back : (k : First Statement) (n : ℕ) → sum_from (flat (flat_sum k).tag (flat_sum k).amount (flat_sum k).a n) ≡ k
sum_back Missing n = refl
sum_back Unread n = refl
sum_back (Says p) n = refl

-- a row of ten is its ten
pub ten_all : {A : Type 0} (d : A) (xs : List A) → length xs ≡ 10 → ten_of d xs 0 ≡ xs
ten_all d [] l = absurd (omega arith)
ten_all d (a ∷ []) l = absurd (omega arith)
ten_all d (a ∷ b ∷ []) l = absurd (omega arith)
ten_all d (a ∷ b ∷ c ∷ []) l = absurd (omega arith)
ten_all d (a ∷ b ∷ c ∷ e ∷ []) l = absurd (omega arith)
ten_all d (a ∷ b ∷ c ∷ e ∷ f ∷ []) l = absurd (omega arith)
ten_all d (a ∷ b ∷ c ∷ e ∷ f ∷ g ∷ []) l = absurd (omega arith)
ten_all d (a ∷ b ∷ c ∷ e ∷ f ∷ g ∷ h ∷ []) l = absurd (omega arith)
ten_all d (a ∷ b ∷ c ∷ e ∷ f ∷ g ∷ h ∷ i ∷ []) l = absurd (omega arith)
ten_all d (a ∷ b ∷ c ∷ e ∷ f ∷ g ∷ h ∷ i ∷ j ∷ []) l = absurd (omega arith)
ten_all d (a ∷ b ∷ c ∷ e ∷ f ∷ g ∷ h ∷ i ∷ j ∷ k ∷ []) l = refl
ten_all d (a ∷ b ∷ c ∷ e ∷ f ∷ g ∷ h ∷ i ∷ j ∷ k ∷ m ∷ xs) l = absurd (omega arith)

-- a row of ten of which the element at each place is known
pub ten_known : {A : Type 0} (d : A) (f : ℕ → A) (xs : List A) → length xs ≡ 10 → ((i : ℕ) → i < 10 → get_or xs i d ≡ f i)
    → xs ≡ f 0 ∷ f 1 ∷ f 2 ∷ f 3 ∷ f 4 ∷ f 5 ∷ f 6 ∷ f 7 ∷ f 8 ∷ f 9 ∷ []
ten_known d f xs l at =
    sym (ten_all d xs l)
    ∙ (λ i. at 0 (omega arith) i ∷ at 1 (omega arith) i ∷ at 2 (omega arith) i ∷ at 3 (omega arith) i ∷ at 4 (omega arith) i
    ∷ at 5 (omega arith) i ∷ at 6 (omega arith) i ∷ at 7 (omega arith) i ∷ at 8 (omega arith) i ∷ at 9 (omega arith) i ∷ [])

pub sums_back : (s : List Sum) → length s ≡ 10
    → map (λ (x : Sum). record { stated = sum_from (flat (flat_sum x.stated).tag (flat_sum x.stated).amount (flat_sum x.stated).a 0) }) (ten_of no_sum s 0) ≡ s
sums_back s l = (λ i. map (λ (x : Sum). record { stated = sum_back x.stated 0 i }) (ten_of no_sum s 0)) ∙ ten_all no_sum s l

pub pass_back :
    (p : Pass) → length p.block.counts ≡ 10 → length p.block.sums ≡ 10 → length p.stated.groups ≡ 10 → pass_of (words_of p) ≡ p
unfolding pass_of words_of
pass_back p lc ls lg =
    λ i. record {
      ledger = p.ledger;
      field = p.field;
      pend = record { ident = p.pend.ident; said = reading_back p.pend.said i };
      since = p.since;
      top = p.top;
      reads = on_back p.reads i;
      heading = p.heading;
      kc = kc_back p.kc 0 i;
      span = in_back p.span 0 i;
      stated = record { groups = sums_back p.stated.groups lg i };
      block =
          record {
            course = record {
              classed = on_back p.block.course.classed i;
              priority = on_back p.block.course.priority i;
              any = on_back p.block.course.any i;
              some = on_back p.block.course.some i;
              day = p.block.course.day;
              first = p.block.course.first;
              last = p.block.course.last;
            };
            counts = ten_all 0 p.block.counts lc i;
            sums = ten_all 0 p.block.sums ls i;
          };
      wait = p.wait;
      starts = p.starts;
      n = p.n;
    }
