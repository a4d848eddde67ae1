-- Model of the code, not part of the statement: the enums that the pass holds, as plain numbers and back.
use Rattle.std.specs.Prelude.{ℕ, Bool, cond, not, eqb}
use Rattle.figures.specs.declared.parts.Number.{Number}
use Rattle.figures.specs.declared.parts.Number.TheVariants.{Good, Failing, Zero}
use Rattle.fields.specs.declared.readings.Reading.{Reading}
use Rattle.fields.specs.declared.readings.Reading.TheVariants.{Broken, Plain, Paid, Span, Stated, Party}
use Rattle.rules.specs.declared.First.{First}
use Rattle.rules.specs.declared.First.TheVariants.{Missing, Unread, Says}
use Rattle.rules.specs.declared.Payment.{Payment}
use Rattle.rules.specs.declared.Range.{Range}
use Rattle.rules.specs.declared.Statement.{Statement}
use Rattle.carried.specs.declared.flats.Flat.{Flat}

abbrev pub flat : ℕ → ℕ → ℕ → ℕ → Flat
flat t x m n = record { tag = t; amount = x; a = m; b = n }

-- ---- a bool is 0 or 1; any other number is true

abbrev pub one : Bool → ℕ
one b = cond b 1 0

abbrev pub is_on : ℕ → Bool
is_on n = not (eqb n 0)

-- ---- what the number of an account is

abbrev pub number_no : Number → ℕ
number_no Good = 0
number_no Failing = 1
number_no Zero = 2

abbrev pub number_from : ℕ → Number
number_from n = cond (eqb n 1) Failing (cond (eqb n 2) Zero Good)

-- ---- what a field says

abbrev pub flat_reading : Reading → Flat
flat_reading Broken = flat 0 0 0 0
flat_reading Plain = flat 1 0 0 0
flat_reading (Paid x d) = flat 2 x.0 d 0
flat_reading (Span m n) = flat 3 0 m.0 n.0
flat_reading (Stated n x) = flat 4 x.0 n 0
flat_reading (Party h) = flat 5 0 (one h.prefix) (number_no h.number)

abbrev pub reading_from : Flat → Reading
reading_from f =
    cond (eqb f.tag 1) Plain
    (cond (eqb f.tag 2) (Paid (record { 0 = f.amount }) f.a)
    (cond (eqb f.tag 3) (Span (record { 0 = f.a }) (record { 0 = f.b }))
    (cond (eqb f.tag 4) (Stated f.a (record { 0 = f.amount }))
    (cond (eqb f.tag 5) (Party (record { prefix = is_on f.a; number = number_from f.b }))
    Broken))))

-- ---- the first KC, IN and Sd of an item

abbrev pub flat_kc : First Payment → Flat
flat_kc Missing = flat 0 0 0 0
flat_kc Unread = flat 1 0 0 0
flat_kc (Says p) = flat 2 p.amount.0 p.day 0

abbrev pub kc_from : Flat → First Payment
kc_from f = cond (eqb f.tag 1) Unread (cond (eqb f.tag 2) (Says (record { amount = record { 0 = f.amount }; day = f.a })) Missing)

abbrev pub flat_in : First Range → Flat
flat_in Missing = flat 0 0 0 0
flat_in Unread = flat 1 0 0 0
flat_in (Says p) = flat 2 0 p.first.0 p.last.0

abbrev pub in_from : Flat → First Range
in_from f = cond (eqb f.tag 1) Unread (cond (eqb f.tag 2) (Says (record { first = record { 0 = f.a }; last = record { 0 = f.b } })) Missing)

abbrev pub flat_sum : First Statement → Flat
flat_sum Missing = flat 0 0 0 0
flat_sum Unread = flat 1 0 0 0
flat_sum (Says p) = flat 2 p.sum.0 p.count 0

abbrev pub sum_from : Flat → First Statement
sum_from f = cond (eqb f.tag 1) Unread (cond (eqb f.tag 2) (Says (record { count = f.a; sum = record { 0 = f.amount } })) Missing)
