-- The lines of a closing item are read back as what they say: they are fields of their identifiers, they read with no continuation, and they
-- say their numbers.
use mathlib.Core.Path.{◌≡◌, refl, sym, ap, ◌∙◌, subst}
use mathlib.Core.Bool.{true, false}
use mathlib.Core.List.{List, [], ◌∷◌, ◌++◌, append-nil}
use Prim.Native.Nat.{ℕ, suc, ◌+◌, ◌^◌, ◌≤◌, ◌<◌}
use native.Mathlib.Omega.{arith}
use lib.Dec.{eqb, eqb→eq}
use lib.ListN.{get_or}
use Rattle.laws.specs.Ascii.{ascii}
use Rattle.laws.specs.Tests.{among}
use Rattle.laws.proofs.Finite.{at, agree}
use Rattle.text.specs.Digits.{is_digit}
use Rattle.text.specs.Decimals.{decimal}
use Rattle.text.specs.Strings.{begins}
use Rattle.text.proofs.Bare.{decimal_within, decimal_value}
use Rattle.text.proofs.Shortest.{decimal_digits, decimal_some, decimal_one}
use Rattle.figures.specs.Layouts.{num, space, no_more}
use Rattle.figures.proofs.Runs.{all_digits}
use Rattle.figures.specs.Described.{all_of, Described, whole, stretch, stands}
use Rattle.fields.specs.declared.kinds.Kind.TheVariants.{Field}
use Rattle.fields.specs.declared.classes.Class.TheVariants.{Range, Group}
use Rattle.fields.specs.declared.readings.Reading.TheVariants.{Span, Stated}
use Rattle.fields.specs.Kinds.{symbols, place, named, kind_of}
use Rattle.fields.specs.Classes.{money_fields, number_fields, range_fields, group_fields, class_of, sum_group}
use Rattle.fields.specs.Readings.{text_of, layout_of}
use Rattle.fields.specs.Tails.{takes, reads, says_of}
use Rattle.fields.proofs.Meaning.{described_reads, says_described}
use Rattle.closing_lines.specs.Closing.{in_text, sum_text}

-- ---- numbers, as layouts describe them
is_number : (v : ℕ) → all_of is_digit (decimal v) ≡ true
is_number v = sym (all_digits (decimal v)) ∙ decimal_digits v

-- two numbers with a space between them
pub two_numbers : (h k p q : ℕ) → h ≤ 19 → k ≤ 19 → p < 10 ^ suc h → q < 10 ^ suc k
    → Described (num 1 (suc h) ∷ space ∷ num 1 (suc k) ∷ no_more) (decimal p ++ (ascii " " ++ decimal q)) (decimal p ∷ decimal q ∷ [])
two_numbers h k p q l m u v =
    stretch (decimal p) (is_number p) (decimal_some p) (decimal_within h p l u)
    (stands
    (subst (λ (s : List ℕ). Described (num 1 (suc k) ∷ no_more) s (decimal q ∷ [])) (append-nil (decimal q))
    (stretch (decimal q) (is_number q) (decimal_some q) (decimal_within k q m v) whole)))

no_tail : takes (layout_of Range).more [] ≡ true
unfolding takes
no_tail = refl

-- ---- IN

pub in_kind : (a b : ℕ) → kind_of (in_text a b) ≡ Field (named "IN")
unfolding kind_of begins place
in_kind a b = refl

pub in_class_lem : class_of (named "IN") ≡ Range
unfolding class_of place
in_class_lem = refl

module _ (a b : ℕ) (l : a < 10000000) (m : b < 10000000) where
  pub in_described : Described (layout_of Range).own (text_of (in_text a b)) (decimal a ∷ decimal b ∷ [])
  unfolding text_of
  in_described = two_numbers 6 6 a b (omega arith) (omega arith) l m

  pub in_reads : reads Range (in_text a b) [] ≡ true
  in_reads = described_reads Range (in_text a b) [] _ in_described no_tail

  pub in_says : says_of Range (in_text a b) [] ≡ Span (record { 0 = a }) (record { 0 = b })
  in_says = says_described Range (in_text a b) [] _ in_described no_tail ∙ rw (decimal_value a (omega arith), decimal_value b (omega arith))

-- ---- S0 to S9

-- the identifier of a group
abbrev pub group_field : ℕ → ℕ
group_field d = get_or group_fields d 0

place_letter : place 0x53 symbols ≡ 28
unfolding place
place_letter = refl

module _ (d : ℕ) (k : d < 10) where
  place_digit : place (48 + d) symbols ≡ d
  unfolding place
  place_digit = eqb→eq _ _ (at (λ c. eqb (place (48 + c) symbols) c) 10 tt d k)

  among_digit : among (48 + d) symbols ≡ true
  among_digit = agree (λ c. among (48 + c) symbols) (λ c. true) 10 tt d k

  pub field_digit : 1008 + d ≡ group_field d
  unfolding place
  field_digit = eqb→eq _ _ (at (λ c. eqb (1008 + c) (group_field c)) 10 tt d k)

  pub group_class : class_of (group_field d) ≡ Group
  unfolding class_of place
  group_class =
      rw (agree (λ c. among (group_field c) money_fields) (λ c. false) 10 tt d k, agree (λ c. among (group_field c) number_fields) (λ c. false) 10 tt d k, agree (λ c. among (group_field c) range_fields) (λ c. false) 10 tt d k, agree (λ c. among (group_field c) group_fields) (λ c. true) 10 tt d k)

  pub group_digit : sum_group (group_field d) ≡ d
  unfolding sum_group place
  group_digit = eqb→eq _ _ (at (λ c. eqb (sum_group (group_field c)) c) 10 tt d k)

  -- an S line, byte by byte up to its colon
  sum_is : (n t : ℕ) → sum_text d n t ≡ 0x53 ∷ (48 + d) ∷ 0x3a ∷ (decimal n ++ (ascii " " ++ decimal t))
  sum_is n t = ap (λ (s : List ℕ). ascii "S" ++ (s ++ (ascii ":" ++ (decimal n ++ (ascii " " ++ decimal t))))) (decimal_one d k)

  pub sum_kind : (n t : ℕ) → kind_of (sum_text d n t) ≡ Field (group_field d)
  unfolding kind_of begins
  sum_kind n t = ap kind_of (sum_is n t) ∙ rw (among_digit, place_digit, place_letter, ← field_digit)

  module _ (n t : ℕ) (l : n < 10000000) (m : t < 100000000000000000) where
    pub sum_described : Described (layout_of Group).own (text_of (sum_text d n t)) (decimal n ∷ decimal t ∷ [])
    unfolding text_of
    sum_described = rw (sum_is n t) (two_numbers 6 16 n t (omega arith) (omega arith) l m)

    pub sum_reads : reads Group (sum_text d n t) [] ≡ true
    sum_reads = described_reads Group (sum_text d n t) [] _ sum_described no_tail

    pub sum_says : says_of Group (sum_text d n t) [] ≡ Stated n (record { 0 = t })
    sum_says = says_described Group (sum_text d n t) [] _ sum_described no_tail ∙ rw (decimal_value n (omega arith), decimal_value t (omega arith))
