-- What an item's fields claim, one field after the other, is what its first fields say.
use mathlib.Core.Path.{◌≡◌, refl, sym, ap, ◌∙◌}
use mathlib.Core.Bool.{Bool, true, false, cond, not, ◌||◌}
use mathlib.Core.Option.{Option, none, some}
use mathlib.Core.List.{List, [], ◌∷◌}
use Prim.Native.Nat.{ℕ, zero, suc, ◌≤◌, ◌<◌}
use native.Mathlib.Omega.{arith}
use lib.Dec.{eqb}
use borrow.Author.Tests.{le-leb, ne_eqb}
use Rattle.fields.specs.declared.readings.Reading.{Reading}
use Rattle.fields.specs.declared.readings.Reading.TheVariants.{Broken, Plain, Paid, Span, Stated, Party}
use Rattle.fields.specs.Kinds.{named}
use Rattle.fields.specs.Classes.{sum_group}
use Rattle.rules.specs.declared.First.{First}
use Rattle.rules.specs.declared.Payment.{Payment}
use Rattle.rules.specs.declared.Range.{Range}
use Rattle.rules.specs.declared.Statement.{Statement}
use Rattle.rules.specs.declared.Sum.{Sum}
use Rattle.rules.specs.declared.Sums.{Sums}
use Rattle.rules.specs.HeadingRules.{no_kc}
use Rattle.rules.specs.Rows.{FieldRow}
use Rattle.rules.specs.Tree.{Owned}
use Rattle.rules.specs.Said.{says, stands, or_else, if_there, is, is_group, kc_by, kc_of, span_by, span_of, stated_by, stated_of, ten_sums}
use Rattle.items.specs.Claims.{Claims, claims_as, no_claims, first_of, kc_own, group_claims}
use Rattle.items.proofs.Turned.{first_up}

-- ---- the first KC
pub kc_first : (r : Reading) (k : First Payment) → first_of (kc_by r) k ≡ kc_by r
kc_first (Paid a d) k = refl
kc_first r k = refl

kc_more : (o : Option Reading) (t : Bool) (r : Reading) → cond t (first_of (kc_of o) (kc_by r)) (kc_of o) ≡ kc_of (or_else o (if_there t r))
kc_more none true r = refl
kc_more none false r = refl
kc_more (some q) true r = kc_first q (kc_by r)
kc_more (some q) false r = refl

-- no KC yet
none_first : (o : Option Reading) (t : Bool) (r : Reading) → no_kc (kc_of (or_else o (if_there t r))) ≡ not (not (no_kc (kc_of o)) || t)
none_first none true Broken = refl
none_first none true Plain = refl
none_first none true (Paid a d) = refl
none_first none true (Span a b) = refl
none_first none true (Stated n a) = refl
none_first none true (Party b) = refl
none_first none false r = refl
none_first (some Broken) t r = refl
none_first (some Plain) t r = refl
none_first (some (Paid a d)) t r = refl
none_first (some (Span a b)) t r = refl
none_first (some (Stated n a)) t r = refl
none_first (some (Party b)) t r = refl

or_swap : (a b : Bool) → not (not (not a) || b) ≡ not (b || a)
or_swap true true = refl
or_swap true false = refl
or_swap false true = refl
or_swap false false = refl

pub no_kc_is : (i : ℕ) (ups : List (Owned FieldRow)) → no_kc (kc_of (first_up (is i) ups)) ≡ not (stands i ups)
unfolding first_up stands
no_kc_is i [] = refl
no_kc_is i (g ∷ ups) =
    none_first (first_up (is i) ups) (eqb g.owner.ident i) (says g)
    ∙ ap (λ (t : Bool). not (not t || eqb g.owner.ident i)) (no_kc_is i ups) ∙ or_swap (stands i ups) (eqb g.owner.ident i)

-- ---- what is claimed
abbrev sums_as : (ℕ → Sum) → Sums
sums_as f = record { groups = ten_sums f }

abbrev pub claims_of : List (Owned FieldRow) → Claims
claims_of ups =
    record {
      kc = kc_of (first_up (is (named "KC")) ups);
      span = span_of (first_up (is (named "IN")) ups);
      sums = sums_as (λ d. record { stated = stated_of (first_up (is_group d) ups) });
    }

pub no_claims_is : no_claims ≡ claims_of []
unfolding first_up stands
no_claims_is = refl

span_first : (r : Reading) (k : First Range) → first_of (span_by r) k ≡ span_by r
span_first Broken k = refl
span_first Plain k = refl
span_first (Paid a d) k = refl
span_first (Span a b) k = refl
span_first (Stated n a) k = refl
span_first (Party b) k = refl

span_more : (o : Option Reading) (t : Bool) (r : Reading) → cond t (first_of (span_of o) (span_by r)) (span_of o) ≡ span_of (or_else o (if_there t r))
span_more none true r = refl
span_more none false r = refl
span_more (some q) true r = span_first q (span_by r)
span_more (some q) false r = refl

stated_first : (r : Reading) (k : First Statement) → first_of (stated_by r) k ≡ stated_by r
stated_first Broken k = refl
stated_first Plain k = refl
stated_first (Paid a d) k = refl
stated_first (Span a b) k = refl
stated_first (Stated n a) k = refl
stated_first (Party b) k = refl

stated_more : (o : Option Reading) (t : Bool) (r : Reading) → stated_of (or_else o (if_there t r)) ≡ cond t (first_of (stated_of o) (stated_by r)) (stated_of o)
stated_more none true r = refl
stated_more none false r = refl
stated_more (some q) true r = sym (stated_first q (stated_by r))
stated_more (some q) false r = refl

-- the groups with one more field, of group d
abbrev grown : (ℕ → Option Reading) → ℕ → Reading → ℕ → Sum
grown f d r k = record { stated = cond (eqb d k) (first_of (stated_of (f k)) (stated_by r)) (stated_of (f k)) }

abbrev summed : (ℕ → Option Reading) → ℕ → Sum
summed f k = record { stated = stated_of (f k) }

same_ten : (f g : ℕ → Sum) → ((k : ℕ) → k < 10 → f k ≡ g k) → sums_as f ≡ sums_as g
same_ten f g h =
    rw (h 0 (omega arith), h 1 (omega arith), h 2 (omega arith), h 3 (omega arith), h 4 (omega arith), h 5 (omega arith), h 6 (omega arith), h 7 (omega arith), h 8 (omega arith), h 9 (omega arith))

not_grown : (f : ℕ → Option Reading) (d : ℕ) (r : Reading) → 10 ≤ d → (k : ℕ) → k < 10 → summed f k ≡ grown f d r k
not_grown f d r h k l = let e : eqb d k ≡ false = ne_eqb d k (λ q. omega arith) in rw e

-- a field of no group leaves them as they are
pub groups_same : (sums : Sums) (d : ℕ) (r : Reading) → 10 ≤ d → group_claims sums d r ≡ sums
unfolding group_claims
groups_same sums d r h = rw (le-leb 10 d h)

past_ten : (f : ℕ → Option Reading) (d : ℕ) (r : Reading) → 10 ≤ d → group_claims (sums_as (summed f)) d r ≡ sums_as (grown f d r)
past_ten f d r h = groups_same (sums_as (summed f)) d r h ∙ same_ten (summed f) (grown f d r) (not_grown f d r h)

groups_more : (f : ℕ → Option Reading) (d : ℕ) (r : Reading) → group_claims (sums_as (summed f)) d r ≡ sums_as (grown f d r)
unfolding group_claims
groups_more f zero r = refl
groups_more f (suc zero) r = refl
groups_more f (suc (suc zero)) r = refl
groups_more f (suc (suc (suc zero))) r = refl
groups_more f (suc (suc (suc (suc zero)))) r = refl
groups_more f (suc (suc (suc (suc (suc zero))))) r = refl
groups_more f (suc (suc (suc (suc (suc (suc zero)))))) r = refl
groups_more f (suc (suc (suc (suc (suc (suc (suc zero))))))) r = refl
groups_more f (suc (suc (suc (suc (suc (suc (suc (suc zero)))))))) r = refl
groups_more f (suc (suc (suc (suc (suc (suc (suc (suc (suc zero))))))))) r = refl
groups_more f (suc (suc (suc (suc (suc (suc (suc (suc (suc (suc n)))))))))) r = past_ten f (suc (suc (suc (suc (suc (suc (suc (suc (suc (suc n)))))))))) r (omega arith)

abbrev in_groups : List (Owned FieldRow) → ℕ → Option Reading
in_groups ups d = first_up (is_group d) ups

-- the claims with one more field, of identifier i
abbrev pub grown_claims : List (Owned FieldRow) → ℕ → Reading → Claims
grown_claims ups i r =
    record {
      kc = kc_of (or_else (first_up (is (named "KC")) ups) (if_there (eqb i (named "KC")) r));
      span = span_of (or_else (first_up (is (named "IN")) ups) (if_there (eqb i (named "IN")) r));
      sums = sums_as (λ d. record { stated = stated_of (or_else (in_groups ups d) (if_there (eqb (sum_group i) d) r)) });
    }

groups_are : (ups : List (Owned FieldRow)) (d : ℕ) (r : Reading)
    → sums_as (grown (in_groups ups) d r) ≡ sums_as (λ k. record { stated = stated_of (or_else (in_groups ups k) (if_there (eqb d k) r)) })
groups_are ups d r = same_ten _ _ (λ k h. ap (λ (t : First Statement). record { stated = t }) (sym (stated_more (in_groups ups k) (eqb d k) r)))

-- each part grows by itself
pub claim_at : (ups : List (Owned FieldRow)) (i : ℕ) (r : Reading) → let c = claims_of ups in
    claims_as (kc_own c.kc i r) (cond (eqb i (named "IN")) (first_of c.span (span_by r)) c.span) (group_claims c.sums (sum_group i) r) ≡ grown_claims ups i r
claim_at ups i r =
    λ j. claims_as (kc_more (first_up (is (named "KC")) ups) (eqb i (named "KC")) r j) (span_more (first_up (is (named "IN")) ups) (eqb i (named "IN")) r j)
    ((groups_more (in_groups ups) (sum_group i) r ∙ groups_are ups (sum_group i) r) j)
