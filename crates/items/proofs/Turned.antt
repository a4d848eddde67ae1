-- What is read in line order, taken from the open pieces, which have the nearest first.
use mathlib.Core.Path.{◌≡◌, refl, sym, ◌∙◌}
use mathlib.Core.Bool.{Bool, true, false, cond, ◌&&◌, ◌||◌, or-false}
use mathlib.Core.Option.{Option, none, some}
use mathlib.Core.List.{List, [], ◌∷◌, reverse_aux}
use Prim.Native.Nat.{ℕ, ◌+◌}
use native.Mathlib.Nat.{zero-add, add-zero}
use native.Mathlib.Omega.{arith}
use lib.ListN.{length}
use Rattle.figures.specs.Layouts.{Part, fits}
use Rattle.fields.specs.declared.readings.Reading.{Reading}
use Rattle.fields.specs.Classes.{class_of}
use Rattle.fields.specs.Readings.{text_of, reading_of, if_fits}
use Rattle.fields.specs.Tails.{all_fit}
use Rattle.fields.specs.Kept.{tail_of, takes_by}
use Rattle.fields.proofs.Kept.{same_tail}
use Rattle.fields.proofs.Kept.{says as said-with}
use Rattle.rules.specs.Rows.{FieldRow, LowRow}
use Rattle.rules.specs.Tree.{Owned}
use Rattle.rules.specs.Said.{continuations, says, continued, or_else, if_there, first_said}
use Rattle.items.proofs.Ideal.{closed}

or_turn : (a b c : Bool) → (b || (a || c)) ≡ ((a || b) || c)
or_turn true true c = refl
or_turn true false c = refl
or_turn false true c = refl
or_turn false false c = refl

and_turn : (a b c : Bool) → (b && (a && c)) ≡ ((a && b) && c)
and_turn true true c = refl
and_turn true false c = refl
and_turn false true c = refl
and_turn false false c = refl

and-true : (b : Bool) → (b && true) ≡ b
and-true true = refl
and-true false = refl

-- ---- a continuation among lines
continued_turn : (ls ms : List LowRow) → continued (reverse_aux ls ms) ≡ (continued ls || continued ms)
unfolding continued
continued_turn [] ms = refl
continued_turn (l ∷ ls) ms = continued_turn ls (l ∷ ms) ∙ or_turn l.continues (continued ls) (continued ms)

pub continued_closed : (ls : List LowRow) → continued (reverse_aux ls []) ≡ continued ls
unfolding continued
continued_closed ls = continued_turn ls [] ∙ or-false (continued ls)

-- ---- the tail
count_turn : (ls ms : List LowRow) → length (continuations (reverse_aux ls ms)) ≡ length (continuations ls) + length (continuations ms)
unfolding continuations
count_turn [] ms = sym (zero-add (length (continuations ms)))
count_turn (l ∷ ls) ms = count_turn ls (l ∷ ms) ∙ go l.continues
  where
    go : (t : Bool) → length (continuations ls) + length (cond t (l.row.bytes ∷ continuations ms) (continuations ms))
        ≡ length (cond t (l.row.bytes ∷ continuations ls) (continuations ls)) + length (continuations ms)
    go true = omega arith
    go false = refl

fit_turn : (ps : List Part) (ls ms : List LowRow) → all_fit ps (continuations (reverse_aux ls ms)) ≡ (all_fit ps (continuations ls) && all_fit ps (continuations ms))
unfolding continuations all_fit
fit_turn ps [] ms = refl
fit_turn ps (l ∷ ls) ms = fit_turn ps ls (l ∷ ms) ∙ go l.continues
  where
    go : (t : Bool) → (all_fit ps (continuations ls) && all_fit ps (cond t (l.row.bytes ∷ continuations ms) (continuations ms)))
        ≡ (all_fit ps (cond t (l.row.bytes ∷ continuations ls) (continuations ls)) && all_fit ps (continuations ms))
    go true = and_turn (fits ps (text_of l.row.bytes)) (all_fit ps (continuations ls)) (all_fit ps (continuations ms))
    go false = refl

pub tail_closed : (ls : List LowRow) → tail_of (continuations (reverse_aux ls [])) ≡ tail_of (continuations ls)
unfolding tail_of continuations all_fit
tail_closed ls =
    let n : length (continuations (reverse_aux ls [])) ≡ length (continuations ls) = count_turn ls [] ∙ add-zero (length (continuations ls)) in
    same_tail (rw n) (fit_turn _ ls [] ∙ and-true _)

-- what the open field says once it closes
pub says_closed : (x : FieldRow) (ls : List LowRow)
    → if_fits (takes_by (class_of x.ident) (tail_of (continuations ls))) (reading_of (class_of x.ident) (text_of x.row.bytes)) ≡ says (closed x ls)
unfolding says
says_closed x ls =
    rw (← tail_closed ls) (said-with (class_of x.ident) x.row.bytes (continuations (reverse_aux ls [])))

-- ---- the first fields
-- the first from the nearest upwards
unfoldable pub first_up : (ℕ → Bool) → List (Owned FieldRow) → Option Reading
first_up p [] = none
first_up p (g ∷ ups) = or_else (first_up p ups) (if_there (p g.owner.ident) (says g))

else_assoc : (a b c : Option Reading) → or_else a (or_else b c) ≡ or_else (or_else a b) c
else_assoc none b c = refl
else_assoc (some r) b c = refl

else_none : (o : Option Reading) → or_else o none ≡ o
else_none none = refl
else_none (some r) = refl

first_turn : (p : ℕ → Bool) (ups gs : List (Owned FieldRow)) → first_said p (reverse_aux ups gs) ≡ or_else (first_up p ups) (first_said p gs)
unfolding first_up first_said
first_turn p [] gs = refl
first_turn p (g ∷ ups) gs = first_turn p ups (g ∷ gs) ∙ else_assoc (first_up p ups) (if_there (p g.owner.ident) (says g)) (first_said p gs)

pub first_closed : (p : ℕ → Bool) (ups : List (Owned FieldRow)) → first_said p (reverse_aux ups []) ≡ first_up p ups
unfolding first_said
first_closed p ups = first_turn p ups [] ∙ else_none (first_up p ups)
