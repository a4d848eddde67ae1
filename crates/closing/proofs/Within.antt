-- An Sd that reads has 7 digits for its count and 17 for its sum: what an item states is within the caps of the account.
use Prim.Native.Nat.{ℕ, zero, suc, ◌^◌, ◌<◌}
use mathlib.Core.Bool.{Bool, true, false, cond}
use mathlib.Core.Option.{Option, none, some}
use mathlib.Core.List.{List, [], ◌∷◌}
use lib.ListN.{drop}
use Rattle.text.specs.Digits.{is_digit}
use Rattle.figures.specs.Layouts.{run, fits, part}
use Rattle.figures.proofs.Runs.{run_value}
use Rattle.fields.specs.declared.classes.Class.{Class}
use Rattle.fields.specs.declared.classes.Class.TheVariants.{Money, Number, Range, Group, Account, Text, Free}
use Rattle.fields.specs.declared.readings.Reading.{Reading}
use Rattle.fields.specs.declared.readings.Reading.TheVariants.{Broken, Plain, Paid, Span, Stated, Party}
use Rattle.fields.specs.Classes.{class_of}
use Rattle.fields.specs.Readings.{text_of, layout_of, said_by, reading_of}
use Rattle.fields.specs.Tails.{takes, says_of}
use Rattle.rules.specs.Rows.{FieldRow}
use Rattle.rules.specs.Tree.{Item, Owned}
use Rattle.rules.specs.Said.{continuations, says, or_else, if_there, first_said, is_group, stated_of, digest}
use Rattle.account.proofs.Accounting.{Within, AllWithin}

abbrev Small : Reading → Type 0
Small Broken = Unit {0}
Small Plain = Unit {0}
Small (Paid a d) = Unit {0}
Small (Span a b) = Unit {0}
Small (Stated n a) = (n < 10 ^ 7) × (a.0 < 10 ^ 17)
Small (Party b) = Unit {0}

said_small : (k : Class) (s : List ℕ) → Small (said_by k (part 0 (layout_of k).own s) (part 1 (layout_of k).own s))
unfolding part
said_small Money s = tt
said_small Number s = tt
said_small Range s = tt
said_small Group s = (run_value 7 s, run_value 17 (drop 1 (drop (run is_digit 7 s) s)))
said_small Account s = tt
said_small Text s = tt
said_small Free s = tt

or_broken : (b : Bool) (r : Reading) → Small r → Small (cond b r Broken)
or_broken true r h = h
or_broken false r h = tt

says_small : (g : Owned FieldRow) → Small (says g)
unfolding says says_of reading_of
says_small g =
    let k : Class = class_of g.owner.ident in
    let s : List ℕ = text_of g.owner.row.bytes in
    or_broken (takes (layout_of k).more (continuations g.below)) (cond (fits (layout_of k).own s) (said_by k (part 0 (layout_of k).own s) (part 1 (layout_of k).own s)) Broken)
    (or_broken (fits (layout_of k).own s) (said_by k (part 0 (layout_of k).own s) (part 1 (layout_of k).own s)) (said_small k s))

abbrev SmallIf : Option Reading → Type 0
SmallIf none = Unit {0}
SmallIf (some r) = Small r

first_small : (p : ℕ → Bool) (gs : List (Owned FieldRow)) → SmallIf (first_said p gs)
unfolding first_said
first_small p [] = tt
first_small p (g ∷ gs) = go (p g.owner.ident) (first_small p gs)
  where
    go : (b : Bool) → SmallIf (first_said p gs) → SmallIf (or_else (if_there b (says g)) (first_said p gs))
    go true h = says_small g
    go false h = h

stated_within : (o : Option Reading) → SmallIf o → Within (stated_of o)
stated_within none h = tt
stated_within (some Broken) h = tt
stated_within (some Plain) h = tt
stated_within (some (Paid a d)) h = tt
stated_within (some (Span a b)) h = tt
stated_within (some (Stated n a)) h = h
stated_within (some (Party b)) h = tt

-- so does every Sd of an item
pub digest_within : (i : Item) → AllWithin (digest i).sums
unfolding digest
digest_within i = go
  where
    at : (d : ℕ) → Within (stated_of (first_said (is_group d) i.fields))
    at d = stated_within (first_said (is_group d) i.fields) (first_small (is_group d) i.fields)

    go : AllWithin (digest i).sums
    go zero = at 0
    go (suc zero) = at 1
    go (suc (suc zero)) = at 2
    go (suc (suc (suc zero))) = at 3
    go (suc (suc (suc (suc zero)))) = at 4
    go (suc (suc (suc (suc (suc zero))))) = at 5
    go (suc (suc (suc (suc (suc (suc zero)))))) = at 6
    go (suc (suc (suc (suc (suc (suc (suc zero))))))) = at 7
    go (suc (suc (suc (suc (suc (suc (suc (suc zero)))))))) = at 8
    go (suc (suc (suc (suc (suc (suc (suc (suc (suc zero))))))))) = at 9
    go (suc (suc (suc (suc (suc (suc (suc (suc (suc (suc d)))))))))) = tt
