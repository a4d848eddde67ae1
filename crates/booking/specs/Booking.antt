-- Model of the code, not part of the statement: one walk over a file's items, what it finds, and the sheet so far, which counts only while
-- nothing is found.
use Rattle.std.specs.Prelude.{Option, Some, None, ℕ, ◌<◌, ◌≡◌, true, false, cond, not, List, ℤ}
use Rattle.turnovers.specs.declared.Move.{Move}
use Rattle.booking.specs.declared.Told.{Told}
use Rattle.booking.specs.Sheet.{is_listed, goes_beyond, moved, all_are_listed, some_passes, after}

-- two turnovers of different sides, and an amount of fifteen digits at most
pub record Sound (m : Move) : Type 0 where
  pub from : m.from < 4
  pub to : m.to < 4
  pub apart : m.from ≡ m.to → ⊥
  pub small : m.amount < 1000000000000000

abbrev pub SoundAt : Option Move → Type 0
SoundAt (Some m) = Sound m
SoundAt None = Unit {0}

module _ (codes : List ℕ) where
  -- what is found with a movement more
  unfoldable pub told : Told → List ℤ → Move → Told
  told t ts m =
      cond (is_listed codes m)
      (record { unlisted = t.unlisted; beyond = cond t.beyond true (goes_beyond codes ts m) })
      (record { unlisted = true; beyond = t.beyond })

  abbrev pub told_by : Told → List ℤ → Option Move → Told
  told_by t ts (Some m) = told t ts m
  told_by t ts None = t

  abbrev pub sheet_by : List ℤ → Option Move → List ℤ
  sheet_by ts (Some m) = moved codes ts m
  sheet_by ts None = ts

  -- the sheet after, where nothing is found
  abbrev pub Kept : List ℤ → Move → Told → List ℤ → Type 0
  Kept ts m r ts' = r.unlisted ≡ false → r.beyond ≡ false → ts' ≡ moved codes ts m

  abbrev pub KeptBy : List ℤ → Option Move → Told → List ℤ → Type 0
  KeptBy ts p r ts' = r.unlisted ≡ false → r.beyond ≡ false → ts' ≡ sheet_by ts p

  -- what a walk over all of a file's postings finds, and the sheet after, where nothing is found
  pub record Booked (ts : List ℤ) (ps : List (Option Move)) (r : Told) (ts' : List ℤ) : Type 0 where
    pub unlisted : r.unlisted ≡ not (all_are_listed codes ps)
    pub beyond : all_are_listed codes ps ≡ true → r.beyond ≡ some_passes codes ts ps
    pub sheet : all_are_listed codes ps ≡ true → some_passes codes ts ps ≡ false → ts' ≡ after codes ts ps
