-- The sheet: four turnovers for each participant, side by side in the order of the list.
use Rattle.std.specs.Prelude.{Option, Some, None, ℕ, zero, suc, ◌+◌, ◌*◌, Bool, true, false, ◌&&◌, ◌||◌, List, [], ◌∷◌, get_or, replicate, ℤ, pos, ◌+ℤ◌}
use Rattle.laws.specs.Tests.{among}
use Rattle.fields.specs.Kinds.{place}
use Rattle.sums.specs.Sums.{signed, beyond, plus_at}
use Rattle.turnovers.specs.declared.Move.{Move}

abbrev pub new_sheet : List ℤ
new_sheet = replicate 256 (pos 0)

-- the turnovers of one side of the first n places together
abbrev pub together : ℕ → ℕ → List ℤ → ℤ
together zero side ts = pos 0
together (suc n) side ts = together n side ts +ℤ get_or ts (4 * n + side) (pos 0)

module _ (codes : List ℕ) where
  -- where a participant's turnover stands
  abbrev pub cell : ℕ → ℕ → ℕ
  cell code side = 4 * place code codes + side

  abbrev pub is_listed : Move → Bool
  is_listed m = among m.payer.0 codes && among m.other.0 codes

  -- the sheet after a movement
  abbrev pub moved : List ℤ → Move → List ℤ
  moved ts m =
      plus_at (plus_at ts (cell m.payer.0 m.from) (signed m.minus m.amount))
      (cell m.other.0 m.to) (signed m.minus m.amount)

  -- the payer's turnover or the other's would pass the limit; they are never the same turnover, since one is a debit and one a credit
  abbrev pub goes_beyond : List ℤ → Move → Bool
  goes_beyond ts m =
      beyond (get_or ts (cell m.payer.0 m.from) (pos 0) +ℤ signed m.minus m.amount)
      || beyond (get_or ts (cell m.other.0 m.to) (pos 0) +ℤ signed m.minus m.amount)

  -- payer and beneficiary of every posted item are listed
  abbrev pub all_are_listed : List (Option Move) → Bool
  all_are_listed [] = true
  all_are_listed (None ∷ ps) = all_are_listed ps
  all_are_listed (Some m ∷ ps) = is_listed m && all_are_listed ps

  -- a turnover passes the limit after some item
  abbrev pub some_passes : List ℤ → List (Option Move) → Bool
  some_passes ts [] = false
  some_passes ts (None ∷ ps) = some_passes ts ps
  some_passes ts (Some m ∷ ps) = goes_beyond ts m || some_passes (moved ts m) ps

  -- the sheet after all
  abbrev pub after : List ℤ → List (Option Move) → List ℤ
  after ts [] = ts
  after ts (None ∷ ps) = after ts ps
  after ts (Some m ∷ ps) = after (moved ts m) ps
