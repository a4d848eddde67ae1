-- What a C host is answered and finds behind its pointers after a call, each call's whole promise one record.
use Rattle.std.specs.Prelude.{ℕ, ◌≡◌, List, ℤ}
use Rattle.laws.specs.Refusals.{first}
use Rattle.sheet.specs.Posting.{open_refusals, opened, post_refusals, posted}

-- certis_sheet_open: the refusal or 0, and the 256 turnovers
pub record OpenedAt (codes : List ℕ) (before : List ℤ) (r : ℕ) (after : List ℤ) : Type 0 where
  pub number : r ≡ first (open_refusals codes)
  pub turnovers : after ≡ opened codes before

-- certis_sheet_post: the refusal or 0, and the 256 turnovers
pub record PostedAt (codes : List ℕ) (before : List ℤ) (file : List ℕ) (code day r : ℕ) (after : List ℤ) : Type 0 where
  pub number : r ≡ first (post_refusals codes before file code day)
  pub turnovers : after ≡ posted codes before file code day
