-- Model of the code, not part of the statement: what is known of a body of which a part has come, and what it means.
use Rattle.std.specs.Prelude.{ℕ, ◌+◌, ◌≤◌, ◌≡◌, List, [], ◌++◌, length, replicate}
use Rattle.lines.specs.Lines.{Line, taken_by, offset_of}
use Rattle.rules.specs.Terms.{Terms}
use Rattle.rules.specs.Faults.{faults_in}
use Rattle.ledger.specs.declared.Ledger.{Ledger}
use Rattle.ledger.specs.Slices.{Listed}
use Rattle.own_rules.specs.declared.Basis.{Basis}
use Rattle.own_rules.specs.Model.{basis_of}
use Rattle.pass.specs.declared.Pass.{Pass}
use Rattle.pass.specs.Standing.{Bounded, Standing}
use Rattle.joining.specs.Whole.{whole, rest}
use Rattle.joining.specs.Short.{kept, kept_text}
use Rattle.joining.specs.Held.{kept_in}
use Rattle.going.specs.declared.Going.{Going}

-- what it counts with, whatever it means: no more is kept of the open line than came of it
pub record Sound (g : Going) (ls rs ps : List ℕ) : Type 0 where
  pub bounded : Bounded g.at g.pass ls rs ps
  pub came : g.at + length (kept_text (kept_in g.held)) ≤ g.came

-- the text t has come, in slices that came as ls₀, rs₀ and ps₀: its whole lines are judged, its rest is kept, and that begins behind them
pub record Reached (terms : Terms) (t ls₀ rs₀ ps₀ ls rs ps stood : List ℕ) (g : Going) : Type 0 where
  pub judged : Standing terms (whole t) ls₀ rs₀ ps₀ ls rs ps stood g.pass
  pub held : kept_in g.held ≡ kept (rest t)
  pub at : g.at ≡ taken_by (whole t)
  pub came : g.came ≡ length t

-- nothing has come yet
abbrev pub Begun : Going → Type 0
Begun g =
    (ls rs ps : List ℕ) → length ls ≡ length rs → length ls ≡ length ps
    → Sound g ls rs ps × ((terms : Terms) → Reached terms [] ls rs ps ls rs ps (replicate 1296 0) g)

-- a piece s came, whatever came before it
abbrev pub Gone : List ℕ → Basis → List ℕ → List ℕ → List ℕ → List ℕ → Going → List ℕ → List ℕ → List ℕ → List ℕ → Going → Type 0
Gone s j ls rs ps stood g ls' rs' ps' stood' g' =
    (terms : Terms) (t ls₀ rs₀ ps₀ : List ℕ) → j ≡ basis_of terms
    → Reached terms t ls₀ rs₀ ps₀ ls rs ps stood g → Reached terms (t ++ s) ls₀ rs₀ ps₀ ls' rs' ps' stood' g'

-- no more comes: the faults of the whole text are listed
abbrev pub Done : Basis → List ℕ → List ℕ → List ℕ → List ℕ → Going → Ledger → List ℕ → List ℕ → List ℕ → Type 0
Done j ls rs ps stood g r ls' rs' ps' =
    (terms : Terms) (t ls₀ rs₀ ps₀ : List ℕ) → j ≡ basis_of terms
    → Reached terms t ls₀ rs₀ ps₀ ls rs ps stood g → Listed (offset_of t) (faults_in terms t) ls₀ rs₀ ps₀ r ls' rs' ps'

-- ---- the steps

-- the whole lines of s were judged behind some lines, and its rest is kept; s begins at `base`
pub record Judged (s : List ℕ) (base : ℕ) (j : Basis) (ls rs ps stood : List ℕ) (p : Pass) (ls' rs' ps' stood' : List ℕ) (g : Going) : Type 0 where
  pub stands : (terms : Terms) (past : List Line) (ls₀ rs₀ ps₀ : List ℕ) → j ≡ basis_of terms → taken_by past ≡ base
      → Standing terms past ls₀ rs₀ ps₀ ls rs ps stood p → Standing terms (past ++ whole s) ls₀ rs₀ ps₀ ls' rs' ps' stood' g.pass
  pub held : kept_in g.held ≡ kept (rest s)
  pub at : g.at ≡ base + taken_by (whole s)
  pub came : g.came ≡ base + length s
