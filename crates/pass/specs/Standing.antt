-- Model of the code, not part of the statement: what the pass holds between two lines, and what it means.
use Rattle.std.specs.Prelude.{ℕ, suc, ◌+◌, ◌-◌, ◌*◌, ◌≤◌, ◌<◌, ◌^◌, ◌≡◌, false, List, [], ◌∷◌, ◌++◌, length, take}
use Rattle.laws.specs.Lists.{any_of}
use Rattle.text.specs.Characters.{is_inadmissible}
use Rattle.headings.specs.declared.Heading.{Heading}
use Rattle.headings.specs.Reading.{heading_of}
use Rattle.fields.specs.declared.classes.Class.{Class}
use Rattle.fields.specs.Kinds.{kind_of}
use Rattle.fields.specs.Readings.{text_of, reading_of}
use Rattle.lines.specs.Lines.{Line, lines, taken, taken_by}
use Rattle.rules.specs.declared.First.TheVariants.{Missing}
use Rattle.rules.specs.Terms.{Terms}
use Rattle.rules.specs.Rows.{rows_from}
use Rattle.rules.specs.Tree.{tree}
use Rattle.rules.specs.Spots.{spots}
use Rattle.rules.specs.Faults.{Fault, faults_of}
use Rattle.ledger.specs.declared.Ledger.{Ledger}
use Rattle.ledger.specs.Slices.{Ready, Beside, Listed}
use Rattle.ledger.proofs.Entries.{put}
use Rattle.ledger.proofs.Book.{Book}
use Rattle.own_rules.specs.declared.Basis.{Basis}
use Rattle.own_rules.specs.Model.{basis_of}
use Rattle.account.specs.Summary.{summary}
use Rattle.items.specs.Claims.{Claims, claims_as, no_sums}
use Rattle.items.proofs.Ideal.{start, Pieces}
use Rattle.items.proofs.Order.{run}
use Rattle.judging.specs.declared.opening.Open.{Open}
use Rattle.judging.specs.Opening.{no_open, more_open, no_pend, read_as}
use Rattle.closing.specs.Closing.{no_wait}
use Rattle.judging.proofs.Meaning.{Means}
use Rattle.pass.specs.declared.Pass.{Pass}
use Rattle.shutting.specs.Starts.{Stands}

-- of some lines: where line n starts, and their faults. Of the lines of a body these are `offset_of` and `faults_in`
abbrev pub off_in : List Line → ℕ → ℕ
off_in ls n = taken_by (take (n - 1) ls)

abbrev pub faults_among : Terms → List Line → List Fault
faults_among terms ls = faults_of (spots terms (tree (rows_from 1 ls)))

-- what the open item's fields claim
abbrev pub claims_in : Pass → Claims
claims_in p = claims_as p.kc p.span p.stated

-- before the first line
abbrev pub fresh : Heading → Pass
fresh h = record {
  ledger = record { kept = 0; total = 0 };
  field = no_open;
  pend = no_pend;
  since = 0;
  top = 0;
  reads = false;
  heading = h;
  kc = Missing;
  span = Missing;
  stated = no_sums;
  block = summary [];
  wait = no_wait;
  starts = record { field = 0; head = 0; wait = 0 };
  n = 0;
}

-- ---- what it counts with, whatever it means

-- after lines of so many bytes
pub record Bounded (bytes : ℕ) (p : Pass) (ls rs ps : List ℕ) : Type 0 where
  pub few : p.n ≤ bytes
  pub ready : Ready p.ledger.kept ls rs
  pub level : length ls ≡ length ps
  pub small : p.ledger.total ≤ 256 * p.n
  pub calm : p.wait.marks < 2 ^ 41
  pub tail_few : p.field.tail ≤ p.n
  pub top_few : p.top ≤ 18

-- ---- what it means after some lines

-- the lines that are not entered yet start where it is kept, and each that is listed starts at the place beside it
pub record Placed (off : ℕ → ℕ) (ps₀ ls ps : List ℕ) (p : Pass) : Type 0 where
  pub at_field : off p.field.no ≡ p.starts.field
  pub stands : Stands off p.starts p.since p.wait.line
  pub beside : Beside off ps₀ p.ledger.kept ls ps

-- after the lines `past`, in slices that came as ls₀, rs₀ and ps₀: whatever lines come later, what is run of them from here on gives
-- what is run of all from the start on, and all that is kept stays where these lines start
pub record Standing (terms : Terms) (past : List Line) (ls₀ rs₀ ps₀ ls rs ps stood : List ℕ) (p : Pass) : Type 0 where
  pub pieces : Pieces
  pub all : List Fault
  pub counts : p.n ≡ length past
  pub means : Means terms pieces p.n p.field p.since p.top (read_as p.reads p.heading) (claims_in p) p.pend p.block p.wait stood
  pub book : Book all ls₀ rs₀ p.ledger ls rs
  pub level : length ls₀ ≡ length ps₀
  pub placed : (later : List Line) → Placed (off_in (past ++ later)) ps₀ ls ps p
  pub rest : (later : List Line) → run terms put pieces all (rows_from (suc p.n) later) ≡ run terms put start [] (rows_from 1 (past ++ later))

-- ---- one text more

-- m may be judged in place of the line l: nothing that is asked of it tells them apart
pub record Alike (l m : Line) : Type 0 where
  pub ended : l.ended ≡ m.ended
  pub kind : kind_of l.bytes ≡ kind_of m.bytes
  pub head : heading_of l.bytes ≡ heading_of m.bytes
  pub says : (c : Class) → reading_of c (text_of l.bytes) ≡ reading_of c (text_of m.bytes)
  pub clean : any_of is_inadmissible l.bytes ≡ any_of is_inadmissible m.bytes
  pub long : (o : Open) → more_open o (length l.bytes) ≡ more_open o (length m.bytes)

-- the lines ms, the first of which starts at `base`, are judged in place of those of `real`, one for one; these come after `past`, and
-- each starts where the one that is judged does
abbrev pub InPlace : ℕ → List Line → List Line → List Line → Type 0
InPlace base past [] [] = Unit {0}
InPlace base past [] (m ∷ ms) = ⊥
InPlace base past (l ∷ real) [] = ⊥
InPlace base past (l ∷ real) (m ∷ ms) = Alike l m × (taken_by past ≡ base) × InPlace (base + taken m) (past ++ (l ∷ [])) real ms

-- the lines of s were judged: whatever lines came before them, and whichever they were judged in place of
abbrev pub Fed : List ℕ → ℕ → Basis → List ℕ → List ℕ → List ℕ → List ℕ → Pass → List ℕ → List ℕ → List ℕ → List ℕ → Pass → Type 0
Fed s base j ls rs ps stood p ls' rs' ps' stood' p' =
    (terms : Terms) (past real : List Line) (ls₀ rs₀ ps₀ : List ℕ) → j ≡ basis_of terms → InPlace base past real (lines s)
    → Standing terms past ls₀ rs₀ ps₀ ls rs ps stood p → Standing terms (past ++ real) ls₀ rs₀ ps₀ ls' rs' ps' stood' p'

-- the file ended: the faults of all lines are listed, also where the last one is not ended
abbrev pub Finished : Basis → List ℕ → List ℕ → List ℕ → Pass → Ledger → List ℕ → List ℕ → List ℕ → Type 0
Finished j ls rs ps p g ls' rs' ps' =
    (terms : Terms) (past : List Line) (ls₀ rs₀ ps₀ stood : List ℕ) → j ≡ basis_of terms → Standing terms past ls₀ rs₀ ps₀ ls rs ps stood p
    → Listed (off_in past) (faults_among terms past) ls₀ rs₀ ps₀ g ls' rs' ps'
