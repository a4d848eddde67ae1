-- Files that arrive slowly (document 02, A5): what a state holds. What opening, a portion and closing answer and leave is said by this.
use Rattle.std.specs.Prelude.{ℕ, ◌≤◌, min, ◌≡◌, true, false, List, length}
use Rattle.lines.specs.Lines.{has_mark, body}
use Rattle.rules.specs.Terms.{is_code, is_accounting_day, input}
use Rattle.going.specs.declared.Going.{Going}
use Rattle.going.specs.Reached.{Reached}
use Rattle.portions.specs.declared.Portions.{Portions}
use Rattle.portions.specs.Usable.{is_open}

-- room for 256, in each of three lists
abbrev pub Rooms : List ℕ → List ℕ → List ℕ → Type 0
Rooms os qs ts = (length os ≡ 256) × (length qs ≡ 256) × (length ts ≡ 256)

-- of a file that is not too long: the bytes before its end mark were read, into arrays of 256 that came as these
pub record HasRead (code day : ℕ) (file ls rs ps stood : List ℕ) (g : Going) : Type 0 where
  pub lines_came : List ℕ
  pub rules_came : List ℕ
  pub offsets_came : List ℕ
  pub rooms : Rooms lines_came rules_came offsets_came
  pub reached : Reached (input code day) (body file) lines_came rules_came offsets_came ls rs ps stood g

-- it is open for a code and a day, and these bytes came, the first byte of the file first. Too long a file is only counted
pub record Holds (code day : ℕ) (file : List ℕ) (p : Portions) (ls rs ps stood : List ℕ) : Type 0 where
  pub usable : is_open p ls rs ps ≡ true
  pub good : (is_code code ≡ true) × (is_accounting_day day ≡ true)
  pub terms : (p.code ≡ code) × (p.day ≡ day)
  pub bytes : p.bytes ≡ min 10000001 (length file)
  pub seen : length file ≤ 10000000 → p.seen ≡ has_mark file
  pub read : length file ≤ 10000000 → HasRead code day file ls rs ps stood p.going

-- the same with no more to come
abbrev pub shut_of : Portions → Portions
shut_of p = record { going = p.going; code = p.code; day = p.day; bytes = p.bytes; seen = p.seen; takes = false }
