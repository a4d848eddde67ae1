-- Model of the code, not part of the statement: texts in an array of 68 bytes, with zeros behind them.
use Rattle.std.specs.Prelude.{ℕ, min, Bool, true, false, cond, ◌&&◌, List, [], ◌∷◌, ◌++◌, length, take, replicate}
use Rattle.laws.specs.Lists.{put}
use Rattle.text.specs.Strings.{begins}
use Rattle.lines.specs.declared.Found.{Found}
use Rattle.lines.specs.Reading.{line_at}
use Rattle.joining.specs.declared.Text.{Text}
use Rattle.joining.specs.declared.Held.{Held}
use Rattle.joining.specs.declared.Joined.{Joined}
use Rattle.joining.specs.Short.{Kept, kept_text, added}

unfoldable pub padded : List ℕ → List ℕ
padded t = put (replicate 68 0) 0 t

abbrev pub as_text : List ℕ → Text
as_text t = record { text = padded t; len = length t }

abbrev pub as_held : Kept → Held
as_held k = record { text = padded k.text; len = length k.text; cr = k.cr }

-- what a record stands for, whatever it holds: a length over 65 counts as 65
unfoldable pub kept_in : Held → Kept
kept_in h = record { text = take (min 65 h.len) h.text; cr = h.cr }

-- a line that is kept, and CR LF
abbrev pub ended_text : Kept → List ℕ
ended_text k = kept_text k ++ (0x0d ∷ 0x0a ∷ [])

-- the line that is kept when s has come: what is kept of it now, where s goes on behind it, and whether CR LF ended it. A held CR and an LF
-- that comes first end it
pub record Join : Type 0 where
  pub line : Kept
  pub next : ℕ
  pub ended : Bool

unfoldable pub join_by : Kept → List ℕ → Found → Join
join_by k s f = record { line = added k (take f.end s); next = f.next; ended = f.ended }

unfoldable pub join_of : Kept → List ℕ → Join
join_of k s = cond (k.cr && begins s (0x0a ∷ [])) (record { line = record { text = k.text; cr = false }; next = 1; ended = true }) (join_by k s (line_at s 0))

abbrev pub as_joined : Join → Joined
as_joined g = record { held = as_held g.line; next = g.next; ended = g.ended }
