-- Model of the code, not part of the statement: where the headings start that are not entered yet.
use Rattle.std.specs.Prelude.{ℕ, ◌≡◌, cond, eqb}
use Rattle.shutting.specs.declared.Starts.{Starts}

-- the line of the open heading and of the one that waits start where it is kept; line 0, which is none, at 0
pub record Stands (off : ℕ → ℕ) (s : Starts) (head wait : ℕ) : Type 0 where
  pub none : off 0 ≡ 0
  pub at_head : off head ≡ s.head
  pub at_wait : off wait ≡ s.wait

-- the line that waits then starts at a place
abbrev pub WaitsAt : Starts → ℕ → ℕ → ℕ → ℕ → Type 0
WaitsAt s head wait line start = (off : ℕ → ℕ) → Stands off s head wait → off line ≡ start

-- .. as the code finds it: none waits, or the open heading, or the one that did
abbrev pub start_of : Starts → ℕ → ℕ → ℕ
start_of s line head = cond (eqb line 0) 0 (cond (eqb line head) s.head s.wait)
