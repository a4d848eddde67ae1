-- What stands behind a pointer after a call.
use Rattle.std.specs.Prelude.{ℕ, cond, eqb}

-- 'A refusal returns its number, no total, and changes no lent byte': a value, or on a refusal what stood there
abbrev pub stored_at : ℕ → ℕ → ℕ → ℕ
stored_at refusal value before = cond (eqb refusal 0) value before
