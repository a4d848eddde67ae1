-- Model of the code, not part of the statement: what the steps of entering answer for the numbers of an accepted file, and for their keys
-- in order.
use Rattle.std.specs.Prelude.{ℕ, ◌-◌, List, [], ◌∷◌, ltb, length, drop, Result}
use Rattle.laws.specs.Refusals.{Refusal, ◌if◌}
use Rattle.register.specs.Register.{Register, size_of}
use Rattle.register.specs.Entering.{Use, entered}
use Rattle.register.specs.Spans.{Span, froms, tos, ranges_of}
use Rattle.adding.specs.declared.EnterError.{EnterError}
use Rattle.merging.specs.Merging.{weave, hits, closed}
use Rattle.adding.specs.Answers.{uses_refusals, Answers}

-- of keys in order and the spans that stay: the first of the spans closed up is that of 0
module _ (ss : List Span) (keys : List ℕ) where
  abbrev pub closed_up : List Span
  closed_up = closed 0 0 (weave ss keys)

  abbrev pub keys_refusals : ℕ → List Refusal
  keys_refusals room =
      (27 if hits 0 (weave ss keys)) ∷ (28 if ltb 1025 (length closed_up)) ∷ (29 if ltb room (size_of (length closed_up - 1))) ∷ []

  abbrev pub keys_register : ℕ → ℕ → Register
  keys_register code day = record { code = code; latest = day; ranges = ranges_of (froms (drop 1 closed_up)) (tos (drop 1 closed_up)) }

  abbrev pub EntersKeys : ℕ → ℕ → List ℕ → Result ℕ EnterError → List ℕ → Type 0
  EntersKeys code day before r after = Answers (keys_refusals (length before)) (keys_register code day) before r after

-- of the numbers that an accepted file uses
abbrev pub EntersUses : Register → List Use → ℕ → ℕ → List ℕ → Result ℕ EnterError → List ℕ → Type 0
EntersUses g us code day before r after = Answers (uses_refusals g us day (length before)) (record { code = code; latest = day; ranges = (entered g day us).ranges }) before r after
