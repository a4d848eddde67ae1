-- Two numbers that were found at a text's start: how long they are, and what they stand for.
use Rattle.std.proofs.Common.{◌≡◌, ℕ, ◌+◌, ◌-◌, ◌^◌, ◌<◌, Bool, true, false, ◌&&◌, leb, List, take, drop, sym, ap, ◌∙◌, arith}
use Rattle.std.specs.Prelude.{Some, None}
use Rattle.std.proofs.lemmas.Option.{none-some, cond_some}
use Rattle.laws.proofs.Truth.{never_true}
use Rattle.text.specs.Digits.{is_digit, value}
use Rattle.number_reader.specs.declared.Two.{Two}
use Rattle.figures.specs.Layouts.{run, head_is}
use Rattle.number_reader.specs.Numbers.{two_of}
use Rattle.figures.proofs.Runs.{run_value}

module _ (l₁ h₁ l₂ h₂ : ℕ) (t : List ℕ) where
  -- how long the first is, and the second
  abbrev pub n₁ : ℕ
  n₁ = run is_digit h₁ t

  abbrev pub n₂ : ℕ
  n₂ = run is_digit h₂ (drop (n₁ + 1) t)

  abbrev pub tests : Bool
  tests = leb l₁ n₁ && (head_is 32 (drop n₁ t) && leb l₂ n₂)

  abbrev both : Two
  both = record { first = value (take n₁ t); mid = n₁; second = value (take n₂ (drop (n₁ + 1) t)); end = n₁ + 1 + n₂ }

  pub not_found : two_of l₁ h₁ l₂ h₂ t ≡ None → tests ≡ false
  unfolding two_of
  not_found e = never_true tests (λ d. none-some both (sym e ∙ rw d))

  module _ (x : Two) (e : two_of l₁ h₁ l₂ h₂ t ≡ Some x) where
    abbrev pub Known : Type 0
    Known = (tests ≡ true) × (x.mid ≡ n₁) × (x.first ≡ value (take n₁ t)) × (x.second ≡ value (take n₂ (drop (n₁ + 1) t))) × (x.end ≡ n₁ + 1 + n₂)

    pub known : Known
    unfolding two_of
    known =
        let k = cond_some tests both x e in
        let q = sym k.1 in
        (k.0, ap (λ (r : Two). r.mid) q, ap (λ (r : Two). r.first) q, ap (λ (r : Two). r.second) q, ap (λ (r : Two). r.end) q)

    -- how long the second is
    pub size : n₂ ≡ x.end - (x.mid + 1)
    size = omega (arith, known.1, known.4)

    pub first_lt : x.first < 10 ^ h₁
    first_lt = rw known.2 (run_value h₁ t)

    pub second_lt : x.second < 10 ^ h₂
    second_lt = rw known.3 (run_value h₂ (drop (n₁ + 1) t))

    pub first_is : x.first ≡ value (take x.mid t)
    first_is = rw known.1 known.2

    pub second_is : x.second ≡ value (take (x.end - (x.mid + 1)) (drop (x.mid + 1) t))
    second_is = rw (← size, known.1) known.3
