-- Two parts with a space between, weighed: whether two numbers stand there, and what the parts are as halves of an account.
use mathlib.Core.Path.{◌≡◌, refl, sym}
use mathlib.Core.List.{List}
use Prim.Native.Nat.{ℕ, ◌+◌, ◌-◌, ◌%◌, ◌≤◌, ◌<◌, zero-le}
use native.Mathlib.Omega.{arith}
use lib.ListN.{length, take, drop, get_or}
use lib.Dec.{eqb}
use Rattle.text.specs.Digits.{is_digit, value}
use Rattle.number_reader.specs.declared.Run.{Run}
use Rattle.std.specs.Prelude.{Some, None}
use Rattle.figures.specs.declared.parts.Weighed.{Weighed}
use Rattle.figures.specs.declared.parts.Halves.{Halves}
use Rattle.figures.specs.Layouts.{run}
use Rattle.number_reader.specs.Numbers.{number_at, two_of}
use Rattle.figures.specs.Parts.{weighed_at}
use Rattle.figures.specs.Accounts.{number_by, halves_of}
use Rattle.number_reader.proofs.Scanning.{same_run}
use Rattle.number_reader.proofs.Pairs.{ended, other, few, found}
use Rattle.figures.proofs.Reading.{end_is, passes_is, zero_is}

-- the number of a part, which ends where the part does
abbrev pub number : ℕ → List ℕ → ℕ → ℕ
number k t at = value (take (run is_digit k (drop at t)) (drop at t))

abbrev run_of : ℕ → List ℕ → ℕ → Weighed → Run
run_of k t at w = record { value = number k t at; end = w.end }

run_is : (k : ℕ) (t : List ℕ) (at : ℕ) {w : Weighed} → w ≡ weighed_at k t at → run_of k t at w ≡ number_at k t at
run_is k t at e = same_run refl (end_is k t at e)

module _ (h₁ h₂ : ℕ) (t : List ℕ) {a : Weighed} (ea : a ≡ weighed_at h₁ t 0) where
  pub none_after : length t ≤ a.end → two_of 0 h₁ 1 h₂ t ≡ None
  none_after h = sym (ended t 0 h₁ 1 h₂ (run_of h₁ t 0 a) (run_is h₁ t 0 ea) h)

  module _ (h : a.end < length t) where
    pub no_space : (get_or t a.end 0 ≡ 32 → ⊥) → two_of 0 h₁ 1 h₂ t ≡ None
    no_space n = sym (other t 0 h₁ 1 h₂ (run_of h₁ t 0 a) (run_is h₁ t 0 ea) h n)

    module _ {b : Weighed} (eb : b ≡ weighed_at h₂ t (a.end + 1)) where
      pub no_digit : b.end < a.end + 2 → two_of 0 h₁ 1 h₂ t ≡ None
      no_digit g = sym (few t 0 h₁ 1 h₂ (run_of h₁ t 0 a) (run_is h₁ t 0 ea) h (run_of h₂ t (a.end + 1) b) (run_is h₂ t (a.end + 1) eb) (omega arith))

      module _ (g : a.end + 2 ≤ b.end) where
        pub both : get_or t a.end 0 ≡ 32 → two_of 0 h₁ 1 h₂ t ≡ Some (record { first = number h₁ t 0; mid = a.end; second = number h₂ t (a.end + 1); end = b.end })
        both e =
            sym (found t 0 h₁ 1 h₂ (run_of h₁ t 0 a) (run_is h₁ t 0 ea) h (run_of h₂ t (a.end + 1) b) (run_is h₂ t (a.end + 1) eb) zero-le e (omega arith) (omega arith))

        pub halves : ◌≡◌ {A = Halves} (record { prefix = eqb (a.sum % 11) 0; number = number_by (eqb b.any 0) (eqb (b.sum % 11) 0) })
            (halves_of (take a.end t) (take (b.end - (a.end + 1)) (drop (a.end + 1) t)))
        unfolding halves_of
        halves =
            let n : a.end ≡ run is_digit h₁ t = omega (arith, end_is h₁ t 0 ea) in
            let m : b.end - (a.end + 1) ≡ run is_digit h₂ (drop (a.end + 1) t) = omega (arith, end_is h₂ t (a.end + 1) eb) in
            rw (passes_is h₁ t 0 ea, zero_is h₂ t (a.end + 1) eb, passes_is h₂ t (a.end + 1) eb, m, ← n)
