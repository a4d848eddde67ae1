-- Ranges given by their first and last keys, as the writer takes them.
use mathlib.Core.Path.{◌≡◌, refl}
use mathlib.Core.List.{List, [], ◌∷◌}
use Prim.Native.Nat.{ℕ, ◌/◌, ◌%◌, ◌≤◌}
use native.Mathlib.Omega.{arith}
use Rattle.register.specs.Register.{Range}
use Rattle.register.specs.Spans.{day_key, spans_of, froms, tos, ranges_of, Sound}

day_back : (d n : ℕ) → n ≤ 9999999 → day_key d n / 10000000 ≡ d
day_back d n h = omega arith

number_back : (d n : ℕ) → n ≤ 9999999 → day_key d n % 10000000 ≡ n
number_back d n h = omega arith

-- ranges made of the keys of ranges are these ranges
pub ranges_back : (rs : List Range) → Sound rs → ranges_of (froms (spans_of rs)) (tos (spans_of rs)) ≡ rs
ranges_back [] S = refl
ranges_back (r ∷ rs) S =
    let f : r.first ≤ 9999999 = omega (arith, S.1, S.2) in
    let d = day_back r.day r.first f in
    let a = number_back r.day r.first f in
    let b = number_back r.day r.last S.2 in
    let t = ranges_back rs S.3 in
    λ i. record { day = d i; first = a i; last = b i } ∷ t i
