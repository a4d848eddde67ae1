-- The third slice: it is moved as the lines are, so what stands in it stays a function of them.
use mathlib.Core.Path.{◌≡◌, refl, sym, ap, ◌∙◌}
use mathlib.Core.List.{List, [], ◌∷◌, ◌++◌, map, map-append}
use Prim.Native.Nat.{ℕ, zero, suc, ◌+◌, ◌-◌, ◌≤◌, ◌<◌, min}
use native.Mathlib.Omega.{arith}
use lib.ListN.{length, take, drop}
use lib.Seq.{take-take}
use Rattle.ledger.specs.Slices.{opened, Beside, Kept}
use Rattle.ledger.proofs.Opening.{take_opened, drop_opened, length_opened}
use Rattle.ledger.proofs.Putting.{drop_take, after}

module _ {A : Type 0} (f : A → ℕ) where
  pub map_take : (n : ℕ) (l : List A) → map f (take n l) ≡ take n (map f l)
  map_take zero l = refl
  map_take (suc n) [] = refl
  map_take (suc n) (x ∷ l) = ap (λ (t : List ℕ). f x ∷ t) (map_take n l)

  map_drop : (n : ℕ) (l : List A) → map f (drop n l) ≡ drop n (map f l)
  map_drop zero l = refl
  map_drop (suc n) [] = refl
  map_drop (suc n) (x ∷ l) = map_drop n l

-- nothing is held
pub beside_start : {off : ℕ → ℕ} {ls ps : List ℕ} → Beside off ps 0 ls ps
beside_start = record { first = refl; after = refl; long = refl }

-- a place opened in both
pub kept_room : {n p last line at : ℕ} {ls ps ls' ps' : List ℕ} → length ls ≡ length ps → n ≤ length ls → p ≤ n → (p ≡ length ls → ⊥) → last ≡ min n (length ls - 1)
    → ls' ≡ opened p last line ls → ps' ≡ opened p last at ps → Kept (λ (off : ℕ → ℕ). off line ≡ at) n ls ps (last + 1) ls' ps'
kept_room {n} {p} {last} {line} {at} {ls} {ps} {ls'} {ps'} same room h ne e el ep off ps₀ eo B =
    let one : last + 1 ≡ suc last = omega arith in
    let hp : p ≤ last = omega arith in
    let fl : last < length ls = omega arith in
    let fp : last < length ps = omega arith in
    let front : take p ps ≡ map off (take p ls) = shorter p h in
    let back : take (last - p) (drop p ps) ≡ map off (take (last - p) (drop p ls)) =
    sym (drop_take p last ps) ∙ ap (drop p) (shorter last (omega arith)) ∙ sym (map_drop off p (take last ls)) ∙ ap (map off) (drop_take p last ls) in
    record {
      first = ap (λ (m : ℕ). take m ps') one ∙ ap (take (suc last)) ep ∙ take_opened p last at ps hp fp
          ∙ (λ i. front i ++ (sym eo i ∷ back i))
          ∙ sym (map-append off (take p ls) (line ∷ take (last - p) (drop p ls)))
          ∙ ap (map off) (sym (ap (λ (m : ℕ). take m ls') one ∙ ap (take (suc last)) el ∙ take_opened p last line ls hp fl));
      after = ap (λ (m : ℕ). drop m ps') one ∙ ap (drop (suc last)) ep ∙ drop_opened p last at ps hp fp
          ∙ after n (suc last) ps ps₀ (omega arith) B.after ∙ ap (λ (m : ℕ). drop m ps₀) (sym one);
      long = ap length ep ∙ length_opened p last at ps hp fp ∙ B.long;
    }
  where
    shorter : (m : ℕ) → m ≤ n → take m ps ≡ map off (take m ls)
    shorter m k = sym (take-take m n ps k) ∙ ap (take m) B.first ∙ sym (map_take off m (take n ls)) ∙ ap (map off) (take-take m n ls k)
