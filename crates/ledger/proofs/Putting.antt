-- Putting in one fault, the laws of `keep`; nothing put in; and one list after the other.
use mathlib.Core.Path.{◌≡◌, refl, sym, ap, ◌∙◌}
use mathlib.Core.List.{List, [], ◌∷◌, ◌++◌}
use Prim.Native.Nat.{ℕ, zero, suc, ◌+◌, ◌-◌, ◌≤◌, ◌<◌, min}
use native.Mathlib.Nat.{zero-min, min-zero, suc-min-suc}
use native.Mathlib.Omega.{arith}
use lib.ListN.{length, take, drop, length-take, length-append}
use lib.Seq.{take_all, take_at, take-append-add, take-take, take-nil, drop-drop, length-take-le}
use Rattle.rules.specs.Faults.{Fault}
use Rattle.ledger.specs.Marks.{insert, insert_all}
use Rattle.ledger.specs.Slices.{pairs, held, opened, Ready, Put}
use Rattle.ledger.proofs.Insertion.{take_insert_all, insert_all_append, ordered_insert, ordered_take}
use Rattle.ledger.proofs.Pairs.{pairs_length, pairs_opened, held_length}
use Rattle.ledger.proofs.Opening.{take_opened, drop_opened, length_opened}
use Rattle.ledger.proofs.Placing.{Placed}

take_min : (m n : ℕ) (l : List Fault) → take m (take n l) ≡ take (min m n) l
take_min zero n l = rw zero-min
take_min (suc m) zero l = rw min-zero
take_min (suc m) (suc n) [] = rw suc-min-suc
take_min (suc m) (suc n) (a ∷ l) = rw suc-min-suc (ap (λ (t : List Fault). a ∷ t) (take_min m n l))

pub drop_take : {A : Type 0} (p n : ℕ) (l : List A) → drop p (take n l) ≡ take (n - p) (drop p l)
drop_take zero n l = let e : n - 0 ≡ n = omega arith in rw e
drop_take (suc p) zero l = let e : 0 - suc p ≡ 0 = omega arith in rw e
drop_take (suc p) (suc n) [] = sym (take-nil (suc n - suc p))
drop_take (suc p) (suc n) (a ∷ l) = let e : suc n - suc p ≡ n - p = omega arith in rw e (drop_take p n l)

-- ---- one fault

-- its place is past the room
pub keep_full : {n : ℕ} {ls rs : List ℕ} {x : Fault} {p : ℕ} → Ready n ls rs → p ≤ n → p ≡ length ls → Placed n ls rs x p → Put (x ∷ []) n ls rs n ls rs
unfolding insert_all
keep_full {n} {ls} {rs} {x} {p} R h e s =
    let H : List Fault = held n ls rs in
    let lh : length H ≡ n = held_length n ls rs R in
    let lp : length (take p H) ≡ length ls = omega (arith, length-take p H, R.room) in
    record {
      holds = sym (ap (take (length ls)) s ∙ take_at (take p H) (x ∷ drop p H) (length ls) lp ∙ take_all p H (omega (arith, R.room)));
      count = omega (arith, R.room);
      lines_after = refl;
      rules_after = refl;
      lines_long = refl;
      rules_long = refl;
      ready = R;
    }

-- the first `room` of the faults with x put in at p
fitting : (room n p last : ℕ) (x : Fault) (Z : List Fault) → p ≤ n → n ≤ length Z → p < room → last ≡ min n (room - 1)
    → take room (take p (take n Z) ++ (x ∷ drop p (take n Z))) ≡ take p Z ++ (x ∷ take (last - p) (drop p Z))
fitting room n p last x Z h k g e =
    let lp : length (take p Z) ≡ p = length-take-le p Z (omega arith) in
    let er : room ≡ length (take p Z) + suc (room - 1 - p) = omega arith in
    let em : min (room - 1 - p) (n - p) ≡ last - p = omega arith in
    ap (λ (t : List Fault). take room (t ++ (x ∷ drop p (take n Z)))) (take-take p n Z h)
    ∙ ap (λ (t : List Fault). take room (take p Z ++ (x ∷ t))) (drop_take p n Z)
    ∙ ap (λ (m : ℕ). take m (take p Z ++ (x ∷ take (n - p) (drop p Z)))) er
    ∙ take-append-add (take p Z) (x ∷ take (n - p) (drop p Z)) (suc (room - 1 - p))
    ∙ ap (λ (t : List Fault). take p Z ++ (x ∷ t)) (take_min (room - 1 - p) (n - p) (drop p Z) ∙ ap (λ (m : ℕ). take m (drop p Z)) em)

-- its place is in the room
pub keep_room : {n : ℕ} {ls rs : List ℕ} {x : Fault} {p last : ℕ} {ls' rs' : List ℕ} → Ready n ls rs → p ≤ n → (p ≡ length ls → ⊥) → Placed n ls rs x p → last ≡ min n (length ls - 1)
    → ls' ≡ opened p last x.line ls → rs' ≡ opened p last x.rule rs → Put (x ∷ []) n ls rs (last + 1) ls' rs'
unfolding insert_all
keep_room {n} {ls} {rs} {x} {p} {last} {ls'} {rs'} R h ne s e el er =
    let Z : List Fault = pairs ls rs in
    let lz : length Z ≡ length ls = pairs_length ls rs R.same in
    let room : n ≤ length ls = R.room in
    let same : length ls ≡ length rs = R.same in
    let hp : p ≤ last = omega arith in
    let one : last + 1 ≡ suc last = omega arith in
    let ll : length ls' ≡ length ls = ap length el ∙ length_opened p last x.line ls hp (omega arith) in
    let lr : length rs' ≡ length rs = ap length er ∙ length_opened p last x.rule rs hp (omega arith) in
    let now : held (last + 1) ls' rs' ≡ take (length ls) (insert x (held n ls rs)) =
    ap (λ (m : ℕ). take m (pairs ls' rs')) one ∙ ap (take (suc last)) ((λ i. pairs (el i) (er i)) ∙ pairs_opened p last x.line x.rule ls rs same)
    ∙ take_opened p last x Z hp (omega arith) ∙ sym (fitting (length ls) n p last x Z h (omega arith) (omega arith) e) ∙ ap (take (length ls)) (sym s) in
    record {
      holds = now;
      count = omega arith;
      lines_after = ap (λ (m : ℕ). drop m ls') one ∙ ap (drop (suc last)) el ∙ drop_opened p last x.line ls hp (omega arith) ∙ ap (λ (m : ℕ). drop m ls) (sym one);
      rules_after = ap (λ (m : ℕ). drop m rs') one ∙ ap (drop (suc last)) er ∙ drop_opened p last x.rule rs hp (omega arith) ∙ ap (λ (m : ℕ). drop m rs) (sym one);
      lines_long = ll;
      rules_long = lr;
      ready = record {
        room = omega arith;
        same = ll ∙ same ∙ sym lr;
        order = rw now (ordered_take 0 (length ls) (insert x (held n ls rs)) (ordered_insert 0 x (held n ls rs) R.order (omega arith)));
      };
    }

-- ---- none, and one list after the other

-- nothing put in
pub put_none : (n : ℕ) (ls rs : List ℕ) → Ready n ls rs → Put [] n ls rs n ls rs
unfolding insert_all
put_none n ls rs R = record {
  holds = sym (take_all (length ls) (held n ls rs) (omega (arith, held_length n ls rs R, R.room)));
  count = omega (arith, R.room);
  lines_after = refl;
  rules_after = refl;
  lines_long = refl;
  rules_long = refl;
  ready = R;
}

-- what stands after a place stands after a later one
pub after : (n n' : ℕ) (a b : List ℕ) → n ≤ n' → drop n a ≡ drop n b → drop n' a ≡ drop n' b
after n n' a b h e =
    let k : n' ≡ n + (n' - n) = omega arith in
    ap (λ (i : ℕ). drop i a) k ∙ sym (drop-drop (n' - n) n a) ∙ ap (drop (n' - n)) e ∙ drop-drop (n' - n) n b ∙ ap (λ (i : ℕ). drop i b) (sym k)

-- xs, then ys
pub put_both : (xs ys : List Fault) (n : ℕ) (ls rs : List ℕ) (n₁ : ℕ) (ls₁ rs₁ : List ℕ) (n₂ : ℕ) (ls₂ rs₂ : List ℕ)
    → n ≤ length ls → Put xs n ls rs n₁ ls₁ rs₁ → Put ys n₁ ls₁ rs₁ n₂ ls₂ rs₂ → Put (xs ++ ys) n ls rs n₂ ls₂ rs₂
put_both xs ys n ls rs n₁ ls₁ rs₁ n₂ ls₂ rs₂ h P Q =
    let long : length ls₁ ≡ length ls = P.lines_long in
    let c : n₁ ≡ min (length ls) (n + length xs) = P.count in
    let d : n₂ ≡ min (length ls₁) (n₁ + length ys) = Q.count in
    let grows : n₁ ≤ n₂ = omega (arith, P.ready.room) in
    record {
      holds = Q.holds ∙ (λ i. take (long i) (insert_all ys (P.holds i))) ∙ sym (take_insert_all (length ls) ys (insert_all xs (held n ls rs)))
          ∙ ap (take (length ls)) (sym (insert_all_append xs ys (held n ls rs)));
      count = omega (arith, length-append xs ys);
      lines_after = Q.lines_after ∙ after n₁ n₂ ls₁ ls grows P.lines_after;
      rules_after = Q.rules_after ∙ after n₁ n₂ rs₁ rs grows P.rules_after;
      lines_long = Q.lines_long ∙ long;
      rules_long = Q.rules_long ∙ P.rules_long;
      ready = Q.ready;
    }
