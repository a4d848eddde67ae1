-- Texts in an array: writing one, and one behind another; the short form of two texts; the CR at a piece's end.
use mathlib.Core.Path.{◌≡◌, refl, sym, ap, subst, ◌∙◌}
use mathlib.Core.Bool.{Bool, true, false, cond, not, ◌&&◌, ◌||◌, or-false, and-true, and-false, false≢true}
use mathlib.Core.List.{List, [], ◌∷◌, ◌++◌, append_assoc, append-nil}
use Prim.Native.Nat.{ℕ, suc, ◌+◌, ◌-◌, ◌<◌, ◌≤◌, min}
use native.Mathlib.Nat.{zero-add, min_comm}
use native.Mathlib.Omega.{arith}
use lib.Dec.{eqb, ltb, leb, eqb-suc-zero}
use lib.ListN.{length, take, drop, set, get_or, replicate, length-append, length-take, length-drop, length-replicate, drop_of_length-le}
use lib.Seq.{drop-cons, take_all, set_split}
use borrow.Author.Tests.{leb-true, leb-false, eqb-true, eq-eqb, lt-ltb, le-ltb}
use Rattle.std.specs.List.{list_any, ends_with}
use Rattle.std.proofs.lemmas.Bool.Decides.{nat_tests}
use lib.Pointwise.{pointwise}
use Rattle.laws.specs.Lists.{put, any_of}
use Rattle.laws.specs.Tests.{is_byte}
use Rattle.laws.proofs.Any.{any_append}
use Rattle.laws.proofs.Put.{put_is, length_put, take_put, put_both, put_none}
use Rattle.laws.proofs.Parts.{drop_min, take_min, take_rest, take_both, drop_both}
use Rattle.laws.proofs.Truth.{and_parts, by_test}
use Rattle.text.specs.Characters.{is_inadmissible}
use Rattle.text.specs.Strings.{Wrote}
use Rattle.text.proofs.Wrote.{then}
use Rattle.joining.specs.declared.Text.{Text}
use Rattle.joining.specs.declared.Held.{Held}
use Rattle.joining.specs.Short.{sign, short_to, short, ends_cr, cr_if, without_cr, kept_text, added}
use Rattle.joining.specs.Held.{padded, as_text, as_held, kept_in, ended_text}
use Rattle.joining.proofs.Short.{short_self, length_short, ends_append, without_append}

pub length_padded : (t : List ℕ) → length t ≤ 68 → length (padded t) ≡ 68
unfolding padded
length_padded t h = length_put (replicate 68 0) 0 t (omega (arith, length-replicate {A = ℕ} 68 0)) ∙ length-replicate {A = ℕ} 68 0

pub take_padded : (t : List ℕ) → length t ≤ 68 → take (length t) (padded t) ≡ t
unfolding padded
take_padded t h = ap (λ (k : ℕ). take k (put (replicate 68 0) 0 t)) (sym (zero-add (length t))) ∙ take_put (replicate 68 0) 0 t (omega (arith, length-replicate {A = ℕ} 68 0))

pub padded_none : replicate 68 0 ≡ padded []
unfolding padded
padded_none = sym (put_none (replicate 68 0) 0)

-- a text written over zeros
pub text_start : {x after : List ℕ} {end : ℕ} → Wrote (replicate 68 0) 0 x after end → ◌≡◌ {A = Text} (record { text = after; len = end }) (as_text x)
unfolding padded
text_start {x} w = λ i. record { text = w.holds i; len = (w.ends ∙ zero-add (length x)) i }

wrote : (t : List ℕ) → length t ≤ 68 → Wrote (replicate 68 0) 0 t (padded t) (length t)
unfolding padded
wrote t h = record { room = omega (arith, length-replicate {A = ℕ} 68 0); ends = omega arith; holds = refl }

-- a text written behind another
pub text_more : (t : List ℕ) → length t ≤ 68 → {x after : List ℕ} {end : ℕ} → Wrote (padded t) (length t) x after end → ◌≡◌ {A = Text} (record { text = after; len = end }) (as_text (t ++ x))
text_more t h w = text_start (then (wrote t h) w)

-- the same, of a text that a function gave
pub text_is : (t : Text) (x : List ℕ) → t ≡ as_text x → length x ≤ 68 → (length t.text ≡ 68) × (t.len ≡ length x)
text_is t x e h = (ap (λ (u : Text). length u.text) e ∙ length_padded x h, ap (λ (u : Text). u.len) e)

pub text_behind : (t : Text) (x : List ℕ) → t ≡ as_text x → length x ≤ 68 → {y after : List ℕ} {end : ℕ} → Wrote t.text t.len y after end
    → ◌≡◌ {A = Text} (record { text = after; len = end }) (as_text (x ++ y))
text_behind t x e h {y} {after} {end} w = text_more x h (subst (λ (u : Text). Wrote u.text u.len y after end) e w)

-- ---- parts of texts

-- the part that is lent
pub fits : (k n : ℕ) (s : List ℕ) → n ≡ min k (length s) → n ≡ length (take n s)
fits k n s e = omega (arith, length-take n s)

-- the first w bytes of two texts are n of the one and m of the other
module _ (w : ℕ) (a b : List ℕ) (n m : ℕ) (is-n : n ≡ min w (length a)) (is_m : m ≡ min (w - n) (length b)) where
  of_b : m ≡ min (w - length a) (length b)
  of_b = omega arith

  pub front : take w (a ++ b) ≡ take n a ++ take m b
  front = take_both w a b ∙ sym (rw (is-n, of_b, take_min w a, take_min (w - length a) b))

  pub back : drop w (a ++ b) ≡ drop n a ++ drop m b
  back = drop_both w a b ∙ sym (rw (is-n, of_b, min_comm w (length a), min_comm (w - length a) (length b), drop_min w a, drop_min (w - length a) b))

-- ---- the short form of two texts

-- std's word
pub any_is : (f : ℕ → Bool) (s : List ℕ) → list_any f s ≡ any_of f s
unfolding any_of
any_is f [] = refl
any_is f (x ∷ s) = ap (λ (t : Bool). f x || t) (any_is f s)

put_one : (xs : List ℕ) (at x : ℕ) → at < length xs → put xs at (x ∷ []) ≡ set xs at x
put_one xs at x h = let e : at + 1 ≡ suc at = omega arith in put_is xs at (x ∷ []) ∙ ap (λ (k : ℕ). take at xs ++ (x ∷ drop k xs)) e ∙ sym (set_split xs at x h)

-- one byte more behind a text
padded_one : (t : List ℕ) (x : ℕ) → length t < 68 → set (padded t) (length t) x ≡ padded (t ++ (x ∷ []))
unfolding padded
padded_one t x h =
    sym (put_one (put (replicate 68 0) 0 t) (length t) x (omega (arith, length_put (replicate 68 0) 0 t (omega (arith, length-replicate {A = ℕ} 68 0)), length-replicate {A = ℕ} 68 0)))
    ∙ ap (λ (k : ℕ). put (put (replicate 68 0) 0 t) k (x ∷ [])) (sym (zero-add (length t)))
    ∙ put_both (replicate 68 0) 0 t (omega (arith, length-replicate {A = ℕ} 68 0)) (x ∷ [])

sign_some : (s : List ℕ) → 0 < length s → sign s ≡ cond (any_of is_inadmissible s) 0x7F 0x20 ∷ []
unfolding sign
sign_some [] h = absurd (omega arith)
sign_some (b ∷ s) h = refl

module _ (a b : List ℕ) (n m : ℕ) (is-n : n ≡ min 64 (length a)) (is_m : m ≡ min (64 - n) (length b)) where
  parts : length (take n a ++ take m b) ≡ n + m
  parts = length-append (take n a) (take m b) ∙ simp (length-take) (omega arith)

  -- all of them is copied
  pub short_all : (eqb n (length a) && eqb m (length b)) ≡ true → take n a ++ take m b ≡ short (a ++ b)
  short_all e =
      let p = and_parts (eqb n (length a)) (eqb m (length b)) e in
      let f : n ≡ length a = eqb-true n (length a) p.0 in
      let g : m ≡ length b = eqb-true m (length b) p.1 in
      let h : length (a ++ b) ≤ 64 = omega (arith, length-append a b) in
      sym (front 64 a b n m is-n is_m) ∙ take_all 64 (a ++ b) h ∙ sym (short_self 64 (a ++ b) h)

  longer : (eqb n (length a) && eqb m (length b)) ≡ false → 64 < length (a ++ b)
  longer e = by_test (leb (length (a ++ b)) 64)
      (λ k.
      let f : length (a ++ b) ≤ 64 = leb-true (length (a ++ b)) 64 k in
      let g : n ≡ length a = omega (arith, length-append a b) in
      let h : m ≡ length b = omega (arith, length-append a b) in
      absurd (false≢true (sym e ∙ (λ i. eq-eqb n (length a) g i && eq-eqb m (length b) h i))))
      (λ k. leb-false (length (a ++ b)) 64 k)

  -- 64 bytes are, and one stands for the others
  short_cut : (eqb n (length a) && eqb m (length b)) ≡ false → (bad : Bool) → bad ≡ (any_of is_inadmissible (drop n a) || any_of is_inadmissible (drop m b))
      → ◌≡◌ {A = Text} (record { text = set (padded (take n a ++ take m b)) 64 (cond bad 0x7F 0x20); len = 65 }) (as_text (short (a ++ b)))
  unfolding short_to
  short_cut e bad k =
      let big : 64 < length (a ++ b) = longer e in
      let f : List ℕ = take n a ++ take m b in
      let l : length f ≡ 64 = parts ∙ omega (arith, length-append a b) in
      let any : any_of is_inadmissible (drop 64 (a ++ b)) ≡ bad =
      ap (any_of is_inadmissible) (back 64 a b n m is-n is_m) ∙ any_append is_inadmissible (drop n a) (drop m b) ∙ sym k in
      let last : sign (drop 64 (a ++ b)) ≡ cond bad 0x7F 0x20 ∷ [] =
      sign_some (drop 64 (a ++ b)) (omega (arith, length-drop 64 (a ++ b))) ∙ ap (λ (t : Bool). cond t 0x7F 0x20 ∷ []) any in
      let whole : f ++ (cond bad 0x7F 0x20 ∷ []) ≡ short (a ++ b) = sym (λ i. front 64 a b n m is-n is_m i ++ last i) in
      let text : set (padded f) 64 (cond bad 0x7F 0x20) ≡ padded (short (a ++ b)) =
      ap (λ (i : ℕ). set (padded f) i (cond bad 0x7F 0x20)) (sym l) ∙ padded_one f (cond bad 0x7F 0x20) (omega arith) ∙ ap padded whole in
      let len : 65 ≡ length (short (a ++ b)) = omega (arith, length_short (a ++ b)) in
      λ i. record { text = text i; len = len i }

  -- as the code has it: t is what was copied, u and v say of what was not whether a byte of it is inadmissible
  pub short_signed : (t : Text) (u v : Bool) (x : ℕ) → t ≡ as_text (take n a ++ take m b) → (eqb n (length a) && eqb m (length b)) ≡ false
      → u ≡ any_of is_inadmissible (take (length a - n) (drop n a)) → v ≡ any_of is_inadmissible (take (length b - m) (drop m b)) → x ≡ cond (u || v) 0x7F 0x20
      → ◌≡◌ {A = Text} (record { text = set t.text 64 x; len = 65 }) (as_text (short (a ++ b)))
  short_signed t u v x c e f g h =
      (λ i. record { text = set (c i).text 64 (h i); len = 65 })
      ∙ short_cut e (u || v) (λ i. (f ∙ ap (any_of is_inadmissible) (take_rest n a)) i || (g ∙ ap (any_of is_inadmissible) (take_rest m b)) i)

-- ---- the CR at a piece's end

ends_last : (s : List ℕ) → 0 < length s → ends_cr s ≡ is_byte 0x0d (get_or s (length s - 1) 0)
unfolding ends_cr
ends_last [] h = absurd (omega arith)
ends_last (b ∷ []) h = refl
ends_last (b ∷ c ∷ s) h =
    let e : suc (suc (length s)) - 1 ≡ suc (suc (length s) - 1) = omega arith in
    ends_last (c ∷ s) (omega arith) ∙ ap (λ (k : ℕ). is_byte 0x0d (get_or (b ∷ c ∷ s) k 0)) (sym e)

length_bare : (s : List ℕ) (t : Bool) → ends_cr s ≡ t → length (without_cr s) ≡ length s - cond t 1 0
length_bare s t e = length-take (length s - cond (ends_cr s) 1 0) s ∙ rw e (omega arith)

ends_is : (s : List ℕ) → ends_with eqb s (0x0d ∷ []) ≡ ends_cr s
unfolding ends_cr
ends_is [] = refl
ends_is (b ∷ t) =
    let s : List ℕ = b ∷ t in
    let k : ℕ = length s - 1 in
    let inside : k < length s = omega arith in
    let past : length s ≤ suc k = omega arith in
    let last : drop k s ≡ get_or s k 0 ∷ [] = drop-cons s k 0 inside ∙ ap (λ (l : List ℕ). get_or s k 0 ∷ l) (drop_of_length-le s past) in
    let test : (eqb 0x0d (get_or s k 0) && true) ≡ is_byte 0x0d (get_or s k 0) = grind (arith, nat_tests, and-true) in
    ap (pointwise eqb (0x0d ∷ [])) last ∙ test ∙ sym (ends_last s (omega arith))

pub bare_ended : (s : List ℕ) (t : Bool) → t ≡ ends_with eqb s (0x0d ∷ []) → length s - cond t 1 0 ≡ length (without_cr s)
bare_ended s t e = sym (length_bare s t (sym (ends_is s) ∙ sym e))

-- ---- a piece more

take_bare : (s : List ℕ) → take (length (without_cr s)) s ≡ without_cr s
take_bare s = ap (λ (k : ℕ). take k s) (length-take (length s - cond (ends_cr s) 1 0) s) ∙ take_min (length s - cond (ends_cr s) 1 0) s

shorter : (s : List ℕ) → 0 < length s → ltb (length (without_cr s)) (length s) ≡ ends_cr s
shorter s h = by_test (ends_cr s)
    (λ e. lt-ltb (length (without_cr s)) (length s) (omega (arith, length_bare s true e)) ∙ sym e)
    (λ e. le-ltb (length (without_cr s)) (length s) (omega (arith, length_bare s false e)) ∙ sym e)

-- whether a CR is held back behind it
pub held_cr : (cr : Bool) (s : List ℕ) → (ltb (length (without_cr s)) (length s) || (cr && eqb (length s) 0)) ≡ ends_cr (cr_if cr ++ s)
unfolding ends_cr
held_cr true [] = refl
held_cr false [] = refl
held_cr cr (b ∷ q) =
    ap (λ (t : Bool). ltb (length (without_cr (b ∷ q))) (suc (length q)) || (cr && t)) (eqb-suc-zero (length q))
    ∙ ap (λ (t : Bool). ltb (length (without_cr (b ∷ q))) (suc (length q)) || t) (and-false cr)
    ∙ or-false (ltb (length (without_cr (b ∷ q))) (suc (length q)))
    ∙ shorter (b ∷ q) (omega arith)
    ∙ sym (ends_append (cr_if cr) b q)

-- the text with it
pub held_text : (text : List ℕ) (cr : Bool) (s : List ℕ)
    → short ((text ++ cr_if (cr && not (eqb (length s) 0))) ++ take (length (without_cr s)) s) ≡ short (text ++ without_cr (cr_if cr ++ s))
unfolding ends_cr
held_text text true [] = ap short (append-nil (text ++ []))
held_text text false [] = ap short (append-nil (text ++ []))
held_text text cr (b ∷ q) =
    ap (λ (t : Bool). short ((text ++ cr_if (cr && not t)) ++ take (length (without_cr (b ∷ q))) (b ∷ q))) (eqb-suc-zero (length q))
    ∙ ap (λ (t : Bool). short ((text ++ cr_if t) ++ take (length (without_cr (b ∷ q))) (b ∷ q))) (and-true cr)
    ∙ ap (λ (l : List ℕ). short ((text ++ cr_if cr) ++ l)) (take_bare (b ∷ q))
    ∙ ap short (append_assoc text (cr_if cr) (without_cr (b ∷ q)))
    ∙ ap (λ (l : List ℕ). short (text ++ l)) (sym (without_append (cr_if cr) b q))

-- ---- what a record stands for

pub kept_is : (h : Held) → (kept_in h).text ≡ take (min 65 h.len) h.text
unfolding kept_in
kept_is h = refl

pub few : (h : Held) → length (kept_in h).text ≤ 65
unfolding kept_in
few h = omega (arith, length-take (min 65 h.len) h.text)

pub few_with : (h : Held) (cr : Bool) → length ((kept_in h).text ++ cr_if cr) ≤ 66
few_with h true = omega (arith, few h, length-append (kept_in h).text (0x0d ∷ []))
few_with h false = omega (arith, few h, length-append (kept_in h).text [])

pub few_kept : (h : Held) → length (kept_text (kept_in h)) ≤ 66
few_kept h = few_with h (kept_in h).cr

pub kept_all : (h : Held) {t : Text} → t ≡ as_text ((kept_in h).text ++ cr_if h.cr) → t ≡ as_text (kept_text (kept_in h))
unfolding kept_in
kept_all h e = e

pub few_ended : (h : Held) → length (ended_text (kept_in h)) ≤ 68
few_ended h = omega (arith, few_kept h, length-append (kept_text (kept_in h)) (0x0d ∷ 0x0a ∷ []))

-- the piece that is lent
pub bare_fits : (s : List ℕ) (k : ℕ) → k ≡ length (without_cr s) → k ≡ length (take k s)
bare_fits s k e = e ∙ sym (ap (λ (n : ℕ). length (take n s)) e ∙ ap length (take_bare s))

-- a piece more, as the code has it: t is what is kept, with its CR where bytes come behind it; u the short form of that and the piece
module _ (h : Held) (s : List ℕ) (k : ℕ) (t u : Text) (is-k : k ≡ length (without_cr s)) (is-t : t ≡ as_text ((kept_in h).text ++ cr_if (h.cr && not (eqb (length s) 0)))) where
  pub add_fits : (t.len ≤ 68) × (t.len ≡ length (take t.len t.text))
  add_fits =
      let few : length ((kept_in h).text ++ cr_if (h.cr && not (eqb (length s) 0))) ≤ 66 = few_with h (h.cr && not (eqb (length s) 0)) in
      let p = text_is t ((kept_in h).text ++ cr_if (h.cr && not (eqb (length s) 0))) is-t (omega arith) in
      (omega (arith, p.0, p.1), omega (arith, p.0, p.1, length-take t.len t.text))

  pub add_is : u ≡ as_text (short (take t.len t.text ++ take k s))
      → ◌≡◌ {A = Held} (record { text = u.text; len = u.len; cr = ltb k (length s) || (h.cr && eqb (length s) 0) }) (as_held (added (kept_in h) s))
  unfolding added kept_in
  add_is is-u =
      let x : List ℕ = (kept_in h).text ++ cr_if (h.cr && not (eqb (length s) 0)) in
      let front : take t.len t.text ≡ x =
      ap (λ (v : Text). take v.len v.text) is-t ∙ take_padded x (omega (arith, few_with h (h.cr && not (eqb (length s) 0)))) in
      let all : short (take t.len t.text ++ take k s) ≡ short ((kept_in h).text ++ without_cr (cr_if h.cr ++ s)) =
      (λ i. short (front i ++ take (is-k i) s)) ∙ held_text (kept_in h).text h.cr s in
      let cr : (ltb k (length s) || (h.cr && eqb (length s) 0)) ≡ ends_cr (cr_if h.cr ++ s) =
      ap (λ (n : ℕ). ltb n (length s) || (h.cr && eqb (length s) 0)) is-k ∙ held_cr h.cr s in
      let v : u ≡ as_text (short ((kept_in h).text ++ without_cr (cr_if h.cr ++ s))) = is-u ∙ ap as_text all in
      λ i. record { text = (v i).text; len = (v i).len; cr = cr i }
