-- Laws of the short form: what it is of a longer text, what it keeps of the text, and the CR at the end.
use mathlib.Core.Path.{◌≡◌, refl, sym, ap, ◌∙◌}
use mathlib.Core.Bool.{Bool, true, false, cond, ◌||◌, or-false, and-false}
use mathlib.Core.List.{List, [], ◌∷◌, ◌++◌, append_assoc, append-nil}
use Prim.Native.Nat.{ℕ, zero, suc, ◌-◌, ◌≤◌, min}
use native.Mathlib.Omega.{arith}
use borrow.Author.Tests.{eqb-true}
use lib.ListN.{length, take, drop, take-append-drop, drop_of_length-le}
use lib.Seq.{take_all}
use Rattle.laws.proofs.Truth.{by_test}
use Rattle.laws.specs.Lists.{any_of}
use Rattle.laws.specs.Tests.{is_byte}
use Rattle.laws.proofs.Any.{any_append}
use Rattle.text.specs.Characters.{is_admissible, is_inadmissible}
use Rattle.lines.specs.Lines.{crlf, lines}
use Rattle.lines.proofs.Lines.{crlf_not}
use Rattle.joining.specs.Short.{sign, short_to, short, ends_cr, cr_if, without_cr, kept, kept_text}
use Rattle.joining.proofs.Cutting.{crlf_two, Clear, ahead, clear_lines}

-- ---- the byte that stands for others

abbrev bad : List ℕ → Bool
bad s = any_of is_inadmissible s

abbrev mark : Bool → ℕ
mark t = cond t 0x7F 0x20

mark_bad : (t : Bool) → is_inadmissible (mark t) ≡ t
unfolding is_admissible
mark_bad true = refl
mark_bad false = refl

sign_bad : (s : List ℕ) → bad (sign s) ≡ bad s
unfolding sign any_of
sign_bad [] = refl
sign_bad (b ∷ s) = or-false (is_inadmissible (mark (bad (b ∷ s)))) ∙ mark_bad (bad (b ∷ s))

-- what stands for a text and a text behind it stands for both
sign_append : (s t : List ℕ) → sign (sign s ++ t) ≡ sign (s ++ t)
unfolding sign
sign_append [] t = refl
sign_append (b ∷ s) t =
    ap (λ (x : Bool). mark x ∷ []) (any_append is_inadmissible (sign (b ∷ s)) t ∙ ap (λ (x : Bool). x || bad t) (sign_bad (b ∷ s)) ∙ sym (any_append is_inadmissible (b ∷ s) t))

-- ---- the short form

-- for every width
short_append_to : (n : ℕ) (a b : List ℕ) → short_to n (short_to n a ++ b) ≡ short_to n (a ++ b)
unfolding short_to sign
short_append_to zero a b = sign_append a b
short_append_to (suc n) [] b = refl
short_append_to (suc n) (x ∷ a) b = ap (λ (l : List ℕ). x ∷ l) (short_append_to n a b)

pub short_short : (a b : List ℕ) → short (short a ++ b) ≡ short (a ++ b)
short_short a b = short_append_to 64 a b

pub short_self : (n : ℕ) (a : List ℕ) → length a ≤ n → short_to n a ≡ a
unfolding short_to sign
short_self n a h = rw (take_all n a h, drop_of_length-le a h) (append-nil a)

length_to : (n : ℕ) (a : List ℕ) → length (short_to n a) ≡ min (suc n) (length a)
unfolding short_to sign
length_to zero [] = refl
length_to zero (x ∷ a) = omega arith
length_to (suc n) [] = omega arith
length_to (suc n) (x ∷ a) = omega (arith, length_to n a)

pub length_short : (a : List ℕ) → length (short a) ≡ min 65 (length a)
length_short a = length_to 64 a

pub take_to : (n : ℕ) (a : List ℕ) → take n (short_to n a) ≡ take n a
unfolding short_to sign
take_to zero a = refl
take_to (suc n) [] = refl
take_to (suc n) (x ∷ a) = ap (λ (l : List ℕ). x ∷ l) (take_to n a)

pub bad_to : (n : ℕ) (a : List ℕ) → any_of is_inadmissible (short_to n a) ≡ any_of is_inadmissible a
unfolding short_to
bad_to n a =
    any_append is_inadmissible (take n a) (sign (drop n a))
    ∙ ap (λ (x : Bool). bad (take n a) || x) (sign_bad (drop n a))
    ∙ sym (any_append is_inadmissible (take n a) (drop n a))
    ∙ ap bad (take-append-drop n a)

-- ---- CR at the end

pub ends_append : (p : List ℕ) (b : ℕ) (q : List ℕ) → ends_cr (p ++ (b ∷ q)) ≡ ends_cr (b ∷ q)
unfolding ends_cr
ends_append [] b q = refl
ends_append (a ∷ []) b q = refl
ends_append (a ∷ c ∷ p) b q = ends_append (c ∷ p) b q

without_cons : (b c : ℕ) (s : List ℕ) → without_cr (b ∷ c ∷ s) ≡ b ∷ without_cr (c ∷ s)
unfolding ends_cr
without_cons b c s = go (ends_cr (c ∷ s))
  where
    go : (t : Bool) → take (suc (suc (length s)) - cond t 1 0) (b ∷ c ∷ s) ≡ b ∷ take (suc (length s) - cond t 1 0) (c ∷ s)
    go t = let e : suc (suc (length s)) - cond t 1 0 ≡ suc (suc (length s) - cond t 1 0) = less t in ap (λ (k : ℕ). take k (b ∷ c ∷ s)) e
      where
        less : (t : Bool) → suc (suc (length s)) - cond t 1 0 ≡ suc (suc (length s) - cond t 1 0)
        less true = omega arith
        less false = omega arith

pub without_append : (p : List ℕ) (b : ℕ) (q : List ℕ) → without_cr (p ++ (b ∷ q)) ≡ p ++ without_cr (b ∷ q)
without_append [] b q = refl
without_append (a ∷ []) b q = without_cons a b q
without_append (a ∷ c ∷ p) b q = without_cons a c (p ++ (b ∷ q)) ∙ ap (λ (l : List ℕ). a ∷ l) (without_append (c ∷ p) b q)

-- without a CR at its end a text stays
pub without_same : (s : List ℕ) → ends_cr s ≡ false → without_cr s ≡ s
without_same s e = rw e (take_all (length s - 0) s (omega arith))

-- a text is itself without that CR, and the CR
pub cr_split : (s : List ℕ) → without_cr s ++ cr_if (ends_cr s) ≡ s
unfolding ends_cr
cr_split [] = refl
cr_split (b ∷ []) = by_test (is_byte 0x0d b)
    (λ e. rw e (ap (λ (k : ℕ). k ∷ []) (sym (eqb-true b 0x0d e))))
    (λ e. rw e)
cr_split (b ∷ c ∷ s) = ap (λ (l : List ℕ). l ++ cr_if (ends_cr (c ∷ s))) (without_cons b c s) ∙ ap (λ (l : List ℕ). b ∷ l) (cr_split (c ∷ s))

-- ---- no CR LF in what is kept

-- where no CR LF stands in a text, none begins in it without the CR at its end, whatever comes
clear_seam : (b : ℕ) (t : Bool) (c : List ℕ) → is_byte 0x0d b ≡ t → Clear (take (1 - cond t 1 0) (b ∷ [])) (cr_if t ++ c)
clear_seam b true c e = tt
clear_seam b false c e = (crlf_not b c e, tt)

-- the byte in front of such a text
clear_on : (b c : ℕ) (s x : List ℕ) → crlf (b ∷ c ∷ s) ≡ false → crlf (b ∷ (without_cr (c ∷ s) ++ (cr_if (ends_cr (c ∷ s)) ++ x))) ≡ false
clear_on b c s x e =
    ap (λ (l : List ℕ). crlf (b ∷ l)) (sym (append_assoc (without_cr (c ∷ s)) (cr_if (ends_cr (c ∷ s))) x) ∙ ap (λ (l : List ℕ). l ++ x) (cr_split (c ∷ s)))
    ∙ crlf_two b c (s ++ x) s
    ∙ e

pub clear_bare : (r x : List ℕ) → Clear r [] → Clear (without_cr r) (cr_if (ends_cr r) ++ x)
unfolding ends_cr
clear_bare [] x q = tt
clear_bare (b ∷ []) x q = clear_seam b (is_byte 0x0d b) x refl
clear_bare (b ∷ c ∷ s) x q =
    rw (without_cons b c s) (clear_on b c s x (crlf_two b c s (s ++ []) ∙ q.0), clear_bare (c ∷ s) x q.1)

-- nor in its short form
mark_cr : (t : Bool) → is_byte 0x0d (mark t) ≡ false
mark_cr true = refl
mark_cr false = refl

mark_lf : (b : ℕ) (t : Bool) (s : List ℕ) → crlf (b ∷ mark t ∷ s) ≡ false
unfolding crlf
mark_lf b true s = and-false (is_byte 0x0d b)
mark_lf b false s = and-false (is_byte 0x0d b)

short_on : (n b : ℕ) (p x : List ℕ) → crlf (b ∷ (p ++ x)) ≡ false → crlf (b ∷ (short_to n p ++ x)) ≡ false
unfolding short_to sign
short_on zero b [] x e = e
short_on zero b (c ∷ p) x e = mark_lf b (bad (c ∷ p)) x
short_on (suc n) b [] x e = e
short_on (suc n) b (c ∷ p) x e = crlf_two b c (short_to n p ++ x) (p ++ x) ∙ e

pub clear_short : (n : ℕ) (p x : List ℕ) → Clear p x → Clear (short_to n p) x
unfolding short_to sign
clear_short zero [] x q = tt
clear_short zero (b ∷ p) x q = (crlf_not (mark (bad (b ∷ p))) x (mark_cr (bad (b ∷ p))), tt)
clear_short (suc n) [] x q = tt
clear_short (suc n) (b ∷ p) x q = (short_on n b p x q.0, clear_short n p x q.1)

-- the short form of a text that ends in no CR ends in none
ends_to : (n : ℕ) (p : List ℕ) → ends_cr p ≡ false → ends_cr (short_to n p) ≡ false
unfolding short_to sign ends_cr
ends_to zero [] e = refl
ends_to zero (b ∷ p) e = mark_cr (bad (b ∷ p))
ends_to (suc n) [] e = refl
ends_to (suc zero) (b ∷ []) e = e
ends_to (suc (suc n)) (b ∷ []) e = e
ends_to (suc zero) (b ∷ c ∷ p) e = mark_cr (bad (c ∷ p))
ends_to (suc (suc n)) (b ∷ c ∷ p) e = ends_to (suc n) (c ∷ p) e

pub ends_short : (p : List ℕ) → ends_cr p ≡ false → ends_cr (short p) ≡ false
ends_short p e = ends_to 64 p e

-- ---- a piece more

-- behind a text that is kept without its CR, a piece b ∷ q
pub kept_on : (p : List ℕ) (b : ℕ) (q : List ℕ) → kept (p ++ (b ∷ q)) ≡ record { text = short (p ++ without_cr (b ∷ q)); cr = ends_cr (b ∷ q) }
unfolding kept
kept_on p b q = λ i. record { text = short (without_append p b q i); cr = ends_append p b q i }

pub kept_same : (p : List ℕ) → ends_cr p ≡ false → kept p ≡ record { text = short p; cr = false }
unfolding kept
kept_same p e = λ i. record { text = short (without_same p e i); cr = e i }

-- p's short form does as well
pub kept_short : (p : List ℕ) (b : ℕ) (q : List ℕ) → kept (short p ++ (b ∷ q)) ≡ kept (p ++ (b ∷ q))
kept_short p b q =
    kept_on (short p) b q ∙ ap (λ (l : List ℕ). record { text = l; cr = ends_cr (b ∷ q) }) (short_short p (without_cr (b ∷ q))) ∙ sym (kept_on p b q)

pub kept_again : (p : List ℕ) → ends_cr p ≡ false → kept (short p) ≡ kept p
kept_again p e =
    kept_same (short p) (ends_short p e) ∙ ap (λ (l : List ℕ). record { text = l; cr = false }) (ap short (sym (append-nil (short p))) ∙ short_short p [] ∙ ap short (append-nil p)) ∙ sym (kept_same p e)

-- ---- a rest and what comes

pub rest_lines : (s c : List ℕ) → Clear s [] → lines (s ++ c) ≡ ahead (without_cr s) (lines (cr_if (ends_cr s) ++ c))
rest_lines s c q =
    ap (λ (l : List ℕ). lines (l ++ c)) (sym (cr_split s))
    ∙ ap lines (append_assoc (without_cr s) (cr_if (ends_cr s)) c)
    ∙ clear_lines (without_cr s) (cr_if (ends_cr s) ++ c) (clear_bare s c q)

pub kept_lines : (s c : List ℕ) → Clear s [] → lines (kept_text (kept s) ++ c) ≡ ahead (short (without_cr s)) (lines (cr_if (ends_cr s) ++ c))
unfolding kept
kept_lines s c q =
    ap lines (append_assoc (short (without_cr s)) (cr_if (ends_cr s)) c)
    ∙ clear_lines (short (without_cr s)) (cr_if (ends_cr s) ++ c) (clear_short 64 (without_cr s) (cr_if (ends_cr s) ++ c) (clear_bare s c q))
