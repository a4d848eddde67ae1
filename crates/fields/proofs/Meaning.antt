-- Reading a text part by part, as many bytes as each can have, finds the stretches where there are any, and there is one way to cut a text.
use mathlib.Core.Path.{◌≡◌, refl, sym, subst}
use mathlib.Core.Bool.{Bool, true, false, not, ◌&&◌, ◌||◌, false≢true}
use mathlib.Core.List.{List, [], ◌∷◌, ◌++◌}
use Prim.Native.Nat.{ℕ, zero, suc, ◌≤◌}
use native.Mathlib.Nat.{not-suc-le-zero, le_of_suc-le-suc}
use native.Mathlib.Omega.{arith}
use lib.ListN.{length, take, drop, get_or, take-append-drop}
use lib.Seq.{length-take-le, take-append_seam, drop-append_seam, take-nil, drop-nil}
use lib.Dec.{leb, eqb}
use borrow.Author.Tests.{leb-true, le-leb, eqb-true, eq-eqb, not-true}
use Rattle.laws.proofs.Truth.{and_parts}
use Rattle.fields.specs.declared.classes.Class.{Class}
use Rattle.fields.specs.declared.classes.Class.TheVariants.{Money, Number, Range, Group, Account, Text, Free}
use Rattle.figures.specs.Layouts.{Part, several, lit, may_end, rest, run, is_empty, head_is, fits, part}
use Rattle.figures.specs.Described.{all_of, Described, whole, stretch, stands, stops, goes_on, left}
use Rattle.fields.specs.Readings.{text_of, layout_of, said_by, reading_of}
use Rattle.fields.specs.Tails.{takes, reads, says_of}
use Rattle.figures.proofs.Runs.{run_le, run_length, run_all}

-- the stretches that reading finds
abbrev pub found : List Part → List ℕ → List (List ℕ)
found [] s = []
found (several f lo hi ∷ ps) s = take (run f hi s) s ∷ found ps (drop (run f hi s) s)
found (lit x ∷ ps) s = found ps (drop 1 s)
found (may_end ∷ ps) [] = []
found (may_end ∷ ps) (b ∷ s) = found ps (b ∷ s)
found (rest ∷ ps) s = []

-- a text that fits is described
pub described : (ps : List Part) (s : List ℕ) → fits ps s ≡ true → Described ps s (found ps s)
unfolding fits is_empty head_is
described [] [] e = whole
described [] (b ∷ s) e = absurd (false≢true e)
described (several f lo hi ∷ ps) s e =
    let p = and_parts (leb lo (run f hi s)) (fits ps (drop (run f hi s) s)) e in
    let l : length (take (run f hi s) s) ≡ run f hi s = length-take-le (run f hi s) s (run_length f hi s) in
    subst (λ (t : List ℕ). Described (several f lo hi ∷ ps) t (found (several f lo hi ∷ ps) s)) (take-append-drop (run f hi s) s)
    (stretch (take (run f hi s) s) (run_all f hi s) (omega (arith, l, leb-true lo (run f hi s) p.0)) (omega (arith, l, run_le f hi s))
    (described ps (drop (run f hi s) s) p.1))
described (lit x ∷ ps) [] e = absurd (false≢true e)
described (lit x ∷ ps) (b ∷ s) e =
    let p = and_parts (eqb b x) (fits ps s) e in
    subst (λ (y : ℕ). Described (lit x ∷ ps) (y ∷ s) (found ps s)) (sym (eqb-true b x p.0)) (stands (described ps s p.1))
described (may_end ∷ ps) [] e = stops
described (may_end ∷ ps) (b ∷ s) e = goes_on (described ps (b ∷ s) e)
described (rest ∷ ps) s e = left

-- a byte of the sort cannot follow its stretch
abbrev pub apart : (ℕ → Bool) → List Part → Bool
apart f [] = true
apart f (several g lo hi ∷ ps) = false
apart f (lit x ∷ ps) = not (f x)
apart f (may_end ∷ ps) = apart f ps
apart f (rest ∷ ps) = false

-- each stretch of a layout ends where it must
abbrev pub clear : List Part → Bool
clear [] = true
clear (several f lo hi ∷ ps) = apart f ps && clear ps
clear (lit x ∷ ps) = clear ps
clear (may_end ∷ ps) = clear ps
clear (rest ∷ ps) = true

abbrev head_not : (ℕ → Bool) → List ℕ → Bool
head_not f [] = true
head_not f (b ∷ s) = not (f b)

apart_head : (f : ℕ → Bool) (ps : List Part) (s : List ℕ) {us : List (List ℕ)} → apart f ps ≡ true → Described ps s us → head_not f s ≡ true
apart_head f _ _ e whole = refl
apart_head f _ _ e (stretch a p q r d) = absurd (false≢true e)
apart_head f _ _ e (stands d) = e
apart_head f _ _ e stops = refl
apart_head f _ _ e (goes_on d) = apart_head f _ _ e d
apart_head f _ _ e left = absurd (false≢true e)

run_stop : (f : ℕ → Bool) (hi : ℕ) (a s : List ℕ) → all_of f a ≡ true → length a ≤ hi → head_not f s ≡ true → run f hi (a ++ s) ≡ length a
unfolding run all_of
run_stop f zero [] s p l h = refl
run_stop f (suc hi) [] [] p l h = refl
run_stop f (suc hi) [] (b ∷ s) p l h = rw (not-true (f b) h)
run_stop f zero (b ∷ a) s p l h = absurd (not-suc-le-zero l)
run_stop f (suc hi) (b ∷ a) s p l h =
    let q = and_parts (f b) (all_of f a) p in
    rw (q.0, run_stop f hi a s q.1 (le_of_suc-le-suc l) h)

-- a text that is described fits
pub fits_described : (ps : List Part) (s : List ℕ) {us : List (List ℕ)} → clear ps ≡ true → Described ps s us → fits ps s ≡ true
unfolding fits is_empty head_is
fits_described _ _ c whole = refl
fits_described (several f lo hi ∷ ps) _ c (stretch {s = s} a p q r d) =
    let k = and_parts (apart f ps) (clear ps) c in
    rw (run_stop f hi a s p r (apart_head f ps s k.0 d), le-leb lo (length a) q, drop-append_seam a s) (fits_described ps s k.1 d)
fits_described (lit x ∷ ps) (_ ∷ s) c (stands d) = rw (eq-eqb x x refl) (fits_described ps s c d)
fits_described _ _ c stops = refl
fits_described (may_end ∷ ps) s c (goes_on d) = go s (fits_described ps s c d)
  where
    go : (t : List ℕ) → fits ps t ≡ true → (is_empty t || fits ps t) ≡ true
    go [] e = refl
    go (b ∷ t) e = e
fits_described _ _ c left = refl

-- and its parts are its stretches: there is one way to describe a text
part_nil : (i : ℕ) (ps : List Part) → part i ps [] ≡ []
unfolding part
part_nil i [] = refl
part_nil zero (several f lo hi ∷ ps) = take-nil (run f hi [])
part_nil (suc i) (several f lo hi ∷ ps) = rw (drop-nil (run f hi [])) (part_nil i ps)
part_nil i (lit x ∷ ps) = part_nil i ps
part_nil i (may_end ∷ ps) = part_nil i ps
part_nil i (rest ∷ ps) = refl

pub part_described : (i : ℕ) (ps : List Part) (s : List ℕ) {us : List (List ℕ)} → clear ps ≡ true → Described ps s us → part i ps s ≡ get_or us i []
unfolding part
part_described i _ _ c whole = refl
part_described zero (several f lo hi ∷ ps) _ c (stretch {s = s} a p q r d) =
    let k = and_parts (apart f ps) (clear ps) c in
    rw (run_stop f hi a s p r (apart_head f ps s k.0 d)) (take-append_seam a s)
part_described (suc i) (several f lo hi ∷ ps) _ c (stretch {s = s} a p q r d) =
    let k = and_parts (apart f ps) (clear ps) c in
    rw (run_stop f hi a s p r (apart_head f ps s k.0 d), drop-append_seam a s) (part_described i ps s k.1 d)
part_described i (lit x ∷ ps) (_ ∷ s) c (stands d) = part_described i ps s c d
part_described i (may_end ∷ ps) _ c stops = part_nil i ps
part_described i (may_end ∷ ps) s c (goes_on d) = part_described i ps s c d
part_described i (rest ∷ ps) _ c left = refl

-- each layout of document 01 is clear
pub clear_all : (k : Class) → clear (layout_of k).own ≡ true
clear_all Money = refl
clear_all Number = refl
clear_all Range = refl
clear_all Group = refl
clear_all Account = refl
clear_all Text = refl
clear_all Free = refl

-- a field reads just where document 01's sentence holds of its own text, and its tail is one that it may have
pub reads_described : (k : Class) (l : List ℕ) (ls : List (List ℕ)) → reads k l ls ≡ true
    → Described (layout_of k).own (text_of l) (found (layout_of k).own (text_of l)) × (takes (layout_of k).more ls ≡ true)
unfolding reads
reads_described k l ls e =
    let p = and_parts (fits (layout_of k).own (text_of l)) (takes (layout_of k).more ls) e in
    (described (layout_of k).own (text_of l) p.0, p.1)

pub described_reads : (k : Class) (l : List ℕ) (ls us : List (List ℕ)) → Described (layout_of k).own (text_of l) us → takes (layout_of k).more ls ≡ true → reads k l ls ≡ true
unfolding reads
described_reads k l ls us d e = rw (fits_described (layout_of k).own (text_of l) (clear_all k) d, e)

-- and what it says is said of its stretches
pub says_described : (k : Class) (l : List ℕ) (ls us : List (List ℕ)) → Described (layout_of k).own (text_of l) us → takes (layout_of k).more ls ≡ true → says_of k l ls ≡ said_by k (get_or us 0 []) (get_or us 1 [])
unfolding says_of reading_of
says_described k l ls us d e =
    let c = clear_all k in
    rw (e, fits_described (layout_of k).own (text_of l) c d, part_described 0 (layout_of k).own (text_of l) c d, part_described 1 (layout_of k).own (text_of l) c d)
