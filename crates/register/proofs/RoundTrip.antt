-- A register in a version is read back, and in a version that has room for its ranges the bytes of a well-formed one are a register.
use mathlib.Core.Path.{◌≡◌, refl, sym, ap, ◌∙◌}
use mathlib.Core.Bool.{true, ◌&&◌}
use mathlib.Core.List.{List, [], ◌∷◌, ◌++◌, append_assoc}
use Prim.Native.Nat.{ℕ, ◌*◌, ◌^◌, ◌≤◌, ◌<◌}
use native.Mathlib.Omega.{arith}
use lib.Dec.{eqb, leb}
use lib.ListN.{length, drop, length-append}
use lib.Seq.{drop_at}
use borrow.Author.Tests.{le-leb, eq-eqb}
use Rattle.laws.specs.Ascii.{ascii}
use Rattle.text.specs.Strings.{begins}
use Rattle.register.specs.Bytes.{big, big_at}
use Rattle.register.specs.Register.{Range, Register, head_in, range_bytes, ranges_bytes, bytes_in, register_bytes, version, ranges_in, count_in, register_of, most_of, is_version, version_in, size_of, well_formed, is_register}
use Rattle.register.proofs.Widths.{length_big, read_at}

-- every number fits its bytes
abbrev pub NarrowRange : Range → Type 0
NarrowRange r = (r.day < 256 ^ 4) × (r.first < 256 ^ 4) × (r.last < 256 ^ 4)

abbrev pub NarrowRanges : List Range → Type 0
NarrowRanges [] = Unit {0}
NarrowRanges (r ∷ rs) = NarrowRange r × NarrowRanges rs

pub record Narrow (g : Register) : Type 0 where
  pub code : g.code < 256 ^ 2
  pub latest : g.latest < 256 ^ 4
  pub count : length g.ranges < 256 ^ 2
  pub ranges : NarrowRanges g.ranges

-- ---- one range
module _ (x y z : ℕ) (rest : List ℕ) where
  abbrev R : List ℕ
  R = range_bytes x y z ++ rest

  r_first : R ≡ [] ++ (big 4 x ++ (big 4 y ++ (big 4 z ++ rest)))
  r_first = simp append_assoc

  r_second : R ≡ big 4 x ++ (big 4 y ++ (big 4 z ++ rest))
  r_second = simp append_assoc

  r_third : R ≡ (big 4 x ++ big 4 y) ++ (big 4 z ++ rest)
  r_third = simp append_assoc

  eight : length (big 4 x ++ big 4 y) ≡ 8
  eight = length-append (big 4 x) (big 4 y) ∙ (let a = length_big 4 x in let b = length_big 4 y in omega arith)

  pub twelve : length (range_bytes x y z) ≡ 12
  twelve =
      length-append (big 4 x) (big 4 y ++ big 4 z)
      ∙ (let a = length_big 4 x in let b = length_big 4 y in let c = length_big 4 z in let d = length-append (big 4 y) (big 4 z) in omega arith)

  read_day : x < 256 ^ 4 → big_at 4 0 R ≡ x
  read_day h = ap (big_at 4 0) r_first ∙ read_at 4 x [] (big 4 y ++ (big 4 z ++ rest)) 0 refl h

  read_first : y < 256 ^ 4 → big_at 4 4 R ≡ y
  read_first h = ap (big_at 4 4) r_second ∙ read_at 4 y (big 4 x) (big 4 z ++ rest) 4 (length_big 4 x) h

  read_last : z < 256 ^ 4 → big_at 4 8 R ≡ z
  read_last h = ap (big_at 4 8) r_third ∙ read_at 4 z (big 4 x ++ big 4 y) rest 8 eight h

pub read_ranges : (rs : List Range) → NarrowRanges rs → ranges_in (length rs) (ranges_bytes rs) ≡ rs
read_ranges [] N = refl
read_ranges (r ∷ rs) N =
    let t = ranges_bytes rs in
    let d = read_day r.day r.first r.last t N.0.0 in
    let f = read_first r.day r.first r.last t N.0.1 in
    let l = read_last r.day r.first r.last t N.0.2 in
    let e = ap (ranges_in (length rs)) (drop_at (range_bytes r.day r.first r.last) t 12 (twelve r.day r.first r.last t)) ∙ read_ranges rs N.1 in
    λ i. record { day = d i; first = f i; last = l i } ∷ e i

pub length_bytes : (rs : List Range) → length (ranges_bytes rs) ≡ 12 * length rs
length_bytes [] = refl
length_bytes (r ∷ rs) =
    length-append (range_bytes r.day r.first r.last) (ranges_bytes rs)
    ∙ (let a = twelve r.day r.first r.last [] in let b = length_bytes rs in omega arith)

-- ---- the parts of a register, the mark being any three bytes
module _ (m rest : List ℕ) (v c l n : ℕ) (three : length m ≡ 3) where
  abbrev H : List ℕ
  H = m ++ (big 2 v ++ (big 2 c ++ (big 4 l ++ big 2 n)))

  abbrev G : List ℕ
  G = H ++ rest

  lv : length (big 2 v) ≡ 2
  lv = length_big 2 v

  lc : length (big 2 c) ≡ 2
  lc = length_big 2 c

  ll : length (big 4 l) ≡ 4
  ll = length_big 4 l

  ln : length (big 2 n) ≡ 2
  ln = length_big 2 n

  pub thirteen : length H ≡ 13
  thirteen = simp length-append (let a = lv in let b = lc in let d = ll in let e = ln in omega (arith, three))

  pub read_version : v < 256 ^ 2 → big_at 2 3 G ≡ v
  read_version h = ap (big_at 2 3) (let e : G ≡ m ++ (big 2 v ++ ((big 2 c ++ (big 4 l ++ big 2 n)) ++ rest)) = simp append_assoc in e) ∙ read_at 2 v m ((big 2 c ++ (big 4 l ++ big 2 n)) ++ rest) 3 three h

  pub read_code : c < 256 ^ 2 → big_at 2 5 G ≡ c
  read_code h =
      ap (big_at 2 5) (let e : G ≡ (m ++ big 2 v) ++ (big 2 c ++ ((big 4 l ++ big 2 n) ++ rest)) = simp append_assoc in e)
      ∙ read_at 2 c (m ++ big 2 v) ((big 4 l ++ big 2 n) ++ rest) 5 (simp length-append (let a = lv in omega (arith, three))) h

  pub read_latest : l < 256 ^ 4 → big_at 4 7 G ≡ l
  read_latest h =
      ap (big_at 4 7) (let e : G ≡ (m ++ (big 2 v ++ big 2 c)) ++ (big 4 l ++ (big 2 n ++ rest)) = simp append_assoc in e)
      ∙ read_at 4 l (m ++ (big 2 v ++ big 2 c)) (big 2 n ++ rest) 7 (simp length-append (let a = lv in let b = lc in omega (arith, three))) h

  pub read_count : n < 256 ^ 2 → big_at 2 11 G ≡ n
  read_count h =
      ap (big_at 2 11) (let e : G ≡ (m ++ (big 2 v ++ (big 2 c ++ big 4 l))) ++ (big 2 n ++ rest) = simp append_assoc in e)
      ∙ read_at 2 n (m ++ (big 2 v ++ (big 2 c ++ big 4 l))) rest 11 (simp length-append (let a = lv in let b = lc in let d = ll in omega (arith, three))) h

  pub read_rest : drop 13 G ≡ rest
  read_rest = drop_at H rest 13 thirteen

-- ---- the whole, in any version
length_in : (v : ℕ) (g : Register) → length (bytes_in v g) ≡ size_of (length g.ranges)
length_in v g =
    length-append (head_in v g.code g.latest (length g.ranges)) (ranges_bytes g.ranges)
    ∙ (let a = thirteen (ascii "CRG") [] v g.code g.latest (length g.ranges) refl in let b = length_bytes g.ranges in omega arith)

pub length_register : (g : Register) → length (register_bytes g) ≡ size_of (length g.ranges)
length_register g = length_in version g

module _ (v : ℕ) (g : Register) (N : Narrow g) where
  abbrev mark : List ℕ
  mark = ascii "CRG"

  counted : count_in (bytes_in v g) ≡ length g.ranges
  counted = read_count mark (ranges_bytes g.ranges) v g.code g.latest (length g.ranges) refl N.count

  -- reading what was written
  pub read_register : register_of (bytes_in v g) ≡ g
  read_register =
      let c = read_code mark (ranges_bytes g.ranges) v g.code g.latest (length g.ranges) refl N.code in
      let l = read_latest mark (ranges_bytes g.ranges) v g.code g.latest (length g.ranges) refl N.latest in
      let b = read_rest mark (ranges_bytes g.ranges) v g.code g.latest (length g.ranges) refl in
      let r : ranges_in (count_in (bytes_in v g)) (drop 13 (bytes_in v g)) ≡ g.ranges = (λ i. ranges_in (counted i) (b i)) ∙ read_ranges g.ranges N.ranges in
      λ i. record { code = c i; latest = l i; ranges = r i }

  marked : begins (bytes_in v g) mark ≡ true
  unfolding begins
  marked = refl

  -- what is written of a well-formed register is one
  pub written_stands : v < 256 ^ 2 → is_version v ≡ true → length g.ranges ≤ most_of v → well_formed g ≡ true → is_register (bytes_in v g) ≡ true
  written_stands small known h w =
      let x : version_in (bytes_in v g) ≡ v = read_version mark (ranges_bytes g.ranges) v g.code g.latest (length g.ranges) refl small in
      let n : eqb (length (bytes_in v g)) (size_of (count_in (bytes_in v g))) ≡ true = eq-eqb _ _ (length_in v g ∙ ap size_of (sym counted)) in
      let m : leb (count_in (bytes_in v g)) (most_of (version_in (bytes_in v g))) ≡ true = (λ i. leb (counted i) (most_of (x i))) ∙ le-leb (length g.ranges) (most_of v) h in
      (λ i. (marked i && ((ap is_version x ∙ known) i && (m i && n i))) && (ap well_formed read_register ∙ w) i)
