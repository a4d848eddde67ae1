-- What checking answers, by the tests in their order; and that two answers that meet its statement are equal.
use Prim.Native.Nat.{ℕ, suc, ◌+◌, ◌≤◌, ◌<◌}
use native.Mathlib.Omega.{arith}
use mathlib.Core.Path.{◌≡◌, refl, sym, ap, ◌∙◌}
use mathlib.Core.Bool.{Bool, true, false, not, ◌&&◌, true≢false}
use mathlib.Core.List.{List}
use lib.Dec.{ltb, eqb}
use lib.ListN.{length, take}
use borrow.Author.Tests.{lt-ltb, le-ltb, ltb-true, ltb-false, eq-eqb, ne_eqb, eqb-true, not-false}
use Rattle.laws.specs.Refusals.{first}
use Rattle.laws.proofs.Refusals.{none_applies}
use Rattle.lines.specs.Lines.{body, has_mark, has_leftovers, starts_with_mark, offset_of}
use Rattle.file_body.proofs.Body.{body_take, body_shorter, leftovers_long, body_empty}
use Rattle.rules.specs.Terms.{is_code, is_accounting_day, Terms}
use Rattle.rules.specs.Faults.{faults, faults_in}
use Rattle.ledger.specs.declared.Ledger.{Ledger}
use Rattle.ledger.specs.Slices.{Listed}
use Rattle.std.specs.Prelude.{Ok, Err}
use Rattle.listing.specs.declared.checking.Unchecked.{Unchecked}
use Rattle.listing.specs.declared.checking.Unchecked.TheVariants.{BadCode, BadDay, TooLong, UnequalRooms, NoMark, Leftovers, StartsWithMark}
use Rattle.listing.specs.Checking.{are_level, check_refusals, unchecked_number, Checks}

-- lengths that are level are equal
pub level : (m n k : ℕ) → not (are_level m n k) ≡ false → (m ≡ n) × (m ≡ k)
level m n k e = go (eqb m n) refl (eqb m k) refl e
  where
    go : (a : Bool) → eqb m n ≡ a → (b : Bool) → eqb m k ≡ b → not (a && b) ≡ false → (m ≡ n) × (m ≡ k)
    go true ea true eb e = (eqb-true m n ea, eqb-true m k eb)
    go true ea false eb e = absurd (true≢false e)
    go false ea b eb e = absurd (true≢false e)

-- as many bytes as the body has
pub body_fits : (file : List ℕ) (k : ℕ) → k ≡ length (body file) → k ≡ length (take k file)
body_fits file k e = e ∙ sym (ap length (ap (λ (n : ℕ). take n file) e ∙ body_take file))

-- a file that is not refused is its body and one mark
pub body_and_mark : (file : List ℕ) (terms : Terms) (m n k : ℕ) → first (check_refusals file terms m n k) ≡ 0 → suc (length (body file)) ≡ length file
body_and_mark file terms m n k e =
    let none = none_applies (check_refusals file terms m n k) tt e in
    let marked : length (body file) < length file = ltb-true _ _ (body_shorter file ∙ not-false (has_mark file) none.1.1.1.1.0) in
    let last : length file ≤ suc (length (body file)) = ltb-false _ _ (leftovers_long file ∙ none.1.1.1.1.1.0) in
    omega arith

module _ (file : List ℕ) (terms : Terms) (ls rs ps : List ℕ) where
  abbrev refusal : ℕ
  refusal = first (check_refusals file terms (length ls) (length rs) (length ps))

  -- a refusal leaves all as it was
  refused : (u : Unchecked) → unchecked_number u ≡ refusal → eqb refusal 0 ≡ false → Checks file terms ls rs ps (Err u) ls rs ps
  refused u e z = record { number = e; total = λ old. rw z; lines = rw z; rules = rw z; offsets = rw z }

  pub bad_code : not (is_code terms.code.0) ≡ true → Checks file terms ls rs ps (Err BadCode) ls rs ps
  bad_code a = refused BadCode (rw a) (rw a)

  module _ (a : not (is_code terms.code.0) ≡ false) where
    pub bad_day : not (is_accounting_day terms.today) ≡ true → Checks file terms ls rs ps (Err BadDay) ls rs ps
    bad_day b = refused BadDay (rw (a, b)) (rw (a, b))

    module _ (b : not (is_accounting_day terms.today) ≡ false) where
      pub too_long : 10000000 < length file → Checks file terms ls rs ps (Err TooLong) ls rs ps
      too_long h = let c = lt-ltb 10000000 (length file) h in refused TooLong (rw (a, b, c)) (rw (a, b, c))

      module _ (h : length file ≤ 10000000) where
        c : ltb 10000000 (length file) ≡ false
        c = le-ltb 10000000 (length file) h

        pub unequal_rooms : not (are_level (length ls) (length rs) (length ps)) ≡ true → Checks file terms ls rs ps (Err UnequalRooms) ls rs ps
        unequal_rooms d = refused UnequalRooms (rw (a, b, c, d)) (rw (a, b, c, d))

        module _ (d : not (are_level (length ls) (length rs) (length ps)) ≡ false) where
          pub no_mark : (n : ℕ) → n ≡ length (body file) → length file ≤ n → Checks file terms ls rs ps (Err NoMark) ls rs ps
          no_mark n q k =
              let m : has_mark file ≡ false = sym (body_shorter file) ∙ le-ltb (length (body file)) (length file) (omega arith) in
              refused NoMark (rw (a, b, c, d, m)) (rw (a, b, c, d, m))

          module _ (n : ℕ) (q : n ≡ length (body file)) (k : n < length file) where
            m : has_mark file ≡ true
            m = sym (body_shorter file) ∙ lt-ltb (length (body file)) (length file) (omega arith)

            pub leftovers : n + 1 < length file → Checks file terms ls rs ps (Err Leftovers) ls rs ps
            leftovers h =
                let t : has_leftovers file ≡ true = sym (leftovers_long file) ∙ lt-ltb (suc (length (body file))) (length file) (omega arith) in
                refused Leftovers (rw (a, b, c, d, m, t)) (rw (a, b, c, d, m, t))

            module _ (u : length file ≤ n + 1) where
              t : has_leftovers file ≡ false
              t = sym (leftovers_long file) ∙ le-ltb (suc (length (body file))) (length file) (omega arith)

              pub starts_with_mark_lem : n ≡ 0 → Checks file terms ls rs ps (Err StartsWithMark) ls rs ps
              starts_with_mark_lem z =
                  let s : starts_with_mark file ≡ true = body_empty file ∙ rw (eq-eqb (length (body file)) 0 (omega arith), m) in
                  refused StartsWithMark (rw (a, b, c, d, m, t, s)) (rw (a, b, c, d, m, t, s))

              pub body_is : take n file ≡ body file
              body_is = rw q (body_take file)

              pub checked : (n ≡ 0 → ⊥) → {g : Ledger} {ls' rs' ps' : List ℕ} → Listed (offset_of (take n file)) (faults_in terms (take n file)) ls rs ps g ls' rs' ps' → Checks file terms ls rs ps (Ok g.total) ls' rs' ps'
              unfolding faults
              checked z {g} {ls'} {rs'} {ps'} L =
                  let s : starts_with_mark file ≡ false = body_empty file ∙ rw (ne_eqb (length (body file)) 0 (λ e. z (omega arith))) in
                  let o : refusal ≡ 0 = rw (a, b, c, d, m, t, s) in
                  let f : faults_in terms (take n file) ≡ faults_in terms (body file) = ap (faults_in terms) body_is in
                  record {
                    number = sym o;
                    total = λ old. L.total ∙ ap length f ∙ (rw o refl);
                    lines = L.lines ∙ rw (f, o);
                    rules = L.rules ∙ rw (f, o);
                    offsets = L.offsets ∙ rw (f, o, body_is);
                  }
