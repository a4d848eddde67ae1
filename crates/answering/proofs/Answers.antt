-- What closing answers, by the tests in their order.
use Prim.Native.Nat.{ℕ, ◌+◌, ◌≤◌, ◌<◌, min}
use native.Mathlib.Omega.{arith}
use mathlib.Core.Path.{◌≡◌, refl, sym, ap, subst, ◌∙◌}
use mathlib.Core.Bool.{true, false, not, true≢false}
use mathlib.Core.List.{List, ◌++◌}
use lib.Dec.{ltb}
use lib.ListN.{length, take, drop}
use borrow.Author.Tests.{ltb-true, lt-ltb, le-ltb, eq-eqb, ne_eqb, not-true, not-false}
use Rattle.laws.specs.Refusals.{first}
use Rattle.lines.specs.Lines.{has_mark, body, offset_of}
use Rattle.file_body.proofs.Body.{body_take, body_whole, body_shorter}
use Rattle.rules.specs.Terms.{is_code, is_accounting_day, input}
use Rattle.rules.specs.Faults.{Fault, faults_in}
use Rattle.ledger.specs.declared.Ledger.{Ledger}
use Rattle.ledger.specs.Slices.{Listed}
use Rattle.own_rules.specs.declared.Basis.{Basis}
use Rattle.own_rules.specs.Model.{basis_of}
use Rattle.going.specs.Reached.{Done}
use Rattle.listing.specs.declared.checking.Unchecked.{Unchecked}
use Rattle.listing.specs.declared.checking.Unchecked.TheVariants.{TooLong, NoMark, Leftovers, StartsWithMark}
use Rattle.std.specs.Prelude.{Result, Ok, Err, MatchResult, IsErrAnd}
use Rattle.std.proofs.lemmas.Result.{err_from_is_err_and}
use Rattle.listing.specs.Checking.{are_level, unchecked_number, checked_number, Checks}
use Rattle.listing.proofs.Answers.{too_long, no_mark, leftovers, starts_with_mark_lem, checked}
use Rattle.portions.specs.declared.Portions.{Portions}
use Rattle.answering.specs.declared.CloseError.{CloseError}
use Rattle.answering.specs.declared.CloseError.TheVariants.{Refused, Late}
use Rattle.portions.specs.Usable.{is_open}
use Rattle.portions.specs.States.{Rooms, HasRead, Holds, shut_of}
use Rattle.answering.specs.Closing.{file_refusals, closing_number, checked_in, Settles, HandsOut, Closes}
use Rattle.handing.proofs.Handed.{handed}

-- ---- what an open state knows of its file

module _ (p : Portions) (ls rs ps stood : List ℕ) (code day : ℕ) (file : List ℕ) (H : Holds code day file p ls rs ps stood) where
  -- how many came is their count, where that is within the limit
  file_short : p.bytes ≤ 10000000 → length file ≤ 10000000
  file_short h = omega (arith, H.bytes)

  all_counted : p.bytes ≤ 10000000 → p.bytes ≡ length file
  all_counted h = omega (arith, H.bytes)

  body_came : p.bytes ≤ 10000000 → p.going.came ≡ length (body file)
  body_came h = (H.read (file_short h)).reached.came

-- ---- what is handed out

pub hands_out : (p : Portions) (ls rs ps stood os₀ qs₀ ts₀ : List ℕ) → p.bytes ≤ 10000000
    → {j : Basis} {g : Ledger} {ls' rs' ps' : List ℕ} → j ≡ basis_of (input p.code p.day) → Done j ls rs ps stood p.going g ls' rs' ps'
    → {n : ℕ} → n ≡ min 256 g.kept → {os qs ts : List ℕ} → os ≡ take n ls' ++ drop n os₀ → qs ≡ take n rs' ++ drop n qs₀ → ts ≡ take n ps' ++ drop n ts₀
    → HandsOut p ls rs ps stood os₀ qs₀ ts₀ g os qs ts
hands_out p ls rs ps stood os₀ qs₀ ts₀ h {j} {g} {ls'} {rs'} {ps'} ej D {n} en {os} {qs} {ts} o q t code day file H rooms =
    let R : HasRead code day file ls rs ps stood p.going = H.read (file_short p ls rs ps stood code day file H h) in
    let all : List Fault = faults_in (input code day) (body file) in
    let off : ℕ → ℕ = offset_of (body file) in
    let L : Listed off all R.lines_came R.rules_came R.offsets_came g ls' rs' ps' =
    D (input code day) (body file) _ _ _ (ej ∙ (λ i. basis_of (input (H.terms.0 i) (H.terms.1 i)))) R.reached in
    let k : n ≡ min 256 (length all) = omega (arith, en, L.kept, R.rooms.0) in
    record {
      lines = o ∙ ap (λ (l : List ℕ). take n l ++ drop n os₀) L.lines ∙ handed (λ (f : Fault). f.line) all R.lines_came os₀ (R.rooms.0 ∙ sym rooms.0) n (omega (arith, k, R.rooms.0));
      rules = q ∙ ap (λ (l : List ℕ). take n l ++ drop n qs₀) L.rules ∙ handed (λ (f : Fault). f.rule) all R.rules_came qs₀ (R.rooms.1 ∙ sym rooms.1) n (omega (arith, k, R.rooms.1));
      offsets = t ∙ ap (λ (l : List ℕ). take n l ++ drop n ts₀) L.offsets ∙ handed (λ (f : Fault). off f.line) all R.offsets_came ts₀ (R.rooms.2 ∙ sym rooms.2) n (omega (arith, k, R.rooms.2));
      kept = omega (arith, L.kept, R.rooms.0, rooms.0);
      total = L.total;
    }

-- ---- the answers

level : (os qs ts : List ℕ) → Rooms os qs ts → not (are_level (length os) (length qs) (length ts)) ≡ false
level os qs ts rooms = rw (rooms.0, rooms.1, rooms.2)

module _ (p : Portions) (ls rs ps stood os₀ qs₀ ts₀ : List ℕ) where
  -- a refusal, where checking refuses the file with the same number
  refused : (u : Unchecked) → unchecked_number u ≡ first (file_refusals p) → ((code day : ℕ) (file : List ℕ) → Holds code day file p ls rs ps stood → Rooms os₀ qs₀ ts₀ → Checks file (input code day) os₀ qs₀ ts₀ (Err u) os₀ qs₀ ts₀)
      → Settles p ls rs ps stood os₀ qs₀ ts₀ (Err u) ls rs ps stood os₀ qs₀ ts₀
  refused u e C = record { number = e; kept = λ _. (refl, refl, refl, refl, refl, refl, refl); checks = C }

  good_code : (code day : ℕ) (file : List ℕ) → Holds code day file p ls rs ps stood → not (is_code code) ≡ false
  good_code code day file H = ap not H.good.0

  good_day : (code day : ℕ) (file : List ℕ) → Holds code day file p ls rs ps stood → not (is_accounting_day day) ≡ false
  good_day code day file H = ap not H.good.1

  pub file_too_long : 10000000 < p.bytes → Settles p ls rs ps stood os₀ qs₀ ts₀ (Err TooLong) ls rs ps stood os₀ qs₀ ts₀
  file_too_long h =
      refused TooLong (rw (lt-ltb 10000000 p.bytes h))
      (λ code day file H _. too_long file (input code day) os₀ qs₀ ts₀ (good_code code day file H) (good_day code day file H) (omega (arith, H.bytes)))

  module _ (h : p.bytes ≤ 10000000) where
    c : ltb 10000000 p.bytes ≡ false
    c = le-ltb 10000000 p.bytes h

    pub file_no_mark : not p.seen ≡ true → Settles p ls rs ps stood os₀ qs₀ ts₀ (Err NoMark) ls rs ps stood os₀ qs₀ ts₀
    file_no_mark e =
        refused NoMark (rw (c, e))
        (λ code day file H rooms.
        let short = file_short p ls rs ps stood code day file H h in
        let m : has_mark file ≡ false = sym (H.seen short) ∙ not-true _ e in
        no_mark file (input code day) os₀ qs₀ ts₀ (good_code code day file H) (good_day code day file H) short (level os₀ qs₀ ts₀ rooms) (length (body file)) refl (omega (arith, ap length (body_whole file m))))

    module _ (e : not p.seen ≡ false) where
      -- the file has its mark behind the body
      marked : (code day : ℕ) (file : List ℕ) → Holds code day file p ls rs ps stood → p.going.came < length file
      marked code day file H =
          let short = file_short p ls rs ps stood code day file H h in
          let m : has_mark file ≡ true = sym (H.seen short) ∙ not-false _ e in
          omega (arith, body_came p ls rs ps stood code day file H h, ltb-true (length (body file)) (length file) (body_shorter file ∙ m))

      pub file_leftovers : p.going.came + 1 < p.bytes → Settles p ls rs ps stood os₀ qs₀ ts₀ (Err Leftovers) ls rs ps stood os₀ qs₀ ts₀
      file_leftovers k =
          refused Leftovers (rw (c, e, lt-ltb (p.going.came + 1) p.bytes k))
          (λ code day file H rooms.
          leftovers file (input code day) os₀ qs₀ ts₀ (good_code code day file H) (good_day code day file H) (file_short p ls rs ps stood code day file H h) (level os₀ qs₀ ts₀ rooms)
          p.going.came (body_came p ls rs ps stood code day file H h) (marked code day file H) (omega (arith, all_counted p ls rs ps stood code day file H h)))

      module _ (k : p.bytes ≤ p.going.came + 1) where
        d : ltb (p.going.came + 1) p.bytes ≡ false
        d = le-ltb (p.going.came + 1) p.bytes k

        pub file_starts : p.going.came ≡ 0 → Settles p ls rs ps stood os₀ qs₀ ts₀ (Err StartsWithMark) ls rs ps stood os₀ qs₀ ts₀
        file_starts z =
            refused StartsWithMark (rw (c, e, d, eq-eqb p.going.came 0 z))
            (λ code day file H rooms.
            starts_with_mark_lem file (input code day) os₀ qs₀ ts₀ (good_code code day file H) (good_day code day file H) (file_short p ls rs ps stood code day file H h) (level os₀ qs₀ ts₀ rooms)
            p.going.came (body_came p ls rs ps stood code day file H h) (marked code day file H) (omega (arith, all_counted p ls rs ps stood code day file H h)) z)

        pub file_listed : (p.going.came ≡ 0 → ⊥) → {g : Ledger} {ls' rs' ps' stood' os qs ts : List ℕ} → HandsOut p ls rs ps stood os₀ qs₀ ts₀ g os qs ts
            → Settles p ls rs ps stood os₀ qs₀ ts₀ (Ok g.total) ls' rs' ps' stood' os qs ts
        file_listed z {g} {os = os} {qs} {ts} O =
            let n : first (file_refusals p) ≡ 0 = rw (c, e, d, ne_eqb p.going.came 0 z) in
            record {
              number = sym n;
              kept = λ f. absurd (f n);
              checks = λ code day file H rooms.
                  let came = body_came p ls rs ps stood code day file H h in
                  let all : length file ≤ p.going.came + 1 = omega (arith, all_counted p ls rs ps stood code day file H h) in
                  let is : take p.going.came file ≡ body file = ap (λ (i : ℕ). take i file) came ∙ body_take file in
                  checked file (input code day) os₀ qs₀ ts₀ (good_code code day file H) (good_day code day file H) (file_short p ls rs ps stood code day file H h) (level os₀ qs₀ ts₀ rooms)
                  p.going.came came (marked code day file H) all z
                  (subst (λ (t : List ℕ). Listed (offset_of t) (faults_in (input code day) t) os₀ qs₀ ts₀ g os qs ts) (sym is) (O code day file H rooms));
            }

-- ---- closing

module _ (p : Portions) (ls rs ps stood os₀ qs₀ ts₀ : List ℕ) where
  pub late : is_open p ls rs ps ≡ false → Closes p ls rs ps stood os₀ qs₀ ts₀ (record { answer = Err Late; state = p }) ls rs ps stood os₀ qs₀ ts₀
  late e =
      record {
        number = rw e;
        state = rw e;
        kept = λ _. (refl, refl, refl, refl, refl, refl, refl);
        checks = λ code day file H _. absurd (true≢false (sym H.usable ∙ e));
      }

  -- checking's answer, as closing gives it
  abbrev given : Result ℕ Unchecked → Result ℕ CloseError
  given (Ok t) = Ok t
  given (Err u) = Err (Refused u)

  given_number : (c : Result ℕ Unchecked) → closing_number (given c) ≡ checked_number c
  given_number (Ok t) = refl
  given_number (Err u) = refl

  given_back : (c : Result ℕ Unchecked) → checked_in (given c) ≡ c
  given_back (Ok t) = refl
  given_back (Err u) = refl

  given_is : (c : Result ℕ Unchecked) {r : Result ℕ CloseError} → MatchResult c (λ t. r ≡ Ok t) (λ u. IsErrAnd r (λ e. e ≡ Refused u)) → r ≡ given c
  given_is (Ok t) e = e
  given_is (Err u) {r} e = let p = err_from_is_err_and r e in p.1 ∙ ap Err p.2

  pub answered : is_open p ls rs ps ≡ true → {q : Portions} → q ≡ shut_of p → {c : Result ℕ Unchecked} {r : Result ℕ CloseError} → MatchResult c (λ t. r ≡ Ok t) (λ u. IsErrAnd r (λ e. e ≡ Refused u))
      → {ls' rs' ps' stood' os qs ts : List ℕ} → Settles p ls rs ps stood os₀ qs₀ ts₀ c ls' rs' ps' stood' os qs ts
      → Closes p ls rs ps stood os₀ qs₀ ts₀ (record { answer = r; state = q }) ls' rs' ps' stood' os qs ts
  answered e f {c} {r} m {ls'} {rs'} {ps'} {stood'} {os} {qs} {ts} S =
      let g : r ≡ given c = given_is c m in
      record {
        number = ap closing_number g ∙ given_number c ∙ S.number ∙ rw e;
        state = f ∙ rw e;
        kept = λ k. S.kept (λ z. k (rw e z));
        checks = λ code day file H rooms.
            subst (λ (x : Result ℕ Unchecked). Checks file (input code day) os₀ qs₀ ts₀ x os qs ts) (sym (ap checked_in g ∙ given_back c)) (S.checks code day file H rooms);
      }
