-- What a portion makes of the file that a state holds.
use Prim.Native.Nat.{ℕ, ◌+◌, ◌≤◌, min}
use native.Mathlib.Omega.{arith}
use mathlib.Core.Path.{◌≡◌, refl, sym, ap, subst, ◌∙◌}
use mathlib.Core.Bool.{true, false, true≢false}
use mathlib.Core.List.{List, [], ◌∷◌, ◌++◌}
use lib.Dec.{ltb}
use lib.ListN.{length, take, length-append}
use Rattle.laws.proofs.Truth.{by_test}
use Rattle.laws.specs.Lists.{any_of}
use Rattle.laws.specs.Tests.{is_byte}
use Rattle.laws.proofs.Any.{any_append}
use Rattle.lines.specs.Lines.{has_mark, body}
use Rattle.file_body.proofs.Body.{body_take, body_le, body_whole, body_shorter}
use Rattle.rules.specs.Terms.{input}
use Rattle.own_rules.specs.declared.Basis.{Basis}
use Rattle.own_rules.specs.Model.{basis_of}
use Rattle.going.specs.declared.Going.{Going}
use Rattle.going.specs.Reached.{Sound, Reached, Gone}
use Rattle.std.specs.Prelude.{Ok, Err}
use Rattle.portions.specs.declared.Portions.{Portions}
use Rattle.portions.specs.Usable.{is_open}
use Rattle.portions.specs.States.{HasRead, Holds}
use Rattle.portions_adding.specs.Adding.{counting, GoesOn, Adds}
use Rattle.portions.proofs.Bounds.{Usable, open_so, so_open}

-- ---- the body of a file that grows

-- behind the end mark nothing is read
body_marked : (f s : List ℕ) → has_mark f ≡ true → body (f ++ s) ≡ body f
unfolding body any_of
body_marked [] s e = absurd (true≢false (sym e))
body_marked (b ∷ f) s e = by_test (is_byte 0x1a b)
    (λ q. rw q)
    (λ q. rw q (ap (λ (l : List ℕ). b ∷ l) (body_marked f s (rw q at e))))

body_on : (f s : List ℕ) → has_mark f ≡ false → body (f ++ s) ≡ f ++ body s
unfolding body any_of
body_on [] s e = refl
body_on (b ∷ f) s e = by_test (is_byte 0x1a b)
    (λ q. rw q (absurd (true≢false (rw q at e))))
    (λ q. rw q (ap (λ (l : List ℕ). b ∷ l) (body_on f s (rw q at e))))

-- ---- bytes that are only counted

pub counted_as : {s : List ℕ} {p : Portions} {ls rs ps stood : List ℕ} {q q' : Portions} → q ≡ q' → GoesOn s p ls rs ps stood q' ls rs ps stood → GoesOn s p ls rs ps stood q ls rs ps stood
counted_as {s} {p} {ls} {rs} {ps} {stood} e G = subst (λ (q : Portions). GoesOn s p ls rs ps stood q ls rs ps stood) (sym e) G

module _ (p : Portions) (s ls rs ps stood : List ℕ) (o : is_open p ls rs ps ≡ true) where
  U : Usable p ls rs ps
  U = open_so p ls rs ps o

  more : (n : ℕ) → p.bytes ≤ n → n ≤ 10000001 → is_open (counting p n) ls rs ps ≡ true
  more n h k = so_open (counting p n) ls rs ps (record { takes = U.takes; came = omega (arith, U.came); few = k; sound = U.sound })

  -- too many came
  pub too_many : 10000001 ≤ p.bytes + length s → GoesOn s p ls rs ps stood (counting p 10000001) ls rs ps stood
  too_many h code day file H =
      let long : 10000001 ≤ length (file ++ s) = omega (arith, H.bytes, length-append file s) in
      record {
        usable = more 10000001 U.few (omega arith);
        good = H.good;
        terms = H.terms;
        bytes = omega (arith, long);
        seen = λ k. absurd (omega (arith, long, k));
        read = λ k. absurd (omega (arith, long, k));
      }

  module _ (n : ℕ) (en : n ≡ p.bytes + length s) (k : n ≤ 10000000) where
    -- how many came is known
    module _ (code day : ℕ) (file : List ℕ) (H : Holds code day file p ls rs ps stood) where
      short : length file ≤ 10000000
      short = omega (arith, H.bytes)

      counts : n ≡ min 10000001 (length (file ++ s))
      counts = omega (arith, H.bytes, length-append file s)

    -- the end mark came before
    pub behind_mark : p.seen ≡ true → GoesOn s p ls rs ps stood (counting p n) ls rs ps stood
    behind_mark e code day file H =
        let m : has_mark file ≡ true = sym (H.seen (short code day file H)) ∙ e in
        let R : HasRead code day file ls rs ps stood p.going = H.read (short code day file H) in
        record {
          usable = more n (omega arith) (omega arith);
          good = H.good;
          terms = H.terms;
          bytes = counts code day file H;
          seen = λ _. e ∙ sym (any_append (is_byte 0x1a) file s ∙ rw m);
          read = λ _. record {
            lines_came = R.lines_came;
            rules_came = R.rules_came;
            offsets_came = R.offsets_came;
            rooms = R.rooms;
            reached = subst (λ (l : List ℕ). Reached (input code day) l R.lines_came R.rules_came R.offsets_came ls rs ps stood p.going) (sym (body_marked file s m)) R.reached;
          };
        }

    -- it has not come before this portion
    pub read_more : p.seen ≡ false → (m : ℕ) → m ≡ length (body s) → {j : Basis} {g : Going} {ls' rs' ps' stood' : List ℕ} → j ≡ basis_of (input p.code p.day)
        → Sound g ls' rs' ps' → g.came ≡ p.going.came + length (take m s) → Gone (take m s) j ls rs ps stood p.going ls' rs' ps' stood' g
        → GoesOn s p ls rs ps stood (record { going = g; code = p.code; day = p.day; bytes = n; seen = ltb m (length s); takes = p.takes }) ls' rs' ps' stood'
    read_more e m em {j} {g} {ls'} {rs'} {ps'} {stood'} ej S came G code day file H =
        let front : take m s ≡ body s = ap (λ (i : ℕ). take i s) em ∙ body_take s in
        let f : has_mark file ≡ false = sym (H.seen (short code day file H)) ∙ e in
        let R : HasRead code day file ls rs ps stood p.going = H.read (short code day file H) in
        let whole : body file ++ take m s ≡ body (file ++ s) = (λ i. body_whole file f i ++ front i) ∙ sym (body_on file s f) in
        let ej' : j ≡ basis_of (input code day) = ej ∙ (λ i. basis_of (input (H.terms.0 i) (H.terms.1 i))) in
        record {
          usable = so_open _ _ _ _ (record { takes = U.takes; came = omega (arith, U.came, ap length front, body_le s); few = omega arith; sound = S });
          good = H.good;
          terms = H.terms;
          bytes = counts code day file H;
          seen = λ _. ap (λ (i : ℕ). ltb i (length s)) em ∙ body_shorter s ∙ sym (any_append (is_byte 0x1a) file s ∙ rw f);
          read = λ _. record {
            lines_came = R.lines_came;
            rules_came = R.rules_came;
            offsets_came = R.offsets_came;
            rooms = R.rooms;
            reached = subst (λ (l : List ℕ). Reached (input code day) l R.lines_came R.rules_came R.offsets_came ls' rs' ps' stood' g) whole
                (G (input code day) (body file) R.lines_came R.rules_came R.offsets_came ej' R.reached);
          };
        }

-- ---- the answer to a portion

module _ (s : List ℕ) (p : Portions) (ls rs ps stood : List ℕ) where
  pub not_taken : is_open p ls rs ps ≡ false → Adds s p ls rs ps stood (Err (record {})) ls rs ps stood
  not_taken e = record { taken = sym e; kept = λ _. (refl, refl, refl, refl); goes_on = tt }

  pub was_taken : is_open p ls rs ps ≡ true → {q : Portions} {ls' rs' ps' stood' : List ℕ} → GoesOn s p ls rs ps stood q ls' rs' ps' stood'
      → Adds s p ls rs ps stood (Ok q) ls' rs' ps' stood'
  was_taken e G = record { taken = sym e; kept = λ f. absurd (true≢false (sym e ∙ f)); goes_on = G }
