-- What opening leaves.
use Prim.Native.Nat.{ℕ}
use native.Mathlib.Omega.{arith}
use mathlib.Core.Path.{◌≡◌, refl, sym, subst, ◌∙◌}
use mathlib.Core.Bool.{true, false, not}
use mathlib.Core.List.{List, []}
use lib.ListN.{replicate}
use borrow.Author.Tests.{not-false}
use Rattle.laws.specs.Refusals.{first}
use Rattle.laws.specs.Lists.{any_of}
use Rattle.lines.specs.Lines.{has_mark, body}
use Rattle.rules.specs.Terms.{is_code, is_accounting_day, input}
use Rattle.going.specs.Reached.{Sound, Reached}
use Rattle.portions.specs.declared.Portions.{Portions}
use Rattle.std.specs.Prelude.{Ok, Err}
use Rattle.portions_opening.specs.declared.OpenError.TheVariants.{BadCode, BadDay}
use Rattle.portions.specs.States.{Rooms, Holds}
use Rattle.portions_opening.specs.Opening.{Opens, BegunAs, open_refusals}
use Rattle.portions.proofs.Bounds.{so_open}

body_none : body [] ≡ []
unfolding body
body_none = refl

mark_none : has_mark [] ≡ false
unfolding any_of
mark_none = refl

module _ (code day : ℕ) (stood : List ℕ) where
  pub bad_code : not (is_code code) ≡ true → Opens code day stood (Err BadCode) stood
  bad_code a = let n : first (open_refusals code day) ≡ 1 = rw a in record { number = sym n; stood_after = rw n; holds = tt }

  module _ (a : not (is_code code) ≡ false) where
    pub bad_day : not (is_accounting_day day) ≡ true → Opens code day stood (Err BadDay) stood
    bad_day b = let n : first (open_refusals code day) ≡ 2 = rw (a, b) in record { number = sym n; stood_after = rw n; holds = tt }

    module _ (b : not (is_accounting_day day) ≡ false) where
      holds_none : {p : Portions} → BegunAs code day p → (ls rs ps stood' : List ℕ) → stood' ≡ replicate 1296 0 → Rooms ls rs ps → Holds code day [] p ls rs ps stood'
      holds_none {p} B ls rs ps stood' es rooms =
          let G = B.going ls rs ps (rooms.0 ∙ sym rooms.1) (rooms.0 ∙ sym rooms.2) in
          let S : Sound p.going ls rs ps = G.0 in
          let R : Reached (input code day) [] ls rs ps ls rs ps (replicate 1296 0) p.going = G.1 (input code day) in
          record {
            usable = so_open p ls rs ps (record { takes = B.takes; came = omega (arith, R.came, B.bytes); few = omega (arith, B.bytes); sound = S });
            good = (not-false _ a, not-false _ b);
            terms = B.terms;
            bytes = B.bytes;
            seen = λ _. B.seen ∙ sym mark_none;
            read = λ _. record {
              lines_came = ls;
              rules_came = rs;
              offsets_came = ps;
              rooms = rooms;
              reached = subst (λ (t : List ℕ). Reached (input code day) t ls rs ps ls rs ps stood' p.going) (sym body_none)
                  (subst (λ (t : List ℕ). Reached (input code day) [] ls rs ps ls rs ps t p.going) (sym es) R);
            };
          }

      pub opened : {p : Portions} → BegunAs code day p → {stood' : List ℕ} → stood' ≡ replicate 1296 0 → Opens code day stood (Ok p) stood'
      opened {p} B {stood'} es =
          let n : first (open_refusals code day) ≡ 0 = rw (a, b) in
          record { number = sym n; stood_after = rw n es; holds = λ ls rs ps rooms. holds_none B ls rs ps stood' es rooms }
