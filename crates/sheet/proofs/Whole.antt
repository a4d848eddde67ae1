-- Nothing of a file that was posted is left out: it has no faults, so each item reads, and what does not need an amount posts nothing.
use Prim.Native.Nat.{ℕ}
use mathlib.Core.Path.{◌≡◌, refl, sym, ap, subst, ◌∙◌}
use mathlib.Core.Bool.{Bool, true, false, not, ◌&&◌, false≢true}
use mathlib.Core.List.{List, [], ◌∷◌}
use lib.Dec.{eqb}
use lib.ListN.{length}
use lib.IntN.{ℤ}
use borrow.Author.Tests.{eqb-true, not-false}
use Rattle.laws.specs.Refusals.{first}
use Rattle.laws.proofs.Refusals.{none_applies}
use Rattle.headings.specs.declared.Heading.{Heading}
use Rattle.headings.specs.ItemTypes.{is_input, is_payment}
use Rattle.headings.specs.HeadRules.{rule10}
use Rattle.rules.specs.Terms.{Terms, input}
use Rattle.rules.specs.declared.First.{First}
use Rattle.rules.specs.declared.First.TheVariants.{Missing, Unread, Says}
use Rattle.rules.specs.declared.Payment.{Payment}
use Rattle.rules.specs.Faults.{faults}
use Rattle.item_reader.specs.declared.Slip.{Slip}
use Rattle.item_reader.specs.Slips.{amount_of}
use Rattle.item_reader.specs.Accepted.{Fine, Each}
use Rattle.item_reader.proofs.Accepted.{accepted}
use Rattle.turnovers.specs.Scheme.{scheme_of, posting_by, posting_at, posting_of}
use Rattle.sheet.specs.Posting.{slips, post_refusals}
use Rattle.sheet.specs.Whole.{InFull}
use Rattle.std.specs.Prelude.{None, Option, Some}

closing : (kind : ℕ) → is_input kind ≡ true → is_payment kind ≡ false → kind ≡ 51
unfolding is_payment
closing kind i p = eqb-true kind 51 (go (is_input kind) (eqb kind 51) i p)
  where
    go : (a b : Bool) → a ≡ true → (a && not b) ≡ false → b ≡ true
    go true b e f = not-false b f
    go false b e f = absurd (false≢true e)

scheme_none : (kind : ℕ) → kind ≡ 51 → scheme_of kind ≡ None
unfolding scheme_of
scheme_none kind e = ap scheme_of e

-- a closing item posts nothing, whatever its KC
silent : (h : Heading) (k : First Payment) → h.kind ≡ 51 → posting_at (Some h) k ≡ posting_by h (amount_of k) (scheme_of h.kind)
silent h (Says p) e = refl
silent h Missing e = sym (ap (posting_by h 0) (scheme_none h.kind e))
silent h Unread e = sym (ap (posting_by h 0) (scheme_none h.kind e))

in_full : (terms : Terms) (s : Slip) → Fine terms s → InFull terms s
unfolding posting_of rule10
in_full terms s F = record {
  fine = F;
  posts = ap (λ (r : Option Heading). posting_at r s.kc) F.reads ∙ go (is_payment F.heading.kind) refl;
}
  where
    go : (t : Bool) → is_payment F.heading.kind ≡ t → posting_at (Some F.heading) s.kc ≡ posting_by F.heading (amount_of s.kc) (scheme_of F.heading.kind)
    go true e = let p = F.paid e in subst (λ (k : First Payment). posting_at (Some F.heading) k ≡ posting_by F.heading (amount_of k) (scheme_of F.heading.kind)) (sym p.2) refl
    go false e = silent F.heading s.kc (closing F.heading.kind (not-false (is_input F.heading.kind) F.kind) e)

all_full : (terms : Terms) (ss : List Slip) → Each (Fine terms) ss → Each (InFull terms) ss
all_full terms [] E = tt
all_full terms (s ∷ ss) E = (in_full terms s E.0, all_full terms ss E.1)

pub nothing_dropped : (codes : List ℕ) (sheet : List ℤ) (file : List ℕ) (code day : ℕ) → first (post_refusals codes sheet file code day) ≡ 0 → Each (InFull (input code day)) (slips file)
nothing_dropped codes sheet file code day e =
    let f = (none_applies (post_refusals codes sheet file code day) tt e).1.1.1.1.1.1.1.1.0 in
    all_full (input code day) (slips file) (accepted (input code day) file (eqb-true (length (faults (input code day) file)) 0 (not-false (eqb (length (faults (input code day) file)) 0) f)))
