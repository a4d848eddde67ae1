-- Which lines of a slice bar its items: those before the first heading do, and then each item by itself.
use Prim.Native.Nat.{ℕ}
use mathlib.Core.Path.{◌≡◌, refl, sym, ap, ◌∙◌}
use mathlib.Core.Bool.{Bool, true, false, cond, ◌||◌, or-false, or_assoc}
use mathlib.Core.List.{List, [], ◌∷◌, ◌++◌, map}
use Rattle.laws.proofs.Truth.{by_test}
use Rattle.laws.specs.Lists.{any_of}
use Rattle.laws.proofs.Any.{or_left, or_right, any_append}
use Rattle.rules.specs.declared.Digest.{Digest}
use Rattle.rules.specs.Terms.{Terms}
use Rattle.rules.specs.Tests.{Test, ◌if◌, broken_of}
use Rattle.rules.specs.Tree.{Item}
use Rattle.rules.specs.Said.{head_of, digest}
use Rattle.rules.specs.HeadingRules.{rule6_at}
use Rattle.rules.specs.LineRules.{rule1, rule4}
use Rattle.rules.specs.Spots.{own_tests, block_tests, rule16_at, head_tests, inner, items}
use Rattle.vetting.specs.Vetting.{bars, any_barred, item_barred}
use Rattle.vetting.proofs.Barring.{barred_both}
use Rattle.surveying.specs.Model.{items_barred}
use Rattle.headings.specs.declared.Heading.{Heading}
use Rattle.std.specs.Prelude.{None, Option, Some}

-- ---- tests of rules that bar nothing
broken_append : (ts us : List Test) → broken_of (ts ++ us) ≡ broken_of ts ++ broken_of us
broken_append [] us = refl
broken_append (t ∷ ts) us = by_test t.broken
    (λ q. rw q (ap (λ (rs : List ℕ). t.rule ∷ rs) (broken_append ts us)))
    (λ q. rw q (broken_append ts us))

abbrev rule_of : Test → ℕ
rule_of t = t.rule

idle : (ts : List Test) → any_of bars (map rule_of ts) ≡ false → any_of bars (broken_of ts) ≡ false
unfolding any_of
idle [] e = refl
idle (t ∷ ts) e =
    go t.broken (idle ts (or_right (bars t.rule) (any_of bars (map rule_of ts)) e))
  where
    go : (b : Bool) → any_of bars (broken_of ts) ≡ false → any_of bars (cond b (t.rule ∷ broken_of ts) (broken_of ts)) ≡ false
    go true w = rw (or_left (bars t.rule) (any_of bars (map rule_of ts)) e) w
    go false w = w

block_idle : (above : List Digest) (it : Digest) (h : Option Heading) → any_of bars (broken_of (block_tests above it h)) ≡ false
unfolding any_of block_tests
block_idle above it None = refl
block_idle above it (Some h) = idle (block_tests above it (Some h)) refl

-- what stands above and below an item plays no part
module _ (terms : Terms) (i : Item) where
  abbrev own : List Test
  own = own_tests terms (digest i) (head_of i.head)

  abbrev front : List Test
  front = (1 if rule1 i.head.owner) ∷ (4 if rule4 i.head.owner) ∷ (6 if rule6_at i.head) ∷ own

  rest_idle : (above below : List Item) → any_of bars (broken_of ((16 if rule16_at above i below) ∷ block_tests (map digest above) (digest i) (head_of i.head))) ≡ false
  unfolding any_of
  rest_idle above below = by_test (rule16_at above i below)
      (λ q. rw q (block_idle (map digest above) (digest i) (head_of i.head)))
      (λ q. rw q (block_idle (map digest above) (digest i) (head_of i.head)))

  pub head_alone : (above below : List Item) → any_of bars (broken_of (head_tests terms above i below)) ≡ any_of bars (broken_of front)
  unfolding head_tests
  head_alone above below =
      let bs = (16 if rule16_at above i below) ∷ block_tests (map digest above) (digest i) (head_of i.head) in
      ap (any_of bars) (broken_append front bs)
      ∙ any_append bars (broken_of front) (broken_of bs)
      ∙ ap (λ (t : Bool). any_of bars (broken_of front) || t) (rest_idle above below)
      ∙ or-false (any_of bars (broken_of front))

pub items_barred_lem : (terms : Terms) (above is : List Item) → any_barred (items terms above is) ≡ items_barred terms is
unfolding any_barred items_barred item_barred
items_barred_lem terms above [] = refl
items_barred_lem terms above (i ∷ is) =
    ap (λ (t : Bool). any_of bars (broken_of (head_tests terms above i is)) || t) (barred_both (inner terms i) (items terms (i ∷ above) is) ∙ ap (λ (t : Bool). any_barred (inner terms i) || t) (items_barred_lem terms (i ∷ above) is))
    ∙ ap (λ (t : Bool). t || (any_barred (inner terms i) || items_barred terms is)) (head_alone terms i above is ∙ sym (head_alone terms i [] []))
    ∙ sym (or_assoc (any_of bars (broken_of (head_tests terms [] i []))) (any_barred (inner terms i)) (items_barred terms is))
