-- The row of keys and spans as the code takes it: one span a turn, and what is stored of those that are closed.
use Prim.Native.Nat.{ℕ, zero, suc, ◌+◌, ◌-◌, ◌≤◌, ◌<◌}
use native.Mathlib.Omega.{arith}
use native.Mathlib.Numerals.{add-one}
use mathlib.Core.Path.{◌≡◌, refl, sym, ap, ◌∙◌, subst}
use mathlib.Core.Bool.{true, false}
use mathlib.Core.List.{List, [], ◌∷◌, ◌++◌, append_assoc, append-nil}
use lib.ListN.{length, take, drop, get_or, set, length-set}
use lib.Seq.{drop-cons, take-suc-set}
use borrow.Author.Tests.{lt-ltb, le-ltb, le-leb, lt-leb, eq-eqb, ne_eqb}
use Rattle.std.specs.Prelude.{Some}
use Rattle.register.specs.Spans.{Span, froms, tos}
use Rattle.merging.specs.declared.Turn.{Turn}
use Rattle.merging.specs.Merging.{one, paired, after, weave, hits, closed, Takes, row_of, Merges}

pub drop_past : (l : List ℕ) (n : ℕ) → length l ≤ n → drop n l ≡ []
drop_past [] zero h = refl
drop_past [] (suc n) h = refl
drop_past (x ∷ l) zero h = absurd (omega arith)
drop_past (x ∷ l) (suc n) h = drop_past l n (omega arith)

pub drop_more : (l : List ℕ) (n : ℕ) → n < length l → drop n l ≡ get_or l n 0 ∷ drop (n + 1) l
drop_more l n h = rw (add-one, drop-cons l n 0)

-- ---- one turn, of lists
span_alone : {xs ys ks : List ℕ} {x y : ℕ} {xs' ys' : List ℕ} → xs ≡ x ∷ xs' → ys ≡ y ∷ ys' → ks ≡ [] → weave (paired xs ys) ks ≡ record { from = x; to = y } ∷ weave (paired xs' ys') ks
unfolding weave after
span_alone p q r = rw (p, q, r)

key_alone : {xs ks : List ℕ} {k : ℕ} {ks' : List ℕ} (ys : List ℕ) → ks ≡ k ∷ ks' → xs ≡ [] → weave (paired xs ys) ks ≡ one k ∷ weave (paired xs ys) ks'
unfolding weave after
key_alone ys p q = rw (p, q)

key_first : {xs ys ks : List ℕ} {x y k : ℕ} {xs' ys' ks' : List ℕ} → xs ≡ x ∷ xs' → ys ≡ y ∷ ys' → ks ≡ k ∷ ks' → k < x → weave (paired xs ys) ks ≡ one k ∷ weave (paired xs ys) ks'
unfolding weave after
key_first {x = x} {k = k} p q r h = rw (p, q, r, lt-ltb k x h)

span_first : {xs ys ks : List ℕ} {x y k : ℕ} {xs' ys' ks' : List ℕ} → xs ≡ x ∷ xs' → ys ≡ y ∷ ys' → ks ≡ k ∷ ks' → x ≤ k → weave (paired xs ys) ks ≡ record { from = x; to = y } ∷ weave (paired xs' ys') ks
unfolding weave after
span_first {x = x} {k = k} p q r h = rw (p, q, r, le-ltb k x h)

module _ (keys starts ends : List ℕ) (i j : ℕ) (e : length starts ≡ length ends) where
  pub takes_span_alone : length keys ≤ i → i ≤ length keys → j < length starts → Takes keys starts ends i j (record { from = get_or starts j 0; to = get_or ends j 0; keys = i; spans = j + 1 })
  takes_span_alone h k l = record {
    cut = span_alone (drop_more starts j l) (drop_more ends j (omega arith)) (drop_past keys i h);
    on = omega arith;
    keys_in = k;
    spans_in = omega arith;
  }

  pub takes_key_alone : i < length keys → length starts ≤ j → j ≤ length starts → Takes keys starts ends i j (record { from = get_or keys i 0; to = get_or keys i 0; keys = i + 1; spans = j })
  takes_key_alone h l k = record {
    cut = key_alone (drop j ends) (drop_more keys i h) (drop_past starts j l);
    on = omega arith;
    keys_in = omega arith;
    spans_in = k;
  }

  module _ (h : i < length keys) (l : j < length starts) where
    pub takes_key : get_or keys i 0 < get_or starts j 0 → Takes keys starts ends i j (record { from = get_or keys i 0; to = get_or keys i 0; keys = i + 1; spans = j })
    takes_key k = record {
      cut = key_first (drop_more starts j l) (drop_more ends j (omega arith)) (drop_more keys i h) k;
      on = omega arith;
      keys_in = omega arith;
      spans_in = omega arith;
    }

    pub takes_span : get_or starts j 0 ≤ get_or keys i 0 → Takes keys starts ends i j (record { from = get_or starts j 0; to = get_or ends j 0; keys = i; spans = j + 1 })
    takes_span k = record {
      cut = span_first (drop_more starts j l) (drop_more ends j (omega arith)) (drop_more keys i h) k;
      on = omega arith;
      keys_in = omega arith;
      spans_in = omega arith;
    }

-- ---- what is closed so far: a span is open, and the rest of the row is left
pub record So (all left : List Span) (from to count : ℕ) (xs ys : List ℕ) : Type 0 where
  pub hit : hits 0 all ≡ hits to left
  pub many : length (closed 0 0 all) ≡ count + length (closed from to left)
  pub firsts : count ≤ length xs → froms (closed 0 0 all) ≡ take count xs ++ froms (closed from to left)
  pub lasts : count ≤ length ys → tos (closed 0 0 all) ≡ take count ys ++ tos (closed from to left)

pub so_start : (all : List Span) (xs ys : List ℕ) → So all all 0 0 0 xs ys
so_start all xs ys = record { hit = refl; many = omega arith; firsts = λ h. refl; lasts = λ h. refl }

-- a number stored behind those stored before
pub stored : (c : ℕ) (xs : List ℕ) (v : ℕ) (rest all : List ℕ) → c < length xs → all ≡ take c xs ++ (v ∷ rest) → all ≡ take (c + 1) (set xs c v) ++ rest
stored c xs v rest all h f = f ∙ (rw (add-one, take-suc-set xs c v h, append_assoc))

stored_in : (c : ℕ) (xs : List ℕ) (v : ℕ) (rest all : List ℕ) → (c ≤ length xs → all ≡ take c xs ++ (v ∷ rest)) → c + 1 ≤ length (set xs c v) → all ≡ take (c + 1) (set xs c v) ++ rest
stored_in c xs v rest all f h = stored c xs v rest all (omega (arith, length-set xs c v)) (f (omega (arith, length-set xs c v)))

module _ {all l : List Span} {s : Span} {f t c : ℕ} {xs ys : List ℕ} (W : So all (s ∷ l) f t c xs ys) where
  pub so_hit : s.from ≤ t → hits 0 all ≡ true
  unfolding hits
  so_hit h = W.hit ∙ (rw (le-leb s.from t h))

  no : t < s.from → hits 0 all ≡ hits s.to l
  unfolding hits
  no h = W.hit ∙ (rw (lt-leb s.from t h))

  touching : t + 1 ≡ s.from → closed f t (s ∷ l) ≡ closed f s.to l
  unfolding closed
  touching e = rw (eq-eqb (t + 1) s.from e)

  clear : (t + 1 ≡ s.from → ⊥) → closed f t (s ∷ l) ≡ record { from = f; to = t } ∷ closed s.from s.to l
  unfolding closed
  clear e = rw (ne_eqb (t + 1) s.from e)

  pub so_touch : t < s.from → s.from - 1 ≤ t → So all l f s.to c xs ys
  so_touch h k =
      let e = touching (omega arith) in
      record {
        hit = no h;
        many = W.many ∙ ap (λ (x : List Span). c + length x) e;
        firsts = λ q. W.firsts q ∙ ap (λ (x : List Span). take c xs ++ froms x) e;
        lasts = λ q. W.lasts q ∙ ap (λ (x : List Span). take c ys ++ tos x) e;
      }

  pub so_gap : t < s.from - 1 → So all l s.from s.to (c + 1) (set xs c f) (set ys c t)
  so_gap h =
      let e = clear (λ q. omega arith) in
      record {
        hit = no (omega arith);
        many = W.many ∙ (rw e (omega arith));
        firsts = stored_in c xs f (froms (closed s.from s.to l)) (froms (closed 0 0 all)) (λ q. W.firsts q ∙ ap (λ (x : List Span). take c xs ++ froms x) e);
        lasts = stored_in c ys t (tos (closed s.from s.to l)) (tos (closed 0 0 all)) (λ q. W.lasts q ∙ ap (λ (x : List Span). take c ys ++ tos x) e);
      }

module _ {all : List Span} {f t c : ℕ} {xs ys : List ℕ} (W : So all [] f t c xs ys) where
  pub end_hit : hits 0 all ≡ false
  unfolding hits
  end_hit = W.hit

  pub end_many : c + 1 ≡ length (closed 0 0 all)
  unfolding closed
  end_many = sym W.many

  pub end_firsts : c + 1 ≤ length (set xs c f) → take (c + 1) (set xs c f) ≡ froms (closed 0 0 all)
  unfolding closed
  end_firsts h = sym (append-nil (take (c + 1) (set xs c f))) ∙ sym (stored_in c xs f [] (froms (closed 0 0 all)) W.firsts h)

  pub end_lasts : c + 1 ≤ length (set ys c t) → take (c + 1) (set ys c t) ≡ tos (closed 0 0 all)
  unfolding closed
  end_lasts h = sym (append-nil (take (c + 1) (set ys c t))) ∙ sym (stored_in c ys t [] (tos (closed 0 0 all)) W.lasts h)

-- ---- the loop, by how far it has come in both rows
pub record Going (keys starts ends : List ℕ) (from to count i j left : ℕ) (xs ys : List ℕ) : Type 0 where
  pub so : So (row_of keys starts ends) (weave (paired (drop j starts) (drop j ends)) (drop i keys)) from to count xs ys
  pub keys_in : i ≤ length keys
  pub spans_in : j ≤ length starts
  pub rest : left + (i + j) ≡ length keys + length starts
  pub few : count ≤ i + j

module _ {keys starts ends : List ℕ} where
  pub going_start : (xs ys : List ℕ) → Going keys starts ends 0 0 0 0 0 (length keys + length starts) xs ys
  going_start xs ys = record { so = so_start (row_of keys starts ends) xs ys; keys_in = omega arith; spans_in = omega arith; rest = omega arith; few = omega arith }

  module _ {from to count i j left : ℕ} {xs ys : List ℕ} (G : Going keys starts ends from to count i j left xs ys) {t : Turn} (T : Takes keys starts ends i j t) where
    at : So (row_of keys starts ends) (record { from = t.from; to = t.to } ∷ weave (paired (drop t.spans starts) (drop t.spans ends)) (drop t.keys keys)) from to count xs ys
    at = subst (λ (l : List Span). So (row_of keys starts ends) l from to count xs ys) T.cut G.so

    pub going_hit : t.from ≤ to → hits 0 (row_of keys starts ends) ≡ true
    going_hit h = so_hit at h

    pub going_touch : 0 < left → to < t.from → t.from - 1 ≤ to → Going keys starts ends from t.to count t.keys t.spans (left - 1) xs ys
    going_touch z h k = record { so = so_touch at h k; keys_in = T.keys_in; spans_in = T.spans_in; rest = omega (arith, T.on, G.rest); few = omega (arith, T.on, G.few) }

    pub going_gap : 0 < left → to < t.from - 1 → {xs' ys' : List ℕ} → xs' ≡ set xs count from → ys' ≡ set ys count to
        → Going keys starts ends t.from t.to (count + 1) t.keys t.spans (left - 1) xs' ys'
    going_gap z h p q = record { so = rw (p, q) (so_gap at h); keys_in = T.keys_in; spans_in = T.spans_in; rest = omega (arith, T.on, G.rest); few = omega (arith, T.on, G.few) }

  pub going_end : {from to count i j left : ℕ} {xs ys : List ℕ} → Going keys starts ends from to count i j left xs ys → left ≤ 0 → {xs' ys' : List ℕ} → xs' ≡ set xs count from → ys' ≡ set ys count to
      → Merges keys starts ends (Some (count + 1)) xs' ys'
  unfolding weave
  going_end {from} {to} {count} {i} {j} {left} {xs} {ys} G z p q =
      let W : So (row_of keys starts ends) [] from to count xs ys =
      subst (λ (l : List Span). So (row_of keys starts ends) l from to count xs ys) over G.so in
      rw (p, q) (end_hit W, record { count = end_many W; firsts = end_firsts W; lasts = end_lasts W })
    where
      over : weave (paired (drop j starts) (drop j ends)) (drop i keys) ≡ []
      over = rw (drop_past starts j (omega (arith, z, G.rest, G.keys_in)), drop_past keys i (omega (arith, z, G.rest, G.spans_in)))
