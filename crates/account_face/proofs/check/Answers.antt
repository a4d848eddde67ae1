use Rattle.std.proofs.Common.{◌≡◌, ℕ, Bool, true, false, not, List, sym, refl, ap, ◌∙◌}
use mir.Val.{bool_byte}
use Rattle.figures.specs.Accounts.{Account, halves_of, account_number, prefix_answer, number_answer, prefix_value, number_value, Judges}
use Rattle.figures.proofs.Judged.{prefix_is, number_is}
use Rattle.results.specs.Stored.{stored_at}
use Rattle.account_face.specs.Face.{AccountAt}
use Rattle.account_face.proofs.check.Goals as goal

-- the numbers of an answer are those that a host is to find
told : (p n : List ℕ) {r : Account} {k a b : ℕ} (old old' : ℕ) → Judges p n r → k ≡ account_number r → a ≡ prefix_value r old → b ≡ number_value r old' → AccountAt p n old old' k a b
told p n old old' J e f g =
    let s = sym (e ∙ J.0) in
    record {
      refusal = e ∙ J.0;
      first_half = f ∙ ap (λ (r : Account). prefix_value r old) J.1 ∙ prefix_is p n old ∙ ap (λ (k : ℕ). stored_at k (prefix_answer (halves_of p n).prefix) old) s;
      second_half = g ∙ ap (λ (r : Account). number_value r old') J.1 ∙ number_is p n old' ∙ ap (λ (k : ℕ). stored_at k (number_answer (halves_of p n).number) old') s;
    }

good_is_0 : (good : Bool) → bool_byte (not good) ≡ prefix_answer good
good_is_0 true = refl
good_is_0 false = refl

pub returns-in-Ok : goal.returns-in-Ok
returns-in-Ok c = told _ _ _ _ c.in-Ok.ensures refl (c.from.ensures ∙ good_is_0 _) c.from-in-Ok.ensures

pub returns-in-Err : goal.returns-in-Err
returns-in-Err c = told _ _ _ _ c.in-Err.ensures c.from-in-Err.ensures refl refl
