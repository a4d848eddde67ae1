-- What a register holds after a file was entered: what it held of the days that stay and the file's numbers, and it is the only one in order
-- that holds just these.
use Prim.Native.Nat.{ℕ}
use mathlib.Core.Path.{◌≡◌, sym, ap, ◌∙◌}
use mathlib.Core.Bool.{Bool, true, not, ◌&&◌, ◌||◌}
use mathlib.Core.List.{List}
use Rattle.lines.specs.Lines.{body}
use Rattle.days.specs.Days.{later}
use Rattle.register.specs.Register.{Range, in_order, register_of, is_register}
use Rattle.register.specs.Entering.{Use, kept, holds, stands_in, add_all, entered}
use Rattle.register.specs.Spans.{Sound}
use Rattle.register.proofs.Sets.{order_strung, strung_order, kept_members, all_members, all_sound, all_ordered, determined}
use Rattle.register.proofs.Formed.{Formed, formed, stand_sound}
use Rattle.adding.proofs.Uses.{uses_fit, kept_strung, kept_sound}
use Rattle.adding.proofs.Lengths.{is_formed}
use Rattle.entering.specs.Jobs.{uses_of}

module _ (register file : List ℕ) (day : ℕ) (e : is_register register ≡ true) where
  f : Formed (register_of register)
  f = formed (register_of register) (is_formed register e)

  S₀ : Sound (register_of register).ranges
  S₀ = stand_sound (register_of register).latest (register_of register).ranges f.stand

  S : Sound (kept day (register_of register).ranges)
  S = kept_sound day (register_of register).ranges S₀

  O : in_order (kept day (register_of register).ranges) ≡ true
  O = strung_order 0 (kept day (register_of register).ranges) S (kept_strung 0 day (register_of register).ranges (order_strung (register_of register).ranges S₀ f.order))

  pub entered_holds : (v : Use) → holds (entered (register_of register) day (uses_of file)).ranges v ≡ ((holds (register_of register).ranges v && not (later day v.day 10)) || stands_in v (uses_of file))
  entered_holds v =
      all_members (uses_of file) v (kept day (register_of register).ranges) (uses_fit 1 (body file)) S O
      ∙ ap (λ (b : Bool). b || stands_in v (uses_of file)) (kept_members day (register_of register).ranges v)

  pub entered_only : (rs : List Range) → Sound rs → in_order rs ≡ true → ((v : Use) → holds rs v ≡ ((holds (register_of register).ranges v && not (later day v.day 10)) || stands_in v (uses_of file)))
      → rs ≡ (entered (register_of register) day (uses_of file)).ranges
  entered_only rs R P same =
      determined rs (add_all (uses_of file) (kept day (register_of register).ranges)) R
      (all_sound (uses_of file) (kept day (register_of register).ranges) (uses_fit 1 (body file)) S)
      P (all_ordered (uses_of file) (kept day (register_of register).ranges) (uses_fit 1 (body file)) S O)
      (λ v F. same v ∙ sym (entered_holds v))
