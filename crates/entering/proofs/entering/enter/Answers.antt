use Prim.Native.Nat.{ℕ, ◌-◌, ◌≤◌, ◌<◌}
use native.Mathlib.Omega.{arith}
use mathlib.Core.Path.{◌≡◌, refl, sym, subst, ◌∙◌}
use mathlib.Core.Bool.{true}
use lib.ListN.{length}
use Rattle.std.proofs.lemmas.Result.{err_from_is_err_and}
use Rattle.lines.specs.Lines.{body}
use Rattle.rules.specs.Terms.{input}
use Rattle.rules.specs.Faults.{faults}
use Rattle.register.specs.Register.{is_register}
use Rattle.adding.proofs.Lengths.{register_size}
use Rattle.entering.proofs.Tests.{refused_by, not_register, other_code, day_before, has_faults, items, not_long, mark_last, total_is, front_fits}
use Rattle.entering.proofs.Again.{accepted_dated, body_dated, accepted_read, body_read}
use Rattle.entering.proofs.entering.enter.Goals as goal
use Rattle.entering.proofs.entering.enter.Goals.{Else-not-is_register, Else-faults-ne0}

-- the register stands
good : (c : Else-not-is_register) → is_register c.args.register.now ≡ true
good c = sym c.is_register.ensures ∙ c.if-not-is_register.false

-- the mark stands last
marked : (c : Else-faults-ne0) → (1 ≤ length c.args.file.now) × (length c.args.file.now - 1 ≡ length (body c.args.file.now))
marked c = let s = c.args in mark_last s.register.now s.file.now s.code s.day s.target.now c.in_ok-faults.ensures _ refl

-- the file has no faults
clean : (c : Else-faults-ne0) → length (faults (input c.args.code c.args.day) c.args.file.now) ≡ 0
clean c = let s = c.args in sym (total_is s.register.now s.file.now s.code s.day s.target.now c.in_ok-faults.ensures _ refl) ∙ c.if-faults-ne0.false

pub returns-then-not-is_register : goal.returns-then-not-is_register
returns-then-not-is_register c =
    let s = c.args in
    not_register s.register.now s.file.now s.code s.day s.target.now c.in_ok-faults.ensures _ refl (sym c.is_register.ensures ∙ c.if-not-is_register.true)

pub read-requires : goal.read-requires
read-requires c = (let h = register_size _ (good (goal.at.read-requires c).Else-not-is_register) in omega arith, omega arith)

pub returns-then-read-code : goal.returns-then-read-code
returns-then-read-code c =
    let s = c.args in
    other_code s.register.now s.file.now s.code s.day s.target.now c.in_ok-faults.ensures _ refl
    (good (goal.at.returns-then-read-code c).Else-not-is_register)
    (λ q. c.if-read-code.true (c.read.ensures ∙ q))

pub returns-then-day-read : goal.returns-then-day-read
returns-then-day-read c =
    let s = c.args in
    day_before s.register.now s.file.now s.code s.day s.target.now c.in_ok-faults.ensures _ refl
    (good (goal.at.returns-then-day-read c).Else-not-is_register)
    (sym c.read.ensures ∙ c.if-read-code.false)
    (subst (λ (x : ℕ). s.day < x) c.read-2.ensures c.if-day-read.true)

pub returns-then-faults-ne0 : goal.returns-then-faults-ne0
returns-then-faults-ne0 c =
    let s = c.args in
    has_faults s.register.now s.file.now s.code s.day s.target.now c.in_ok-faults.ensures _ refl
    (good (goal.at.returns-then-faults-ne0 c).Else-not-is_register)
    (sym c.read.ensures ∙ c.if-read-code.false)
    (subst (λ (x : ℕ). x ≤ s.day) c.read-2.ensures c.if-day-read.false)
    c.if-faults-ne0.true

pub overflow_sub-k : goal.overflow_sub-k
overflow_sub-k c = let m = (marked (goal.at.overflow_sub-k c).Else-faults-ne0).0 in omega (arith, m)

pub enter_items-requires : goal.enter_items-requires
enter_items-requires c =
    let d = (goal.at.enter_items-requires c).Else-faults-ne0 in
    let s = c.args in
    let n = not_long s.register.now s.file.now s.code s.day s.target.now c.in_ok-faults.ensures _ refl in
    let k = (marked d).1 in (
      good (goal.at.enter_items-requires c).Else-not-is_register,
      omega (arith, n, front_fits (length s.file.now - 1) s.file.now),
      body_dated s.file.now _ k (accepted_dated s.code s.day s.file.now (clean d)),
      body_read s.file.now _ k (accepted_read s.code s.day s.file.now (clean d)),
    )

pub returns-in_err-faults : goal.returns-in_err-faults
returns-in_err-faults c =
    let s = c.args in
    let p = err_from_is_err_and c.from_residual.result c.from_residual.ensures.1 in
    rw (p.1, p.2) (refused_by s.register.now s.file.now s.code s.day s.target.now c.in_err-faults.ensures _ refl)

pub returns : goal.returns
returns c =
    let s = c.args in
    items s.register.now s.file.now s.code s.day s.target.now c.in_ok-faults.ensures _ refl
    (good (goal.at.returns c).Else-not-is_register)
    (sym c.read.ensures ∙ c.if-read-code.false)
    (subst (λ (x : ℕ). x ≤ s.day) c.read-2.ensures c.if-day-read.false)
    c.if-faults-ne0.false _
    (marked (goal.at.returns c).Else-faults-ne0).1
    c.enter_items.ensures
