-- What a C host is answered and holds of a file that comes in portions, each call's whole promise one record.
use Rattle.std.specs.Prelude.{ℕ, ◌≡◌, Bool, cond, List, [], ◌++◌, set}
use Rattle.laws.specs.Refusals.{first}
use Rattle.portions.specs.declared.Portions.{Portions}
use Rattle.portions.specs.Usable.{is_open}
use Rattle.portions.specs.States.{Rooms, Holds}
use Rattle.portions_opening.specs.Opening.{open_refusals}
use Rattle.portions_adding.specs.Adding.{adding_number}
use Rattle.answering.specs.Closing.{close_refusals}
use Rattle.stored.specs.Stored.{state_in}
use Rattle.checking_face.specs.Face.{CheckedAt}

-- what `struct certis_portions` holds: the numbers of a state ..
pub record Numbers : Type 0 where
  pub wide : List ℕ
  pub length : ℕ
  pub narrow : List ℕ
  pub frame : List ℕ
  pub small : List ℕ
  pub text : List ℕ

abbrev pub state_of : Numbers → Portions
state_of x = state_in x.wide x.length x.narrow x.frame x.small x.text

-- .. and its lists
pub record Lent : Type 0 where
  pub numbers : Numbers
  pub lines : List ℕ
  pub rules : List ℕ
  pub offsets : List ℕ
  pub stood : List ℕ

abbrev pub is_open_at : Lent → Bool
is_open_at a = is_open (state_of a.numbers) a.lines a.rules a.offsets

-- it is open for a code and a day, and these bytes came
abbrev pub HoldsAt : ℕ → ℕ → List ℕ → Lent → Type 0
HoldsAt code day file a = Holds code day file (state_of a.numbers) a.lines a.rules a.offsets a.stood

-- certis_portions_open: the refusal or 0, and a state that holds the empty file, whatever stands in its three lists of 256
pub record PortionsOpenedAt (code day : ℕ) (x : Numbers) (stood : List ℕ) (r : ℕ) (y : Numbers) (stood' : List ℕ) : Type 0 where
  pub number : r ≡ first (open_refusals code day)
  pub kept : (r ≡ 0 → ⊥) → (y ≡ x) × (stood' ≡ stood)
  pub holds : r ≡ 0 → (ls rs ps : List ℕ) → Rooms ls rs ps → Holds code day [] (state_of y) ls rs ps stood'

-- certis_portions_add: 18 for a state that is not open, and then nothing changes; or 0, and the state holds these bytes too
pub record PortionAddedAt (s : List ℕ) (a : Lent) (r : ℕ) (b : Lent) : Type 0 where
  pub number : r ≡ adding_number (is_open_at a)
  pub kept : (r ≡ 0 → ⊥) → b ≡ a
  pub goes_on : (code day : ℕ) (file : List ℕ) → HoldsAt code day file a → HoldsAt code day (file ++ s) b

-- the mark of an open state is taken away
abbrev pub closed_of : Numbers → Numbers
closed_of x = record { wide = x.wide; length = x.length; narrow = x.narrow; frame = set x.frame 0 0; small = x.small; text = x.text }

-- certis_portions_close: the refusal or 0, the three lists and the total as certis_check leaves them for all bytes that came; an open state
-- is closed, refused or not, and on a refusal nothing else changes
pub record PortionsClosedAt (a : Lent) (os₀ qs₀ ts₀ : List ℕ) (before r : ℕ) (b : Lent) (os qs ts : List ℕ) (after : ℕ) : Type 0 where
  pub number : r ≡ first (close_refusals (state_of a.numbers) a.lines a.rules a.offsets)
  pub numbers : b.numbers ≡ cond (is_open_at a) (closed_of a.numbers) a.numbers
  pub kept : (r ≡ 0 → ⊥) → (b.lines ≡ a.lines) × (b.rules ≡ a.rules) × (b.offsets ≡ a.offsets) × (b.stood ≡ a.stood) × (os ≡ os₀) × (qs ≡ qs₀) × (ts ≡ ts₀) × (after ≡ before)
  pub checks : (code day : ℕ) (file : List ℕ) → HoldsAt code day file a → Rooms os₀ qs₀ ts₀ → CheckedAt file code day os₀ qs₀ ts₀ before r os qs ts after
