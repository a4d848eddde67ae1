-- The identifiers of each class (document 01, 'Layouts'), each set one list, and the groups of the S fields.
use Rattle.std.specs.Prelude.{ℕ, Bool, cond, List, [], ◌∷◌}
use Rattle.laws.specs.Tests.{among}
use Rattle.fields.specs.declared.classes.Class.{Class}
use Rattle.fields.specs.declared.classes.Class.TheVariants.{Money, Number, Range, Group, Account, Text, Free}
use Rattle.fields.specs.Kinds.{named, place}

abbrev pub money_fields : List ℕ
money_fields = named "KC" ∷ []

abbrev pub number_fields : List ℕ
number_fields = named "EC" ∷ named "AK" ∷ named "ZK" ∷ []

abbrev pub range_fields : List ℕ
range_fields = named "IN" ∷ []

-- in the order of their digits; S9 by document 02, A3
abbrev pub group_fields : List ℕ
group_fields = named "S0" ∷ named "S1" ∷ named "S2" ∷ named "S3" ∷ named "S4" ∷ named "S5" ∷ named "S6" ∷ named "S7" ∷ named "S8" ∷ named "S9" ∷ []

abbrev pub account_fields : List ℕ
account_fields = named "UD" ∷ named "UK" ∷ []

abbrev pub text_fields : List ℕ
text_fields = named "DI" ∷ named "KI" ∷ named "ZP" ∷ named "AV" ∷ []

-- the first of the tests that holds gives the class
abbrev pub class_by : Bool → Bool → Bool → Bool → Bool → Bool → Class
class_by money number range group account text =
    cond money Money (cond number Number (cond range Range (cond group Group (cond account Account (cond text Text Free)))))

unfoldable pub class_of : ℕ → Class
class_of i = class_by (among i money_fields) (among i number_fields) (among i range_fields) (among i group_fields) (among i account_fields) (among i text_fields)

-- the digit of a group's identifier, and the number of groups for any other identifier
unfoldable pub sum_group : ℕ → ℕ
sum_group i = place i group_fields
