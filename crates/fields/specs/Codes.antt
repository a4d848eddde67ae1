-- Model of the code, not part of the statement: the classes of fields as numbers.
use Rattle.std.specs.Prelude.{ℕ, Bool, ◌||◌, eqb, leb}
use Rattle.fields.specs.declared.classes.Class.{Class}
use Rattle.fields.specs.declared.classes.Class.TheVariants.{Money, Number, Range, Group, Account, Text, Free}
use Rattle.fields.specs.Classes.{class_of}

-- 1 takes any tail and claims at once; 5 and above claim when they close
abbrev pub code_by : Class → ℕ
code_by Free = 0
code_by Money = 1
code_by Number = 2
code_by Account = 3
code_by Text = 4
code_by Range = 5
code_by Group = 6

-- that of an identifier
unfoldable pub code_of : ℕ → ℕ
code_of i = code_by (class_of i)

-- a KC, an IN, an S0 to S9: it says something that the item's heading needs
abbrev pub claims : ℕ → Bool
claims k = eqb k 1 || leb 5 k
