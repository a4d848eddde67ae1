-- The kinds of lines (document 01, 'Lines, fields, items, blocks'), and the number of a field's identifier.
use Rattle.std.specs.Prelude.{ℕ, suc, ◌+◌, ◌*◌, Bool, ◌&&◌, cond, List, [], ◌∷◌, get_or, eqb}
use Prim.Native.String.{String}
use Rattle.laws.specs.Ascii.{ascii}
use Rattle.laws.specs.Tests.{among}
use Rattle.text.specs.Strings.{begins}
use Rattle.fields.specs.declared.kinds.Kind.{Kind}
use Rattle.fields.specs.declared.kinds.Kind.TheVariants.{Heading, Continuation, Field, Other}

-- the bytes of identifiers
abbrev pub symbols : List ℕ
symbols = ascii "0123456789ABCDEFGHIJKLMNOPQRSTUVWXYZ"

-- the place of a number in a list, and the list's length where it does not stand there
unfoldable pub place : ℕ → List ℕ → ℕ
place x [] = 0
place x (y ∷ ys) = cond (eqb x y) 0 (suc (place x ys))

-- the first two bytes of a line as a number of two digits to the base 36
abbrev pub ident_of : List ℕ → ℕ
ident_of l = place (get_or l 0 0) symbols * 36 + place (get_or l 1 0) symbols

-- the number of an identifier that is written out
abbrev pub named : String → ℕ
named s = ident_of (ascii s)

-- 'two of A–Z, 0–9 and a colon'
abbrev pub is_field : List ℕ → Bool
is_field l = (among (get_or l 0 0) symbols && among (get_or l 1 0) symbols) && eqb (get_or l 2 0) 0x3A

abbrev pub kind_by : Bool → Bool → Bool → ℕ → Kind
kind_by heading continuation field ident = cond heading Heading (cond continuation Continuation (cond field (Field ident) Other))

-- 'a heading if it starts with `HD:`, a continuation if it starts with three spaces, a field if .. (and isn't a heading)'
unfoldable pub kind_of : List ℕ → Kind
kind_of l = kind_by (begins l (ascii "HD:")) (begins l (ascii "   ")) (is_field l) (ident_of l)
