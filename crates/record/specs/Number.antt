-- Document 02, M-100: a number is in groups of seven bits, lowest group first, high bit set on all but the last, in the shortest form
-- only, 32 bits at most.
use Rattle.std.specs.Prelude.{ℕ, zero, suc, ◌+◌, ◌-◌, ◌*◌, ◌/◌, ◌%◌, cond, List, [], ◌∷◌, leb, ltb, eqb}

-- ---- the refusals, by name

-- the string ends inside a number, or before what must come
abbrev pub cut : ℕ
cut = 20

-- a long form, or more than 32 bits
abbrev pub long_form : ℕ
long_form = 21

-- an unknown kind or edition
abbrev pub unknown : ℕ
unknown = 22

-- a field too large for its kind, or a wrong record count
abbrev pub too_large : ℕ
too_large = 23

-- bytes after the end
abbrev pub bytes_after : ℕ
bytes_after = 24

-- the writer's lent output is too short
abbrev pub too_short : ℕ
too_short = 25

-- what is lent is no list of records that ends with one, or there are fewer numbers than bytes: no answer of document 02
abbrev pub not_understood : ℕ
not_understood = 4294967295

-- ---- reading

-- what stands at the start of some bytes: a number and the bytes behind it, or what refuses it
pub data Number : Type 0 where
  found : ℕ → List ℕ → Number
  refused : ℕ → Number

-- the lowest group before the others
unfoldable pub before : ℕ → Number → Number
before g (found n rest) = found (g + 128 * n) rest
before g (refused a) = refused a

-- the groups behind the first, where k more may follow this one. A last group of 0 is a long form; the fifth group, which none may
-- follow, has four bits, and a byte above 0F there is refused even where the string ends
unfoldable pub more_groups : ℕ → List ℕ → Number
more_groups k [] = refused cut
more_groups zero (b ∷ bs) = cond (eqb b 0) (refused long_form) (cond (leb b 15) (found b bs) (refused long_form))
more_groups (suc k) (b ∷ bs) =
    cond (eqb b 0) (refused long_form) (cond (ltb b 128) (found b bs) (before (b - 128) (more_groups k bs)))

-- the first group: alone it may be 0
unfoldable pub number : List ℕ → Number
number [] = refused cut
number (b ∷ bs) = cond (ltb b 128) (found b bs) (before (b - 128) (more_groups 3 bs))

-- ---- writing

-- the groups of a number, where k more may follow this one
unfoldable pub groups : ℕ → ℕ → List ℕ
groups zero n = n ∷ []
groups (suc k) n = cond (ltb n 128) (n ∷ []) ((n % 128 + 128) ∷ groups k (n / 128))

-- a number of 32 bits has at most five groups
unfoldable pub number_bytes : ℕ → List ℕ
number_bytes n = groups 4 n
