-- Document 02, M-100: what a record has after its kind, and the string after its edition: fields, each a number with a limit.
use Rattle.std.specs.Prelude.{ℕ, zero, suc, cond, List, [], ◌∷◌, leb, eqb}
use Rattle.std.proofs.Math.Option.{Option, none, some}
use Rattle.record.specs.Number.{Number, found, refused, number, unknown, too_large}

-- ---- the limits

-- a field of 16 bits. Registers, M and H may be up to 65,535 here
abbrev pub most16 : ℕ
most16 = 65535

-- a field of 32 bits
abbrev pub most32 : ℕ
most32 = 4294967295

-- the fields of the kinds, from 0 on
abbrev pub kind_table : List (List ℕ)
kind_table =
    -- 0, the end: how many records came before it
    (most32 ∷ []) ∷
    -- 1 SETD r,v
    (most16 ∷ most32 ∷ []) ∷
    -- 2 NIL r
    (most16 ∷ []) ∷
    -- 3 MOVE r,s
    (most16 ∷ most16 ∷ []) ∷
    -- 4 ADVANCE r,n
    (most16 ∷ most16 ∷ []) ∷
    -- 5 GETM r,n,tag
    (most16 ∷ most16 ∷ most16 ∷ []) ∷
    -- 6 LOAD r,s,k
    (most16 ∷ most16 ∷ most16 ∷ []) ∷
    -- 7 STORE r,s,k
    (most16 ∷ most16 ∷ most16 ∷ []) ∷
    -- 8 SIZE r,s
    (most16 ∷ most16 ∷ []) ∷
    -- 9 TAG r,s
    (most16 ∷ most16 ∷ []) ∷
    -- 10 SAME r,s,t
    (most16 ∷ most16 ∷ most16 ∷ []) ∷
    -- 11, a number of single collector steps
    (most32 ∷ []) ∷
    []

unfoldable pub row : ℕ → List (List ℕ) → Option (List ℕ)
row k [] = none
row zero (r ∷ rs) = some r
row (suc k) (r ∷ rs) = row k rs

-- the fields of a kind; there are no kinds above 11
unfoldable pub kinds : ℕ → Option (List ℕ)
kinds k = row k kind_table

-- edition 1, then M and H; there are no other editions
unfoldable pub editions : ℕ → Option (List ℕ)
editions e = cond (eqb e 1) (some (most16 ∷ most16 ∷ [])) none

-- ---- reading

-- numbers that were read whole and the bytes behind them, or what refuses them
pub data Item : Type 0 where
  whole : List ℕ → List ℕ → Item
  fault : ℕ → Item

unfoldable pub joined : ℕ → Item → Item
joined n (whole ns rest) = whole (n ∷ ns) rest
joined n (fault a) = fault a

-- a number above its limit is refused where it stands
unfoldable pub within : ℕ → Number → Number
within l (found n rest) = cond (leb n l) (found n rest) (refused too_large)
within l (refused a) = refused a

unfoldable pub field : ℕ → List ℕ → Number
field l bs = within l (number bs)

-- one field for each limit
unfoldable pub fields : List ℕ → List ℕ → Item
fields [] bs = whole [] bs
fields (l ∷ ls) bs = elim (field l bs) [ found n rest ↦ joined n (fields ls rest) | refused a ↦ fault a ]

-- the fields of what a number names
unfoldable pub named : Option (List ℕ) → ℕ → List ℕ → Item
named none k rest = fault unknown
named (some ls) k rest = joined k (fields ls rest)

-- a number that the table knows, and its fields
unfoldable pub entry : (ℕ → Option (List ℕ)) → List ℕ → Item
entry table bs = elim (number bs) [ found k rest ↦ named (table k) k rest | refused a ↦ fault a ]
