-- Document 02, M-100: a whole string is edition, M and H, then records, then kind 0 and how many records came before it. Reading takes any
-- bytes to what was read whole and an answer: 0, or what refuses the string, the first fault from the left.
use Rattle.std.specs.Prelude.{ℕ, zero, suc, Bool, true, false, cond, List, [], ◌∷◌, ◌++◌, leb, eqb, length, get_or}
use Rattle.record.specs.Number.{cut, too_large, bytes_after, not_understood}
use Rattle.record.specs.Fields.{whole, fault, kinds, editions, entry}

-- what was read whole: edition, M and H, and then each record's kind and fields; and the answer
pub record Reading : Type 0 where
  pub items : List (List ℕ)
  pub answer : ℕ

abbrev pub reading : List (List ℕ) → ℕ → Reading
reading is a = record { items = is; answer = a }

abbrev pub item_before : List ℕ → Reading → Reading
item_before ns r = reading (ns ∷ r.items) r.answer

-- kind 0 is the end
abbrev pub is_end : List ℕ → Bool
is_end ns = eqb (get_or ns 0 0) 0

unfoldable pub nothing_behind : List ℕ → Bool
nothing_behind [] = true
nothing_behind (b ∷ bs) = false

-- at the end: first the count, then what is behind it
unfoldable pub ending : ℕ → List ℕ → List ℕ → ℕ
ending count ns rest = cond (eqb (get_or ns 1 0) count) (cond (nothing_behind rest) 0 bytes_after) too_large

-- the records, of which `count` came before. Each takes a byte or more, so as many turns as there are bytes are enough
unfoldable pub records_in : ℕ → ℕ → List ℕ → Reading
records_in zero count bs = reading [] cut
records_in (suc turns) count bs =
    elim (entry kinds bs) [ whole ns rest ↦ cond (is_end ns) (reading [] (ending count ns rest)) (item_before ns (records_in turns (suc count) rest)) | fault a ↦ reading [] a ]

unfoldable pub records : ℕ → List ℕ → Reading
records count bs = records_in (length bs) count bs

unfoldable pub read : List ℕ → Reading
read bs = elim (entry editions bs) [ whole ns rest ↦ item_before ns (records 0 rest) | fault a ↦ reading [] a ]

-- a number takes a byte or more, so as many lent numbers as bytes are enough; with fewer, nothing is read
unfoldable pub read_into : ℕ → List ℕ → Reading
read_into room bs = cond (leb (length bs) room) (read bs) (reading [] not_understood)

-- all numbers of what was read, one after the other
unfoldable pub all_numbers : List (List ℕ) → List ℕ
all_numbers [] = []
all_numbers (ns ∷ is) = ns ++ all_numbers is
