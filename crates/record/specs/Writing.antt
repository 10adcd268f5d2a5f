-- Document 02, M-100: the writer takes any list of numbers, edition, M, H and then each record's kind and fields, to bytes and an answer: 0,
-- 22 or 23 by the reader's rules, the first fault from the left; then 25 where the lent output is too short. Refused, there are no bytes.
use Rattle.std.specs.Prelude.{ℕ, zero, suc, cond, List, [], ◌∷◌, ◌++◌, leb, eqb, length}
use Rattle.std.proofs.Math.Option.{Option, none, some}
use Rattle.record.specs.Number.{number_bytes, unknown, too_large, too_short, not_understood}
use Rattle.record.specs.Fields.{most32, kinds, editions}
use Rattle.record.specs.Reading.{is_end, nothing_behind}

-- the bytes of an entry and the numbers behind it, or what refuses it
pub data Taken : Type 0 where
  taken : List ℕ → List ℕ → Taken
  turned_down : ℕ → Taken

unfoldable pub bytes_before : List ℕ → Taken → Taken
bytes_before bs (taken cs ns) = taken (bs ++ cs) ns
bytes_before bs (turned_down a) = turned_down a

-- a number for each limit
unfoldable pub take_fields : List ℕ → List ℕ → Taken
take_fields [] ns = taken [] ns
take_fields (l ∷ ls) [] = turned_down not_understood
take_fields (l ∷ ls) (n ∷ ns) =
    cond (leb n l) (bytes_before (number_bytes n) (take_fields ls ns)) (turned_down too_large)

unfoldable pub take_named : Option (List ℕ) → ℕ → List ℕ → Taken
take_named none k ns = turned_down unknown
take_named (some ls) k ns = bytes_before (number_bytes k) (take_fields ls ns)

-- a number that the table knows, and its fields
unfoldable pub take_entry : (ℕ → Option (List ℕ)) → List ℕ → Taken
take_entry table [] = turned_down not_understood
take_entry table (k ∷ ns) = take_named (table k) k ns

pub record Writing : Type 0 where
  pub bytes : List ℕ
  pub answer : ℕ

abbrev pub writing : List ℕ → ℕ → Writing
writing bs a = record { bytes = bs; answer = a }

-- refused, nothing is written
abbrev pub written_before : List ℕ → Writing → Writing
written_before bs w = cond (eqb w.answer 0) (writing (bs ++ w.bytes) 0) w

-- kind 0 and how many records came before it, which is a number of 32 bits
unfoldable pub write_end : ℕ → Writing
write_end count = cond (leb count most32) (writing (number_bytes 0 ++ number_bytes count) 0) (writing [] too_large)

-- the records, of which `count` came before. The end is no record, and the writer makes it. Each record takes a number or more, so as
-- many turns as there are numbers are enough
unfoldable pub write_in : ℕ → ℕ → List ℕ → Writing
write_in zero count ns = write_end count
write_in (suc turns) count ns =
    cond (nothing_behind ns) (write_end count)
    (cond (is_end ns) (writing [] unknown)
    (elim (take_entry kinds ns) [ taken bs rest ↦ written_before bs (write_in turns (suc count) rest) | turned_down a ↦ writing [] a ]))

unfoldable pub write_records : ℕ → List ℕ → Writing
write_records count ns = write_in (length ns) count ns

unfoldable pub write : List ℕ → Writing
write ns = elim (take_entry editions ns) [ taken bs rest ↦ written_before bs (write_records 0 rest) | turned_down a ↦ writing [] a ]

-- 25 comes only when there is no other fault
unfoldable pub if_room : ℕ → Writing → Writing
if_room room w = cond (leb (length w.bytes) room) w (writing [] too_short)

unfoldable pub write_into : ℕ → List ℕ → Writing
write_into room ns = if_room room (write ns)
