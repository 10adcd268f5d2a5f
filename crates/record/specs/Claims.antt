-- What is claimed of the record of a run, M-100 of document 02: reading and writing undo one another, a string that is cut off is refused with 20
-- and gives what was whole in it, and a refused writer writes nothing.
use Rattle.std.specs.Prelude.{ℕ, ◌-◌, ◌<◌, cond, List, [], ◌∷◌, ◌++◌, ◌≡◌, leb, length, take, get_or}
use Rattle.record.specs.Number.{cut, number_bytes}
use Rattle.record.specs.Reading.{reading, read, all_numbers}
use Rattle.record.specs.Writing.{writing, write, write_into}

-- every element is a byte
abbrev pub AllBytes : List ℕ → Type 0
AllBytes bs = (i : ℕ) → i < length bs → get_or bs i 0 < 256

-- the bytes of some numbers, one after the other
unfoldable pub item_bytes : List ℕ → List ℕ
item_bytes [] = []
item_bytes (n ∷ ns) = number_bytes n ++ item_bytes ns

-- the leading items whose bytes lie whole in the first n bytes
unfoldable pub fitting : ℕ → List (List ℕ) → List (List ℕ)
fitting n [] = []
fitting n (i ∷ is) = cond (leb (length (item_bytes i)) n) (i ∷ fitting (n - length (item_bytes i)) is) []

-- what the writer writes reads well, and to the same numbers
abbrev pub WrittenReadsBack : Type 0
WrittenReadsBack = (ns bs : List ℕ) → write ns ≡ writing bs 0 → ((read bs).answer ≡ 0) × (all_numbers (read bs).items ≡ ns)

-- bytes that read well are those that the writer makes of what was read: there is no second string for the same numbers
abbrev pub ReadsWellIsWritten : Type 0
ReadsWellIsWritten = (bs : List ℕ) → AllBytes bs → (read bs).answer ≡ 0 → write (all_numbers (read bs).items) ≡ writing bs 0

-- a string that reads well, cut off anywhere before its end, is refused with 20, and what was read of it is what lies whole in it
abbrev pub PrefixOfWellRead : Type 0
PrefixOfWellRead = (bs : List ℕ) → AllBytes bs → (read bs).answer ≡ 0 → (n : ℕ) → n < length bs → read (take n bs) ≡ reading (fitting n (read bs).items) cut

-- with an answer other than 0 no bytes are written
abbrev pub RefusedWritesNothing : Type 0
RefusedWritesNothing = (room : ℕ) (ns : List ℕ) → ((write_into room ns).answer ≡ 0 → ⊥) → (write_into room ns).bytes ≡ []
