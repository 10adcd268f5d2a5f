-- What the C interface promises of the reader and the writer of records (crate record says what they do): how many numbers or bytes they put
-- into the lent part, and the answer, in one number r. A lent part may have fewer than 2^48 elements, so r is a number of 64 bits.
use Rattle.std.specs.Prelude.{ℕ, ◌+◌, ◌*◌, Bool, cond, ◌&&◌, List, [], ◌++◌, ◌≡◌, ltb, length, drop}
use Rattle.record.specs.Number.{not_understood}
use Rattle.record.specs.Reading.{Reading, reading, read_into, all_numbers}
use Rattle.record.specs.Writing.{Writing, writing, write_into}

-- 2^48
abbrev pub too_many : ℕ
too_many = 281474976710656

-- the lengths of both lent parts are below it
unfoldable pub few : ℕ → ℕ → Bool
few m n = ltb m too_many && ltb n too_many

-- what is read of the bytes into the lent numbers, and what is written of the numbers into the lent bytes; with more lent, nothing is
unfoldable pub c_read : List ℕ → List ℕ → Reading
c_read bs old = cond (few (length bs) (length old)) (read_into (length old) bs) (reading [] not_understood)

unfoldable pub c_write : List ℕ → List ℕ → Writing
c_write ns old = cond (few (length ns) (length old)) (write_into (length old) ns) (writing [] not_understood)

-- xs stand in front of what was lent, and what was behind them is as it was. With 4,294,967,295 as the answer there are none, and that is r
pub record Gives (xs old new : List ℕ) (answer r : ℕ) : Type 0 where
  pub put : new ≡ xs ++ drop (length xs) old
  pub told : r ≡ length xs * 256 + answer

abbrev pub CReads : List ℕ → List ℕ → List ℕ → ℕ → Type 0
CReads bs old new r = Gives (all_numbers (c_read bs old).items) old new (c_read bs old).answer r

abbrev pub CWrites : List ℕ → List ℕ → List ℕ → ℕ → Type 0
CWrites ns old new r = Gives (c_write ns old).bytes old new (c_write ns old).answer r

-- a call that gives back 4,294,967,295 has changed nothing
abbrev pub Unchanged : (List ℕ → List ℕ → List ℕ → ℕ → Type 0) → Type 0
Unchanged Promises = (xs old new : List ℕ) → Promises xs old new not_understood → new ≡ old
