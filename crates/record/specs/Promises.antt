-- What the reader and the writer promise of the lent parts before and after the call, and of what they give back.
use Rattle.std.specs.Prelude.{ℕ, List, ◌++◌, ◌≡◌, length, drop}
use Rattle.record.specs.Reading.{read_into, all_numbers}
use Rattle.record.specs.Writing.{write_into}

-- the numbers that were read, and how many: what was behind them is as it was
abbrev pub numbers_read : List ℕ → List ℕ → List ℕ
numbers_read bs old = all_numbers (read_into (length old) bs).items

pub record Reads (bs old new : List ℕ) (count answer : ℕ) : Type 0 where
  pub put : new ≡ numbers_read bs old ++ drop (length (numbers_read bs old)) old
  pub counted : count ≡ length (numbers_read bs old)
  pub answered : answer ≡ (read_into (length old) bs).answer

-- the bytes that were written, and how many: what was behind them is as it was
abbrev pub bytes_written : List ℕ → List ℕ → List ℕ
bytes_written ns old = (write_into (length old) ns).bytes

pub record Writes (ns old new : List ℕ) (count answer : ℕ) : Type 0 where
  pub put : new ≡ bytes_written ns old ++ drop (length (bytes_written ns old)) old
  pub counted : count ≡ length (bytes_written ns old)
  pub answered : answer ≡ (write_into (length old) ns).answer
