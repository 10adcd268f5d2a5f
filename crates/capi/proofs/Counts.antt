-- What a reading and a writing give back, from what the reader and the writer of records ensure, and that it has 64 bits. Assumes nothing.
use Prim.Native.Nat.{ℕ, ◌+◌, ◌*◌, ◌≤◌, ◌<◌}
use mathlib.Core.Bool.{true, false}
use mathlib.Core.List.{List, ◌++◌}
use mathlib.Core.Path.{◌≡◌, refl, ap}
use native.Mathlib.Omega.{arith}
use borrow.Author.Tests.{ltb-true, lt-ltb, le-ltb}
use lib.Dec.{ltb}
use lib.ListN.{length, drop, length-append, length-drop}
use Rattle.rules.proofs.Sizes.{and_right}
use Rattle.record.specs.Number.{not_understood}
use Rattle.record.specs.Reading.{all_numbers}
use Rattle.record.specs.Promises.{Reads, Writes, numbers_read, bytes_written}
use Rattle.capi.specs.Strings.{too_many, few, c_read, c_write, CReads, CWrites}

-- ---- the lengths of the lent parts

pub few_both : (m n : ℕ) → m < too_many → ltb n too_many ≡ few m n
unfolding few
few_both m n h = rw (lt-ltb m too_many h)

pub few_neither : (m n : ℕ) → too_many ≤ m → ltb m too_many ≡ few m n
unfolding few
few_neither m n h = rw (le-ltb m too_many h)

-- what is put in front of the second is shorter than 2^48
put_few : (m count : ℕ) (xs old new : List ℕ) → few m (length old) ≡ true → new ≡ xs ++ drop (length xs) old → count ≡ length xs → length new ≡ length old → count < too_many
unfolding few
put_few m count xs old new f e n h =
    let below = ltb-true (length old) too_many (and_right (ltb m too_many) (ltb (length old) too_many) f) in
    omega (arith, simp (length-append, length-drop) at (ap length e))

-- ---- reading

module _ (bs old : List ℕ) where
  pub read_none : (r : ℕ) → few (length bs) (length old) ≡ false → r ≡ not_understood → CReads bs old old r
  unfolding c_read all_numbers
  read_none r f e = rw f record { put = refl; told = e }

  module _ (new : List ℕ) (count answer : ℕ) (f : few (length bs) (length old) ≡ true) (did : Reads bs old new count answer) where
    pub read_few : length new ≡ length old → count < too_many
    read_few h = put_few (length bs) count (numbers_read bs old) old new f did.put did.counted h

    pub read_some : (a : ℕ) → a ≡ answer → CReads bs old new (count * 256 + a)
    unfolding c_read
    read_some a e = rw f record { put = did.put; told = rw (e, did.counted, did.answered) }

-- ---- writing

module _ (ns old : List ℕ) where
  pub write_none : (r : ℕ) → few (length ns) (length old) ≡ false → r ≡ not_understood → CWrites ns old old r
  unfolding c_write
  write_none r f e = rw f record { put = refl; told = e }

  module _ (new : List ℕ) (count answer : ℕ) (f : few (length ns) (length old) ≡ true) (did : Writes ns old new count answer) where
    pub write_few : length new ≡ length old → count < too_many
    write_few h = put_few (length ns) count (bytes_written ns old) old new f did.put did.counted h

    pub write_some : (r : ℕ) → r ≡ count * 256 + answer → CWrites ns old new r
    unfolding c_write
    write_some r e = rw f record { put = did.put; told = rw (e, did.counted, did.answered) }
