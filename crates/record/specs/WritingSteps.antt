-- How the writer goes through the numbers: what an entry, and what follows it, leave in the lent bytes.
use Rattle.std.specs.Prelude.{ℕ, ◌+◌, ◌*◌, ◌≤◌, cond, List, [], ◌≡◌, eqb, length, drop, Result, Ok, Err, IfOk}
use Rattle.std.proofs.Math.Option.{Option, none}
use Rattle.std.proofs.lemmas.List.Edits.{sets}
use Rattle.record.specs.declared.writing.Took.{Took}
use Rattle.record.specs.declared.writing.WriteFault.{WriteFault}
use Rattle.record.specs.declared.writing.WriteFault.TheVariants.{Unknown, TooLarge, TooShort, NotUnderstood}
use Rattle.record.specs.Number.{number_bytes, unknown, too_large, too_short, not_understood}
use Rattle.record.specs.Fields.{kinds}
use Rattle.record.specs.Writing.{Taken, taken, turned_down, Writing}

-- the answer that a fault gives
abbrev pub number_of : WriteFault → ℕ
number_of Unknown = unknown
number_of TooLarge = too_large
number_of TooShort = too_short
number_of NotUnderstood = not_understood

-- how many bytes a call says that it wrote, and the answer
abbrev pub count_of : Result ℕ WriteFault → ℕ
count_of (Ok count) = count
count_of (Err f) = 0

abbrev pub answer_of : Result ℕ WriteFault → ℕ
answer_of (Ok count) = 0
answer_of (Err f) = number_of f

-- a number's bytes stored from a place on, and the place behind them. Past the end of the lent bytes nothing is stored
pub record Puts (n : ℕ) (old new : List ℕ) (at end : ℕ) : Type 0 where
  pub put : new ≡ sets old at (number_bytes n)
  pub ends : end ≡ at + length (number_bytes n)
  pub short : end ≤ at + 5

-- the lent bytes after an entry, the place behind it and the numbers left; or what refuses the entry
pub data Stored : Type 0 where
  stored : List ℕ → ℕ → List ℕ → Stored
  not_stored : ℕ → Stored

abbrev pub store : List ℕ → ℕ → Taken → Stored
store bytes to (taken bs rest) = stored (sets bytes to bs) (to + length bs) rest
store bytes to (turned_down a) = not_stored a

-- what the code gives back of an entry, as such
abbrev pub given_back : List ℕ → List ℕ → Result Took WriteFault → Stored
given_back ns bytes (Ok t) = stored bytes t.end (drop t.next ns)
given_back ns bytes (Err f) = not_stored (number_of f)

-- and of all that is left, behind which there are no numbers
abbrev pub given_last : List ℕ → Result ℕ WriteFault → Stored
given_last bytes (Ok end) = stored bytes end []
given_last bytes (Err f) = not_stored (number_of f)

-- the next number is further on and within the list, and a number takes at most five bytes
pub record Onward (ns : List ℕ) (from : ℕ) (t : Took) : Type 0 where
  pub forward : from ≤ t.next
  pub inside : t.next ≤ length ns
  pub short : t.end ≤ 5 * t.next

-- an entry is taken or refused
pub record Takes (t : Taken) (ns old new : List ℕ) (from to : ℕ) (r : Result Took WriteFault) : Type 0 where
  pub took : given_back ns new r ≡ store old to t
  pub onward : IfOk r (Onward ns from)

-- a string to its end, as an entry with no numbers behind it
abbrev pub to_the_end : Writing → Taken
to_the_end w = cond (eqb w.answer 0) (taken w.bytes []) (turned_down w.answer)

-- the fields of a kind that a list may have: the end is no record
abbrev pub record_kinds : ℕ → Option (List ℕ)
record_kinds k = cond (eqb k 0) none (kinds k)
