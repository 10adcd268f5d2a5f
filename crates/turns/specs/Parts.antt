-- Columns that may be longer than the box: as much of them as the box has is played, and what is behind is as it was.
use Rattle.std.specs.Prelude.{ℕ, Bool, cond, List, ◌++◌, ◌≡◌, eqb, length, drop}
use Rattle.rules.specs.Parts.{Box, with_memory, with_directory}
use Rattle.rules.specs.Box.{reply}
use Rattle.pieces.specs.Pieces.{first_of, open_first}

-- the box that is played: once opened, as many words and entries as it has; before, and where the opening was refused, all that is lent
unfoldable pub part_of : Bool → Box → Box
part_of opened b = cond opened (first_of b.m b.h b) b

-- a column whose first part became this
abbrev pub behind : {A : Type 0} → List A → List A → List A
behind x l = x ++ drop (length x) l

-- a box that became x, with all that was lent behind it
unfoldable pub put_back : Box → Box → Box
put_back x b =
    with_memory (record { words = behind x.memory.words b.memory.words; flags = behind x.memory.flags b.memory.flags })
    (with_directory (record { addresses = behind x.directory.addresses b.directory.addresses; sizes = behind x.directory.sizes b.directory.sizes; links = behind x.directory.links b.directory.links; marks = behind x.directory.marks b.directory.marks; deeps = behind x.directory.deeps b.directory.deeps }) x)

-- the opening of a part of what is lent, b before the call and b1 after it, with its answer
pub record Opens (m h : ℕ) (b b1 : Box) (answer : ℕ) : Type 0 where
  pub opens : reply (part_of (eqb answer 0) b1) answer ≡ open_first m h b
  pub kept : b1 ≡ put_back (part_of (eqb answer 0) b1) b
