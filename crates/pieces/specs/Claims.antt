-- The theorems of playing in pieces: wherever a string is cut, and whatever calls play it, the lines are those of the whole string; and a
-- call with room for a line gets on.
use Rattle.std.specs.Prelude.{ℕ, ◌≤◌, ◌<◌, Bool, true, List, [], ◌⊎◌, ◌≡◌, length}
use Rattle.rules.specs.Limits.{most_words, most_entries}
use Rattle.rules.specs.Parts.{Box}
use Rattle.pieces.specs.declared.place.Place.{Place}
use Rattle.pieces.specs.Lines.{lines}
use Rattle.pieces.specs.Pieces.{start, line_room, Piece, play_call}
use Rattle.pieces.specs.Calls.{Runs}

-- the columns that are lent are as long as the largest box
pub record Ample (b : Box) : Type 0 where
  pub words : most_words ≤ length b.memory.words
  pub flags : most_words ≤ length b.memory.flags
  pub addresses : most_entries ≤ length b.directory.addresses
  pub sizes : most_entries ≤ length b.directory.sizes
  pub links : most_entries ≤ length b.directory.links
  pub marks : most_entries ≤ length b.directory.marks
  pub deeps : most_entries ≤ length b.directory.deeps

-- whatever the columns hold
abbrev pub PiecesClaim : Type 0
PiecesClaim = (b : Box) → Ample b → (bs out : List ℕ) → Runs start b [] bs out → out ≡ lines bs

-- a piece played from these bytes says that nothing can be done with them, or prints a line, or uses a byte
abbrev pub Advances : List ℕ → Piece → Type 0
Advances bs r = (r.waits ≡ true) ⊎ ((0 < length r.lines) ⊎ (length r.bytes < length bs))

-- so does every call with room for a line, from any place: none leaves all as it was and asks for another
abbrev pub GetsOn : Type 0
GetsOn = (last : Bool) (room : ℕ) (p : Place) (bs : List ℕ) (b : Box) → line_room ≤ room → Advances bs (play_call last room p bs b)
