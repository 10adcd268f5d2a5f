-- The theorems of the calls of the code, from their promise alone.
use Rattle.std.specs.Prelude.{ℕ, ◌≤◌, ◌<◌, Bool, true, List, [], ◌⊎◌, ◌≡◌, length}
use Rattle.rules.specs.Parts.{Box}
use Rattle.pieces.specs.declared.place.Place.{Place}
use Rattle.pieces.specs.Lines.{lines}
use Rattle.pieces.specs.Text.{text}
use Rattle.pieces.specs.Pieces.{start, line_room}
use Rattle.pieces.specs.Claims.{Ample}
use Rattle.player.specs.Promises.{Plays}
use Rattle.player.specs.Printed.{Printed}

-- whatever the columns hold: all that the calls write, in turn, is the text of those lines
abbrev pub PrintedClaim : Type 0
PrintedClaim = (b : Box) → Ample b → (bs out : List ℕ) → Printed start b [] bs out → out ≡ text (lines bs)

-- every call of the code whose output has room for a line: it waits, or writes, or uses a byte
abbrev pub CallGetsOn : Type 0
CallGetsOn = (last : Bool) (p p1 : Place) (bs o o1 : List ℕ) (b b1 : Box) (used n : ℕ) (w : Bool) → line_room ≤ length o → Plays last p bs o o1 b b1 p1 used n w → (w ≡ true) ⊎ ((0 < n) ⊎ (0 < used))
