-- What a call that plays a piece leaves of all that is lent: the output and how many bytes of it were written, the box, where the playing
-- stands, the bytes not yet used, and whether nothing can be done with these.
use Rattle.std.specs.Prelude.{ℕ, ◌+◌, ◌-◌, ◌≤◌, ◌<◌, Bool, List, [], ◌≡◌, leb, length, drop}
use Rattle.std.proofs.lemmas.List.Edits.{sets}
use Rattle.rules.specs.Parts.{Box}
use Rattle.rules.specs.Box.{sound}
use Rattle.pieces.specs.declared.place.Place.{Place}
use Rattle.pieces.specs.Text.{text}
use Rattle.pieces.specs.Pieces.{Piece, piece, line_room, play_piece}

pub record Outcome : Type 0 where
  pub out : List ℕ
  pub written : ℕ
  pub box : Box
  pub place : Place
  pub bytes : List ℕ
  pub waits : Bool

abbrev pub leaves : List ℕ → ℕ → Box → Place → List ℕ → Bool → Outcome
leaves o n b p bs w = record { out = o; written = n; box = b; place = p; bytes = bs; waits = w }

-- the lines of a piece as text, from a place of the output on
abbrev pub outcome : List ℕ → ℕ → Piece → Outcome
outcome o n r = leaves (sets o n (text r.lines)) (n + length (text r.lines)) r.box r.place r.bytes r.waits

-- ---- one turn of a piece

-- the bytes and the room that are left
abbrev pub to_go : List ℕ → ℕ → List ℕ → ℕ → ℕ
to_go bs k o n = (length bs - k) + (length o - n)

-- a turn and all that follow it come to what all turns come to, it takes a byte or room, and makes no box sound or unsound
pub record Turned (last : Bool) (bs o o1 : List ℕ) (b b1 : Box) (p p1 : Place) (k k1 n n1 : ℕ) : Type 0 where
  pub comes_to : outcome o1 n1 (play_piece last (length o1 - n1) p1 (drop k1 bs) b1) ≡ outcome o n (play_piece last (length o - n) p (drop k bs) b)
  pub bytes_in : k1 ≤ length bs
  pub room_in : n1 ≤ length o1
  pub falls : to_go bs k1 o1 n1 < to_go bs k o n
  pub sound_same : sound b1 ≡ sound b

-- no turn is left to be taken: the output is full, or, where it has room for a line, nothing can be done with the bytes that are left
abbrev pub Rests : Bool → List ℕ → List ℕ → Box → Place → ℕ → ℕ → Type 0
Rests last bs o b p k n = play_piece last (length o - n) p (drop k bs) b ≡ piece [] b p (drop k bs) (leb line_room (length o - n))
