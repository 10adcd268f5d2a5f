-- A string played in pieces, cut anywhere, by any number of calls.
use Rattle.std.specs.Prelude.{ℕ, true, false, List, [], ◌++◌, ◌≡◌}
use Rattle.rules.specs.Parts.{Box}
use Rattle.pieces.specs.declared.place.Place.{Place}
use Rattle.pieces.specs.Pieces.{Piece, play_call}

-- `Runs p b unused to-come out`: from this place and box, with bytes at hand that are not used yet and bytes still to come, some calls
-- print the lines `out` and come to the end of all bytes with nothing left to do
pub data Runs : Place → Box → List ℕ → List ℕ → List ℕ → Type 0 where
  -- a call, with any room for output, while more may come
  call : {p : Place} {b : Box} {bs more out : List ℕ} (room : ℕ) (r : Piece) → r ≡ play_call false room p bs b → Runs r.place r.box r.bytes more out → Runs p b bs more (r.lines ++ out)
  -- some of the bytes to come are at hand
  read : {p : Place} {b : Box} {bs more out : List ℕ} (cs : List ℕ) → Runs p b (bs ++ cs) more out → Runs p b bs (cs ++ more) out
  -- a call with the last bytes, after which some are left to do
  last_call : {p : Place} {b : Box} {bs out : List ℕ} (room : ℕ) (r : Piece) → r ≡ play_call true room p bs b → Runs r.place r.box r.bytes [] out → Runs p b bs [] (r.lines ++ out)
  -- a call with the last bytes that leaves nothing to do
  done : {p : Place} {b : Box} {bs : List ℕ} (room : ℕ) (r : Piece) → r ≡ play_call true room p bs b → r.waits ≡ true → Runs p b bs [] r.lines
