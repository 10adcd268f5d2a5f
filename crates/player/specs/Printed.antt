-- A string played in pieces, cut anywhere, by any number of calls of the code, of which only their promise is known.
use Rattle.std.specs.Prelude.{ℕ, Bool, true, false, List, [], ◌++◌, ◌≡◌, take, drop}
use Rattle.rules.specs.Parts.{Box}
use Rattle.pieces.specs.declared.place.Place.{Place}
use Rattle.player.specs.Promises.{Plays}

-- `Printed p b unused to-come out`: from this place and these lent parts, whole columns and all, with bytes at hand that are not used yet
-- and bytes still to come, some calls of `play` print the text `out` and come to the end of all bytes with nothing left to do. Of a call
-- only its promise is known: each has an output o of its own, of any length, and leaves o1 of it with n bytes written, the lent parts b1,
-- the place p1, and so many bytes used
pub data Printed : Place → Box → List ℕ → List ℕ → List ℕ → Type 0 where
  -- a call while more may come, and what is printed behind it
  plays : {p : Place} {b : Box} {bs more out : List ℕ} (o o1 : List ℕ) (b1 : Box) (p1 : Place) (used n : ℕ) (w : Bool) → Plays false p bs o o1 b b1 p1 used n w → Printed p1 b1 (drop used bs) more out → Printed p b bs more (take n o1 ++ out)
  -- some of the bytes to come are at hand
  reads : {p : Place} {b : Box} {bs more out : List ℕ} (cs : List ℕ) → Printed p b (bs ++ cs) more out → Printed p b bs (cs ++ more) out
  -- a call with the last bytes, and what is printed behind it
  plays_last : {p : Place} {b : Box} {bs out : List ℕ} (o o1 : List ℕ) (b1 : Box) (p1 : Place) (used n : ℕ) (w : Bool) → Plays true p bs o o1 b b1 p1 used n w → Printed p1 b1 (drop used bs) [] out → Printed p b bs [] (take n o1 ++ out)
  -- a call with the last bytes that says that nothing is left to do
  ends : {p : Place} {b : Box} {bs : List ℕ} (o o1 : List ℕ) (b1 : Box) (p1 : Place) (used n : ℕ) (w : Bool) → Plays true p bs o o1 b b1 p1 used n w → w ≡ true → Printed p b bs [] (take n o1)
