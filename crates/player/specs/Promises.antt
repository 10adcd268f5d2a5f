-- What a call that plays a piece promises, and the parts of it.
use Rattle.std.specs.Prelude.{ℕ, ◌≤◌, Bool, false, not, ◌&&◌, List, [], ◌∷◌, ◌≡◌, eqb, length, drop}
use Rattle.rules.specs.Parts.{Box}
use Rattle.pieces.specs.declared.place.Place.{Place}
use Rattle.pieces.specs.Pieces.{Piece, piece, at_start, over, at, first_of, not_begun, play_call}
use Rattle.turns.specs.Outcome.{leaves, outcome}
use Rattle.turns.specs.Parts.{part_of, put_back}

-- what is played at a place: at the start all that is lent
unfoldable pub played_at : Place → Box → Box
played_at p b = part_of (not (eqb p.stage at_start) && p.opened) b

-- the refusal of a start is printed
pub record Says (a : ℕ) (o o1 : List ℕ) (p p1 : Place) (used written : ℕ) (waits : Bool) : Type 0 where
  pub none_used : used ≡ 0
  pub comes_to : (bs : List ℕ) (b : Box) → leaves o1 written b p1 bs waits ≡ outcome o 0 (piece (a ∷ []) b (at over p.count 0 false) bs false)
  pub place_is : p1 ≡ at over p.count 0 false

-- the start was refused, and all that is lent but the output is as it was
pub record Refuses (last : Bool) (a : ℕ) (o o1 : List ℕ) (p p1 : Place) (used written : ℕ) (waits : Bool) : Type 0 where
  pub none_used : used ≡ 0
  pub comes_to : (bs : List ℕ) (b : Box) → leaves o1 written b p1 bs waits ≡ outcome o 0 (not_begun last a p bs b)
  pub all_lent : (b : Box) → played_at p1 b ≡ b

-- a part of what is lent was played
pub record PlaysPart (bs o o1 : List ℕ) (b b1 : Box) (p1 : Place) (used written : ℕ) (waits : Bool) (r : Piece) : Type 0 where
  pub used_in : used ≤ length bs
  pub comes_to : leaves o1 written (first_of b1.m b1.h b1) p1 (drop used bs) waits ≡ outcome o 0 r
  pub kept : b1 ≡ put_back (first_of b1.m b1.h b1) b

-- a call that comes to this piece: o and b are the output and the lent box before it, o1, b1 and p1 what it leaves
pub record ComesTo (bs o o1 : List ℕ) (b b1 : Box) (p1 : Place) (used written : ℕ) (waits : Bool) (r : Piece) : Type 0 where
  pub used_in : used ≤ length bs
  pub comes_to : leaves o1 written (played_at p1 b1) p1 (drop used bs) waits ≡ outcome o 0 r
  pub kept : b1 ≡ put_back (played_at p1 b1) b

-- any call, from a place p
abbrev pub Plays : Bool → Place → List ℕ → List ℕ → List ℕ → Box → Box → Place → ℕ → ℕ → Bool → Type 0
Plays last p bs o o1 b b1 p1 used written waits = ComesTo bs o o1 b b1 p1 used written waits (play_call last (length o) p bs (played_at p b))
