-- What the code hands on: a place in the lent bytes stands for the bytes behind it.
use Rattle.std.specs.Prelude.{ℕ}
use Rattle.std.specs.declared.option.Option.{Option}
use Rattle.std.specs.declared.option.Option.TheVariants.{Some, None}
use Rattle.record.specs.Found.{place_of}
use Rattle.pieces.specs.declared.place.Place.{Place}
use Rattle.pieces.specs.declared.place.Deed.{Deed}
use Rattle.pieces.specs.declared.moves.Move as code
use Rattle.pieces.specs.Pieces.{Move, go, wait}

-- a deed, where the playing then stands, and the place behind what was read
abbrev pub moved : Deed → Place → ℕ → code.Move
moved d p next = record { deed = d; place = p; next = next }

abbrev pub as_move : ℕ → Move → Option code.Move
as_move n (go d p rest) = Some (moved d p (place_of n rest))
as_move n wait = None
