-- Where no turn is left, what is done is all. Assumes nothing.
use mathlib.Core.Path.{refl}
use lib.ListN.{length}
use Rattle.lent.specs.Lent.{box_of}
use Rattle.pieces.specs.Pieces.{at, play_piece}
use Rattle.turns.specs.Outcome.{outcome}
use Rattle.turns.proofs.Turning.{rested}
use Rattle.turns.proofs.playing.play_on.Goals as goal

pub returns-clause-played : goal.returns-clause-played
returns-clause-played c = let a = c.args in let l = c.loop-to in let r = c.in_default.ensures.rests refl in (l.invariant.bytes_in, rested a.last a.input.now l.out c.take_turn.new.out (box_of l.unit) (box_of c.take_turn.new.unit) (at l.stage l.count l.left l.opened) l.used l.written (outcome a.out.now 0 (play_piece a.last (length a.out.now) a.place a.input.now (box_of a.unit.now))) r.0 r.1 r.2 l.invariant.comes_to)
