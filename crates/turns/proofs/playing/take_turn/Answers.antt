-- `take_turn` meets its contract: no room for a line, a deed, steps, or nothing more to do. Assumes nothing.
use mathlib.Core.Path.{refl}
use native.Mathlib.Omega.{arith}
use Rattle.lent.specs.Lent.{box_of}
use Rattle.turns.proofs.Turning.{rests_full}
use Rattle.turns.proofs.playing.take_turn.Goals as goal

pub returns-then-out-from-lt-LINE_ROOM-clause-rests : goal.returns-then-out-from-lt-LINE_ROOM-clause-rests
returns-then-out-from-lt-LINE_ROOM-clause-rests c = let a = c.args in λ none. (rests_full a.last a.input.now a.out.now (box_of a.unit.now) a.from.place a.from.used a.from.written (omega (arith, c.if-out-from-lt-LINE_ROOM.true)), refl, refl)

pub returns-clause-rests : goal.returns-clause-rests
returns-clause-rests c = let r = c.take_end.ensures.rests c.args.last (box_of c.args.unit.now) in λ none. ((r none).0, (r none).1, refl)
