-- `take_deed` meets its contract: nothing to do, or a deed done and printed. Assumes nothing.
use mathlib.Core.Path.{refl}
use native.Mathlib.Omega.{arith}
use lib.ListN.{length, drop}
use Rattle.lent.specs.Lent.{box_of}
use Rattle.pieces.specs.Pieces.{next}
use Rattle.turns.proofs.Turning.{no_step, carried_small, move_goes, move_waits, rests_waiting, turn_goes}
use Rattle.turns.proofs.playing.take_deed.Goals as goal

pub returns-in_default-clause-rests : goal.returns-in_default-clause-rests
returns-in_default-clause-rests c = let a = c.args in let f = a.from in λ none. (rests_waiting a.last a.input.now a.out.now (box_of a.unit.now) f.place f.used f.written (omega (arith, c.requires.1)) (move_waits a.last f.place (length a.input.now) (drop f.used a.input.now) (next a.last f.place (drop f.used a.input.now)) refl _ c.next_move.ensures c.in_default.is), refl, refl)

pub carry_out-a-requires : goal.carry_out-a-requires
carry_out-a-requires c = let a = c.args in let f = a.from in let m = move_goes a.last f.place a.input.now f.used c.requires.0 (next a.last f.place (drop f.used a.input.now)) refl _ c.next_move.ensures c.in-Some.m c.in-Some.is in (c.requires.3, no_step a.last f.place (drop f.used a.input.now) c.requires.2 c.in-Some.m.deed c.in-Some.m.place (drop c.in-Some.m.next a.input.now) m.is)

pub print-behind-requires : goal.print-behind-requires
print-behind-requires c = let a = c.args in let f = a.from in let m = move_goes a.last f.place a.input.now f.used c.requires.0 (next a.last f.place (drop f.used a.input.now)) refl _ c.next_move.ensures c.in-Some.m c.in-Some.is in (carried_small c.in-Some.m.deed (box_of a.unit.now) (box_of c.carry_out-a.new.unit) c.carry_out-a.result c.carry_out-a.ensures.answered m.small, c.requires.1)

pub returns-clause-turned : goal.returns-clause-turned
returns-clause-turned c = let a = c.args in let f = a.from in turn_goes a.last a.input.now a.out.now c.print-behind.new.out (box_of a.unit.now) (box_of c.carry_out-a.new.unit) f.place c.in-Some.m.place f.used c.in-Some.m.next f.written c.print-behind.result c.in-Some.m.deed c.carry_out-a.result c.requires.0 (omega (arith, c.requires.1)) (move_goes a.last f.place a.input.now f.used c.requires.0 (next a.last f.place (drop f.used a.input.now)) refl _ c.next_move.ensures c.in-Some.m c.in-Some.is) c.carry_out-a.ensures.answered c.print-behind.ensures
