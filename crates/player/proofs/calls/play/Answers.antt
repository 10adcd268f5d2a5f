-- `play` meets its contract: the start, a box that was opened, or an opening that was refused. Assumes nothing.
use native.Mathlib.Omega.{arith}
use Rattle.lent.specs.Lent.{box_of}
use Rattle.player.proofs.Starting.{call_start, call_part, call_whole}
use Rattle.player.proofs.calls.play.Goals as goal

pub returns-then-place-eq0-clause-plays : goal.returns-then-place-eq0-clause-plays
returns-then-place-eq0-clause-plays c = let a = c.args in let r = c.begin.result in call_start a.last a.input.now a.out.now c.begin.new.out (box_of a.unit.now) (box_of c.begin.new.unit) a.place r.place r.used r.written r.waits c.if-place-eq0.true c.begin.ensures.begun

pub returns-then-opened-clause-plays : goal.returns-then-opened-clause-plays
returns-then-opened-clause-plays c = let a = c.args in let r = c.play_part.result in call_part a.last a.input.now a.out.now c.play_part.new.out (box_of a.unit.now) (box_of c.play_part.new.unit) a.place r.place r.used r.written r.waits (omega (arith, c.if-place-eq0.false)) c.if-opened.true c.play_part.ensures.played

pub returns-clause-plays : goal.returns-clause-plays
returns-clause-plays c = let a = c.args in let r = c.play_on.result in call_whole a.last a.input.now a.out.now c.play_on.new.out (box_of a.unit.now) (box_of c.play_on.new.unit) a.place r.place r.used r.written r.waits (omega (arith, c.if-place-eq0.false)) c.if-opened.false c.play_on.ensures.played
