-- `take_end` meets its contract: bytes behind the end, or nothing more to do. Assumes nothing.
use mathlib.Core.Path.{refl}
use Rattle.turns.proofs.Turning.{turn_behind, rests_over}
use Rattle.turns.proofs.playing.take_end.Goals as goal
use Rattle.turns.proofs.playing.take_end.Goals.{else-place-eq3-via-then-place-eq3+else-from-input, else-place-eq3-via-else-place-eq3}

pub returns-then-from-input-clause-turned : goal.returns-then-from-input-clause-turned
returns-then-from-input-clause-turned c = let a = c.args in let f = a.from in λ last b. turn_behind last a.input.now a.out.now b f.place f.used f.written c.requires.0 c.requires.1 c.put_line-behind.new.out c.put_line-behind.result c.if-place-eq3.true c.if-from-input.true c.put_line-behind.ensures

pub returns-clause-rests : goal.returns-clause-rests
returns-clause-rests c =
    let a = c.args in let f = a.from in
    λ last b none. (
      elim c.else-place-eq3.branch [
        | else-place-eq3-via-then-place-eq3+else-from-input w ↦ rests_over last a.input.now a.out.now b f.place f.used f.written c.requires.0 c.requires.1 c.requires.2 (λ e. w.if-from-input.false)
        | else-place-eq3-via-else-place-eq3 w ↦ rests_over last a.input.now a.out.now b f.place f.used f.written c.requires.0 c.requires.1 c.requires.2 (λ e. absurd (w.if-place-eq3.false e))
      ],
      refl,
    )
