-- `carry_out` meets its contract, deed by deed; none is a step. Assumes nothing.
use mathlib.Core.Logic.{⊎_elim}
use Rattle.rules.specs.Box.{reply}
use Rattle.lent.specs.Lent.{box_of}
use Rattle.turns.proofs.Turning.{carried_say, carried_ask, carried_silent}
use Rattle.turns.proofs.playing.carry_out.Goals as goal

pub returns-in-Say-clause-answered : goal.returns-in-Say-clause-answered
returns-in-Say-clause-answered c = carried_say c.args.deed c.in-Say.a (box_of c.args.unit.now) c.in-Say.is

pub returns-in-Ask-clause-answered : goal.returns-in-Ask-clause-answered
returns-in-Ask-clause-answered c = carried_ask c.args.deed c.in-Ask.q (box_of c.args.unit.now) (reply (box_of c.requested.new.unit) c.requested.result) c.in-Ask.is c.requested.ensures.answered

pub returns-in-Step-clause-answered : goal.returns-in-Step-clause-answered
returns-in-Step-clause-answered c = ⊎_elim (λ step. absurd (c.requires.1 step)) (λ silent. carried_silent c.args.deed (box_of c.args.unit.now) silent) c.in-Step.is
