-- `State::end_cycle` equals the definition `end_cycle`, by its two cases; live and the phase bear on no refusal. Assumes
-- nothing.
use mathlib.Core.Path.{refl}
use Rattle.collector.specs.Boxed.{boxed}
use Rattle.rules.specs.Box.{is_entry}
use Rattle.rules.specs.Request.{no_room}
use Rattle.collector.specs.Decide.{end_refused, with_grant}
use Rattle.collector.proofs.Granting.{thirty_one}
use Rattle.collector.proofs.Ending.{end_held, end_free}
use Rattle.collector.proofs.state.State.end_cycle.Goals as goal

pub try_held-requires : goal.try_held-requires
unfolding end_refused no_room is_entry
try_held-requires c = (c.if-self.true, refl, c.requires)

pub returns-then-self : goal.returns-then-self
returns-then-self c = let a = c.args in record { answer_value = λ q found ws fs ads ss ls ms ds. end_held (boxed q ws fs ads ss ls ms ds a.self) found _ c.if-self.true (c.try_held.ensures.answer_value q found ws fs ads ss ls ms ds); grants = c.try_held.ensures.grants }

pub returns : goal.returns
unfolding with_grant
returns c = let a = c.args in record { answer_value = λ q found ws fs ads ss ls ms ds. end_free (boxed q ws fs ads ss ls ms ds a.self) found c.if-self.false; grants = λ e. absurd (thirty_one e) }
