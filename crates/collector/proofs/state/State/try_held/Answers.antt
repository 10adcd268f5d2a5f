-- `State::try_held` equals the definition `try_held` with the tuple of a granted request still to be made: since the end is not
-- refused, a request that finds room can be granted. Assumes nothing.
use mathlib.Core.List.{[]}
use mathlib.Core.Path.{sym, ◌∙◌}
use Rattle.collector.specs.Boxed.{blank, boxed}
use Rattle.collector.specs.Decide.{with_grant}
use Rattle.collector.proofs.Granting.{eight, thirty_three, grants_held}
use Rattle.collector.proofs.Ending.{try_dropped, try_waits, try_granted}
use Rattle.collector.proofs.state.State.try_held.Goals as goal

pub returns-then-self : goal.returns-then-self
unfolding with_grant
returns-then-self c = let a = c.args in record { answer_value = λ q found ws fs ads ss ls ms ds. try_dropped (boxed q ws fs ads ss ls ms ds a.self) found (sym (c.no_room.ensures q ws fs ads ss ls ms ds) ∙ c.if-no_room.true) c.if-self.true; grants = λ e. absurd (eight e) }

pub returns-then-no_room : goal.returns-then-no_room
unfolding with_grant
returns-then-no_room c = let a = c.args in record { answer_value = λ q found ws fs ads ss ls ms ds. try_waits (boxed q ws fs ads ss ls ms ds a.self) found (sym (c.no_room.ensures q ws fs ads ss ls ms ds) ∙ c.if-no_room.true) c.if-self.false; grants = λ e. absurd (thirty_three e) }

pub returns : goal.returns
unfolding with_grant
returns c = let a = c.args in record { answer_value = λ q found ws fs ads ss ls ms ds. try_granted (boxed q ws fs ads ss ls ms ds a.self) found c.requires.0 c.requires.1 c.requires.2 (sym (c.no_room.ensures q ws fs ads ss ls ms ds) ∙ c.if-no_room.false); grants = grants_held a.self c.requires.0 c.requires.1 c.requires.2 (sym (c.no_room.ensures blank [] [] [] [] [] [] []) ∙ c.if-no_room.false) }
