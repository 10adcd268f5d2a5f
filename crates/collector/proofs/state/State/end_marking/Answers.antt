-- `State::end_marking` equals the definition `end_marking`, by its cases. Assumes nothing.
use mathlib.Core.Path.{sym, ◌∙◌}
use Rattle.collector.specs.Boxed.{boxed}
use Rattle.collector.specs.Decide.{with_grant}
use Rattle.collector.proofs.Granting.{thirty, nine}
use Rattle.collector.proofs.Rooting.{marking_refused, marking_ended, marking_sweeps}
use Rattle.collector.proofs.state.State.end_marking.Goals as goal

pub returns-then-end_refused : goal.returns-then-end_refused
unfolding with_grant
returns-then-end_refused c = let a = c.args in record { answer_value = λ q ads ss ls ms ds. marking_refused (boxed q a.words.now a.flags.now ads ss ls ms ds a.self) c.if-self-eq0.true (sym (c.end_refused.ensures q a.words.now a.flags.now ads ss ls ms ds) ∙ c.if-end_refused.true); grants = λ e. absurd (nine e) }

pub returns-then-self-eq0 : goal.returns-then-self-eq0
returns-then-self-eq0 c = let a = c.args in record { answer_value = λ q ads ss ls ms ds. marking_ended (boxed q a.words.now a.flags.now ads ss ls ms ds a.self) _ c.if-self-eq0.true (c.end_cycle.ensures.answer_value q (boxed q a.words.now a.flags.now ads ss ls ms ds a.self) a.words.now a.flags.now ads ss ls ms ds); grants = c.end_cycle.ensures.grants }

pub returns : goal.returns
unfolding with_grant
returns c = let a = c.args in record { answer_value = λ q ads ss ls ms ds. marking_sweeps (boxed q a.words.now a.flags.now ads ss ls ms ds a.self) _ c.if-self-eq0.false c.handle.ensures.0; grants = λ e. absurd (thirty e) }
