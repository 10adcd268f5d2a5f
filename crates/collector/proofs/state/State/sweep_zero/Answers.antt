-- `State::sweep_zero` equals the definition `sweep_zero`, by its cases. Assumes nothing.
use mathlib.Core.Path.{sym, ◌∙◌}
use Rattle.collector.specs.Boxed.{boxed}
use Rattle.collector.specs.Decide.{with_grant}
use Rattle.collector.proofs.Granting.{thirty, nine}
use Rattle.collector.proofs.Moving.{leave_refused, zero_done, zero_refused, zero_behind}
use Rattle.collector.proofs.state.State.sweep_zero.Goals as goal

pub returns-then-can_leave : goal.returns-then-can_leave
returns-then-can_leave c = let a = c.args in record { answer_after = λ q ads ss ls ms ds. zero_behind (boxed q a.words.now a.flags.now ads ss ls ms ds a.self) _ c.if-self-index.true (c.leave_tuple.ensures.answer_value q (boxed q a.words.now a.flags.now ads ss ls ms ds a.self) ads ss ls ms ds); grants = c.leave_tuple.ensures.grants }

pub returns-then-self-index : goal.returns-then-self-index
unfolding with_grant
returns-then-self-index c = let a = c.args in record { answer_after = λ q ads ss ls ms ds. zero_behind (boxed q a.words.now a.flags.now ads ss ls ms ds a.self) _ c.if-self-index.true (leave_refused (boxed q a.words.now a.flags.now ads ss ls ms ds a.self) (boxed q a.words.now a.flags.now ads ss ls ms ds a.self) (sym (c.can_leave.ensures q a.words.now a.flags.now ads ss ls ms ds) ∙ c.if-can_leave.false)); grants = λ e. absurd (nine e) }

pub returns-then-reaches : goal.returns-then-reaches
unfolding with_grant
returns-then-reaches c = let a = c.args in record { answer_after = λ q ads ss ls ms ds. zero_done (boxed q a.words.now a.flags.now ads ss ls ms ds a.self) _ c.if-self-index.false (sym c.reaches.ensures ∙ c.if-reaches.true) (c.zero_word-self.ensures q ads ss ls ms ds); grants = λ e. absurd (thirty e) }

pub returns : goal.returns
unfolding with_grant
returns c = let a = c.args in record { answer_after = λ q ads ss ls ms ds. zero_refused (boxed q a.words.now a.flags.now ads ss ls ms ds a.self) c.if-self-index.false (sym c.reaches.ensures ∙ c.if-reaches.false); grants = λ e. absurd (nine e) }
