-- `State::sweep_read` equals the definition `sweep_read`, by its cases. Assumes nothing.
use mathlib.Core.Path.{sym, ◌∙◌}
use Rattle.collector.specs.Boxed.{boxed}
use Rattle.collector.specs.Decide.{with_grant}
use Rattle.collector.proofs.Granting.{thirty, nine}
use Rattle.collector.proofs.Moving.{read_word, read_refused, read_behind}
use Rattle.collector.proofs.state.State.sweep_read.Goals as goal

pub returns-then-self-index : goal.returns-then-self-index
returns-then-self-index c = let a = c.args in record { answer_after = λ q ss ls ms ds. read_behind (boxed q a.words.now a.flags.now a.addresses.now ss ls ms ds a.self) _ c.if-self-index.true (c.finish_move.ensures.answer_after q ss ls ms ds); grants = c.finish_move.ensures.grants }

pub returns-then-reaches : goal.returns-then-reaches
unfolding with_grant
returns-then-reaches c = let a = c.args in record { answer_after = λ q ss ls ms ds. read_word (boxed q a.words.now a.flags.now a.addresses.now ss ls ms ds a.self) _ c.if-self-index.false (sym c.reaches.ensures ∙ c.if-reaches.true) (c.copy_word-self.ensures q a.addresses.now ss ls ms ds); grants = λ e. absurd (thirty e) }

pub returns : goal.returns
unfolding with_grant
returns c = let a = c.args in record { answer_after = λ q ss ls ms ds. read_refused (boxed q a.words.now a.flags.now a.addresses.now ss ls ms ds a.self) c.if-self-index.false (sym c.reaches.ensures ∙ c.if-reaches.false); grants = λ e. absurd (nine e) }
