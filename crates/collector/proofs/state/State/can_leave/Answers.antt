-- `State::can_leave` equals the definition `can_leave`, by its cases. Assumes nothing.
use Rattle.collector.proofs.Moving.{stays_far, stays_refused, leaves_last, leaves_inner}
use mathlib.Core.Path.{sym, ◌∙◌}
use Rattle.collector.proofs.state.State.can_leave.Goals as goal

pub returns-then-end_refused : goal.returns-then-end_refused
returns-then-end_refused c q ws fs ads ss ls ms ds = stays_refused _ (sym c.reaches.ensures ∙ c.if-reaches.true) c.if-after-self.true (sym (c.end_refused.ensures q _ _ _ _ _ _ _) ∙ c.if-end_refused.true)

pub returns-then-after-self : goal.returns-then-after-self
returns-then-after-self c q ws fs ads ss ls ms ds = leaves_last _ (sym c.reaches.ensures ∙ c.if-reaches.true) c.if-after-self.true (sym (c.end_refused.ensures q _ _ _ _ _ _ _) ∙ c.if-end_refused.false)

pub returns-then-reaches : goal.returns-then-reaches
returns-then-reaches c q ws fs ads ss ls ms ds = leaves_inner _ (sym c.reaches.ensures ∙ c.if-reaches.true) c.if-after-self.false

pub returns : goal.returns
returns c q ws fs ads ss ls ms ds = stays_far _ (sym c.reaches.ensures ∙ c.if-reaches.false)
