-- `State::mark_add` equals the definition `mark_add`, by its two cases. Assumes nothing.
use Rattle.collector.specs.Boxed.{boxed}
use Rattle.collector.proofs.Marking.{mark_add_done, mark_add_refused}
use mathlib.Core.Path.{sym, ◌∙◌}
use Rattle.collector.proofs.state.State.mark_add.Goals as goal

pub returns-then-can_shade : goal.returns-then-can_shade
returns-then-can_shade c q ws fs ads = let a = c.args in mark_add_done (boxed q ws fs ads a.sizes.now a.links.now a.marks.now a.deeps.now a.self) _ (sym (c.can_shade.ensures q ws fs ads a.links.now a.deeps.now) ∙ c.if-can_shade.true) (c.shade-self.ensures q ws fs ads)

pub returns : goal.returns
returns c q ws fs ads = let a = c.args in mark_add_refused (boxed q ws fs ads a.sizes.now a.links.now a.marks.now a.deeps.now a.self) (sym (c.can_shade.ensures q ws fs ads a.links.now a.deeps.now) ∙ c.if-can_shade.false)
