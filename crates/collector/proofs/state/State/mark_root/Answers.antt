-- `State::mark_root` equals the definition `mark_root` at what the look at the registers found, by its cases. Assumes nothing.
use mathlib.Core.Path.{sym, ◌∙◌}
use Rattle.collector.specs.Boxed.{boxed}
use Rattle.collector.specs.Decide.{with_grant}
use Rattle.collector.proofs.Rooting.{root_none, root_shaded, root_refused}
use Rattle.collector.proofs.state.State.mark_root.Goals as goal

pub returns-then-can_shade-clause-answer_after : goal.returns-then-can_shade-clause-answer_after
unfolding with_grant
returns-then-can_shade-clause-answer_after c = let a = c.args in λ q ads. root_shaded (boxed q a.words.now a.flags.now ads a.sizes.now a.links.now a.marks.now a.deeps.now a.self) a.root c.in-Some.h c.in-Some.is _ (sym (c.can_shade.ensures q a.words.now a.flags.now ads a.links.now a.deeps.now) ∙ c.if-can_shade.true) (c.shade-self.ensures q a.words.now a.flags.now ads)

pub returns-else-can_shade-clause-answer_after : goal.returns-else-can_shade-clause-answer_after
unfolding with_grant
returns-else-can_shade-clause-answer_after c = let a = c.args in λ q ads. root_refused (boxed q a.words.now a.flags.now ads a.sizes.now a.links.now a.marks.now a.deeps.now a.self) a.root c.in-Some.h c.in-Some.is (sym (c.can_shade.ensures q a.words.now a.flags.now ads a.links.now a.deeps.now) ∙ c.if-can_shade.false)

pub returns-in_default-clause-answer_after : goal.returns-in_default-clause-answer_after
returns-in_default-clause-answer_after c = let a = c.args in λ q ads. root_none (boxed q a.words.now a.flags.now ads a.sizes.now a.links.now a.marks.now a.deeps.now a.self) a.root _ c.in_default.not-Some (c.end_marking.ensures.answer_value q ads a.sizes.now a.links.now a.marks.now a.deeps.now)
