-- `State::leave_tuple` equals the definition `leave_tuple`, by its two cases: that it can leave gives each its bound. Assumes
-- nothing.
use native.Mathlib.Omega.{arith}
use Rattle.collector.specs.Boxed.{blank, boxed}
use Rattle.collector.specs.Decide.{with_grant}
use Rattle.collector.proofs.Granting.{thirty}
use Rattle.collector.proofs.Moving.{leaving_within, leaving_last, leaving_inner, leave_last, leave_inner}
use mathlib.Core.List.{[]}
use Rattle.collector.proofs.state.State.leave_tuple.Goals as goal

pub overflow_add-after : goal.overflow_add-after
overflow_add-after c = omega (arith, leaving_within)

pub overflow_add-after-2 : goal.overflow_add-after-2
overflow_add-after-2 c = omega (arith, leaving_within)

pub end_cycle-requires : goal.end_cycle-requires
end_cycle-requires c = leaving_last (boxed blank [] [] [] [] [] [] [] c.args.self) c.requires.3 c.if-after-self.true

pub returns-then-after-self : goal.returns-then-after-self
returns-then-after-self c = let a = c.args in record { answer_value = λ q found ads ss ls ms ds. leave_last (boxed q a.words.now a.flags.now ads ss ls ms ds a.self) found _ c.requires.3 c.if-after-self.true (c.end_cycle.ensures.answer_value q found a.words.now a.flags.now ads ss ls ms ds); grants = c.end_cycle.ensures.grants }

pub go_on-self-requires : goal.go_on-self-requires
go_on-self-requires c = (c.requires.0, c.requires.1, leaving_inner (boxed blank [] [] [] [] [] [] [] c.args.self) c.requires.3 c.if-after-self.false)

pub returns : goal.returns
unfolding with_grant
returns c = let a = c.args in record { answer_value = λ q found ads ss ls ms ds. leave_inner (boxed q a.words.now a.flags.now ads ss ls ms ds a.self) found _ c.requires.3 c.if-after-self.false (c.go_on-self.ensures q ads ss ls ms ds); grants = λ e. absurd (thirty e) }
