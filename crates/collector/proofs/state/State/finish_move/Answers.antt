-- `State::finish_move` equals the definition `finish_move`, by its cases: whether the sweep can leave is decided before the
-- entry is written. Assumes nothing.
use mathlib.Core.List.{[]}
use native.Mathlib.Omega.{arith}
use mathlib.Core.Path.{sym, ◌∙◌}
use lib.ListN.{set}
use Rattle.collector.specs.Boxed.{blank, boxed}
use Rattle.collector.specs.Decide.{with_grant}
use Rattle.collector.proofs.Entries.{entry_small}
use Rattle.collector.proofs.Granting.{nine}
use Rattle.collector.proofs.Moving.{finish_no_entry, finish_over, finish_refused, finish_left}
use Rattle.collector.proofs.state.State.finish_move.Goals as goal

pub bounds-addresses-i : goal.bounds-addresses-i
bounds-addresses-i c = omega (arith, entry_small _ _ (sym (c.is_entry.ensures blank [] [] [] [] [] [] []) ∙ c.if-is_entry.true))

pub returns-then-can_leave : goal.returns-then-can_leave
returns-then-can_leave c = let a = c.args in record { answer_after = λ q ss ls ms ds. finish_left (boxed q a.words.now a.flags.now a.addresses.now ss ls ms ds a.self) _ (sym (c.is_entry.ensures q a.words.now a.flags.now a.addresses.now ss ls ms ds) ∙ c.if-is_entry.true) (sym c.reaches.ensures ∙ c.if-reaches.true) (c.leave_tuple.ensures.answer_value q (boxed q a.words.now a.flags.now a.addresses.now ss ls ms ds a.self) (set a.addresses.now a.self.tuple a.self.dest) ss ls ms ds); grants = c.leave_tuple.ensures.grants }

pub returns-else-can_leave : goal.returns-else-can_leave
unfolding with_grant
returns-else-can_leave c = let a = c.args in record { answer_after = λ q ss ls ms ds. finish_refused (boxed q a.words.now a.flags.now a.addresses.now ss ls ms ds a.self) (sym (c.is_entry.ensures q a.words.now a.flags.now a.addresses.now ss ls ms ds) ∙ c.if-is_entry.true) (sym c.reaches.ensures ∙ c.if-reaches.true) (sym (c.can_leave.ensures blank [] [] [] [] [] [] []) ∙ c.if-can_leave.false); grants = λ e. absurd (nine e) }

pub returns-else-reaches : goal.returns-else-reaches
unfolding with_grant
returns-else-reaches c = let a = c.args in record { answer_after = λ q ss ls ms ds. finish_over (boxed q a.words.now a.flags.now a.addresses.now ss ls ms ds a.self) (sym (c.is_entry.ensures q a.words.now a.flags.now a.addresses.now ss ls ms ds) ∙ c.if-is_entry.true) (sym c.reaches.ensures ∙ c.if-reaches.false); grants = λ e. absurd (nine e) }

pub returns-else-is_entry : goal.returns-else-is_entry
unfolding with_grant
returns-else-is_entry c = let a = c.args in record { answer_after = λ q ss ls ms ds. finish_no_entry (boxed q a.words.now a.flags.now a.addresses.now ss ls ms ds a.self) (sym (c.is_entry.ensures q a.words.now a.flags.now a.addresses.now ss ls ms ds) ∙ c.if-is_entry.false); grants = λ e. absurd (nine e) }
