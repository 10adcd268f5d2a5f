-- `State::keep_in_place` equals the definition `keep_in_place`, by its cases: whether the end is refused is decided before the
-- tuple is unmarked. Assumes nothing.
use mathlib.Core.List.{[]}
use mathlib.Core.Bool.{false}
use mathlib.Core.Path.{sym, ◌∙◌}
use lib.ListN.{set}
use Rattle.rules.specs.Parts.{with_size}
use Rattle.rules.specs.Box.{is_entry}
use Rattle.collector.specs.Boxed.{blank, boxed}
use Rattle.rules.specs.Request.{no_room}
use Rattle.collector.specs.Decide.{end_refused, with_grant}
use Rattle.collector.proofs.Granting.{thirty, nine}
use Rattle.collector.proofs.Sweeping.{keep_refused, keep_ended, keep_on, keep_far}
use Rattle.collector.proofs.state.State.keep_in_place.Goals as goal

pub returns-then-end_refused : goal.returns-then-end_refused
unfolding end_refused no_room is_entry with_grant
returns-then-end_refused c = let a = c.args in record { answer_after = λ q ads ss ls ds. keep_refused (boxed q a.words.now a.flags.now ads ss ls a.marks.now ds a.self) (with_size a.size (boxed q a.words.now a.flags.now ads ss ls a.marks.now ds a.self)) c.if-after-self.true (sym (c.end_refused.ensures blank [] [] [] [] [] [] []) ∙ c.if-end_refused.true); grants = λ e. absurd (nine e) }

pub end_cycle-requires : goal.end_cycle-requires
unfolding end_refused no_room is_entry
end_cycle-requires c = sym (c.end_refused.ensures blank [] [] [] [] [] [] []) ∙ c.if-end_refused.false

pub returns-then-after-self : goal.returns-then-after-self
returns-then-after-self c = let a = c.args in record { answer_after = λ q ads ss ls ds. keep_ended (boxed q a.words.now a.flags.now ads ss ls a.marks.now ds a.self) (with_size a.size (boxed q a.words.now a.flags.now ads ss ls a.marks.now ds a.self)) _ c.if-after-self.true (c.end_cycle.ensures.answer_value q (boxed q a.words.now a.flags.now ads ss ls a.marks.now ds a.self) a.words.now a.flags.now ads ss ls (set a.marks.now a.self.tuple false) ds); grants = c.end_cycle.ensures.grants }

pub returns-then-self-after : goal.returns-then-self-after
unfolding with_grant
returns-then-self-after c = let a = c.args in record { answer_after = λ q ads ss ls ds. keep_far (boxed q a.words.now a.flags.now ads ss ls a.marks.now ds a.self) (with_size a.size (boxed q a.words.now a.flags.now ads ss ls a.marks.now ds a.self)) c.if-after-self.false c.if-self-after.true; grants = λ e. absurd (nine e) }

pub returns : goal.returns
unfolding with_grant
returns c = let a = c.args in record { answer_after = λ q ads ss ls ds. keep_on (boxed q a.words.now a.flags.now ads ss ls a.marks.now ds a.self) (with_size a.size (boxed q a.words.now a.flags.now ads ss ls a.marks.now ds a.self)) _ c.if-after-self.false c.if-self-after.false (c.go_on-self.ensures q ads ss ls (set a.marks.now a.self.tuple false) ds); grants = λ e. absurd (thirty e) }
