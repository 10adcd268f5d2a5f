-- `State::sweep_tuple` equals the definition `sweep_tuple`, by its cases. Assumes nothing.
use mathlib.Core.List.{[]}
use mathlib.Core.Path.{sym, ◌∙◌}
use Rattle.rules.specs.Parts.{with_size}
use Rattle.collector.specs.Answer.{number_of}
use Rattle.collector.specs.Boxed.{blank, boxed}
use Rattle.rules.specs.Collector.{start_move, release}
use Rattle.collector.specs.Decide.{with_grant}
use Rattle.collector.proofs.Granting.{thirty, nine, calm_reply, calm_grants, release_calm}
use Rattle.collector.proofs.Sweeping.{tuple_kept, tuple_moves, tuple_released, tuple_far}
use Rattle.collector.proofs.state.State.sweep_tuple.Goals as goal

pub returns-then-src-self : goal.returns-then-src-self
returns-then-src-self c = let a = c.args in record { answer_after = λ q ads ss ds. tuple_kept (boxed q a.words.now a.flags.now ads ss a.links.now a.marks.now ds a.self) (with_size a.size (boxed q a.words.now a.flags.now ads ss a.links.now a.marks.now ds a.self)) _ (sym c.reaches.ensures ∙ c.if-reaches.true) c.if-marks-i.true c.if-src-self.true (c.keep_in_place.ensures.answer_after q ads ss a.links.now ds); grants = c.keep_in_place.ensures.grants }

pub returns-then-marks-i : goal.returns-then-marks-i
unfolding start_move with_grant
returns-then-marks-i c = let a = c.args in record { answer_after = λ q ads ss ds. tuple_moves (boxed q a.words.now a.flags.now ads ss a.links.now a.marks.now ds a.self) (with_size a.size (boxed q a.words.now a.flags.now ads ss a.links.now a.marks.now ds a.self)) (sym c.reaches.ensures ∙ c.if-reaches.true) c.if-marks-i.true c.if-src-self.false; grants = λ e. absurd (thirty e) }

pub returns-then-reaches : goal.returns-then-reaches
returns-then-reaches c = let a = c.args in record { answer_after = λ q ads ss ds. tuple_released (boxed q a.words.now a.flags.now ads ss a.links.now a.marks.now ds a.self) (with_size a.size (boxed q a.words.now a.flags.now ads ss a.links.now a.marks.now ds a.self)) _ (sym c.reaches.ensures ∙ c.if-reaches.true) c.if-marks-i.false (calm_reply _ _ (release (boxed q a.words.now a.flags.now ads ss a.links.now a.marks.now ds a.self) (with_size a.size (boxed q a.words.now a.flags.now ads ss a.links.now a.marks.now ds a.self))) (release_calm (boxed q a.words.now a.flags.now ads ss a.links.now a.marks.now ds a.self) (with_size a.size (boxed q a.words.now a.flags.now ads ss a.links.now a.marks.now ds a.self))) (c.release.ensures q ads ss a.marks.now ds)); grants = let q = blank in let ads = [] in let ss = [] in let ds = [] in calm_grants _ (number_of c.release.result.answer) a.self.m a.self.h c.release.result.state (release (boxed q a.words.now a.flags.now ads ss a.links.now a.marks.now ds a.self) (with_size a.size (boxed q a.words.now a.flags.now ads ss a.links.now a.marks.now ds a.self))) (release_calm (boxed q a.words.now a.flags.now ads ss a.links.now a.marks.now ds a.self) (with_size a.size (boxed q a.words.now a.flags.now ads ss a.links.now a.marks.now ds a.self))) (c.release.ensures q ads ss a.marks.now ds) }

pub returns : goal.returns
unfolding with_grant
returns c = let a = c.args in record { answer_after = λ q ads ss ds. tuple_far (boxed q a.words.now a.flags.now ads ss a.links.now a.marks.now ds a.self) (with_size a.size (boxed q a.words.now a.flags.now ads ss a.links.now a.marks.now ds a.self)) (sym c.reaches.ensures ∙ c.if-reaches.false); grants = λ e. absurd (nine e) }
