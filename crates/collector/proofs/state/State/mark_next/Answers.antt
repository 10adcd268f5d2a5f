-- `State::mark_next` equals the definition `mark_next`, by its two cases. Assumes nothing.
use Rattle.collector.specs.Answer.{number_of}
use Rattle.collector.specs.Boxed.{blank, boxed}
use Rattle.rules.specs.Collector.{scan_next}
use Rattle.collector.proofs.Granting.{calm_reply, calm_grants, scan_next_calm}
use Rattle.collector.proofs.Rooting.{next_root, next_scan}
use Rattle.collector.proofs.state.State.mark_next.Goals as goal

pub returns-then-self-eq0 : goal.returns-then-self-eq0
returns-then-self-eq0 c = let a = c.args in let z = c.if-self-eq0.true in record { answer_after = λ q l. next_root (boxed q a.words.now a.flags.now a.addresses.now a.sizes.now a.links.now a.marks.now a.deeps.now a.self) _ _ z (l z) (c.mark_root.ensures.answer_after q a.addresses.now); grants = c.mark_root.ensures.grants }

pub returns : goal.returns
returns c = let a = c.args in record { answer_after = λ q l. next_scan (boxed q a.words.now a.flags.now a.addresses.now a.sizes.now a.links.now a.marks.now a.deeps.now a.self) _ c.if-self-eq0.false (calm_reply _ _ (scan_next (boxed q a.words.now a.flags.now a.addresses.now a.sizes.now a.links.now a.marks.now a.deeps.now a.self)) (scan_next_calm (boxed q a.words.now a.flags.now a.addresses.now a.sizes.now a.links.now a.marks.now a.deeps.now a.self)) (c.scan_next.ensures q a.words.now a.flags.now a.marks.now a.deeps.now)); grants = let q = blank in calm_grants _ (number_of c.scan_next.result.answer) a.self.m a.self.h c.scan_next.result.state (scan_next (boxed q a.words.now a.flags.now a.addresses.now a.sizes.now a.links.now a.marks.now a.deeps.now a.self)) (scan_next_calm (boxed q a.words.now a.flags.now a.addresses.now a.sizes.now a.links.now a.marks.now a.deeps.now a.self)) (c.scan_next.ensures q a.words.now a.flags.now a.marks.now a.deeps.now) }
