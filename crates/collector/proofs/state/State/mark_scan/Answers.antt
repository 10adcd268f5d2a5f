-- `State::mark_scan` equals the definition `mark_scan`, by its cases. Assumes nothing.
use Rattle.collector.specs.Boxed.{boxed}
use Rattle.collector.proofs.Marking.{mark_scan_word, mark_scan_refused, mark_scan_behind}
use mathlib.Core.Path.{sym, ◌∙◌}
use Rattle.collector.proofs.state.State.mark_scan.Goals as goal

pub returns-then-self-index : goal.returns-then-self-index
returns-then-self-index c q ms ds = let a = c.args in mark_scan_behind (boxed q a.words.now a.flags.now a.addresses.now a.sizes.now a.links.now ms ds a.self) _ c.if-self-index.true (c.scan_current.ensures q a.words.now a.flags.now ms ds)

pub returns-then-reaches : goal.returns-then-reaches
returns-then-reaches c q ms ds = let a = c.args in mark_scan_word (boxed q a.words.now a.flags.now a.addresses.now a.sizes.now a.links.now ms ds a.self) _ c.if-self-index.false (sym c.reaches.ensures ∙ c.if-reaches.true) (c.scan_word-self.ensures q a.addresses.now a.sizes.now a.links.now ms ds)

pub returns : goal.returns
returns c q ms ds = let a = c.args in mark_scan_refused (boxed q a.words.now a.flags.now a.addresses.now a.sizes.now a.links.now ms ds a.self) c.if-self-index.false (sym c.reaches.ensures ∙ c.if-reaches.false)
