-- `State::scan_word` equals the definition `scan_word`, by its two cases. Assumes nothing.
use Rattle.collector.specs.Boxed.{boxed}
use Rattle.collector.proofs.Marking.{scan_word_pointer, scan_word_passed}
use mathlib.Core.Path.{sym, ◌∙◌}
use Rattle.collector.proofs.state.State.scan_word.Goals as goal

pub returns-then-names_tuple : goal.returns-then-names_tuple
returns-then-names_tuple c q ads ss ls ms ds = let a = c.args in scan_word_pointer (boxed q a.words.now a.flags.now ads ss ls ms ds a.self) c.handle.result c.handle.ensures.0 (sym c.names_tuple.ensures ∙ c.if-names_tuple.true)

pub returns : goal.returns
returns c q ads ss ls ms ds = let a = c.args in scan_word_passed (boxed q a.words.now a.flags.now ads ss ls ms ds a.self) (sym c.names_tuple.ensures ∙ c.if-names_tuple.false)
