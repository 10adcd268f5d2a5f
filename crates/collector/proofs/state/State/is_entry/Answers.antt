-- `State::is_entry` equals the definition `is_entry`: handle 0 is none, and else only H is left to compare with. Assumes
-- nothing.
use mathlib.Core.Path.{sym}
use Rattle.collector.proofs.Entries.{entry_nil, entry_below}
use Rattle.collector.proofs.state.State.is_entry.Goals as goal

pub returns-then-h-eq0 : goal.returns-then-h-eq0
returns-then-h-eq0 c q ws fs ads ss ls ms ds = sym (entry_nil _ _ c.if-h-eq0.true)

pub returns : goal.returns
returns c q ws fs ads ss ls ms ds = sym (entry_below _ _ c.if-h-eq0.false)
