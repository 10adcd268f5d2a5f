-- `State::scan_next` equals the definition `scan_next`, by its two cases. Assumes nothing.
use Rattle.collector.specs.Boxed.{blank, boxed}
use Rattle.collector.proofs.Marking.{scan_next_done, scan_next_refused}
use Rattle.collector.proofs.Entries.{entry_small}
use mathlib.Core.List.{[]}
use borrow.Author.Rules.{rules}
use mathlib.Core.Path.{sym, ◌∙◌}
use Rattle.collector.proofs.state.State.scan_next.Goals as goal

pub scan-self-requires : goal.scan-self-requires
scan-self-requires c = (search rules, search rules, search rules, entry_small _ _ (sym (c.is_entry.ensures blank [] [] [] [] [] [] []) ∙ c.if-is_entry.true))

pub returns-then-is_entry : goal.returns-then-is_entry
returns-then-is_entry c q ws fs ms ds = let a = c.args in scan_next_done (boxed q ws fs a.addresses.now a.sizes.now a.links.now ms ds a.self) _ (sym (c.is_entry.ensures q ws fs a.addresses.now a.sizes.now a.links.now ms ds) ∙ c.if-is_entry.true) (c.scan-self.ensures q ws fs ms ds)

pub returns : goal.returns
returns c q ws fs ms ds = let a = c.args in scan_next_refused (boxed q ws fs a.addresses.now a.sizes.now a.links.now ms ds a.self) (sym (c.is_entry.ensures q ws fs a.addresses.now a.sizes.now a.links.now ms ds) ∙ c.if-is_entry.false)
