-- `State::sweep_scan` equals the definition `sweep_scan`, by its cases. Assumes nothing.
use mathlib.Core.List.{[]}
use native.Mathlib.Omega.{arith}
use mathlib.Core.Path.{sym, ◌∙◌}
use Rattle.collector.specs.Boxed.{blank, boxed}
use Rattle.collector.specs.Decide.{with_grant}
use Rattle.collector.proofs.Entries.{entry_small}
use Rattle.collector.proofs.Granting.{nine}
use Rattle.collector.proofs.Sweeping.{scan_done, scan_refused}
use borrow.Author.Rules.{rules}
use Rattle.collector.proofs.state.State.sweep_scan.Goals as goal

pub bounds-sizes-i : goal.bounds-sizes-i
bounds-sizes-i c = omega (arith, entry_small _ _ (sym (c.is_entry.ensures blank [] [] [] [] [] [] []) ∙ c.if-is_entry.true))

pub sweep_tuple-requires : goal.sweep_tuple-requires
sweep_tuple-requires c = (search rules, search rules, search rules, search rules, search rules, entry_small _ _ (sym (c.is_entry.ensures blank [] [] [] [] [] [] []) ∙ c.if-is_entry.true))

pub returns-then-is_entry : goal.returns-then-is_entry
returns-then-is_entry c = let a = c.args in record { answer_after = λ q ads ds. scan_done (boxed q a.words.now a.flags.now ads a.sizes.now a.links.now a.marks.now ds a.self) _ (sym (c.is_entry.ensures q a.words.now a.flags.now ads a.sizes.now a.links.now a.marks.now ds) ∙ c.if-is_entry.true) (c.sweep_tuple.ensures.answer_after q ads a.sizes.now ds); grants = c.sweep_tuple.ensures.grants }

pub returns : goal.returns
unfolding with_grant
returns c = let a = c.args in record { answer_after = λ q ads ds. scan_refused (boxed q a.words.now a.flags.now ads a.sizes.now a.links.now a.marks.now ds a.self) (sym (c.is_entry.ensures q a.words.now a.flags.now ads a.sizes.now a.links.now a.marks.now ds) ∙ c.if-is_entry.false); grants = λ e. absurd (nine e) }
