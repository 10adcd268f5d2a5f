-- `shade_target` meets its contract: shading keeps the sizes and what the hold names. Assumes nothing.
use mathlib.Core.List.{[]}
use mathlib.Core.Path.{◌∙◌, ap}
use Rattle.rules.proofs.Kept.{outline, shade_keeps}
use Rattle.collector.specs.Boxed.{blank}
use Rattle.lent.proofs.Columns.{parts_kept}
use Rattle.requests.proofs.storing.shade_target.Goals as goal

pub put_back-requires-clause-kept : goal.put_back-requires-clause-kept
put_back-requires-clause-kept c = parts_kept _ _ (ap outline (c.shade-after.ensures blank [] [] []) ∙ (shade_keeps c.args.target _).outline_same)
