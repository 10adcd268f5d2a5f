-- `store_word` meets its contract: what is done before the word is written keeps the sizes and the lengths. Assumes nothing.
use mathlib.Core.Path.{◌∙◌, ap}
use Rattle.rules.proofs.Kept.{outline, same, first_keeps, deepened_keeps}
use Rattle.collector.specs.Boxed.{word_of}
use Rattle.lent.specs.Lent.{box_of}
use Rattle.lent.proofs.Columns.{columns_kept}
use Rattle.requests.proofs.Stores.{tuple_kept, within_kept}
use Rattle.requests.proofs.storing.store_word.Goals as goal

pub deepen-requires-clause-columns : goal.deepen-requires-clause-columns
deepen-requires-clause-columns c =
    let u = c.args.unit.now in
    columns_kept u c.shade_first.new.unit (ap outline c.if-not-shade_first.ensures.shaded ∙ (first_keeps (word_of c.args.w) (box_of u)).outline_same) c.requires.columns

pub deepen-requires-clause-tuple : goal.deepen-requires-clause-tuple
deepen-requires-clause-tuple c =
    let u = c.args.unit.now in
    tuple_kept u c.shade_first.new.unit (ap outline c.if-not-shade_first.ensures.shaded ∙ (first_keeps (word_of c.args.w) (box_of u)).outline_same) c.args.slot.tuple c.requires.right_slot.0

pub write-requires-clause-columns : goal.write-requires-clause-columns
write-requires-clause-columns c =
    let u = c.args.unit.now in
    let w = word_of c.args.w in
    columns_kept u c.deepen.new.unit (ap outline c.deepen.ensures.deepened ∙ (deepened_keeps w c.args.slot.tuple _ _ (same _)).outline_same ∙ ap outline c.if-not-shade_first.ensures.shaded ∙ (first_keeps w (box_of u)).outline_same) c.requires.columns

pub write-requires-clause-within : goal.write-requires-clause-within
write-requires-clause-within c =
    let u = c.args.unit.now in
    let w = word_of c.args.w in
    within_kept u c.deepen.new.unit (ap outline c.deepen.ensures.deepened ∙ (deepened_keeps w c.args.slot.tuple _ _ (same _)).outline_same ∙ ap outline c.if-not-shade_first.ensures.shaded ∙ (first_keeps w (box_of u)).outline_same) c.args.slot.place c.requires.right_slot.1
