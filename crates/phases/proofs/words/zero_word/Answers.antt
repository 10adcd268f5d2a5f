-- `zero_word` meets its contract: it keeps what `put_back` asks for. Assumes nothing.
use Rattle.rules.proofs.Kept.{zero_rule_keeps}
use Rattle.lent.specs.Lent.{registers_of, box_with}
use Rattle.phases.specs.Words.{AtWord}
use Rattle.phases.proofs.Landing.{kept}
use Rattle.phases.proofs.WordSteps.{zero_at}
use Rattle.phases.proofs.words.zero_word.Goals as goal

pub put_back-requires-clause-kept : goal.put_back-requires-clause-kept
put_back-requires-clause-kept c =
    let u = c.args.unit.now in
    let s = c.state-before.result in
    let w : AtWord s = rw c.state-before.ensures c.requires.at_word in
    kept (box_with u s) _ _ _ (zero_rule_keeps _) (zero_at _ _ w.0 w.1 (c.zero_word-after.ensures (registers_of u.numbers.now u.switches.now) u.addresses.now u.sizes.now u.links.now u.marks.now u.deeps.now))
