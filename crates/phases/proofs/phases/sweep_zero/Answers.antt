-- `sweep_zero` meets its contract: it keeps what `put_back` asks for. Assumes nothing.
use Rattle.rules.proofs.Kept.{zero_rule_keeps}
use Rattle.lent.specs.Lent.{registers_of}
use Rattle.phases.proofs.Landing.{kept_or_granted}
use Rattle.phases.proofs.phases.sweep_zero.Goals as goal

pub put_back-requires-clause-kept : goal.put_back-requires-clause-kept
put_back-requires-clause-kept c = let u = c.args.unit.now in kept_or_granted _ _ _ _ (zero_rule_keeps _) (c.sweep_zero-done.ensures.answer_after (registers_of u.numbers.now u.switches.now) u.addresses.now u.sizes.now u.links.now u.marks.now u.deeps.now)
