-- `sweep_write` meets its contract: it keeps what `put_back` asks for. Assumes nothing.
use Rattle.rules.proofs.Kept.{write_rule_keeps}
use Rattle.lent.specs.Lent.{registers_of}
use Rattle.phases.proofs.Landing.{kept}
use Rattle.phases.proofs.phases.sweep_write.Goals as goal

pub put_back-requires-clause-kept : goal.put_back-requires-clause-kept
put_back-requires-clause-kept c = let u = c.args.unit.now in kept _ _ _ _ (write_rule_keeps _) (c.sweep_write-done.ensures (registers_of u.numbers.now u.switches.now) u.addresses.now u.sizes.now u.links.now u.marks.now u.deeps.now)
