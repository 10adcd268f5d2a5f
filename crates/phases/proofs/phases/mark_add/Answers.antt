-- `mark_add` meets its contract: it keeps what `put_back` asks for. Assumes nothing.
use Rattle.rules.proofs.Kept.{add_rule_keeps}
use Rattle.lent.specs.Lent.{registers_of}
use Rattle.phases.proofs.Landing.{kept}
use Rattle.phases.proofs.phases.mark_add.Goals as goal

pub put_back-requires-clause-kept : goal.put_back-requires-clause-kept
put_back-requires-clause-kept c = let u = c.args.unit.now in kept _ _ _ _ (add_rule_keeps _) (c.mark_add-done.ensures (registers_of u.numbers.now u.switches.now) u.words.now u.flags.now u.addresses.now)
