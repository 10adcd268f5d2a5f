-- `mark_next` meets its contract: it keeps what `put_back` asks for. Assumes nothing.
use Rattle.rules.proofs.Kept.{next_rule_keeps}
use Rattle.lent.specs.Lent.{registers_of}
use Rattle.phases.proofs.Landing.{kept_or_granted}
use Rattle.phases.proofs.Looking.{look_taken}
use Rattle.phases.proofs.phases.mark_next.Goals as goal

pub put_back-requires-clause-kept : goal.put_back-requires-clause-kept
put_back-requires-clause-kept c = let u = c.args.unit.now in kept_or_granted _ _ _ _ (next_rule_keeps _) (c.mark_next-done.ensures.answer_after (registers_of u.numbers.now u.switches.now) (look_taken u _ _ c.state-before.ensures c.look-root.ensures))
