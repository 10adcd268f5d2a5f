-- The measure: how many groups more may follow. Assumes nothing.
use Rattle.record.proofs.number.+groups.Given as goal

abbrev pub decreases-groups : goal.decreases-groups
decreases-groups l = l.k
