-- `strings::few` meets its contract: by its first test. Assumes nothing.
use Rattle.capi.proofs.Counts.{few_both, few_neither}
use Rattle.capi.proofs.strings.few.Goals as goal

pub returns-then-m-lt-TOO_MANY : goal.returns-then-m-lt-TOO_MANY
returns-then-m-lt-TOO_MANY c = few_both _ _ c.if-m-lt-TOO_MANY.true

pub returns-else-m-lt-TOO_MANY : goal.returns-else-m-lt-TOO_MANY
returns-else-m-lt-TOO_MANY c = few_neither _ _ c.if-m-lt-TOO_MANY.false
