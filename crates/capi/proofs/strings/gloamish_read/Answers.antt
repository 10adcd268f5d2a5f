-- `gloamish_read` meets its contract: by what the read of crate record ensures. Its count is below 2^48, as the lent lengths are, so the sum fits.
-- Assumes nothing.
use mathlib.Core.Path.{sym, ◌∙◌}
use native.Mathlib.Omega.{arith}
use Rattle.capi.proofs.Counts.{read_none, read_few, read_some}
use Rattle.capi.proofs.strings.gloamish_read.Goals as goal

pub returns-then-not-few : goal.returns-then-not-few
returns-then-not-few c = read_none _ _ _ (sym c.few.ensures ∙ c.if-not-few.true) c.from.ensures

pub overflow_mul-result : goal.overflow_mul-result
overflow_mul-result c = omega (arith, read_few _ _ _ _ _ (sym c.few.ensures ∙ c.if-not-few.false) c.read-got.ensures c.read-got.auto.numbers)

pub overflow_add-result : goal.overflow_add-result
overflow_add-result c = omega (arith, read_few _ _ _ _ _ (sym c.few.ensures ∙ c.if-not-few.false) c.read-got.ensures c.read-got.auto.numbers)

pub returns : goal.returns
returns c = read_some _ _ _ _ _ (sym c.few.ensures ∙ c.if-not-few.false) c.read-got.ensures _ c.from-2.ensures
