-- `gloamish_write` meets its contract: by what the write of crate record ensures. Its count is below 2^48, as the lent lengths are, so what is
-- given back fits. Assumes nothing.
use mathlib.Core.Path.{sym, ◌∙◌}
use native.Mathlib.Omega.{arith}
use Rattle.capi.proofs.Counts.{write_none, write_few, write_some}
use Rattle.capi.proofs.strings.gloamish_write.Goals as goal

pub returns-then-not-few : goal.returns-then-not-few
returns-then-not-few c = write_none _ _ _ (sym c.few.ensures ∙ c.if-not-few.true) c.from.ensures

pub overflow_mul-result : goal.overflow_mul-result
overflow_mul-result c = omega (arith, write_few _ _ _ _ _ (sym c.few.ensures ∙ c.if-not-few.false) c.in-Ok.ensures c.write.auto.bytes)

pub returns-in-Ok : goal.returns-in-Ok
returns-in-Ok c = write_some _ _ _ _ _ (sym c.few.ensures ∙ c.if-not-few.false) c.in-Ok.ensures _ (omega arith)

pub returns-in-Err : goal.returns-in-Err
returns-in-Err c = write_some _ _ _ _ _ (sym c.few.ensures ∙ c.if-not-few.false) c.in-Err.ensures _ (omega arith)
