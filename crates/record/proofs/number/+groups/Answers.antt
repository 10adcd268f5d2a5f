-- `groups` meets its contract: a further group before the number leaves it within 32 bits, and the check finds the rest. Assumes nothing.
use Rattle.std.proofs.Common.{◌-◌, arith}
use Rattle.record.proofs.Groups.{found_fits}
use Rattle.record.proofs.number.+groups.Goals as goal

pub overflow_mul-result : goal.overflow_mul-result
overflow_mul-result t c = omega (arith, found_fits c.args.bytes.now _ (c.args.k - 1) (λ i. (c.type_inv.bytes i).fits) (omega (arith, c.requires)) _ c.groups-rest.ensures _ _ c.in-Found.is)

pub overflow_add-result-2 : goal.overflow_add-result-2
overflow_add-result-2 t c = omega (arith, found_fits c.args.bytes.now _ (c.args.k - 1) (λ i. (c.type_inv.bytes i).fits) (omega (arith, c.requires)) _ c.groups-rest.ensures _ _ c.in-Found.is, c.from-b.ensures, c.type_inv.bytes c.args.at)
