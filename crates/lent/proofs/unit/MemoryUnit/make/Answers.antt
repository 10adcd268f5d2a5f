-- `MemoryUnit::make` meets its contract: the sizes and what the hold asks for stay. Assumes nothing.
use Rattle.collector.specs.Boxed.{boxed}
use Rattle.lent.specs.Lent.{registers_of}
use Rattle.lent.proofs.Columns.{parts_kept}
use Rattle.lent.proofs.Making.{made_outline}
use Rattle.lent.proofs.unit.MemoryUnit.make.Goals as goal

pub put_back-requires-clause-kept : goal.put_back-requires-clause-kept
put_back-requires-clause-kept c =
    let a = c.args in
    let u = a.self.now in
    let d = c.new_tuple-after in
    let q = registers_of u.numbers.now u.switches.now in
    parts_kept _ _ (made_outline a.r a.n a.tag (λ v y. boxed v u.words.now u.flags.now u.addresses.now u.sizes.now u.links.now u.marks.now u.deeps.now y) (λ v y. boxed v d.new.words d.new.flags d.new.addresses d.new.sizes u.links.now d.new.marks d.new.deeps y) q c.state-before.result d.result (d.ensures q a.r))
