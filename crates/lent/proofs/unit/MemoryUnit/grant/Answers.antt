-- `MemoryUnit::grant` meets its contract: the tuple is made for the register that the hold names, and the hold is dropped. Assumes nothing.
use mathlib.Core.Path.{◌∙◌, ap}
use Rattle.lent.specs.Lent.{state_of, lent, box_of}
use Rattle.lent.proofs.Making.{dropped, granted_lent}
use Rattle.lent.proofs.unit.MemoryUnit.grant.Goals as goal

pub make-requires-clause-register : goal.make-requires-clause-register
unfolding state_of
make-requires-clause-register c = c.requires.register

pub make-requires-clause-room : goal.make-requires-clause-room
unfolding state_of
make-requires-clause-room c = c.requires.room

pub returns-clause-granted : goal.returns-clause-granted
unfolding state_of
returns-clause-granted c =
    let v = c.make.new.self in
    granted_lent (box_of c.args.self.now) (box_of v) _ c.make.ensures.made (ap (λ y. lent v.numbers.now y v.hold.now v.words.now v.flags.now v.addresses.now v.sizes.now v.links.now v.marks.now v.deeps.now) c.drop_hold.ensures.stored ∙ dropped v.numbers.now v.switches.now v.hold.now v.words.now v.flags.now v.addresses.now v.sizes.now v.links.now v.marks.now v.deeps.now c.drop_hold.ensures.long)
