-- A call that only reads the hold's numbers.
use Rattle.rules.specs.Parts.{Box}
use Rattle.lent.specs.declared.unit.MemoryUnit.{MemoryUnit}
use Rattle.lent.specs.Lent.{lent}

-- the box that a call leaves in v, with the hold's numbers that it found in u
abbrev pub box_held : MemoryUnit → MemoryUnit → Box
box_held u v = lent v.numbers.now v.switches.now u.hold.now v.words.now v.flags.now v.addresses.now v.sizes.now v.links.now v.marks.now v.deeps.now
