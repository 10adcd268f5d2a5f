-- What no rule writes in the directory.
use Rattle.std.specs.Prelude.{◌≡◌}
use Rattle.lent.specs.declared.unit.MemoryUnit.{MemoryUnit}

-- the sizes and the deep flags: also where a rule answers 32, and the granted tuple, which gets both at its entry, is still to be made
abbrev pub SameEntries : MemoryUnit → MemoryUnit → Type 0
SameEntries u v = (v.sizes.now ≡ u.sizes.now) × (v.deeps.now ≡ u.deeps.now)
