-- `open_first` meets its contract: a part of each column is lent, and comes back before the rest. Assumes nothing.
use Rattle.turns.proofs.Parts.{parted, opens_parts}
use Rattle.turns.proofs.opening.open_first.Goals as goal

pub returns-clause-opens : goal.returns-clause-opens
returns-clause-opens c =
    let x = c.open_parts.new in let same = c.open_parts.auto in
    opens_parts c.args.unit.now c.args.m c.args.h c.open_parts.result
    (parted c.args.unit.now x.numbers x.switches x.hold x.words x.flags x.addresses x.sizes x.links x.marks x.deeps c.args.m c.args.h c.min-words.result c.min-flags.result c.min-addresses.result c.min-sizes.result c.min-links.result c.min-marks.result c.min-deeps.result
    (c.min-words.ensures, c.min-flags.ensures, c.min-addresses.ensures, c.min-sizes.ensures, c.min-links.ensures, c.min-marks.ensures, c.min-deeps.ensures)
    (record { words = same.words; flags = same.flags; addresses = same.addresses; sizes = same.sizes; links = same.links; marks = same.marks; deeps = same.deeps }))
    c.open_parts.ensures
