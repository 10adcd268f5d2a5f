-- `play_part` meets its contract: a part of each column is lent, and comes back before the rest. Assumes nothing.
use Rattle.lent.specs.Lent.{state_of, state_in}
use Rattle.turns.proofs.Parts.{parted}
use Rattle.player.proofs.Starting.{plays_parts}
use Rattle.player.proofs.calls.play_part.Goals as goal

pub returns-clause-played : goal.returns-clause-played
unfolding state_of
returns-clause-played c =
    let u = c.args.unit.now in let x = c.play_parts.new in let r = c.play_parts.result in let same = c.play_parts.auto in
    plays_parts u
    (parted u x.numbers x.switches x.hold x.words x.flags x.addresses x.sizes x.links x.marks x.deeps (state_in u).m (state_in u).h c.min-words.result c.min-flags.result c.min-addresses.result c.min-sizes.result c.min-links.result c.min-marks.result c.min-deeps.result
    (c.min-words.ensures, c.min-flags.ensures, c.min-addresses.ensures, c.min-sizes.ensures, c.min-links.ensures, c.min-marks.ensures, c.min-deeps.ensures)
    (record { words = same.words; flags = same.flags; addresses = same.addresses; sizes = same.sizes; links = same.links; marks = same.marks; deeps = same.deeps }))
    c.args.last c.args.input.now c.args.out.now x.out c.args.place r.place r.used r.written r.waits c.requires c.play_parts.ensures
