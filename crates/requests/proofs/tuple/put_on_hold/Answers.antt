-- `put_on_hold` meets its contract: the places that are written are the hold. Assumes nothing.
use Rattle.requests.proofs.Holding.{hold_box}
use Rattle.requests.proofs.tuple.put_on_hold.Goals as goal

pub returns-clause-held : goal.returns-clause-held
returns-clause-held c =
    let u = c.args.unit.now in
    hold_box u.numbers.now u.switches.now c.begin_hold.new.switches u.hold.now c.args.r c.args.n c.args.tag u.words.now u.flags.now u.addresses.now u.sizes.now u.links.now u.marks.now u.deeps.now c.begin_hold.ensures.long c.begin_hold.ensures.stored
