-- `State::new_tuple` meets its contract: the law `made` of a new tuple, at what its callees ensure. Assumes nothing.
use mathlib.Core.Bool.{false, not}
use lib.Dec.{eqb}
use lib.ListN.{set}
use Rattle.collector.specs.Boxed.{boxed}
use Rattle.collector.proofs.Tuples.{made}
use Rattle.collector.proofs.state.State.new_tuple.Goals as goal

pub returns : goal.returns
returns c q r =
    let a = c.args in
    let ws = set a.words.now a.self.top c.packed-control.result in
    let fs = set a.flags.now a.self.top false in
    let ads = set a.addresses.now a.self.free a.self.top in
    let ss = set a.sizes.now a.self.free a.n in
    let ms = set a.marks.now a.self.free (not (eqb a.self.phase 0)) in
    let ds = set a.deeps.now a.self.free false in
    made q a.words.now a.flags.now a.addresses.now a.sizes.now a.links.now a.marks.now a.deeps.now r a.n a.tag c.packed-control.result a.self (boxed q ws fs ads ss a.links.now ms ds c.take_room.result) c.packed-control.ensures (c.take_room.ensures q ws fs ads ss a.links.now ms ds)
