-- `MemoryUnit::put_back` meets its contract: what is put back, group by group, is the struct. Assumes nothing.
use mathlib.Core.Path.{◌∙◌, ap}
use Rattle.rules.specs.Parts.{Registers}
use Rattle.collector.specs.declared.state.State.{State}
use Rattle.collector.specs.Boxed.{boxed}
use Rattle.lent.specs.Lent.{registers_of}
use Rattle.lent.proofs.Fields.{put_back}
use Rattle.lent.proofs.unit.MemoryUnit.put_back.Goals as goal

pub returns-clause-put_back : goal.returns-clause-put_back
returns-clause-put_back c =
    let u = c.args.self.now in
    let k = c.requires.kept in
    let p = put_back u.numbers.now u.switches.now u.hold.now c.args.before c.args.after c.put_room.ensures.long c.put_switches.ensures.long c.requires.taken _ _ _ _ c.put_room.ensures.stored c.put_lists.ensures.stored c.put_walk.ensures.stored c.put_switches.ensures.stored k.0 k.1 k.2 k.3 k.4 in
    ap (λ (y : State). boxed (registers_of c.put_walk.new.numbers c.put_switches.new.switches) u.words.now u.flags.now u.addresses.now u.sizes.now u.links.now u.marks.now u.deeps.now y) p.state_is
    ∙ ap (λ (y : Registers). boxed y u.words.now u.flags.now u.addresses.now u.sizes.now u.links.now u.marks.now u.deeps.now c.args.after) p.registers_are
