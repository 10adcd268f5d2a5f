-- `getm` meets its contract: the two tests leave room for the tuple. Assumes nothing.
use mathlib.Core.List.{[]}
use mathlib.Core.Path.{sym, ◌∙◌}
use Rattle.collector.specs.Boxed.{blank}
use Rattle.requests.proofs.Holding.{has_room}
use Rattle.requests.proofs.tuple.getm.Goals as goal

pub make-requires-clause-room : goal.make-requires-clause-room
make-requires-clause-room c =
    has_room c.args.n c.state-state.result _ c.state-state.ensures
    (sym (c.no_room.ensures blank [] [] [] [] [] [] []) ∙ c.if-no_room.false)
    (sym (c.can_make.ensures blank [] [] [] [] [] [] []) ∙ c.if-not-can_make.false)
