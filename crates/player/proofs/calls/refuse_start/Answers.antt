-- `refuse_start` meets its contract: whether the string is cut, and whether more may come. Assumes nothing.
use Rattle.std.proofs.Common.{◌≡◌, true, false, arith}
use Rattle.std.proofs.lemmas.Grind.{common_steps}
use Rattle.record.specs.Found.{number_of}
use Rattle.pieces.specs.Pieces.{may_come}
use Rattle.player.proofs.Starting.{refuses_now, refuses_later}
use Rattle.player.proofs.calls.refuse_start.Goals as goal

pub returns-then-not-last : goal.returns-then-not-last
unfolding may_come
returns-then-not-last c =
    let m : may_come c.args.last (number_of c.args.fault) ≡ true = grind (arith, common_steps) in
    refuses_later c.args.last _ _ c.args.place c.requires.0 m

pub returns : goal.returns
unfolding may_come
returns c =
    let m : may_come c.args.last c.number.result ≡ false = grind (arith, common_steps) in
    rw (← c.number.ensures) (refuses_now c.args.last c.number.result _ _ c.args.place _ _ _ _ c.say_refused.ensures m)
