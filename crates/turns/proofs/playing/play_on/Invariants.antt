-- `play_on` meets its contract. The loop's invariant: the parts are the caller's still, the places are inside, whether the box is sound is
-- known, and what is done and what is left to do come to what all comes to. The measure is the bytes and the room that are left.
use Prim.Native.Nat.{◌-◌, ◌≤◌}
use mathlib.Core.Path.{◌≡◌}
use lib.ListN.{length, drop}
use Rattle.rules.specs.Box.{sound}
use Rattle.lent.specs.Lent.{box_of, SameReferences}
use Rattle.pieces.specs.Pieces.{at, play_piece}
use Rattle.turns.specs.Outcome.{outcome, to_go}
use Rattle.turns.proofs.playing.play_on.Given as goal

abbrev pub invariant-loop-to : goal.invariant-loop-to
invariant-loop-to l = record {
  same_references : SameReferences l.initial.unit l.unit;
  bytes_in : l.used ≤ length l.input;
  room_in : l.written ≤ length l.out;
  sound_same : sound (box_of l.unit) ≡ l.right;
  comes_to : outcome l.out l.written (play_piece l.last (length l.out - l.written) (at l.stage l.count l.left l.opened) (drop l.used l.input) (box_of l.unit)) ≡ outcome l.initial.out 0 (play_piece l.last (length l.initial.out) l.fn.place l.input (box_of l.initial.unit));
}

abbrev pub decreases-loop-to : goal.decreases-loop-to
decreases-loop-to l = to_go l.input l.used l.out l.written
