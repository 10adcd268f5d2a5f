-- A cycle's end, from the box that its rule leaves and the invariant at rest: which of the four answers it has, what is left, and the
-- invariant of that. At rest no test of the held request fails: a hold names a register, and a free handle has an entry. So the end
-- never answers 9. Assumes nothing.
use Prim.Native.Nat.{◌+◌, ◌≤◌}
use mathlib.Core.Bool.{true, false}
use mathlib.Core.Logic.{◌≢◌, ◌⊎◌, inl, inr}
use mathlib.Core.Path.{◌≡◌}
use native.Mathlib.Omega.{arith}
use Rattle.rules.specs.Limits.{register_count}
use Rattle.rules.specs.Parts.{Box}
use Rattle.rules.specs.Box.{reply}
use Rattle.rules.specs.Request.{new_tuple}
use Rattle.rules.specs.Collector.{at_rest, unheld, granted, end_cycle}
use Rattle.rules.specs.Answers.{Entry, NoRoom}
use Rattle.history.proofs.Invariant.Statement.{Ghosts, Inv}
use Rattle.rules.proofs.View.Tests.{Room}
use Rattle.rules.proofs.View.End.{Ending, ending}
use Rattle.history.proofs.Asking.InRange.{free_bounds}
use Rattle.history.proofs.Asking.Registers.{invariant_unheld}
use Rattle.history.proofs.Asking.NewTuple.{made_ghosts, invariant_new_tuple}

-- a held request that is granted: the new tuple is made as for any request, and the hold is dropped
invariant_granted : (b : Box) (g : Ghosts) → Inv b g → b.hold.held ≡ true → Room b.hold.size b → Inv (granted b) (made_ghosts g b.free)
unfolding granted
invariant_granted b g v e t =
    let f = v.shape.held_register e in
    invariant_unheld (new_tuple b.hold.register b.hold.size b.hold.tag b) (made_ghosts g b.free)
    (invariant_new_tuple b g v b.hold.register b.hold.size b.hold.tag f.0 t.0 t.1 f.1)

-- found is the box before the step, c the box as its rule leaves it, and g the ghosts of c at rest
pub data CycleEnd (found c : Box) (g : Ghosts) : Type 0 where
  ends_free : c.hold.held ≡ false → end_cycle found c ≡ reply (at_rest c) 31 → CycleEnd found c g
  ends_held : c.hold.held ≡ true → NoRoom c.hold.size c → c.hold.begun ≡ false → end_cycle found c ≡ reply (at_rest c) 33 → CycleEnd found c g
  ends_dropped : c.hold.held ≡ true → NoRoom c.hold.size c → c.hold.begun ≡ true → end_cycle found c ≡ reply (unheld (at_rest c)) 8
      → Inv (unheld (at_rest c)) g → CycleEnd found c g
  ends_granted : c.hold.held ≡ true → c.free ≢ 0 → c.top + c.hold.size + 1 ≤ c.m → end_cycle found c ≡ reply (granted (at_rest c)) 32
      → Inv (granted (at_rest c)) (made_ghosts g c.free) → CycleEnd found c g

pub cycle_end : (found c : Box) (g : Ghosts) → Inv (at_rest c) g → CycleEnd found c g
unfolding at_rest
cycle_end found c g v = go (ending found c)
  where
    lost : c.hold.held ≡ true → c.free ≢ 0 → (register_count ≤ c.hold.register) ⊎ (¬ Entry c.free c) → ⊥
    lost h f (inl l) = omega (arith, (v.shape.held_register h).0)
    lost h f (inr e) = e (free_bounds (at_rest c) g v f)

    go : Ending found c → CycleEnd found c g
    go (Ending.ends_free h e) = ends_free h e
    go (Ending.ends_held h n s e) = ends_held h n s e
    go (Ending.ends_dropped h n s e) = ends_dropped h n s e (invariant_unheld (at_rest c) g v)
    go (Ending.ends_granted h f t r x e) = ends_granted h f t e (invariant_granted (at_rest c) g v h (f, t))
    go (Ending.ends_lost h f t x e) = absurd (lost h f x)
