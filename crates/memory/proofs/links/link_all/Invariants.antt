-- `link_all` meets its contract. The loop's invariant: every index passed has its link. Assumes nothing.
use Prim.Native.Nat.{ℕ, ◌<◌}
use mathlib.Core.Path.{◌≡◌}
use lib.ListN.{length, get_or}
use Rattle.rules.specs.Open.{opened_link}
use Rattle.memory.proofs.links.link_all.Given as goal

abbrev pub invariant-loop-i : goal.invariant-loop-i
invariant-loop-i l = (k : ℕ) → k < l.i → get_or l.links k 0 ≡ opened_link (length l.initial.links) k
