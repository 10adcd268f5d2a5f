-- No rule of phases 4 and 8 looks up, touches or forms anything out of range: what the tests of those rules ask, from the invariant.
-- The tuple under the sweep has an entry and ends at or below top, which is at most M, and a tuple behind it lies below top.
-- Assumes nothing.
use Prim.Native.Nat.{◌+◌, ◌≤◌, ◌<◌}
use mathlib.Core.Bool.{false}
use mathlib.Core.Logic.{◌≢◌}
use mathlib.Core.Path.{◌≡◌}
use native.Mathlib.Omega.{arith}
use Rattle.rules.specs.Parts.{Box}
use Rattle.rules.specs.Box.{size_of, marked}
use Rattle.rules.specs.Collector.{after}
use Rattle.history.proofs.Invariant.Statement.{Ghosts, Inv}
use Rattle.history.proofs.Lists.Laid.{laid_le}
use Rattle.history.proofs.Sweep.Ghosts.{Scanned, scanned, Zeroed, zeroed_view}
use Rattle.history.proofs.Sweep.Tuple.{entry, end_below_top, more_behind}
use Rattle.rules.proofs.View.Boxes.{swept_after}

-- ---- phase 4

pub sweep_entry : (b : Box) (g : Ghosts) → Inv b g → b.collector.phase ≡ 4 → (1 ≤ b.collector.tuple) × (b.collector.tuple < b.h)
sweep_entry b g v ph = let s : Scanned b g = scanned b g v ph in entry b s.settled_tuples s.behind_it s.free_handles s.inv

pub sweep_end_below_top : (b : Box) (g : Ghosts) → Inv b g → b.collector.phase ≡ 4 → swept_after b ≤ b.top
sweep_end_below_top b g v ph = let s : Scanned b g = scanned b g v ph in end_below_top b s.settled_tuples s.behind_it s.free_handles s.inv

pub sweep_end_fits : (b : Box) (g : Ghosts) → Inv b g → b.collector.phase ≡ 4 → swept_after b ≤ b.m
sweep_end_fits b g v ph = omega (arith, sweep_end_below_top b g v ph, v.layout.top_fits)

pub sweep_more_fits : (b : Box) (g : Ghosts) → Inv b g → b.collector.phase ≡ 4 → swept_after b ≢ b.top → swept_after b < b.m
sweep_more_fits b g v ph more = omega (arith, sweep_end_below_top b g v ph, v.layout.top_fits)

pub release_more_fits : (b : Box) (g : Ghosts) → Inv b g → b.collector.phase ≡ 4 → marked b.collector.tuple b ≡ false
    → b.collector.src + size_of b.collector.tuple b < b.collector.live → swept_after b < b.m
release_more_fits b g v ph mk below =
    let s : Scanned b g = scanned b g v ph in
    omega (arith, more_behind b s.settled_tuples s.behind_it s.free_handles s.inv mk below, v.layout.top_fits)

-- ---- phase 8

pub zero_end_below_top : (b : Box) (g : Ghosts) → Inv b g → b.collector.phase ≡ 8 → after b ≤ b.top
zero_end_below_top b g v ph = let s : Zeroed b g = zeroed_view b g v ph in laid_le b (after b) s.behind_it b.top s.inv.layout.ahead_laid

pub zero_index_fits : (b : Box) (g : Ghosts) → Inv b g → b.collector.phase ≡ 8 → b.collector.index ≤ b.collector.size → b.collector.src + b.collector.index < b.m
zero_index_fits b g v ph turn = omega (arith, zero_end_below_top b g v ph, v.layout.top_fits)

pub zero_end_fits : (b : Box) (g : Ghosts) → Inv b g → b.collector.phase ≡ 8 → after b ≤ b.m
zero_end_fits b g v ph = omega (arith, zero_end_below_top b g v ph, v.layout.top_fits)

pub zero_more_fits : (b : Box) (g : Ghosts) → Inv b g → b.collector.phase ≡ 8 → after b ≢ b.top → after b < b.m
zero_more_fits b g v ph more = omega (arith, zero_end_below_top b g v ph, v.layout.top_fits)
