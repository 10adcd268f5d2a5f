-- What the stage says in each of the nine phases, and what follows at once: before the sweep nothing is settled or moved, so that the
-- kept tuples are those ahead. The other stages are ruled out by their phase. Assumes nothing.
use Prim.Native.Nat.{ℕ, ◌+◌, ◌≤◌, ◌<◌}
use mathlib.Core.Bool.{true, false}
use mathlib.Core.List.{List, [], ◌∷◌}
use mathlib.Core.Logic.{◌⊎◌}
use mathlib.Core.Path.{◌≡◌, subst}
use native.Mathlib.Omega.{arith}
use Rattle.rules.specs.Parts.{Box}
use Rattle.rules.specs.Box.{handle_of, names_tuple, marked}
use Rattle.history.specs.Agreement.{Member}
use Rattle.history.proofs.Invariant.Statement.{Plan, Ghosts, Handles, Move, Kept, settled, moving, unswept, surviving, Unswept, Unlisted, Scan, Stage, at_rest, finding, scanning, adding, sweeping, reading, clearing, writing, zeroing, word}
use Rattle.history.proofs.Lists.Handles.{among_member, among_ahead}

-- ---- the stage, by phase

pub record Rests (b : Box) (g : Ghosts) : Type 0 where
  pub unswept_yet : Unswept g
  pub unlisted : Unlisted g
  pub unmarked : (h : ℕ) → Member h g.plan.ahead → marked h b ≡ false

pub record Finds (b : Box) (g : Ghosts) : Type 0 where
  pub unswept_yet : Unswept g
  pub no_currents : g.scans.currents ≡ []
  pub no_gray : g.scans.gray ≡ []

-- tuple `scanned` is under the scan
pub record Scanning (b : Box) (g : Ghosts) : Type 0 where
  pub unswept_yet : Unswept g
  pub scanned : ℕ
  pub scan_is : Scan b g scanned
  pub seen : (k : ℕ) → k + 1 < b.collector.index → names_tuple (word scanned (k + 1) b) ≡ true → marked (handle_of (word scanned (k + 1) b)) b ≡ true

pub record Adding (b : Box) (g : Ghosts) : Type 0 where
  pub unswept_yet : Unswept g
  pub scanned : ℕ
  pub scan_is : Scan b g scanned
  pub tuple_ahead : Member b.collector.tuple g.plan.ahead
  pub seen : (k : ℕ) → k + 1 < b.collector.index → names_tuple (word scanned (k + 1) b) ≡ true
      → (marked (handle_of (word scanned (k + 1) b)) b ≡ true) ⊎ (handle_of (word scanned (k + 1) b) ≡ b.collector.tuple)

pub rests_of : (b : Box) (g : Ghosts) → Stage b g → b.collector.phase ≡ 0 → Rests b g
rests_of b g (at_rest p u l m) e = record { unswept_yet = u; unlisted = l; unmarked = m }
rests_of b g (finding p u c r) e = absurd (omega arith)
rests_of b g (scanning p u s c f) e = absurd (omega arith)
rests_of b g (adding p u s c m f) e = absurd (omega arith)
rests_of b g (sweeping p u m l s z hs a) e = absurd (omega arith)
rests_of b g (reading p m i z) e = absurd (omega arith)
rests_of b g (clearing p m i z) e = absurd (omega arith)
rests_of b g (writing p m i z) e = absurd (omega arith)
rests_of b g (zeroing p u m l s d i z) e = absurd (omega arith)

pub finds_of : (b : Box) (g : Ghosts) → Stage b g → b.collector.phase ≡ 1 → Finds b g
finds_of b g (at_rest p u l m) e = absurd (omega arith)
finds_of b g (finding p u c r) e = record { unswept_yet = u; no_currents = c; no_gray = r }
finds_of b g (scanning p u s c f) e = absurd (omega arith)
finds_of b g (adding p u s c m f) e = absurd (omega arith)
finds_of b g (sweeping p u m l s z hs a) e = absurd (omega arith)
finds_of b g (reading p m i z) e = absurd (omega arith)
finds_of b g (clearing p m i z) e = absurd (omega arith)
finds_of b g (writing p m i z) e = absurd (omega arith)
finds_of b g (zeroing p u m l s d i z) e = absurd (omega arith)

pub scanning_of : (b : Box) (g : Ghosts) → Stage b g → b.collector.phase ≡ 2 → Scanning b g
scanning_of b g (at_rest p u l m) e = absurd (omega arith)
scanning_of b g (finding p u c r) e = absurd (omega arith)
scanning_of b g (scanning p u s c f) e = record { unswept_yet = u; scanned = s; scan_is = c; seen = f }
scanning_of b g (adding p u s c m f) e = absurd (omega arith)
scanning_of b g (sweeping p u m l s z hs a) e = absurd (omega arith)
scanning_of b g (reading p m i z) e = absurd (omega arith)
scanning_of b g (clearing p m i z) e = absurd (omega arith)
scanning_of b g (writing p m i z) e = absurd (omega arith)
scanning_of b g (zeroing p u m l s d i z) e = absurd (omega arith)

pub adding_of : (b : Box) (g : Ghosts) → Stage b g → b.collector.phase ≡ 3 → Adding b g
adding_of b g (at_rest p u l m) e = absurd (omega arith)
adding_of b g (finding p u c r) e = absurd (omega arith)
adding_of b g (scanning p u s c f) e = absurd (omega arith)
adding_of b g (adding p u s c m f) e = record { unswept_yet = u; scanned = s; scan_is = c; tuple_ahead = m; seen = f }
adding_of b g (sweeping p u m l s z hs a) e = absurd (omega arith)
adding_of b g (reading p m i z) e = absurd (omega arith)
adding_of b g (clearing p m i z) e = absurd (omega arith)
adding_of b g (writing p m i z) e = absurd (omega arith)
adding_of b g (zeroing p u m l s d i z) e = absurd (omega arith)

-- phase 4
pub record Sweeps (b : Box) (g : Ghosts) : Type 0 where
  pub unlisted : Unlisted g
  pub no_mid : g.plan.mid ≡ []
  pub low_is : g.plan.low ≡ b.collector.dest
  pub base_is : g.plan.base ≡ b.collector.src
  pub zeroed_is : g.zeroed ≡ b.collector.src
  pub behind : List ℕ
  pub ahead_is : g.plan.ahead ≡ b.collector.tuple ∷ behind

pub sweeps_of : (b : Box) (g : Ghosts) → Stage b g → b.collector.phase ≡ 4 → Sweeps b g
sweeps_of b g (at_rest p u l m) e = absurd (omega arith)
sweeps_of b g (finding p u c r) e = absurd (omega arith)
sweeps_of b g (scanning p u s c f) e = absurd (omega arith)
sweeps_of b g (adding p u s c m f) e = absurd (omega arith)
sweeps_of b g (sweeping p u m l s z hs a) e = record { unlisted = u; no_mid = m; low_is = l; base_is = s; zeroed_is = z; behind = hs; ahead_is = a }
sweeps_of b g (reading p m i z) e = absurd (omega arith)
sweeps_of b g (clearing p m i z) e = absurd (omega arith)
sweeps_of b g (writing p m i z) e = absurd (omega arith)
sweeps_of b g (zeroing p u m l s d i z) e = absurd (omega arith)

-- phase 5
pub record AtRead (b : Box) (g : Ghosts) : Type 0 where
  pub move : Move b g
  pub index_most : b.collector.index ≤ b.collector.size + 1
  pub zeroed_is : g.zeroed ≡ b.collector.src + b.collector.index

pub at_read : (b : Box) (g : Ghosts) → Stage b g → b.collector.phase ≡ 5 → AtRead b g
at_read b g (at_rest q u n m) p = absurd (omega arith)
at_read b g (finding q u n m) p = absurd (omega arith)
at_read b g (scanning q u s n m) p = absurd (omega arith)
at_read b g (adding q u s n m o) p = absurd (omega arith)
at_read b g (sweeping q u n l s z hs t) p = absurd (omega arith)
at_read b g (reading q m i z) p = record { move = m; index_most = i; zeroed_is = z }
at_read b g (clearing q m i z) p = absurd (omega arith)
at_read b g (writing q m i z) p = absurd (omega arith)
at_read b g (zeroing q u n l s d i z) p = absurd (omega arith)

-- phase 6
pub record AtClear (b : Box) (g : Ghosts) : Type 0 where
  pub move : Move b g
  pub index_most : b.collector.index ≤ b.collector.size
  pub zeroed_is : g.zeroed ≡ b.collector.src + b.collector.index

pub at_clear : (b : Box) (g : Ghosts) → Stage b g → b.collector.phase ≡ 6 → AtClear b g
at_clear b g (at_rest q u n m) p = absurd (omega arith)
at_clear b g (finding q u n m) p = absurd (omega arith)
at_clear b g (scanning q u s n m) p = absurd (omega arith)
at_clear b g (adding q u s n m o) p = absurd (omega arith)
at_clear b g (sweeping q u n l s z hs t) p = absurd (omega arith)
at_clear b g (reading q m i z) p = absurd (omega arith)
at_clear b g (clearing q m i z) p = record { move = m; index_most = i; zeroed_is = z }
at_clear b g (writing q m i z) p = absurd (omega arith)
at_clear b g (zeroing q u n l s d i z) p = absurd (omega arith)

-- phase 7
pub record AtWrite (b : Box) (g : Ghosts) : Type 0 where
  pub move : Move b g
  pub index_most : b.collector.index ≤ b.collector.size
  pub zeroed_is : g.zeroed ≡ b.collector.src + b.collector.index + 1

pub at_write : (b : Box) (g : Ghosts) → Stage b g → b.collector.phase ≡ 7 → AtWrite b g
at_write b g (at_rest q u n m) p = absurd (omega arith)
at_write b g (finding q u n m) p = absurd (omega arith)
at_write b g (scanning q u s n m) p = absurd (omega arith)
at_write b g (adding q u s n m o) p = absurd (omega arith)
at_write b g (sweeping q u n l s z hs t) p = absurd (omega arith)
at_write b g (reading q m i z) p = absurd (omega arith)
at_write b g (clearing q m i z) p = absurd (omega arith)
at_write b g (writing q m i z) p = record { move = m; index_most = i; zeroed_is = z }
at_write b g (zeroing q u n l s d i z) p = absurd (omega arith)

-- phase 8
pub record Zeroes (b : Box) (g : Ghosts) : Type 0 where
  pub unlisted : Unlisted g
  pub no_mid : g.plan.mid ≡ []
  pub low_is : g.plan.low ≡ b.collector.dest
  pub base_is : g.plan.base ≡ b.collector.src + b.collector.size + 1
  pub dest_src : b.collector.dest ≤ b.collector.src
  pub index_most : b.collector.index ≤ b.collector.size + 1
  pub zeroed_is : g.zeroed ≡ b.collector.src + b.collector.index

pub zeroes_of : (b : Box) (g : Ghosts) → Stage b g → b.collector.phase ≡ 8 → Zeroes b g
zeroes_of b g (at_rest p u l m) e = absurd (omega arith)
zeroes_of b g (finding p u c r) e = absurd (omega arith)
zeroes_of b g (scanning p u s c f) e = absurd (omega arith)
zeroes_of b g (adding p u s c m f) e = absurd (omega arith)
zeroes_of b g (sweeping p u m l s z hs a) e = absurd (omega arith)
zeroes_of b g (reading p m i z) e = absurd (omega arith)
zeroes_of b g (clearing p m i z) e = absurd (omega arith)
zeroes_of b g (writing p m i z) e = absurd (omega arith)
zeroes_of b g (zeroing p u m l s d i z) e = record { unlisted = u; no_mid = m; low_is = l; base_is = s; dest_src = d; index_most = i; zeroed_is = z }

-- ---- before the sweep

pub unswept_of : (b : Box) (g : Ghosts) → Stage b g → b.collector.phase ≤ 3 → Unswept g
unswept_of b g (at_rest p u l m) e = u
unswept_of b g (finding p u c r) e = u
unswept_of b g (scanning p u s c f) e = u
unswept_of b g (adding p u s c m f) e = u
unswept_of b g (sweeping p u m l s z hs a) e = absurd (omega arith)
unswept_of b g (reading p m i z) e = absurd (omega arith)
unswept_of b g (clearing p m i z) e = absurd (omega arith)
unswept_of b g (writing p m i z) e = absurd (omega arith)
unswept_of b g (zeroing p u m l s d i z) e = absurd (omega arith)

-- a kept tuple lies ahead
pub kept_ahead : (b : Box) (g : Ghosts) (h : ℕ) → Unswept g → Kept b g.plan h → Member h g.plan.ahead
kept_ahead b g h u (settled x) = absurd (subst (λ (hs : List ℕ). Member h hs) u.no_done x)
kept_ahead b g h u (moving x) = absurd (subst (λ (hs : List ℕ). Member h hs) u.no_mid x)
kept_ahead b g h u (unswept x l) = x
kept_ahead b g h u (surviving x t) = x

-- a tuple ahead has an entry
pub ahead_entry : (b : Box) (p : Plan) (free : List ℕ) (h : ℕ) → Handles b p free → Member h p.ahead → (1 ≤ h) × (h < b.h)
ahead_entry b p free h i x = i.entries h (among_member h p.done p.mid p.ahead free (among_ahead x))
