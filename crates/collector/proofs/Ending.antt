-- The end of a cycle by its cases, and that what is decided first decides it: refused it answers 9 with the box as found, and
-- else what was found does not matter. By computing the definitions, case by case. Assumes nothing.
use Prim.Native.Nat.{◌<◌, ◌≤◌}
use mathlib.Core.Bool.{Bool, true, false, not, cond, ◌&&◌, and-true, false≢true}
use mathlib.Core.List.{[]}
use mathlib.Core.Path.{◌≡◌, refl, sym}
use borrow.Author.Tests.{lt-ltb, le-ltb, eq-eqb, ltb-true}
use Rattle.rules.specs.Parts.{Box, with_held, with_live, with_phase, with_memory, with_directory, with_registers}
use Rattle.collector.specs.Boxed.{blank}
use Rattle.rules.specs.Box.{Reply, reply, is_entry}
use Rattle.rules.specs.Request.{is_register, no_room, collecting, can_make}
use Rattle.rules.specs.Collector.{at_rest, unheld, granted, try_held, settle, end_cycle}
use Rattle.collector.specs.Decide.{end_refused}
use Rattle.rules.proofs.Sizes.{and_left, and_right}

-- the three tests of a refused end: held, no room, can be granted
refuses : (h n g : Bool) (v w y z : Reply) → (h && not n && not g) ≡ true → z ≡ cond h (cond n v (cond g w z)) y
refuses true true g v w y z e = absurd (false≢true e)
refuses true false true v w y z e = absurd (false≢true e)
refuses true false false v w y z e = refl
refuses false n g v w y z e = absurd (false≢true e)

grants : (h n g : Bool) → (h && not n && not g) ≡ false → h ≡ true → n ≡ false → g ≡ true
grants true true true e p q = refl
grants true true false e p q = sym q
grants true false true e p q = refl
grants true false false e p q = sym e
grants false n true e p q = refl
grants false n false e p q = p

-- the box with empty registers and columns: where they bear on nothing
abbrev pub bare : Box → Box
bare b = with_registers blank (with_memory (record { words = []; flags = [] }) (with_directory (record { addresses = []; sizes = []; links = []; marks = []; deeps = [] }) b))

-- the box whose cycle ends
abbrev resting : Box → Box
resting b = with_live 0 (with_phase 0 b)

module _ (b : Box) where
  -- ---- whether it is refused
  pub ends_unheld : b.hold.held ≡ false → false ≡ end_refused b
  unfolding end_refused
  ends_unheld t = simp t

  pub ends_roomless : b.hold.held ≡ true → no_room b.hold.size b ≡ true → false ≡ end_refused b
  unfolding end_refused
  ends_roomless t n = simp (t, n)

  pub ends_granted : b.hold.held ≡ true → no_room b.hold.size b ≡ false → b.hold.register < 8 → is_entry b.free b ≡ true → false ≡ end_refused b
  unfolding end_refused
  ends_granted t n r e = simp (t, n, lt-ltb b.hold.register 8 r, e)

  pub refused_entry : b.hold.held ≡ true → no_room b.hold.size b ≡ false → b.hold.register < 8 → is_entry b.free b ≡ false → true ≡ end_refused b
  unfolding end_refused
  refused_entry t n r e = simp (t, n, lt-ltb b.hold.register 8 r, e)

  pub refused_register : b.hold.held ≡ true → no_room b.hold.size b ≡ false → 8 ≤ b.hold.register → true ≡ end_refused b
  unfolding end_refused
  refused_register t n r = simp (t, n, le-ltb b.hold.register 8 r)

  -- the columns bear on no refusal
  pub refused_alone : end_refused (bare b) ≡ false → end_refused b ≡ false
  unfolding end_refused no_room is_entry
  refused_alone e = e

  -- ---- what a request that can be granted has
  grant_tests : b.hold.held ≡ true → no_room b.hold.size b ≡ false → end_refused b ≡ false → (is_register b.hold.register && is_entry b.free b) ≡ true
  unfolding end_refused
  grant_tests t n e = grants b.hold.held (no_room b.hold.size b) (is_register b.hold.register && is_entry b.free b) e t n

  pub grant_register : b.hold.held ≡ true → no_room b.hold.size b ≡ false → end_refused b ≡ false → b.hold.register < 8
  grant_register t n e = ltb-true b.hold.register 8 (and_left (is_register b.hold.register) (is_entry b.free b) (grant_tests t n e))

  pub grant_entry : b.hold.held ≡ true → no_room b.hold.size b ≡ false → end_refused b ≡ false → is_entry b.free b ≡ true
  grant_entry t n e = and_right (is_register b.hold.register) (is_entry b.free b) (grant_tests t n e)

  -- ---- the held request is tried again
  module _ (found : Box) where
    pub try_dropped : no_room b.hold.size b ≡ true → b.hold.begun ≡ true → reply (with_held false b) 8 ≡ try_held found b
    unfolding try_held unheld
    try_dropped n t = simp (n, t)

    pub try_waits : no_room b.hold.size b ≡ true → b.hold.begun ≡ false → reply b 33 ≡ try_held found b
    unfolding try_held
    try_waits n t = simp (n, t)

    pub try_granted : b.hold.held ≡ true → b.collector.phase ≡ 0 → end_refused (bare b) ≡ false → no_room b.hold.size b ≡ false → reply (granted b) 32 ≡ try_held found b
    unfolding try_held can_make collecting
    try_granted t p e n = simp (n, grant_entry t n (refused_alone e), lt-ltb b.hold.register 8 (grant_register t n (refused_alone e)), eq-eqb b.collector.phase 0 p)

    -- ---- the end
    pub end_held : (r : Reply) → b.hold.held ≡ true → r ≡ try_held found (resting b) → r ≡ end_cycle found b
    unfolding end_cycle settle at_rest
    end_held r t q = simp (t, q)

    pub end_free : b.hold.held ≡ false → reply (resting b) 31 ≡ end_cycle found b
    unfolding end_cycle settle at_rest
    end_free t = simp t

    rest_make : can_make b.hold.size (resting b) ≡ is_entry b.free b
    unfolding can_make collecting is_entry
    rest_make = simp (and-true)

    pub end_refuses : end_refused b ≡ true → reply found 9 ≡ end_cycle found b
    unfolding end_cycle settle at_rest try_held end_refused no_room
    end_refuses e = simp rest_make (refuses b.hold.held (no_room b.hold.size b) (is_register b.hold.register && is_entry b.free b) _ _ _ (reply found 9) e)
