-- The four calls of the C interface as a caller in C makes them, and what the contract of each promises: the definitions that the
-- contracts themselves cite (crates/capi/specs/Promises).
use Rattle.std.specs.Prelude.{ℕ, ◌<◌, ◌^◌, List, ◌≡◌}
use Rattle.capi.specs.Promises.{Lent, parts, Opens, Asks, Steps, Runs}

-- ---- the calls

-- each with its numbers, beside which the ten parts are lent
pub data CCall : Type 0 where
  gloamish_open : (m h : ℕ) → CCall
  gloamish_request : (kind a b c : ℕ) → CCall
  gloamish_step : CCall
  gloamish_run : (budget : ℕ) → CCall

-- the numbers of a call are u32
abbrev pub U32 : ℕ → Type 0
U32 n = n < 2 ^ 32

abbrev pub InWidth : CCall → Type 0
InWidth (gloamish_open m h) = U32 m × U32 h
InWidth (gloamish_request kind a b c) = U32 kind × U32 a × U32 b × U32 c
InWidth gloamish_step = Unit {0}
InWidth (gloamish_run budget) = U32 budget

-- ---- what each promises

-- the parts with this hold in place of their own
abbrev pub holding : List ℕ → Lent → Lent
holding hold p = parts p.numbers p.switches hold p.words p.flags p.addresses p.sizes p.links p.marks p.deeps

-- A call with the parts before it (at entry), the parts after it (at exit) and the number r that it returned. A step and a run are lent
-- the hold to read alone, `hold: &[u16; 3]`: their contracts have the hold at entry on both sides, and at exit it is as it was
abbrev pub Promised : CCall → Lent → Lent → ℕ → Type 0
Promised (gloamish_open m h) before after r = Opens m h before after r
Promised (gloamish_request kind a b c) before after r = Asks kind a b c before after r
Promised gloamish_step before after r = Steps before (holding before.hold after) r × (after.hold ≡ before.hold)
Promised (gloamish_run budget) before after r = Runs budget before (holding before.hold after) r × (after.hold ≡ before.hold)
