-- Demand 3 of lists of C calls: what a caller in C gets.
use Rattle.std.specs.Prelude.{ℕ, List, ◌∷◌, ◌≡◌}
use Rattle.history.specs.Demand3.{Demand3}
use Rattle.capi.specs.Promises.{Lent, box_of}
use Rattle.callers.specs.CCalls.{gloamish_open}
use Rattle.callers.specs.Followed.{Seen, Trace, last_parts, AllInWidth, Followed, started, follow}

-- of the world that the caller followed, and the lent parts p as the last call left them
pub record CDemand3 (f : Followed) (p : Lent) : Type 0 where
  -- all parts of demand 3
  pub demand : Demand3 f.m f.h f.world
  -- said of the box that is lent
  pub box_is : f.world.box ≡ box_of p

-- the call gloamish_open, which left these parts and returned 0
abbrev pub opened_with : ℕ → ℕ → Lent → Seen
opened_with m h p = record { call = gloamish_open m h; parts = p; returned = 0 }

-- the whole claim: for every list of calls that begins with an opening that returned 0, whatever the lent parts held before
abbrev pub CDemand3Claim : Type 0
CDemand3Claim = (m h : ℕ) (before opened : Lent) (rest : List Seen) → Trace before (opened_with m h opened ∷ rest) → AllInWidth (opened_with m h opened ∷ rest) → CDemand3 (follow rest (started m h (box_of opened))) (last_parts opened rest)
