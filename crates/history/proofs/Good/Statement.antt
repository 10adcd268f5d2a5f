-- What holds of the box, the history machine and the log after any list of calls: the invariant, the relation with the history
-- machine, what is known of the cycle under way and of the hold, and demand 3's claims about what has ended so far. Definitions
-- only. Assumes nothing.
use Prim.Native.Nat.{ℕ, ◌+◌, ◌*◌, ◌≤◌}
use mathlib.Core.Bool.{true, false}
use mathlib.Core.List.{List}
use mathlib.Core.Logic.{◌≢◌}
use mathlib.Core.Option.{Option, none, some}
use mathlib.Core.Path.{◌≡◌}
use lib.ListN.{length}
use Rattle.rules.specs.Limits.{register_count}
use Rattle.rules.specs.Parts.{Box}
use Rattle.history.specs.Machine.{Asked, History}
use Rattle.history.specs.Calls.{Cycle, EndedCycle, Pending, Answered, Log}
use Rattle.history.specs.Demand3.{Every, Swept, JustlyAnswered, AnsweredInTime, EndedBounded, EndsLogged, AnswersLogged}
use Rattle.history.proofs.Invariant.Statement.{Ghosts, Inv}
use Rattle.history.proofs.Left.Count.{left}
use Rattle.history.proofs.Relation.Statement.{Related}
use Rattle.history.proofs.Spared.Tracked.{Tracked}

-- ---- the cycle under way

pub record UnderWay (b : Box) (g : Ghosts) (t : History) (number : ℕ → ℕ) (c : Cycle) : Type 0 where
  pub tracked : Tracked b g.plan t number c.started
  pub bounded : c.quiet ≡ true → c.steps + left b g ≤ 8 * c.first_top + 2
  -- a cycle that began under the hold started with the history machine as it is
  pub begun_then : b.hold.held ≡ true → b.hold.begun ≡ true → c.started ≡ t

pub data Cycling (b : Box) (g : Ghosts) (t : History) (number : ℕ → ℕ) (o : Option Cycle) : Type 0 where
  between : b.collector.phase ≡ 0 → o ≡ none → Cycling b g t number o
  under_way : b.collector.phase ≢ 0 → (c : Cycle) → o ≡ some c → UnderWay b g t number c → Cycling b g t number o

-- ---- the hold

pub record Held (b : Box) (g : Ghosts) (t : History) (q : Asked) (w : Pending) : Type 0 where
  pub register_is : q.register ≡ b.hold.register
  pub size_is : q.size ≡ b.hold.size
  pub tag_is : q.tag ≡ b.hold.tag
  pub asked_is : w.asked ≡ q
  pub history_is : w.history_then ≡ t
  -- within 16 M + 4 steps in all: while no cycle has begun under it and one is under way, another cycle follows this one
  pub in_time : w.steps + left b g ≤ 16 * b.m + 4
  pub in_time_twice : b.hold.begun ≡ false → b.collector.phase ≢ 0 → w.steps + left b g + (8 * b.m + 2) ≤ 16 * b.m + 4

pub data Waiting (b : Box) (g : Ghosts) (t : History) (o : Option Pending) : Type 0 where
  nothing_held : b.hold.held ≡ false → t.hold ≡ none → o ≡ none → Waiting b g t o
  one_held : b.hold.held ≡ true → (q : Asked) → t.hold ≡ some q → (w : Pending) → o ≡ some w → Held b g t q w → Waiting b g t o

-- ---- all of it

-- what has ended so far, and that the log has all of it
pub record Past (m h : ℕ) (steps : List ℕ) (ended : List EndedCycle) (answered : List Answered) : Type 0 where
  pub swept : Every Swept ended
  pub justly : Every (JustlyAnswered m h) answered
  pub in_time : Every (AnsweredInTime m) answered
  pub bounded : Every EndedBounded ended
  pub ends_logged : EndsLogged ended steps
  pub answers_logged : AnswersLogged answered steps

pub record Good (m h : ℕ) (b : Box) (t : History) (l : Log) : Type 0 where
  pub m_is : b.m ≡ m
  pub h_is : b.h ≡ h
  pub ghosts : Ghosts
  pub inv : Inv b ghosts
  pub number : ℕ → ℕ
  pub related : Related b ghosts.plan t l.given number
  pub eight : length t.registers ≡ register_count
  pub cycling : Cycling b ghosts t number l.cycle
  pub waiting : Waiting b ghosts t l.pending
  pub past : Past m h l.step_answers l.ended l.answered
