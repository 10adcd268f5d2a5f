-- Demand 3: what holds after any list of calls that follows an opening answered 0. One statement with seven parts, about the
-- world w that playing the list leaves (specs/Calls.antt). Parts 3, 4, 5 and 7 speak of the cycles and holds in its log; the
-- statement's last field says that the log misses none.
use Rattle.std.specs.Prelude.{ℕ, ◌+◌, ◌*◌, ◌≤◌, ◌<◌, Bool, true, cond, ◌||◌, List, [], ◌∷◌, map, ◌≢◌, ◌↔◌, ◌≡◌, eqb}
use Rattle.std.proofs.Math.Option.{Option, none, some}
use Rattle.rules.specs.Parts.{Box}
use Rattle.rules.specs.Box.{data_word, word_at}
use Rattle.rules.specs.Open.{opening}
use Rattle.history.specs.Machine.{Asked, History, made, Call}
use Rattle.history.specs.Agreement.{Reachable, Gone, Agree, Lists, room, Fits}
use Rattle.history.specs.Calls.{Cycle, EndedCycle, Pending, Answered, World, start, play, CallsInWidth}

-- every member of a list has a property
abbrev pub Every {ℓ} : {A : Type ℓ} → (A → Type 0) → List A → Type 0
Every P [] = Unit {0}
Every P (a ∷ l) = P a × Every P l

-- what is there, if anything is, has a property
abbrev pub IfThere {ℓ} : {A : Type ℓ} → (A → Type 0) → Option A → Type 0
IfThere P none = Unit {0}
IfThere P (some a) = P a

-- something is there
abbrev pub IsThere {ℓ} : {A : Type ℓ} → Option A → Type 0
IsThere none = ⊥
IsThere (some a) = Unit {0}

-- i is the number of a tuple that was made
abbrev pub IsNumber : ℕ → History → Type 0
IsNumber i m = (1 ≤ i) × (i ≤ made m)

-- 2: an answer other than 9
abbrev pub NotNine : ℕ → Type 0
NotNine a = a ≢ 9

-- 3: each tuple that was unreachable as the cycle started is gone as it ends
pub record Swept (e : EndedCycle) : Type 0 where
  pub dead_are_gone : (i : ℕ) → IsNumber i e.cycle.started → ¬ Reachable e.cycle.started i → Gone e.box_then e.given_then i

-- 4: the tuples reachable as it was put on hold, and the one asked for: 8 exactly when they don't fit, 32 when they do
pub record JustlyAnswered (m h : ℕ) (a : Answered) : Type 0 where
  pub reachable_then : List ℕ
  pub are_reachable : Lists (Reachable a.hold.history_then) reachable_then
  pub dropped : (a.answer ≡ 8) ↔ ¬ Fits m h reachable_then a.hold.asked.size a.hold.history_then
  pub granted : (a.answer ≡ 32) ↔ Fits m h reachable_then a.hold.asked.size a.hold.history_then

-- 5: a hold is answered within 16 M + 4 steps; one that is not yet answered has waited for fewer
abbrev pub PendingInTime : ℕ → Pending → Type 0
PendingInTime m p = p.steps < 16 * m + 4

abbrev pub AnsweredInTime : ℕ → Answered → Type 0
AnsweredInTime m a = a.hold.steps ≤ 16 * m + 4

pub record InTime (m : ℕ) (w : World) : Type 0 where
  pub not_yet : IfThere (PendingInTime m) w.log.pending
  pub by_then : Every (AnsweredInTime m) w.log.answered

-- 6: in Rest, top is n + 1 summed over all tuples made, less the same sum over those gone
pub record RestSum (w : World) : Type 0 where
  pub all_made : List ℕ
  pub are_made : Lists (λ i. IsNumber i w.history) all_made
  pub gone : List ℕ
  pub are_gone : Lists (λ i. IsNumber i w.history × Gone w.box w.log.given i) gone
  pub top_is : w.box.top + room gone w.history ≡ room all_made w.history

-- 7: a cycle in which no request was carried out takes at most 8 times its first top, plus 2, steps; one that has not yet ended
-- has taken fewer
abbrev pub EndedBounded : EndedCycle → Type 0
EndedBounded e = e.cycle.quiet ≡ true → e.cycle.steps ≤ 8 * e.cycle.first_top + 2

abbrev pub UnderWayBounded : Cycle → Type 0
UnderWayBounded c = c.quiet ≡ true → c.steps < 8 * c.first_top + 2

-- ---- the log misses nothing

-- a cycle is under way exactly when the phase is not Rest
abbrev pub CycleLogged : World → Type 0
CycleLogged w = IsThere w.log.cycle ↔ (w.box.collector.phase ≢ 0)

-- what the box holds
abbrev pub held_in : Box → Asked
held_in b = record { register = b.hold.register; size = b.hold.size; tag = b.hold.tag }

-- log, history machine and box have the same register, size and tag
abbrev pub HeldAlike : World → Pending → Type 0
HeldAlike w p = (w.history.hold ≡ some p.asked) × (p.asked ≡ held_in w.box)

-- a hold waits exactly when the box has one, and exactly when the history machine has one, and it is the same one
pub record HoldLogged (w : World) : Type 0 where
  pub box_holds : IsThere w.log.pending ↔ (w.box.hold.held ≡ true)
  pub history_holds : IsThere w.log.pending ↔ IsThere w.history.hold
  pub same_hold : IfThere (HeldAlike w) w.log.pending

-- the answers of a list that pass a test, in order
abbrev pub those : (ℕ → Bool) → List ℕ → List ℕ
those f [] = []
those f (a ∷ rest) = cond (f a) (a ∷ those f rest) (those f rest)

-- each step that ended a cycle, and no other, has its ended cycle
abbrev pub ends_cycle : ℕ → Bool
ends_cycle a = eqb a 31 || eqb a 32 || eqb a 33 || eqb a 8

abbrev pub EndsLogged : List EndedCycle → List ℕ → Type 0
EndsLogged ended steps = map (λ (e : EndedCycle). e.answer) ended ≡ those ends_cycle steps

-- each step that answered a hold, and no other, has its answered hold
abbrev pub answers_hold : ℕ → Bool
answers_hold a = eqb a 32 || eqb a 8

abbrev pub AnswersLogged : List Answered → List ℕ → Type 0
AnswersLogged answered steps = map (λ (a : Answered). a.answer) answered ≡ those answers_hold steps

pub record LogComplete (w : World) : Type 0 where
  pub cycle_logged : CycleLogged w
  pub hold_logged : HoldLogged w
  pub ends_logged : EndsLogged w.log.ended w.log.step_answers
  pub answers_logged : AnswersLogged w.log.answered w.log.step_answers

-- ---- the statement

pub record Demand3 (m h : ℕ) (w : World) : Type 0 where
  -- 1: the box agrees with the history machine
  pub agreement : Agree w.box w.history w.log.given
  -- 2: no answer was 9
  pub never_nine : Every NotNine w.answers
  -- 3: for each cycle that has ended; and at any time no reachable tuple is gone
  pub dead_tuples_gone : Every Swept w.log.ended
  pub no_reachable_gone : (i : ℕ) → Reachable w.history i → ¬ Gone w.box w.log.given i
  -- 4: for each hold that was answered
  pub holds_justly_answered : Every (JustlyAnswered m h) w.log.answered
  -- 5: for the hold that is not yet answered, and for those that were
  pub holds_in_time : InTime m w
  -- 6: in Rest, the sum; and words from top on are data 0, in every phase
  pub rest_sum : w.box.collector.phase ≡ 0 → RestSum w
  pub zero_above_top : (a : ℕ) → w.box.top ≤ a → word_at a w.box ≡ data_word 0
  -- 7: for each cycle that has ended, and for the one under way
  pub cycles_bounded : Every EndedBounded w.log.ended
  pub cycle_under_way_bounded : IfThere UnderWayBounded w.log.cycle
  -- 3, 4, 5 and 7 leave out no cycle and no hold
  pub log_complete : LogComplete w

-- the whole claim: for every opening that answers 0 and every list of calls
abbrev pub Demand3Claim : Type 0
Demand3Claim = (m h : ℕ) (b : Box) → (opening m h b).answer ≡ 0 → (calls : List Call) → CallsInWidth calls → Demand3 m h (play calls (start (opening m h b).box))
