-- Demand 1: whatever is lent, every call ends with one numbered answer, given exactly when document 01's table says. Refused means that
-- nothing changed, held that only the hold changed. One statement with named parts, about any box whatever.
use Rattle.std.specs.Prelude.{ℕ, suc, ◌≤◌, ◌<◌, true, false, ◌≢◌, ◌⊎◌, ◌↔◌, ◌≡◌}
use Rattle.rules.specs.declared.kinds.Request.{Request}
use Rattle.rules.specs.declared.kinds.Request.TheVariants.{Setd, Nil, Move, Advance, Getm, Load, Store, Size, Tag, Same}
use Rattle.rules.specs.Parts.{Box, Hold, with_hold, with_held, with_begun}
use Rattle.rules.specs.Box.{reply}
use Rattle.rules.specs.Request.{request}
use Rattle.rules.specs.Collector.{step}
use Rattle.rules.specs.Run.{Ran, run, after_steps}
use Rattle.rules.specs.Open.{opening}
use Rattle.rules.specs.Answers.{Right, OpeningGives, RequestGives, StepGives, answer_at, GoesOn, AllGoOn, Ended, RunGives}

-- document 01's numbers of the kinds
abbrev pub kind : Request → ℕ
kind (Setd r v) = 1
kind (Nil r) = 2
kind (Move r s) = 3
kind (Advance r n) = 4
kind (Getm r n t) = 5
kind (Load r s k) = 6
kind (Store r s k) = 7
kind (Size r s) = 8
kind (Tag r s) = 9
kind (Same r s t) = 10

-- a, answers: 0 to 7 or 9; 5 and 7 only to GETM, 4 only to ADVANCE
abbrev pub Numbered : ℕ → Type 0
Numbered a = (a ≤ 7) ⊎ (a ≡ 9)

pub record RequestAnswers (q : Request) (a : ℕ) : Type 0 where
  pub numbered : Numbered a
  pub five : a ≡ 5 → kind q ≡ 5
  pub seven : a ≡ 7 → kind q ≡ 5
  pub four : a ≡ 4 → kind q ≡ 4

abbrev pub StepAnswers : ℕ → Type 0
StepAnswers a = (a ≡ 8) ⊎ ((a ≡ 9) ⊎ ((30 ≤ a) × (a ≤ 33)))

abbrev pub RunAnswers : ℕ → Type 0
RunAnswers a = (a ≡ 0) ⊎ ((a ≡ 8) ⊎ ((a ≡ 9) ⊎ (a ≡ 11)))

-- b: the numbers of a refused request
abbrev pub Refused : ℕ → Type 0
Refused a = ((1 ≤ a) × (a ≤ 6)) ⊎ (a ≡ 9)

-- c: the five fields of the hold, of a GETM just put on hold
abbrev pub waiting : ℕ → ℕ → ℕ → Hold
waiting r n tag = record { held = true; begun = false; register = r; size = n; tag = tag }

-- d: a step that drops the hold. Had no cycle begun under the hold, the same end of the cycle would have left it, with 33, and all else as
-- here; had nothing been held, it would have answered 31 and left the very same box
pub record Dropped (b : Box) : Type 0 where
  pub still_held : (step (with_begun false b)).answer ≡ 33
  pub as_still_held : (step b).box ≡ with_held false (with_begun b.hold.begun (step (with_begun false b)).box)
  pub as_if_free : step (with_held false b) ≡ reply (step b).box 31

-- f: the steps that a run counts
pub record RunSteps (budget : ℕ) (b : Box) (r : Ran) : Type 0 where
  -- they lead from its first state to its last
  pub lead_there : after_steps r.steps b ≡ r.box
  pub within_budget : r.steps ≤ budget
  pub never_nine : (k : ℕ) → k < r.steps → answer_at k b ≢ 9
  pub all_but_last : (k : ℕ) → suc k < r.steps → GoesOn (answer_at k b)
  -- 0 and 8 by the last of them; 9 before a step that answers 9, which is not counted; 11 where all were taken and none stopped the run
  pub stopped : (r.answer ≡ 0) ⊎ (r.answer ≡ 8) → 1 ≤ r.steps
  pub by_last : (k : ℕ) → r.steps ≡ suc k → ((r.answer ≡ 0) ↔ Ended (answer_at k b)) × ((r.answer ≡ 8) ↔ (answer_at k b ≡ 8))
  pub next_is_nine : r.answer ≡ 9 → answer_at r.steps b ≡ 9
  pub spent : (r.answer ≡ 11) ↔ (Right b × (r.steps ≡ budget) × AllGoOn r.steps b)

pub record Demand1 (b : Box) : Type 0 where
  -- a
  pub request_answers : (q : Request) → RequestAnswers q (request q b).answer
  pub step_answers : StepAnswers (step b).answer
  pub run_answers : (budget : ℕ) → RunAnswers (run budget b).answer
  pub opening_answers : (m h : ℕ) → ((opening m h b).answer ≡ 0) ⊎ ((opening m h b).answer ≡ 10)
  -- b: refused, the box is as found
  pub request_refused : (q : Request) → Refused (request q b).answer → (request q b).box ≡ b
  pub step_refused : (step b).answer ≡ 9 → (step b).box ≡ b
  pub run_refused : (budget : ℕ) → (run budget b).answer ≡ 9 → (run budget b).steps ≡ 0 → (run budget b).box ≡ b
  pub opening_refused : (m h : ℕ) → (opening m h b).answer ≡ 10 → (opening m h b).box ≡ b
  -- c: 7, the box as found with the hold's five fields set; only GETM is put on hold (a)
  pub held : (r n tag : ℕ) → (request (Getm r n tag) b).answer ≡ 7
      → (request (Getm r n tag) b).box ≡ with_hold (waiting r n tag) b
  -- d: 8
  pub dropped : (step b).answer ≡ 8 → Dropped b
  -- e: each answer is given exactly when its row of the table says
  pub request_exactly : (q : Request) (a : ℕ) → ((request q b).answer ≡ a) ↔ RequestGives q b a
  pub step_exactly : (a : ℕ) → ((step b).answer ≡ a) ↔ StepGives b a
  pub run_exactly : (budget a : ℕ) → ((run budget b).answer ≡ a) ↔ RunGives budget b a
  pub opening_exactly : (m h a : ℕ) → ((opening m h b).answer ≡ a) ↔ OpeningGives m h b a
  -- f
  pub run_steps : (budget : ℕ) → RunSteps budget b (run budget b)
