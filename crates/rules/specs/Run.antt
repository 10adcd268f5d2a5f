-- Document 01, "Run with a budget".
use Rattle.std.specs.Prelude.{ℕ, zero, suc, cond, ◌||◌, eqb}
use Rattle.rules.specs.Parts.{Box}
use Rattle.rules.specs.Box.{sound}
use Rattle.rules.specs.Collector.{step}

-- what a run leaves, its answer, and how many single steps lead there
pub record Ran : Type 0 where
  pub box : Box
  pub answer : ℕ
  pub steps : ℕ

abbrev pub ran : Box → ℕ → ℕ → Ran
ran b a n = record { box = b; answer = a; steps = n }

-- how a single step's answer bears on the run
pub data Course : Type 0 where
  -- 30, and 33: the cycle has ended, and the request is still held
  goes_on : Course
  -- 31 and 32 answer 0, and 8 answers 8
  stops : ℕ → Course
  -- 9: the run stops before this step
  refuses : Course

unfoldable pub course : ℕ → Course
course a = cond (eqb a 9) refuses (cond (eqb a 8) (stops 8) (cond (eqb a 31 || eqb a 32) (stops 0) goes_on))

-- one more step before what follows
abbrev pub counted : Ran → Ran
counted r = ran r.box r.answer (suc r.steps)

-- with no budget left the next step is not looked at
unfoldable pub run_on : ℕ → Box → Ran
run_on zero b = ran b 11 0
run_on (suc n) b =
    elim (course (step b).answer) [ goes_on ↦ counted (run_on n (step b).box) | stops a ↦ ran (step b).box a 1 | refuses ↦ ran b 9 0 ]

-- sizes, lengths and phase are tested first, also with budget 0
unfoldable pub run : ℕ → Box → Ran
run budget b = cond (sound b) (run_on budget b) (ran b 9 0)

-- so many single steps, one after the other
unfoldable pub after_steps : ℕ → Box → Box
after_steps zero b = b
after_steps (suc n) b = after_steps n (step b).box
