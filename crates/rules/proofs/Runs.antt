-- Laws of a run with a budget: by its first step, the course of each answer, and that the steps it reports are the single steps
-- between its first state and its last. Assumes nothing.
use Prim.Native.Nat.{ℕ, zero, suc}
use mathlib.Core.Bool.{Bool, true, false, cond, ◌||◌}
use mathlib.Core.Path.{◌≡◌, refl, ap}
use borrow.Author.Tests.{eq-eqb}
use lib.Dec.{eqb}
use Rattle.rules.specs.Parts.{Box}
use Rattle.rules.specs.Box.{sound}
use Rattle.rules.specs.Collector.{step}
use Rattle.rules.specs.Run.{Ran, ran, counted, Course, goes_on, stops, refuses, course, run_on, run, after_steps}

-- ---- a run, by its first step

pub run_spent : (b : Box) → run_on zero b ≡ ran b 11 0
unfolding run_on
run_spent b = refl

by_course : ℕ → Box → Course → Ran
by_course n b x = elim x as (λ y. Ran) [ goes_on ↦ counted (run_on n (step b).box) | stops a ↦ ran (step b).box a 1 | refuses ↦ ran b 9 0 ]

by_first : (n : ℕ) (b : Box) (x : Course) → course (step b).answer ≡ x → run_on (suc n) b ≡ by_course n b x
unfolding run_on by_course
by_first n b x e = ap (by_course n b) e

pub run_goes : (n : ℕ) (b : Box) → course (step b).answer ≡ goes_on → run_on (suc n) b ≡ counted (run_on n (step b).box)
unfolding by_course
run_goes n b e = by_first n b goes_on e

pub run_stops : (n : ℕ) (b : Box) (a : ℕ) → course (step b).answer ≡ stops a → run_on (suc n) b ≡ ran (step b).box a 1
unfolding by_course
run_stops n b a e = by_first n b (stops a) e

pub run_refuses : (n : ℕ) (b : Box) → course (step b).answer ≡ refuses → run_on (suc n) b ≡ ran b 9 0
unfolding by_course
run_refuses n b e = by_first n b refuses e

-- ---- the course of a refused step

pub course_nine : (a : ℕ) → a ≡ 9 → course a ≡ refuses
unfolding course
course_nine a e = simp (eq-eqb a 9 e)

-- ---- the outcome of an answer

-- what a step's answer makes the run's answer, 11 where the run goes on
abbrev pub outcome_of : ℕ → ℕ
outcome_of a = cond (eqb a 9) 9 (cond (eqb a 8) 8 (cond (eqb a 31 || eqb a 32) 0 11))

-- ---- the count

-- the steps that a run reports are the single steps from its first state to its last
counted_on : (n : ℕ) (b : Box) → after_steps (run_on n b).steps b ≡ (run_on n b).box
unfolding run_on after_steps by_course
counted_on zero b = refl
counted_on (suc n) b = go (course (step b).answer) (counted_on n (step b).box)
  where
    go : (x : Course) → after_steps (run_on n (step b).box).steps (step b).box ≡ (run_on n (step b).box).box → after_steps (by_course n b x).steps b ≡ (by_course n b x).box
    go goes_on ih = ih
    go (stops a) ih = refl
    go refuses ih = refl

pub run_counts : (n : ℕ) (b : Box) → after_steps (run n b).steps b ≡ (run n b).box
unfolding run after_steps
run_counts n b = go (sound b)
  where
    go : (t : Bool) → after_steps (cond t (run_on n b) (ran b 9 0)).steps b ≡ (cond t (run_on n b) (ran b 9 0)).box
    go true = counted_on n b
    go false = refl

-- ---- what is tested first

pub run_sound : (n : ℕ) (b : Box) → sound b ≡ true → run n b ≡ run_on n b
unfolding run
run_sound n b e = simp e

pub run_refused : (n : ℕ) (b : Box) → sound b ≡ false → run n b ≡ ran b 9 0
unfolding run
run_refused n b e = simp e
