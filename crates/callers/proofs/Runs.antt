-- The answer of a run is below 256, so its steps and its answer are read back from the one number that C gets. Assumes nothing.
use Prim.Native.Nat.{ℕ, ◌<◌}
use mathlib.Core.Logic.{inl, inr}
use mathlib.Core.Path.{◌≡◌}
use native.Mathlib.Omega.{arith}
use Rattle.rules.specs.Parts.{Box}
use Rattle.rules.specs.Run.{Ran, ran, run}
use Rattle.rules.specs.Demand1.{RunAnswers}
use Rattle.rules.proofs.Demand1.{demand1}
use Rattle.capi.specs.Calls.{in_one, c_run}
use Rattle.callers.specs.Followed.{ran_by}

-- ---- the answer is small

abbrev Small : Ran → Type 0
Small r = r.answer < 256

-- it is 0, 8, 9 or 11
run_small : (n : ℕ) (b : Box) → Small (run n b)
run_small n b = go ((demand1 b).run_answers n)
  where
    go : RunAnswers (run n b).answer → Small (run n b)
    go (inl e) = omega arith
    go (inr (inl e)) = omega arith
    go (inr (inr (inl e))) = omega arith
    go (inr (inr (inr e))) = omega arith

-- ---- read back

answer_back : (r : Ran) → Small r → (ran_by (in_one r)).answer ≡ r.answer
answer_back r l = omega arith

steps_back : (r : Ran) → Small r → (ran_by (in_one r)).steps ≡ r.steps
steps_back r l = omega arith

pub run_back : (budget : ℕ) (b : Box) → ran_by (c_run budget b) ≡ run budget b
unfolding c_run
run_back budget b = λ j. ran (run budget b).box (answer_back (run budget b) (run_small budget b) j) (steps_back (run budget b) (run_small budget b) j)
