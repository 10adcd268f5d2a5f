-- Demand 1 (specs/Demand1): for any box whatever, with no hypothesis. Its parts are proved under Table/; the opening's are here.
-- Assumes nothing.
use Prim.Native.Nat.{ℕ, ◌≤◌}
use mathlib.Core.Bool.{true, false}
use mathlib.Core.Logic.{◌⊎◌, inl, inr, ⊎_elim, ◌↔◌}
use mathlib.Core.Path.{◌≡◌, refl, sym, ap, subst}
use native.Mathlib.Omega.{arith}
use Rattle.rules.specs.Parts.{Box}
use Rattle.rules.specs.Box.{Reply, reply, right_sizes}
use Rattle.rules.specs.Collector.{step}
use Rattle.rules.specs.Open.{opened, opening}
use Rattle.rules.specs.Answers.{holds, passed, given, OpeningGives}
use Rattle.rules.specs.Demand1.{Demand1}
use Rattle.rules.proofs.Sizes.{sizes_right, sizes_wrong}
use Rattle.rules.proofs.AsFound.{step_found}
use Rattle.rules.proofs.View.Tests.{true?}
use Rattle.rules.proofs.Table.Rows.{only_when, only_last, exactly}
use Rattle.rules.proofs.Table.Requests.{request_exactly, request_answers, request_refused, only_hold_set}
use Rattle.rules.proofs.Table.Steps.{step_exactly, step_answers, step_dropped}
use Rattle.rules.proofs.Table.Runs.{run_exactly, run_answers, run_steps, run_as_found}

-- ---- the opening

module _ (m h : ℕ) (b : Box) where
  opens : right_sizes m h b ≡ true → opening m h b ≡ reply (opened m h) 0
  unfolding opening
  opens e = simp e

  refuses : right_sizes m h b ≡ false → opening m h b ≡ reply b 10
  unfolding opening
  refuses e = simp e

  opening_answers : ((opening m h b).answer ≡ 0) ⊎ ((opening m h b).answer ≡ 10)
  opening_answers = go (true? (right_sizes m h b))
    where
      go : (right_sizes m h b ≡ true) ⊎ (right_sizes m h b ≡ false) → ((opening m h b).answer ≡ 0) ⊎ ((opening m h b).answer ≡ 10)
      go (inl e) = inl (ap (λ (r : Reply). r.answer) (opens e))
      go (inr e) = inr (ap (λ (r : Reply). r.answer) (refuses e))

  opening_refused : (opening m h b).answer ≡ 10 → (opening m h b).box ≡ b
  opening_refused a = go (true? (right_sizes m h b))
    where
      go : (right_sizes m h b ≡ true) ⊎ (right_sizes m h b ≡ false) → (opening m h b).box ≡ b
      go (inl e) = absurd (omega (arith, a, ap (λ (r : Reply). r.answer) (opens e)))
      go (inr e) = ap (λ (r : Reply). r.box) (refuses e)

  opening_gives : OpeningGives m h b (opening m h b).answer
  opening_gives = go (true? (right_sizes m h b))
    where
      go : (right_sizes m h b ≡ true) ⊎ (right_sizes m h b ≡ false) → OpeningGives m h b (opening m h b).answer
      go (inl e) = subst (OpeningGives m h b) (sym (ap (λ (r : Reply). r.answer) (opens e))) (passed (λ n. n (sizes_right m h b e)) (given refl))
      go (inr e) = subst (OpeningGives m h b) (sym (ap (λ (r : Reply). r.answer) (refuses e))) (holds (sizes_wrong m h b e) refl)

  opening_exactly : (a : ℕ) → ((opening m h b).answer ≡ a) ↔ OpeningGives m h b a
  opening_exactly a = exactly (OpeningGives m h b) (only_when _ 10 _ (only_last 0)) (opening m h b).answer opening_gives a

-- ---- the theorem

pub demand1 : (b : Box) → Demand1 b
demand1 b =
    record {
      request_answers = λ q. request_answers q b;
      step_answers = step_answers b;
      run_answers = λ n. run_answers n b;
      opening_answers = λ m h. opening_answers m h b;
      request_refused = λ q. request_refused q b;
      step_refused = step_found b;
      run_refused = λ n a s. run_as_found n b s;
      opening_refused = λ m h. opening_refused m h b;
      held = λ r n tag. only_hold_set r n tag b;
      dropped = step_dropped b;
      request_exactly = λ q. request_exactly q b;
      step_exactly = step_exactly b;
      run_exactly = λ n. run_exactly n b;
      opening_exactly = λ m h. opening_exactly m h b;
      run_steps = λ n. run_steps n b;
    }

-- a step's answer as a number
pub step_between : (b : Box) → (8 ≤ (step b).answer) × ((step b).answer ≤ 33)
step_between b = ⊎_elim (λ e. (omega arith, omega arith)) (λ f. ⊎_elim (λ e. (omega arith, omega arith)) (λ g. (omega arith, omega arith)) f) (demand1 b).step_answers
