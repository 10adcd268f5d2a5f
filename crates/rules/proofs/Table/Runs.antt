-- The table of answers for runs holds, and what is said of the steps that a run counts. A run comes to its first single step that does not
-- go on, or spends its budget: that is shown by induction once, and the rest is read off it. Assumes nothing.
use Prim.Native.Nat.{ℕ, zero, suc, ◌≤◌, ◌<◌}
use mathlib.Core.Bool.{true, false}
use mathlib.Core.Logic.{◌≢◌, ◌⊎◌, inl, inr, ◌↔◌}
use mathlib.Core.Path.{◌≡◌, refl, sym, ◌∙◌, ap, subst}
use native.Mathlib.Omega.{arith}
use Rattle.rules.specs.Parts.{Box}
use Rattle.rules.specs.Box.{Reply, reply, sound}
use Rattle.rules.specs.Collector.{step}
use Rattle.rules.specs.Run.{Ran, ran, course, goes_on, stops, run_on, run, after_steps}
use Rattle.rules.specs.Answers.{holds, passed, given, Right, answer_at, GoesOn, AllGoOn, Reaches, Ended, RunGives}
use Rattle.rules.specs.Demand1.{RunAnswers, RunSteps}
use Rattle.rules.proofs.Sizes.{sound_right, unsound_wrong}
use Rattle.rules.proofs.Runs.{run_spent, run_goes, run_stops, run_refuses, course_nine, run_counts, run_sound, run_refused}
use Rattle.rules.proofs.View.Tests.{lt?, eq?, true?}
use Rattle.rules.proofs.Table.Rows.{Each, each_when, each_last, only_when, only_last, exactly}
use Rattle.rules.proofs.Table.Steps.{Kind, step_kind}

-- ---- how a run comes to its end

-- the single step after k others is the first that stops the run, with this answer of the run; or it answers 9, and is not taken; or
-- there is none within the budget
data Course (n : ℕ) (b : Box) : ℕ → ℕ → Type 0 where
  ended : (k : ℕ) → k < n → AllGoOn k b → Ended (answer_at k b) → Course n b 0 (suc k)
  dropped : (k : ℕ) → k < n → AllGoOn k b → answer_at k b ≡ 8 → Course n b 8 (suc k)
  refused : (k : ℕ) → k < n → AllGoOn k b → answer_at k b ≡ 9 → Course n b 9 k
  spent : AllGoOn n b → Course n b 11 n

-- one step that goes on before the others
all_go_on : (k : ℕ) (b : Box) → GoesOn (step b).answer → AllGoOn k (step b).box → AllGoOn (suc k) b
unfolding after_steps
all_go_on k b g x zero l = g
all_go_on k b g x (suc i) l = x i (omega arith)

further : (n : ℕ) (b : Box) → GoesOn (step b).answer → (a s : ℕ) → Course n (step b).box a s → Course (suc n) b a (suc s)
unfolding after_steps
further n b g a s (ended k l x e) = ended (suc k) (omega arith) (all_go_on k b g x) e
further n b g a s (dropped k l x e) = dropped (suc k) (omega arith) (all_go_on k b g x) e
further n b g a s (refused k l x e) = refused (suc k) (omega arith) (all_go_on k b g x) e
further n b g a s (spent x) = spent (all_go_on n b g x)

none_before : (b : Box) → AllGoOn 0 b
none_before b k l = absurd (omega arith)

abbrev OfRun : ℕ → Box → Ran → Type 0
OfRun n b r = Course n b r.answer r.steps

by_first : (n : ℕ) (b : Box) → OfRun n (step b).box (run_on n (step b).box) → OfRun (suc n) b (run_on (suc n) b)
unfolding course after_steps
by_first n b later = go (step_kind b)
  where
    by_going : (a : ℕ) → (step b).answer ≡ a → course a ≡ goes_on → GoesOn a → OfRun (suc n) b (run_on (suc n) b)
    by_going a e c g =
        subst (OfRun (suc n) b) (sym (run_goes n b (ap course e ∙ c)))
        (further n b (subst GoesOn (sym e) g) (run_on n (step b).box).answer (run_on n (step b).box).steps later)

    by_ended : (a : ℕ) → (step b).answer ≡ a → course a ≡ stops 0 → Ended a → OfRun (suc n) b (run_on (suc n) b)
    by_ended a e c g = subst (OfRun (suc n) b) (sym (run_stops n b 0 (ap course e ∙ c))) (ended 0 (omega arith) (none_before b) (subst Ended (sym e) g))

    go : Kind (step b).answer → OfRun (suc n) b (run_on (suc n) b)
    go (Kind.drops e) = subst (OfRun (suc n) b) (sym (run_stops n b 8 (ap course e))) (dropped 0 (omega arith) (none_before b) e)
    go (Kind.refuses e) = subst (OfRun (suc n) b) (sym (run_refuses n b (course_nine (step b).answer e))) (refused 0 (omega arith) (none_before b) e)
    go (Kind.goes_on (inl e)) = by_going 30 e refl (inl refl)
    go (Kind.goes_on (inr e)) = by_going 33 e refl (inr refl)
    go (Kind.cycle_ends (inl e)) = by_ended 31 e refl (inl refl)
    go (Kind.cycle_ends (inr e)) = by_ended 32 e refl (inr refl)

of_run : (n : ℕ) (b : Box) → OfRun n b (run_on n b)
of_run zero b = subst (OfRun 0 b) (sym (run_spent b)) (spent (none_before b))
of_run (suc n) b = by_first n b (of_run n (step b).box)

-- ---- the first step that does not go on is one

-- it does not go on, and those before it do: so two such are the same
same_step : (k i : ℕ) (b : Box) → AllGoOn k b → ¬ GoesOn (answer_at k b) → AllGoOn i b → ¬ GoesOn (answer_at i b) → k ≡ i
same_step k i b x u y v = go (lt? k i) (lt? i k)
  where
    go : (k < i) ⊎ (i ≤ k) → (i < k) ⊎ (k ≤ i) → k ≡ i
    go (inl l) m = absurd (u (y k l))
    go (inr l) (inl m) = absurd (v (x i m))
    go (inr l) (inr m) = omega arith

-- answers that don't go on
Stops : ℕ → Type 0
Stops a = ¬ GoesOn a

ended_stops : (a : ℕ) → Ended a → Stops a
unfolding Stops
ended_stops a (inl e) (inl f) = omega arith
ended_stops a (inl e) (inr f) = omega arith
ended_stops a (inr e) (inl f) = omega arith
ended_stops a (inr e) (inr f) = omega arith

number_stops : (a n : ℕ) → a ≡ n → n < 30 → Stops a
unfolding Stops
number_stops a n e l (inl f) = omega arith
number_stops a n e l (inr f) = omega arith

-- where the run comes to a step that stops it, no other kind of answer is reached first
not_reached : (P : ℕ → Type 0) (n k : ℕ) (b : Box) → ((a : ℕ) → P a → Stops a) → AllGoOn k b → Stops (answer_at k b) → ¬ P (answer_at k b) → ¬ Reaches P n b
unfolding Stops
not_reached P n k b s x u c r = c (subst (λ (i : ℕ). P (answer_at i b)) (sym (same_step k r.before b x u r.all_go_on (s (answer_at r.before b) r.then))) r.then)

-- nor within a budget of steps that all go on
never_reached : (P : ℕ → Type 0) (n : ℕ) (b : Box) → ((a : ℕ) → P a → Stops a) → AllGoOn n b → ¬ Reaches P n b
unfolding Stops
never_reached P n b s x r = s (answer_at r.before b) r.then (x r.before r.within)

-- ---- the table

eight_stops : (a : ℕ) → a ≡ 8 → Stops a
eight_stops a e = number_stops a 8 e (omega arith)

nine_stops : (a : ℕ) → a ≡ 9 → Stops a
nine_stops a e = number_stops a 9 e (omega arith)

not_ended : (a n : ℕ) → a ≡ n → n < 30 → ¬ Ended a
not_ended a n e l (inl f) = omega arith
not_ended a n e l (inr f) = omega arith

on_gives : (n : ℕ) (b : Box) (a s : ℕ) → Course n b a s → Right b → RunGives n b a
on_gives n b a s (ended k l x e) r = passed (λ w. w r) (holds (record { before = k; within = l; all_go_on = x; then = e }) refl)
on_gives n b a s (dropped k l x e) r =
    passed (λ w. w r)
    (passed (not_reached Ended n k b ended_stops x (eight_stops (answer_at k b) e) (not_ended (answer_at k b) 8 e (omega arith)))
    (holds (record { before = k; within = l; all_go_on = x; then = e }) refl))
on_gives n b a s (refused k l x e) r =
    passed (λ w. w r)
    (passed (not_reached Ended n k b ended_stops x (nine_stops (answer_at k b) e) (not_ended (answer_at k b) 9 e (omega arith)))
    (passed (not_reached (λ a. a ≡ 8) n k b eight_stops x (nine_stops (answer_at k b) e) (λ f. omega (arith, e, f)))
    (holds (record { before = k; within = l; all_go_on = x; then = e }) refl)))
on_gives n b a s (spent x) r =
    passed (λ w. w r)
    (passed (never_reached Ended n b ended_stops x)
    (passed (never_reached (λ a. a ≡ 8) n b eight_stops x)
    (passed (never_reached (λ a. a ≡ 9) n b nine_stops x)
    (given refl))))

gives : (n : ℕ) (b : Box) → RunGives n b (run n b).answer
gives n b = go (true? (sound b))
  where
    go : (sound b ≡ true) ⊎ (sound b ≡ false) → RunGives n b (run n b).answer
    go (inl s) = subst (λ (r : Ran). RunGives n b r.answer) (sym (run_sound n b s)) (on_gives n b (run_on n b).answer (run_on n b).steps (of_run n b) (sound_right b s))
    go (inr s) = subst (λ (r : Ran). RunGives n b r.answer) (sym (run_refused n b s)) (holds (unsound_wrong b s) refl)

pub run_exactly : (n : ℕ) (b : Box) (a : ℕ) → ((run n b).answer ≡ a) ↔ RunGives n b a
run_exactly n b a = exactly (RunGives n b) (only_when _ 9 _ (only_when _ 0 _ (only_when _ 8 _ (only_when _ 9 _ (only_last 11))))) (run n b).answer (gives n b) a

pub run_answers : (n : ℕ) (b : Box) → RunAnswers (run n b).answer
run_answers n b = rows (run n b).answer (gives n b)
  where
    nine : RunAnswers 9
    nine = inr (inr (inl refl))

    rows : Each RunAnswers (RunGives n b)
    rows =
        each_when RunAnswers (¬ Right b) 9 _ (λ x. nine)
        (each_when RunAnswers (Reaches Ended n b) 0 _ (λ x. inl refl)
        (each_when RunAnswers (Reaches (λ a. a ≡ 8) n b) 8 _ (λ x. inr (inl refl))
        (each_when RunAnswers (Reaches (λ a. a ≡ 9) n b) 9 _ (λ x. nine)
        (each_last RunAnswers 11 (inr (inr (inr refl)))))))

-- ---- the steps that it counts

-- those that go on don't answer 9
on_not_nine : (a : ℕ) → GoesOn a → a ≢ 9
on_not_nine a (inl e) f = omega arith
on_not_nine a (inr e) f = omega arith

ended_not_nine : (a : ℕ) → Ended a → a ≢ 9
ended_not_nine a (inl e) f = omega arith
ended_not_nine a (inr e) f = omega arith

-- the last of k + 1 steps is another, and those before it go on
counts : (k : ℕ) (b : Box) → AllGoOn k b → answer_at k b ≢ 9 → (i : ℕ) → i < suc k → answer_at i b ≢ 9
counts k b x n i l = go (eq? i k)
  where
    go : (i ≡ k) ⊎ (i ≢ k) → answer_at i b ≢ 9
    go (inl e) = subst (λ (j : ℕ). answer_at j b ≢ 9) (sym e) n
    go (inr e) = on_not_nine (answer_at i b) (x i (omega arith))

-- a step that goes on neither ends the cycle with nothing held nor answers the hold
going_last : (a : ℕ) → GoesOn a → ¬ Ended a × (a ≢ 8)
unfolding Stops
going_last a g = (λ e. ended_stops a e g, λ e. eight_stops a e g)

-- a run's answer c and the answer a of the last step that it counts
abbrev ByLast : ℕ → ℕ → Type 0
ByLast c a = ((c ≡ 0) ↔ Ended a) × ((c ≡ 8) ↔ (a ≡ 8))

not_stopped : (c s : ℕ) → c ≢ 0 → c ≢ 8 → (c ≡ 0) ⊎ (c ≡ 8) → 1 ≤ s
not_stopped c s x y (inl e) = absurd (x e)
not_stopped c s x y (inr e) = absurd (y e)

-- where that step goes on the run's answer is neither 0 nor 8
no_stop : (a c : ℕ) → GoesOn a → c ≢ 0 → c ≢ 8 → ByLast c a
no_stop a c g x y = ((λ e. absurd (x e), λ e. absurd ((going_last a g).0 e)), (λ e. absurd (y e), λ e. absurd ((going_last a g).1 e)))

steps_in : (n : ℕ) (b c : Box) (a s : ℕ) → Course n b a s → Right b → after_steps s b ≡ c → RunSteps n b (ran c a s)
unfolding Stops
steps_in n b c a s (ended k l x e) w z =
    record {
      lead_there = z;
      within_budget = omega arith;
      never_nine = counts k b x (ended_not_nine (answer_at k b) e);
      all_but_last = λ i m. x i (omega arith);
      stopped = λ m. omega arith;
      by_last = λ i q. subst (λ (j : ℕ). ByLast 0 (answer_at j b)) (omega arith) last;
      next_is_nine = λ f. absurd (omega arith);
      spent = (λ f. absurd (omega arith), λ f. absurd (ended_stops (answer_at k b) e (f.2 k (omega arith))));
    }
  where
    last : ByLast 0 (answer_at k b)
    last = ((λ f. e, λ f. refl), (λ f. absurd (omega arith), λ f. absurd (not_ended (answer_at k b) 8 f (omega arith) e)))
steps_in n b c a s (dropped k l x e) w z =
    record {
      lead_there = z;
      within_budget = omega arith;
      never_nine = counts k b x (λ f. omega arith);
      all_but_last = λ i m. x i (omega arith);
      stopped = λ m. omega arith;
      by_last = λ i q. subst (λ (j : ℕ). ByLast 8 (answer_at j b)) (omega arith) last;
      next_is_nine = λ f. absurd (omega arith);
      spent = (λ f. absurd (omega arith), λ f. absurd (eight_stops (answer_at k b) e (f.2 k (omega arith))));
    }
  where
    last : ByLast 8 (answer_at k b)
    last = ((λ f. absurd (omega arith), λ f. absurd (not_ended (answer_at k b) 8 e (omega arith) f)), (λ f. e, λ f. refl))
steps_in n b c a s (refused k l x e) w z =
    record {
      lead_there = z;
      within_budget = omega arith;
      never_nine = λ i m. on_not_nine (answer_at i b) (x i m);
      all_but_last = λ i m. x i (omega arith);
      stopped = not_stopped 9 k (omega arith) (omega arith);
      by_last = λ i q. no_stop (answer_at i b) 9 (x i (omega arith)) (omega arith) (omega arith);
      next_is_nine = λ f. e;
      spent = (λ f. absurd (omega arith), λ f. absurd (omega (arith, f.1)));
    }
steps_in n b c a s (spent x) w z =
    record {
      lead_there = z;
      within_budget = omega arith;
      never_nine = λ i m. on_not_nine (answer_at i b) (x i m);
      all_but_last = λ i m. x i (omega arith);
      stopped = not_stopped 11 n (omega arith) (omega arith);
      by_last = λ i q. no_stop (answer_at i b) 11 (x i (omega arith)) (omega arith) (omega arith);
      next_is_nine = λ f. absurd (omega arith);
      spent = (λ f. (w, refl, x), λ f. refl);
    }

-- a box that is not right takes no step
wrong_nine : (b : Box) → sound b ≡ false → step b ≡ reply b 9
unfolding step
wrong_nine b s = simp s

wrong_steps : (n : ℕ) (b : Box) → sound b ≡ false → RunSteps n b (ran b 9 0)
unfolding after_steps
wrong_steps n b s =
    record {
      lead_there = refl;
      within_budget = omega arith;
      never_nine = λ i m. absurd (omega arith);
      all_but_last = λ i m. absurd (omega arith);
      stopped = not_stopped 9 0 (omega arith) (omega arith);
      by_last = λ i q. absurd (omega arith);
      next_is_nine = λ f. ap (λ (r : Reply). r.answer) (wrong_nine b s);
      spent = (λ f. absurd (omega arith), λ f. absurd (unsound_wrong b s f.0));
    }

pub run_steps : (n : ℕ) (b : Box) → RunSteps n b (run n b)
run_steps n b = go (true? (sound b))
  where
    go : (sound b ≡ true) ⊎ (sound b ≡ false) → RunSteps n b (run n b)
    go (inl s) =
        let e : run n b ≡ run_on n b = run_sound n b s in
        subst (RunSteps n b) (sym e) (steps_in n b (run_on n b).box (run_on n b).answer (run_on n b).steps (of_run n b) (sound_right b s) (subst (λ (r : Ran). after_steps r.steps b ≡ r.box) e (run_counts n b)))
    go (inr s) = subst (RunSteps n b) (sym (run_refused n b s)) (wrong_steps n b s)

-- ---- a run that answers 9 and took no step

pub run_as_found : (n : ℕ) (b : Box) → (run n b).steps ≡ 0 → (run n b).box ≡ b
unfolding after_steps
run_as_found n b e = sym (run_counts n b) ∙ ap (λ (k : ℕ). after_steps k b) e
