-- Single steps in a row, and runs with a budget: the loops by their turns. `stretch` goes up to the first answer other than 30; a run
-- is stretches, one after the other. By induction on the steps left. Assumes nothing.
use Prim.Native.Nat.{ℕ, zero, suc, ◌+◌, ◌-◌, ◌≤◌, ◌<◌}
use mathlib.Core.Bool.{Bool, true, false, cond, ◌||◌, false≢true}
use mathlib.Core.Logic.{◌≢◌}
use mathlib.Core.Path.{◌≡◌, refl, sym, ◌∙◌, ap}
use native.Mathlib.Omega.{arith}
use borrow.Author.Tests.{eqb-true, ne_eqb}
use lib.Dec.{eqb}
use Rattle.rules.specs.Parts.{Box}
use Rattle.rules.specs.Box.{Reply, reply, sound}
use Rattle.rules.specs.Collector.{step}
use Rattle.rules.specs.Run.{Ran, ran, counted, course, run_on, run}
use Rattle.rules.proofs.AsFound.{step_found}
use Rattle.rules.proofs.Runs.{outcome_of, run_sound, run_goes, run_stops, run_refuses, course_nine}
use Rattle.steps.specs.Stretch.{stretch}

-- so many steps before what follows
abbrev pub later : ℕ → Ran → Ran
later k r = ran r.box r.answer (k + r.steps)

same_count : (b : Box) (a n m : ℕ) → n ≡ m → ran b a n ≡ ran b a m
same_count b a n m e = ap (ran b a) e

-- ---- the loop of single steps

module _ (most done : ℕ) (b x : Box) (a : ℕ) (l : done < most) (e : reply x a ≡ step b) where
  rest : ℕ
  rest = most - (done + 1)

  by_first : Reply → Ran
  by_first r = cond (eqb r.answer 30) (counted (stretch rest r.box)) (ran r.box r.answer (cond (eqb r.answer 9) 0 1))

  first : stretch (most - done) b ≡ by_first (reply x a)
  unfolding stretch by_first rest
  first = ap (λ (k : ℕ). stretch k b) one_more_left ∙ ap by_first (sym e)
    where
      one_more_left : most - done ≡ suc (most - (done + 1))
      one_more_left = omega arith

  pub stretch_on : a ≡ 30 → later (done + 1) (stretch (most - (done + 1)) x) ≡ later done (stretch (most - done) b)
  unfolding by_first rest
  stretch_on z = same_count _ _ _ _ (omega arith) ∙ sym (ap (later done) (first ∙ ap (λ (y : ℕ). by_first (reply x y)) z))

  pub stretch_refused : a ≡ 9 → ran x a done ≡ later done (stretch (most - done) b)
  unfolding by_first
  stretch_refused z = ap (λ (y : ℕ). ran x y done) z ∙ same_count _ _ _ _ (omega arith) ∙ sym (ap (later done) (first ∙ ap (λ (y : ℕ). by_first (reply x y)) z))

  pub stretch_stops : a ≢ 30 → a ≢ 9 → ran x a (done + 1) ≡ later done (stretch (most - done) b)
  unfolding by_first
  stretch_stops p q = sym (ap (later done) (first ∙ stopped))
    where
      stopped : by_first (reply x a) ≡ ran x a 1
      stopped = simp (ne_eqb a 30 p, ne_eqb a 9 q)

pub stretch_starts : (most : ℕ) (b : Box) → later 0 (stretch (most - 0) b) ≡ stretch most b
stretch_starts most b = ap (λ (n : ℕ). later 0 (stretch n b)) whole ∙ same_count _ _ _ _ (omega arith)
  where
    whole : most - 0 ≡ most
    whole = omega arith

pub stretch_spent : (most done : ℕ) (b : Box) → done ≡ most → ran b 30 most ≡ later done (stretch (most - done) b)
unfolding stretch
stretch_spent most done b e = same_count _ _ _ _ (omega arith) ∙ ap (λ (k : ℕ). later done (stretch k b)) none_left
  where
    none_left : 0 ≡ most - done
    none_left = omega arith

-- one step is a stretch of one
pub stretch_one : (b t : Box) (a n : ℕ) → ran t a n ≡ stretch 1 b → reply t a ≡ step b
unfolding stretch
stretch_one b t a n e = go (eqb (step b).answer 30) refl e
  where
    go : (u : Bool) → eqb (step b).answer 30 ≡ u → ran t a n ≡ cond u (counted (ran (step b).box 30 0)) (ran (step b).box (step b).answer (cond (eqb (step b).answer 9) 0 1)) → reply t a ≡ step b
    go true q h = ap (λ (r : Ran). reply r.box r.answer) h ∙ ap (reply (step b).box) (sym (eqb-true (step b).answer 30 q))
    go false q h = ap (λ (r : Ran). reply r.box r.answer) h

-- ---- how long a stretch is

pub stretch_most : (n : ℕ) (b : Box) → (stretch n b).steps ≤ n
unfolding stretch
stretch_most zero b = omega arith
stretch_most (suc n) b = go (eqb (step b).answer 30) (eqb (step b).answer 9) (stretch_most n (step b).box)
  where
    go : (t u : Bool) → (stretch n (step b).box).steps ≤ n → (cond t (counted (stretch n (step b).box)) (ran (step b).box (step b).answer (cond u 0 1))).steps ≤ suc n
    go true u h = omega arith
    go false true h = omega arith
    go false false h = omega arith

-- one that does not end in 9 has a step
stretch_some : (n : ℕ) (b : Box) → eqb (stretch (suc n) b).answer 9 ≡ false → 1 ≤ (stretch (suc n) b).steps
unfolding stretch
stretch_some n b = go (eqb (step b).answer 30) (eqb (step b).answer 9) refl
  where
    go : (t u : Bool) → eqb (step b).answer 9 ≡ u → eqb (cond t (counted (stretch n (step b).box)) (ran (step b).box (step b).answer (cond u 0 1))).answer 9 ≡ false
        → 1 ≤ (cond t (counted (stretch n (step b).box)) (ran (step b).box (step b).answer (cond u 0 1))).steps
    go true u q h = omega arith
    go false true q h = absurd (false≢true (sym h ∙ q))
    go false false q h = omega arith

-- ---- a run by its first stretch

by_stretch : ℕ → Ran → Ran
by_stretch n w = cond (eqb (outcome_of w.answer) 11) (later w.steps (run_on (n - w.steps) w.box)) (ran w.box (outcome_of w.answer) w.steps)

one_more : (n : ℕ) (w : Ran) → counted (by_stretch n w) ≡ by_stretch (suc n) (counted w)
unfolding by_stretch
one_more n w = go (eqb (outcome_of w.answer) 11)
  where
    less : n - w.steps ≡ suc n - suc w.steps
    less = omega arith

    go : (t : Bool) → counted (cond t (later w.steps (run_on (n - w.steps) w.box)) (ran w.box (outcome_of w.answer) w.steps))
        ≡ cond t (later (suc w.steps) (run_on (suc n - suc w.steps) w.box)) (ran w.box (outcome_of w.answer) (suc w.steps))
    go true = same_count _ _ _ _ (omega arith) ∙ ap (λ (k : ℕ). later (suc w.steps) (run_on k w.box)) less
    go false = refl

module _ (n : ℕ) (b : Box) where
  -- a first step that answers 30, and what it leaves
  going_on : (step b).answer ≡ 30 → run_on (suc n) b ≡ counted (run_on n (step b).box)
  unfolding course
  going_on e = run_goes n b (ap course e)

  refused : (step b).answer ≡ 9 → run_on (suc n) b ≡ by_stretch (suc n) (ran (step b).box (step b).answer 0)
  unfolding by_stretch
  refused e =
      run_refuses n b (course_nine (step b).answer e)
      ∙ ap (λ (c : Box). ran c 9 0) (sym (step_found b e))
      ∙ ap (λ (x : ℕ). by_stretch (suc n) (ran (step b).box x 0)) (sym e)

  dropped : (step b).answer ≡ 8 → run_on (suc n) b ≡ by_stretch (suc n) (ran (step b).box (step b).answer 1)
  unfolding by_stretch course
  dropped e = run_stops n b 8 (ap course e) ∙ ap (λ (x : ℕ). by_stretch (suc n) (ran (step b).box x 1)) (sym e)

  ended : eqb (step b).answer 9 ≡ false → eqb (step b).answer 8 ≡ false → (eqb (step b).answer 31 || eqb (step b).answer 32) ≡ true
      → run_on (suc n) b ≡ by_stretch (suc n) (ran (step b).box (step b).answer 1)
  unfolding by_stretch course
  ended q r w = run_stops n b 0 (simp (q, r, w)) ∙ simp (q, r, w)

  held : eqb (step b).answer 9 ≡ false → eqb (step b).answer 8 ≡ false → (eqb (step b).answer 31 || eqb (step b).answer 32) ≡ false
      → run_on (suc n) b ≡ by_stretch (suc n) (ran (step b).box (step b).answer 1)
  unfolding by_stretch course
  held q r w = run_goes n b (simp (q, r, w)) ∙ ap (λ (k : ℕ). counted (run_on k (step b).box)) less ∙ one (run_on (suc n - 1) (step b).box) ∙ simp (q, r, w)
    where
      less : n ≡ suc n - 1
      less = omega arith

      one : (r : Ran) → counted r ≡ later 1 r
      one r = same_count r.box r.answer (suc r.steps) (1 + r.steps) (omega arith)

run_by_stretch : (n : ℕ) (b : Box) → run_on n b ≡ by_stretch n (stretch n b)
unfolding run_on stretch by_stretch
run_by_stretch zero b = refl
run_by_stretch (suc n) b = go (eqb (step b).answer 30) (eqb (step b).answer 9) (eqb (step b).answer 8) (eqb (step b).answer 31 || eqb (step b).answer 32) refl refl refl refl (run_by_stretch n (step b).box)
  where
    both : eqb (step b).answer 30 ≡ true → eqb (step b).answer 9 ≡ true → ⊥
    both p q = let e = eqb-true (step b).answer 30 p in let h = eqb-true (step b).answer 9 q in omega arith

    go : (s t u v : Bool) → eqb (step b).answer 30 ≡ s → eqb (step b).answer 9 ≡ t → eqb (step b).answer 8 ≡ u → (eqb (step b).answer 31 || eqb (step b).answer 32) ≡ v → run_on n (step b).box ≡ by_stretch n (stretch n (step b).box)
        → run_on (suc n) b ≡ by_stretch (suc n) (cond s (counted (stretch n (step b).box)) (ran (step b).box (step b).answer (cond t 0 1)))
    go true true u v p q r w ih = absurd (both p q)
    go true false u v p q r w ih = going_on n b (eqb-true (step b).answer 30 p) ∙ ap counted ih ∙ one_more n (stretch n (step b).box)
    go false true u v p q r w ih = refused n b (eqb-true (step b).answer 9 q)
    go false false true v p q r w ih = dropped n b (eqb-true (step b).answer 8 r)
    go false false false true p q r w ih = ended n b q r w
    go false false false false p q r w ih = held n b q r w

-- ---- the loop of stretches: the next one leaves x, with answer a after k steps

pub run_starts : (budget : ℕ) (b : Box) → sound b ≡ true → later 0 (run_on (budget - 0) b) ≡ run budget b
run_starts budget b s = ap (λ (n : ℕ). later 0 (run_on n b)) whole ∙ same_count _ _ _ _ (omega arith) ∙ sym (run_sound budget b s)
  where
    whole : budget - 0 ≡ budget
    whole = omega arith

module _ (budget done : ℕ) (b x : Box) (a k : ℕ) (l : done < budget) (e : ran x a k ≡ stretch (budget - done) b) where
  base : run_on (budget - done) b ≡ by_stretch (budget - done) (ran x a k)
  base = run_by_stretch (budget - done) b ∙ ap (by_stretch (budget - done)) (sym e)

  -- the steps done stay within the budget
  pub run_fits : done + k ≤ budget
  run_fits = let f : (stretch (budget - done) b).steps ≤ budget - done = stretch_most (budget - done) b in omega (arith, ap (λ (r : Ran). r.steps) e)

  module _ (o : ℕ) (q : o ≡ outcome_of a) where
    pub run_on_after : o ≡ 11 → later (done + k) (run_on (budget - (done + k)) x) ≡ later done (run_on (budget - done) b)
    unfolding by_stretch
    run_on_after z =
        same_count _ _ _ _ (omega arith)
        ∙ ap (λ (n : ℕ). later done (later k (run_on n x))) less
        ∙ sym (ap (later done) (base ∙ ap (λ (y : ℕ). cond (eqb y 11) (later k (run_on (budget - done - k) x)) (ran x y k)) (sym q ∙ z)))
      where
        less : budget - (done + k) ≡ budget - done - k
        less = omega arith

    pub run_ends : o ≢ 11 → ran x o (done + k) ≡ later done (run_on (budget - done) b)
    unfolding by_stretch
    run_ends z =
        sym (ap (later done) (base
        ∙ ap (λ (y : ℕ). cond (eqb y 11) (later k (run_on (budget - done - k) x)) (ran x y k)) (sym q)
        ∙ ap (λ (t : Bool). cond t (later k (run_on (budget - done - k) x)) (ran x o k)) (ne_eqb o 11 z)))

    -- one that the run goes on after has a step
    pub run_nears : o ≡ 11 → 1 ≤ k
    run_nears z = go (eqb a 9) refl
      where
        some : (n : ℕ) → budget - done ≡ suc n → eqb a 9 ≡ false → 1 ≤ k
        some n p t =
            let f : ran x a k ≡ stretch (suc n) b = e ∙ ap (λ (y : ℕ). stretch y b) p in
            let h : 1 ≤ (stretch (suc n) b).steps = stretch_some n b (sym (ap (λ (r : Ran). eqb r.answer 9) f) ∙ t) in
            omega (arith, ap (λ (r : Ran). r.steps) f)

        go : (t : Bool) → eqb a 9 ≡ t → 1 ≤ k
        go false t = some (budget - (done + 1)) (omega arith) t
        go true t = let h : o ≡ 9 = q ∙ ap outcome_of (eqb-true a 9 t) in omega arith

pub run_spent : (budget done : ℕ) (b : Box) → budget ≤ done → ran b 11 done ≡ later done (run_on (budget - done) b)
unfolding run_on
run_spent budget done b l = same_count _ _ _ _ (omega arith) ∙ ap (λ (k : ℕ). later done (run_on k b)) none_left
  where
    none_left : 0 ≡ budget - done
    none_left = omega arith
