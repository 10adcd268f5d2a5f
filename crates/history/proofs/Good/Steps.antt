-- Every step leaves all as it should be and none answers 9; so does every run with a budget, which is so many single steps.
-- Assumes nothing.
use Prim.Native.Nat.{ℕ, zero, suc}
use mathlib.Core.Bool.{true≢false}
use mathlib.Core.Logic.{◌≢◌, ◌⊎◌, inl, inr}
use mathlib.Core.Option.{Option, none}
use mathlib.Core.Path.{◌≡◌, refl, sym, ◌∙◌, ap, subst}
use native.Mathlib.Omega.{arith}
use Rattle.rules.specs.Parts.{Box}
use Rattle.rules.specs.Box.{Reply}
use Rattle.rules.specs.Collector.{at_rest, end_cycle, step}
use Rattle.rules.specs.Run.{Ran, ran, counted, Course, goes_on as going_on, stops, refuses, course, run_on, run}
use Rattle.history.specs.Machine.{Asked, History, grant, with_hold, feed, run_for}
use Rattle.history.specs.Calls.{Log, log_parts, log_step, log_steps}
use Rattle.history.specs.Demand3.{NotNine}
use Rattle.history.proofs.Invariant.Frame.{Next}
use Rattle.history.proofs.Invariant.Stepping.{SameHold, EndsSpared, Stepped, stepped}
use Rattle.history.proofs.Asking.InRange.{sound_box}
use Rattle.history.proofs.Good.Statement.{Waiting, nothing_held, one_held, Good}
use Rattle.history.proofs.Good.Going.{good_on}
use Rattle.history.proofs.Good.Ending.{good_free, good_held, good_dropped, good_granted}
use Rattle.history.proofs.Invariant.CycleEnd.{CycleEnd, cycle_end}

-- what a step answers, and what it leaves of both machines and the log
pub data After (m h : ℕ) (b : Box) (t : History) (l : Log) (r : Reply) : Type 0 where
  -- 30 and 33: the history machine stays
  on : (r.answer ≡ 30) ⊎ (r.answer ≡ 33) → Good m h r.box t (log_step b r t l) → After m h b t l r
  -- 31: and nothing is held
  free : r.answer ≡ 31 → t.hold ≡ none → Good m h r.box t (log_step b r t l) → After m h b t l r
  -- 32 and 8: the hold is answered
  given : r.answer ≡ 32 → Good m h r.box (grant t.hold t) (log_step b r t l) → After m h b t l r
  dropped : r.answer ≡ 8 → Good m h r.box (with_hold none t) (log_step b r t l) → After m h b t l r

module _ (m h : ℕ) (b : Box) (t : History) (l : Log) (k : Good m h b t l) where
  -- an end of the cycle, by what becomes of the hold
  by_ending : (c : Box) (n : Next b k.ghosts (at_rest c)) → b.collector.phase ≢ 0 → SameHold b c → c.hold.begun ≡ b.hold.begun
      → EndsSpared b k.ghosts (at_rest c) n.ghosts.plan → CycleEnd b c n.ghosts → After m h b t l (end_cycle b c)
  unfolding log_step log_parts
  by_ending c n d s a sp (CycleEnd.ends_free p e) = subst (After m h b t l) (sym e) (free refl (none_held k.waiting) (good_free m h b t l k c n d s a sp p))
    where
      none_held : Waiting b k.ghosts t l.pending → t.hold ≡ none
      none_held (nothing_held q x o) = x
      none_held (one_held q y x w o z) = absurd (true≢false (sym q ∙ sym s.held_same ∙ p))
  by_ending c n d s a sp (CycleEnd.ends_held p o q e) = subst (After m h b t l) (sym e) (on (inr refl) (good_held m h b t l k c n d s a sp p q))
  by_ending c n d s a sp (CycleEnd.ends_dropped p o q e i) = subst (After m h b t l) (sym e) (dropped refl (good_dropped m h b t l k c n d s a sp p q o))
  by_ending c n d s a sp (CycleEnd.ends_granted p f u e i) = subst (After m h b t l) (sym e) (given refl (good_granted m h b t l k c n d s a sp p f u))

  pub after_step : After m h b t l (step b)
  unfolding log_step log_parts
  after_step = go (stepped b k.ghosts k.inv)
    where
      go : Stepped b k.ghosts → After m h b t l (step b)
      go (Stepped.goes_on c e n f s z) = subst (After m h b t l) (sym e) (on (inl refl) (good_on m h b t l k c n f s z))
      go (Stepped.ends c e n d s a sp) = subst (After m h b t l) (sym e) (by_ending c n d s a sp (cycle_end b c n.ghosts n.inv))

-- ---- a run with a budget

-- what is to be shown of a run
pub record GoodRun (m h n : ℕ) (b : Box) (r : Ran) (t : History) (l : Log) : Type 0 where
  pub not_nine : NotNine r.answer
  pub good : Good m h r.box (feed (run_for n) r.answer t) (log_steps r.steps b t l)

-- the run goes on after its first step: the history machine stays until the last
further : (m h n : ℕ) (b : Box) (r : Ran) (t : History) (l : Log) → GoodRun m h n (step b).box r t (log_step b (step b) t l) → GoodRun m h n b (counted r) t l
unfolding log_steps
further m h n b r t l k = record { not_nine = k.not_nine; good = k.good }

-- it stops at its first step
last_step : (m h n : ℕ) (b : Box) (a : ℕ) (t : History) (l : Log) → NotNine a
    → Good m h (step b).box (feed (run_for n) a t) (log_step b (step b) t l) → GoodRun m h n b (ran (step b).box a 1) t l
unfolding log_steps
last_step m h n b a t l z k = record { not_nine = z; good = k }

-- how each answer bears on the run
going_30 : course 30 ≡ going_on
unfolding course
going_30 = refl

going_33 : course 33 ≡ going_on
unfolding course
going_33 = refl

stops_31 : course 31 ≡ stops 0
unfolding course
stops_31 = refl

stops_32 : course 32 ≡ stops 0
unfolding course
stops_32 = refl

stops_8 : course 8 ≡ stops 8
unfolding course
stops_8 = refl

pub good_run_on : (m h n budget : ℕ) (b : Box) (t : History) (l : Log) → Good m h b t l → GoodRun m h n b (run_on budget b) t l
unfolding run_on feed log_steps grant
good_run_on m h n zero b t l k = record { not_nine = omega arith; good = k }
good_run_on m h n (suc budget) b t l k = go (after_step m h b t l k) (λ g. further m h n b (run_on budget (step b).box) t l (good_run_on m h n budget (step b).box t (log_step b (step b) t l) g))
  where
    by : Course → Type 0
    by x = GoodRun m h n b (elim x as (λ y. Ran) [ going_on ↦ counted (run_on budget (step b).box) | stops a ↦ ran (step b).box a 1 | refuses ↦ ran b 9 0 ]) t l

    go : After m h b t l (step b)
        → (Good m h (step b).box t (log_step b (step b) t l) → GoodRun m h n b (counted (run_on budget (step b).box)) t l)
        → GoodRun m h n b (run_on (suc budget) b) t l
    go (on (inl e) g) f = subst by (sym (ap course e ∙ going_30)) (f g)
    go (on (inr e) g) f = subst by (sym (ap course e ∙ going_33)) (f g)
    go (free e o g) f = subst by (sym (ap course e ∙ stops_31)) (last_step m h n b 0 t l (omega arith) (subst (λ (x : Option Asked). Good m h (step b).box (grant x t) (log_step b (step b) t l)) (sym o) g))
    go (given e g) f = subst by (sym (ap course e ∙ stops_32)) (last_step m h n b 0 t l (omega arith) g)
    go (dropped e g) f = subst by (sym (ap course e ∙ stops_8)) (last_step m h n b 8 t l (omega arith) g)

pub good_run : (m h n : ℕ) (b : Box) (t : History) (l : Log) → Good m h b t l → GoodRun m h n b (run n b) t l
unfolding run
good_run m h n b t l k = rw (sound_box b k.ghosts k.inv) (good_run_on m h n n b t l k)
