-- A step with which the cycle goes on leaves all as it should be: the history machine does not change, the cycle and the hold have
-- one step more, and the steps left fall. Assumes nothing.
use Prim.Native.Nat.{ℕ, suc, ◌+◌, ◌*◌, ◌≤◌, ◌<◌}
use mathlib.Core.Bool.{true, false, true≢false}
use mathlib.Core.List.{◌∷◌}
use mathlib.Core.Logic.{◌≢◌}
use mathlib.Core.Option.{none}
use mathlib.Core.Path.{◌≡◌, refl, sym, ◌∙◌, ap}
use native.Mathlib.Omega.{arith}
use borrow.Author.Tests.{eq-eqb}
use Rattle.rules.specs.Parts.{Box}
use Rattle.history.specs.Machine.{Asked, History}
use Rattle.history.specs.Calls.{Pending, Log, cycle_step, wait_step, log_going, with_step_answers}
use Rattle.history.proofs.Invariant.Frame.{Next}
use Rattle.history.proofs.Left.Count.{left}
use Rattle.history.proofs.Left.Bounds.{left_bound}
use Rattle.history.proofs.Relation.Still.{related_calm}
use Rattle.history.proofs.Invariant.Stepping.{SameHold, Track, starts, tracks}
use Rattle.history.proofs.Good.Statement.{Cycling, between, under_way, Held, Waiting, nothing_held, one_held, Good}

module _ (m h : ℕ) (b : Box) (t : History) (l : Log) (k : Good m h b t l) (c : Box) (n : Next b k.ghosts c) (fall : left c n.ghosts < left b k.ghosts) (s : SameHold b c) where
  -- the cycle
  cycling_on : Track b k.ghosts c n.ghosts.plan → Cycling c n.ghosts t k.number (cycle_step b t l.cycle)
  unfolding cycle_step
  cycling_on (starts e f a x) = go k.cycling
    where
      first : l.cycle ≡ none → Cycling c n.ghosts t k.number (cycle_step b t l.cycle)
      first o =
          let u : left b k.ghosts ≤ 8 * b.top + 2 = left_bound b k.ghosts k.inv in
          under_way (omega arith) (record {
            started = t;
            first_top = b.top;
            steps = 1;
            quiet = true;
          }) (ap (cycle_step b t) o ∙ simp (eq-eqb b.collector.phase 0 e))
          (record { tracked = x t k.number; bounded = λ q. omega arith; begun_then = λ p q. refl })

      go : Cycling b k.ghosts t k.number l.cycle → Cycling c n.ghosts t k.number (cycle_step b t l.cycle)
      go (between p o) = first o
      go (under_way p y o w) = absurd (p e)
  cycling_on (tracks d f a x) = go k.cycling
    where
      go : Cycling b k.ghosts t k.number l.cycle → Cycling c n.ghosts t k.number (cycle_step b t l.cycle)
      go (between p o) = absurd (d p)
      go (under_way p y o w) =
          under_way f (record { started = y.started; first_top = y.first_top; steps = suc y.steps; quiet = y.quiet }) (ap (cycle_step b t) o)
          (record {
            tracked = x t l.given k.number y.started k.related w.tracked;
            bounded = λ q. let u : y.steps + left b k.ghosts ≤ 8 * y.first_top + 2 = w.bounded q in omega arith;
            begun_then = λ p q. w.begun_then (sym s.held_same ∙ p) (sym a ∙ q);
          })

  -- the hold
  waiting_on : Track b k.ghosts c n.ghosts.plan → Waiting c n.ghosts t (wait_step l.pending)
  unfolding wait_step
  waiting_on z = go k.waiting
    where
      twice : (q : Asked) (w : Pending) → b.hold.held ≡ true → Held b k.ghosts t q w → Track b k.ghosts c n.ghosts.plan
          → c.hold.begun ≡ false → c.collector.phase ≢ 0
          → suc w.steps + left c n.ghosts + (8 * c.m + 2) ≤ 16 * c.m + 4
      twice q w p y (starts e f a x) d r = absurd (true≢false (sym (a p) ∙ d))
      twice q w p y (tracks e f a x) d r =
          let u : w.steps + left b k.ghosts + (8 * b.m + 2) ≤ 16 * b.m + 4 = y.in_time_twice (sym a ∙ d) e in
          let v : c.m ≡ b.m = s.m_same in
          omega arith

      go : Waiting b k.ghosts t l.pending → Waiting c n.ghosts t (wait_step l.pending)
      go (nothing_held p x o) = nothing_held (s.held_same ∙ p) x (ap wait_step o)
      go (one_held p q x w o y) =
          one_held (s.held_same ∙ p) q x (record { asked = w.asked; history_then = w.history_then; steps = suc w.steps }) (ap wait_step o)
          (record {
            register_is = y.register_is ∙ sym s.register_same;
            size_is = y.size_is ∙ sym s.size_same;
            tag_is = y.tag_is ∙ sym s.tag_same;
            asked_is = y.asked_is;
            history_is = y.history_is;
            in_time = let u : w.steps + left b k.ghosts ≤ 16 * b.m + 4 = y.in_time in let v : c.m ≡ b.m = s.m_same in omega arith;
            in_time_twice = twice q w p y z;
          })

  -- 30 ends no cycle and answers no hold
  pub good_on : Track b k.ghosts c n.ghosts.plan → Good m h c t (with_step_answers (30 ∷ l.step_answers) (log_going b t l))
  unfolding log_going
  good_on z =
      record {
        m_is = s.m_same ∙ k.m_is;
        h_is = s.h_same ∙ k.h_is;
        ghosts = n.ghosts;
        inv = n.inv;
        number = k.number;
        related = related_calm b c k.ghosts.plan n.ghosts.plan t l.given k.number n.calm s.h_same k.related;
        eight = k.eight;
        cycling = cycling_on z;
        waiting = waiting_on z;
        past = record {
          swept = k.past.swept;
          justly = k.past.justly;
          in_time = k.past.in_time;
          bounded = k.past.bounded;
          ends_logged = k.past.ends_logged;
          answers_logged = k.past.answers_logged;
        };
      }
