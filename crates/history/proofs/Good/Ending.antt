-- A step that ends a cycle leaves all as it should be, whether nothing is held, or the hold stays, is dropped or is granted. What was
-- unreachable as the cycle started is gone, the cycle took no more steps than it may, and a hold that is answered is answered justly
-- and in time. Assumes nothing.
use Prim.Native.Nat.{ℕ, suc, ◌+◌, ◌*◌, ◌≤◌, ◌<◌}
use mathlib.Core.Bool.{true, false, true≢false}
use mathlib.Core.List.{List, [], ◌∷◌, ◌++◌}
use mathlib.Core.Logic.{◌≢◌, ◌⊎◌, inl, inr}
use mathlib.Core.Option.{Option, none, some}
use mathlib.Core.Path.{◌≡◌, refl, sym, ◌∙◌, ap, subst}
use native.Mathlib.Decide.{ℕ_discrete}
use native.Mathlib.Omega.{arith}
use Rattle.rules.specs.Limits.{register_count, half_word}
use Rattle.rules.specs.Parts.{Box}
use Rattle.rules.specs.Box.{handle_of, register}
use Rattle.rules.specs.Request.{new_tuple}
use Rattle.rules.specs.Collector.{at_rest, unheld, granted}
use Rattle.history.specs.Machine.{Asked, History, made, make, with_hold, grant}
use Rattle.history.specs.Calls.{Cycle, EndedCycle, Pending, Answered, Log, cycle_step, wait_step, end_log_cycle, answer_hold, given_held, log_ended, log_dropped, log_granted, with_step_answers}
use Rattle.history.specs.Demand3.{Every, Swept, JustlyAnswered, AnsweredInTime, EndedBounded, ends_cycle, answers_hold, AnswersLogged}
use Rattle.history.proofs.Invariant.Statement.{Ghosts, Inv, Kept}
use Rattle.history.proofs.Invariant.Frame.{Next}
use Rattle.history.proofs.Left.Count.{left}
use Rattle.history.proofs.Left.Bounds.{left_positive, left_bound_m}
use Rattle.history.proofs.Asking.InRange.{free_bounds}
use Rattle.history.proofs.Asking.NewTuple.{New, new_box, Made, made_ghosts, new_tuple_made, invariant_new_tuple}
use Rattle.history.proofs.Asking.Registers.{invariant_unheld, unheld_quiet}
use Rattle.history.proofs.Relation.Statement.{Related}
use Rattle.history.proofs.Relation.Still.{related_calm}
use Rattle.history.proofs.Relation.NewTuple.{renumbered, renumbered_same, renumbered_other, made_make}
use Rattle.history.proofs.Relation.Hold.{related_dropped, related_granted, registers_grant}
use Rattle.history.proofs.Spared.Tracked.{Spared, made_since, Tracked, gone_at_rest}
use Rattle.history.proofs.Census.Answers.{granted_justly, dropped_justly}
use Rattle.history.proofs.Good.Statement.{UnderWay, Cycling, between, under_way, Held, Waiting, nothing_held, one_held, Past, Good}
use Rattle.history.proofs.Invariant.Stepping.{SameHold}

-- ---- the end of the cycle that is under way

module _ (m h : ℕ) (b : Box) (t : History) (l : Log) (k : Good m h b t l) (c : Box) (n : Next b k.ghosts (at_rest c)) (d : b.collector.phase ≢ 0) (s : SameHold b c) (a : c.hold.begun ≡ b.hold.begun)
    (sp : (t : History) (given : List ℕ) (number : ℕ → ℕ) (started : History) → Related b k.ghosts.plan t given number → Tracked b k.ghosts.plan t number started → (x : ℕ) → Kept (at_rest c) n.ghosts.plan x → Spared started (number x)) where
  -- what is known of the box at rest
  resting : (at_rest c).collector.phase ≡ 0
  unfolding at_rest
  resting = refl

  m_same : (at_rest c).m ≡ m
  unfolding at_rest
  m_same = s.m_same ∙ k.m_is

  h_same : (at_rest c).h ≡ h
  unfolding at_rest
  h_same = s.h_same ∙ k.h_is

  related : Related (at_rest c) n.ghosts.plan t l.given k.number
  related = related_calm b (at_rest c) k.ghosts.plan n.ghosts.plan t l.given k.number n.calm (h_same ∙ sym k.h_is) k.related

  -- the cycle that ends
  record Last : Type 0 where
    cycle : Cycle
    is : l.cycle ≡ some cycle
    known : UnderWay b k.ghosts t k.number cycle

  last : Last
  last = go k.cycling
    where
      go : Cycling b k.ghosts t k.number l.cycle → Last
      go (between p o) = absurd (d p)
      go (under_way p y o w) = record { cycle = y; is = o; known = w }

  -- with one step more
  abbrev full : Cycle
  full = record { started = last.cycle.started; first_top = last.cycle.first_top; steps = suc last.cycle.steps; quiet = last.cycle.quiet }

  now_full : cycle_step b t l.cycle ≡ some full
  unfolding cycle_step
  now_full = ap (cycle_step b t) last.is

  abbrev started : History
  started = last.cycle.started

  kept_spared : (x : ℕ) → Kept (at_rest c) n.ghosts.plan x → Spared started (k.number x)
  kept_spared = sp t l.given k.number started k.related last.known.tracked

  -- as it has ended
  abbrev ends : ℕ → Box → List ℕ → EndedCycle
  ends x e given = record { cycle = full; answer = x; box_then = e; given_then = given }

  -- the claims about the cycles that have ended, with this one
  ended_now : (x : ℕ) (e : Box) (given : List ℕ) (answered : List Answered) → ends_cycle x ≡ true → Swept (ends x e given)
      → Every (JustlyAnswered m h) answered → Every (AnsweredInTime m) answered → AnswersLogged answered (x ∷ l.step_answers)
      → Past m h (x ∷ l.step_answers) (end_log_cycle (cycle_step b t l.cycle) x e given l.ended) answered
  unfolding end_log_cycle
  ended_now x e given answered f w j i z =
      subst (λ (o : Option Cycle). Past m h (x ∷ l.step_answers) (end_log_cycle o x e given l.ended) answered) (sym now_full)
      (record { swept = (w, k.past.swept); justly = j; in_time = i; bounded = (took, k.past.bounded); ends_logged = rw f (ap (λ (xs : List ℕ). x ∷ xs) k.past.ends_logged); answers_logged = z })
    where
      took : EndedBounded (ends x e given)
      took q =
          let u : last.cycle.steps + left b k.ghosts ≤ 8 * last.cycle.first_top + 2 = last.known.bounded q in
          let v : 1 ≤ left b k.ghosts = left_positive b k.ghosts k.inv in
          omega arith

  -- what was unreachable is gone, in a box at rest whose kept tuples are spared
  swept_now : (a : ℕ) (e : Box) (g : Ghosts) (u : History) (given : List ℕ) (number : ℕ → ℕ) → Inv e g → Related e g.plan u given number
      → e.collector.phase ≡ 0 → made started ≤ made u → ((x : ℕ) → Kept e g.plan x → Spared started (number x))
      → Swept (ends a e given)
  swept_now a e g u given number v r p f q = record { dead_are_gone = λ i y z. gone_at_rest e g u given number started v r p f q i y.0 y.1 z }

  swept_rest : (x : ℕ) → Swept (ends x (at_rest c) l.given)
  swept_rest x = swept_now x (at_rest c) n.ghosts t l.given k.number n.inv related resting last.known.tracked.not_fewer kept_spared

  -- after an answer that ends the cycle and no hold
  rested : (x : ℕ) → ends_cycle x ≡ true → answers_hold x ≡ false → Waiting (at_rest c) n.ghosts t (wait_step l.pending)
      → Good m h (at_rest c) t (with_step_answers (x ∷ l.step_answers) (log_ended x b (at_rest c) t l))
  unfolding log_ended
  rested x f z w =
      record {
        m_is = m_same;
        h_is = h_same;
        ghosts = n.ghosts;
        inv = n.inv;
        number = k.number;
        related = related;
        eight = k.eight;
        cycling = between resting refl;
        waiting = w;
        past = ended_now x (at_rest c) l.given l.answered f (swept_rest x) k.past.justly k.past.in_time (rw z k.past.answers_logged);
      }

  -- ---- nothing held: 31

  pub good_free : c.hold.held ≡ false → Good m h (at_rest c) t (with_step_answers (31 ∷ l.step_answers) (log_ended 31 b (at_rest c) t l))
  unfolding at_rest wait_step
  good_free p = rested 31 refl refl (go k.waiting)
    where
      go : Waiting b k.ghosts t l.pending → Waiting (at_rest c) n.ghosts t (wait_step l.pending)
      go (nothing_held q x o) = nothing_held p x (ap wait_step o)
      go (one_held q y x w o z) = absurd (true≢false (sym q ∙ sym s.held_same ∙ p))

  -- ---- the hold that there is

  record Holding : Type 0 where
    asked : Asked
    asked_is : t.hold ≡ some asked
    pending : Pending
    pending_is : l.pending ≡ some pending
    what : Held b k.ghosts t asked pending

  holding : c.hold.held ≡ true → Holding
  holding p = go k.waiting
    where
      go : Waiting b k.ghosts t l.pending → Holding
      go (nothing_held q x o) = absurd (true≢false (sym p ∙ s.held_same ∙ q))
      go (one_held q y x w o z) = record { asked = y; asked_is = x; pending = w; pending_is = o; what = z }

  -- with one step more
  abbrev waited : Holding → Pending
  waited y = record { asked = y.pending.asked; history_then = y.pending.history_then; steps = suc y.pending.steps }

  now_waited : (y : Holding) → wait_step l.pending ≡ some (waited y)
  unfolding wait_step
  now_waited y = ap wait_step y.pending_is

  -- the answers, with this one
  answer_with : (x : ℕ) (y : Holding) → answer_hold (wait_step l.pending) x l.answered ≡ record { hold = waited y; answer = x } ∷ l.answered
  unfolding answer_hold
  answer_with x y = ap (λ (o : Option Pending). answer_hold o x l.answered) (now_waited y)

  -- ---- it stays: 33

  pub good_held : c.hold.held ≡ true → c.hold.begun ≡ false → Good m h (at_rest c) t (with_step_answers (33 ∷ l.step_answers) (log_ended 33 b (at_rest c) t l))
  unfolding at_rest
  good_held p q = rested 33 refl refl (one_held p y.asked y.asked_is (waited y) (now_waited y) stays)
    where
      y : Holding
      y = holding p

      stays : Held (at_rest c) n.ghosts t y.asked (waited y)
      stays =
          let u : y.pending.steps + left b k.ghosts + (8 * b.m + 2) ≤ 16 * b.m + 4 = y.what.in_time_twice (sym a ∙ q) d in
          let v : 1 ≤ left b k.ghosts = left_positive b k.ghosts k.inv in
          let w : left (at_rest c) n.ghosts ≤ 8 * (at_rest c).m + 2 = left_bound_m (at_rest c) n.ghosts n.inv in
          let e : c.m ≡ b.m = s.m_same in
          record {
            register_is = y.what.register_is ∙ sym s.register_same;
            size_is = y.what.size_is ∙ sym s.size_same;
            tag_is = y.what.tag_is ∙ sym s.tag_same;
            asked_is = y.what.asked_is;
            history_is = y.what.history_is;
            in_time = omega arith;
            in_time_twice = λ x z. absurd (z refl);
          }

  -- ---- it is answered

  in_time_now : (x : ℕ) (y : Holding) → AnsweredInTime m (record { hold = waited y; answer = x })
  in_time_now x y =
      let u : y.pending.steps + left b k.ghosts ≤ 16 * b.m + 4 = y.what.in_time in
      let v : 1 ≤ left b k.ghosts = left_positive b k.ghosts k.inv in
      let e : b.m ≡ m = k.m_is in
      omega arith

  size_asked : (y : Holding) → (waited y).asked.size ≡ c.hold.size
  size_asked y = ap (λ (q : Asked). q.size) y.what.asked_is ∙ y.what.size_is ∙ sym s.size_same

  -- ---- it is dropped: 8

  pub good_dropped : c.hold.held ≡ true → c.hold.begun ≡ true
      → (c.free ≡ 0) ⊎ (c.m < c.top + c.hold.size + 1)
      → Good m h (unheld (at_rest c)) (with_hold none t) (with_step_answers (8 ∷ l.step_answers) (log_dropped b (unheld (at_rest c)) t l))
  unfolding log_dropped at_rest unheld
  good_dropped p q o =
      record {
        m_is = m_same;
        h_is = h_same;
        ghosts = n.ghosts;
        inv = invariant_unheld (at_rest c) n.ghosts n.inv;
        number = k.number;
        related = after;
        eight = k.eight;
        cycling = between refl refl;
        waiting = nothing_held refl refl refl;
        past = ended;
      }
    where
      y : Holding
      y = holding p

      after : Related (unheld (at_rest c)) n.ghosts.plan (with_hold none t) l.given k.number
      after = related_dropped (at_rest c) n.ghosts.plan t l.given k.number related

      -- the cycle began under the hold
      same : started ≡ t
      same = last.known.begun_then (sym s.held_same ∙ p) (sym a ∙ q)

      justly : JustlyAnswered m h (record { hold = waited y; answer = 8 })
      justly =
          subst (λ (x : ℕ). JustlyAnswered x h (record { hold = waited y; answer = 8 })) m_same
          (subst (λ (x : ℕ). JustlyAnswered (at_rest c).m x (record { hold = waited y; answer = 8 })) h_same
          (dropped_justly (at_rest c) n.ghosts t l.given k.number n.inv related resting (λ x z. subst (λ (u : History). Spared u (k.number x)) same (kept_spared x z)) c.hold.size o (waited y) y.what.history_is (size_asked y)))

      swept : Swept (ends 8 (unheld (at_rest c)) l.given)
      swept = swept_now 8 (unheld (at_rest c)) n.ghosts (with_hold none t) l.given k.number (invariant_unheld (at_rest c) n.ghosts n.inv) after refl last.known.tracked.not_fewer (λ x z. kept_spared x ((unheld_quiet (at_rest c) n.ghosts.plan).kept_to x z))

      answers : answer_hold (wait_step l.pending) 8 l.answered ≡ record { hold = waited y; answer = 8 } ∷ l.answered
      answers = answer_with 8 y

      ended : Past m h (8 ∷ l.step_answers) (end_log_cycle (cycle_step b t l.cycle) 8 (unheld (at_rest c)) l.given l.ended) (answer_hold (wait_step l.pending) 8 l.answered)
      ended =
          subst (λ (x : List Answered). Past m h (8 ∷ l.step_answers) (end_log_cycle (cycle_step b t l.cycle) 8 (unheld (at_rest c)) l.given l.ended) x) (sym answers)
          (ended_now 8 (unheld (at_rest c)) l.given (record {
            hold = waited y;
            answer = 8;
          } ∷ l.answered) refl swept (justly, k.past.justly) (in_time_now 8 y, k.past.in_time) (ap (λ (xs : List ℕ). 8 ∷ xs) k.past.answers_logged))

  -- ---- it is granted: 32

  -- what was asked, by the hold of the box
  abbrev wanted : Asked
  wanted = record { register = c.hold.register; size = c.hold.size; tag = c.hold.tag }

  asked_wanted : (y : Holding) → y.asked ≡ wanted
  asked_wanted y = λ i. record { register = (y.what.register_is ∙ sym s.register_same) i; size = (y.what.size_is ∙ sym s.size_same) i; tag = (y.what.tag_is ∙ sym s.tag_same) i }

  module _ (p : c.hold.held ≡ true) (fr : c.free ≢ 0) (fit : c.top + c.hold.size + 1 ≤ c.m) where
    y : Holding
    y = holding p

    good_register : (c.hold.register < register_count) × (c.hold.tag < half_word)
    unfolding at_rest
    good_register = n.inv.shape.held_register p

    abbrev made_box : Box
    made_box = new_tuple c.hold.register c.hold.size c.hold.tag (at_rest c)

    abbrev made_g : Ghosts
    made_g = made_ghosts n.ghosts c.free

    abbrev numbers : ℕ → ℕ
    numbers = renumbered k.number c.free (suc (made t))

    new : Made (at_rest c) n.ghosts.plan made_box made_g.plan c.hold.register c.hold.size c.hold.tag
    unfolding at_rest
    new = new_tuple_made (at_rest c) n.ghosts n.inv c.hold.register c.hold.size c.hold.tag good_register.0 fr fit good_register.1

    made_inv : Inv made_box made_g
    unfolding at_rest
    made_inv = invariant_new_tuple (at_rest c) n.ghosts n.inv c.hold.register c.hold.size c.hold.tag good_register.0 fr fit good_register.1

    fields : New (at_rest c) made_box c.hold.register c.hold.size c.hold.tag
    unfolding at_rest
    fields = new_box (at_rest c) n.inv.shape c.hold.register c.hold.size c.hold.tag good_register.0 (free_bounds (at_rest c) n.ghosts n.inv fr).1 fit

    after : Related (unheld made_box) made_g.plan (grant (some wanted) t) (l.given ++ c.free ∷ []) numbers
    unfolding at_rest
    after = related_granted (at_rest c) n.ghosts.plan made_box made_g.plan wanted t l.given k.number new n.inv.contents related k.eight good_register.0

    -- what is kept now was kept, or is the new tuple
    still_spared : (x : ℕ) → Kept (unheld made_box) made_g.plan x → Spared started (numbers x)
    unfolding at_rest
    still_spared x z = go (ℕ_discrete x c.free) (new.kept_to x ((unheld_quiet made_box made_g.plan).kept_to x z))
      where
        go : Dec (x ≡ c.free) → Kept (at_rest c) n.ghosts.plan x ⊎ (x ≡ c.free) → Spared started (numbers x)
        go (yes e) w = let u : made started ≤ made t = last.known.tracked.not_fewer in subst (λ (i : ℕ). Spared started i) (sym (renumbered_same k.number c.free (suc (made t)) x e)) (made_since (omega arith))
        go (no e) (inl w) = subst (λ (i : ℕ). Spared started i) (sym (renumbered_other k.number c.free (suc (made t)) x e)) (kept_spared x w)
        go (no e) (inr w) = absurd (e w)

    justly : JustlyAnswered m h (record { hold = waited y; answer = 32 })
    unfolding at_rest
    justly =
        subst (λ (x : ℕ). JustlyAnswered x h (record { hold = waited y; answer = 32 })) m_same
        (subst (λ (x : ℕ). JustlyAnswered (at_rest c).m x (record { hold = waited y; answer = 32 })) h_same
        (granted_justly (at_rest c) n.ghosts t l.given k.number n.inv related resting c.hold.size fr fit (waited y) y.what.history_is (size_asked y)))

    -- the handle that the log notes
    noted : given_held l.pending (unheld made_box) l.given ≡ l.given ++ c.free ∷ []
    unfolding given_held unheld at_rest
    noted =
        ap (λ (o : Option Pending). given_held o (unheld made_box) l.given) y.pending_is
        ∙ ap (λ (q : Asked). l.given ++ handle_of (register q.register made_box) ∷ []) (y.what.asked_is ∙ asked_wanted y)
        ∙ ap (λ (x : ℕ). l.given ++ x ∷ []) new.made_handle

    abbrev given_now : List ℕ
    given_now = given_held l.pending (unheld made_box) l.given

    after_noted : Related (unheld made_box) made_g.plan (grant (some wanted) t) given_now numbers
    after_noted = subst (λ (x : List ℕ). Related (unheld made_box) made_g.plan (grant (some wanted) t) x numbers) (sym noted) after

    rest_phase : (unheld made_box).collector.phase ≡ 0
    unfolding unheld
    rest_phase = fields.phase_same ∙ resting

    more_made : made started ≤ made (grant (some wanted) t)
    unfolding grant
    more_made =
        let u : made started ≤ made t = last.known.tracked.not_fewer in
        let q : made (make wanted.register wanted.size wanted.tag t) ≡ suc (made t) = made_make wanted.register wanted.size wanted.tag t in
        omega arith

    ended_granted : Past m h (32 ∷ l.step_answers) (end_log_cycle (cycle_step b t l.cycle) 32 (unheld made_box) given_now l.ended) (answer_hold (wait_step l.pending) 32 l.answered)
    ended_granted =
        subst (λ (x : List Answered). Past m h (32 ∷ l.step_answers) (end_log_cycle (cycle_step b t l.cycle) 32 (unheld made_box) given_now l.ended) x) (sym (answer_with 32 y))
        (ended_now 32 (unheld made_box) given_now (record { hold = waited y; answer = 32 } ∷ l.answered) refl
        (swept_now 32 (unheld made_box) made_g (grant (some wanted) t) given_now numbers (invariant_unheld made_box made_g made_inv) after_noted rest_phase more_made still_spared)
        (justly, k.past.justly) (in_time_now 32 y, k.past.in_time)
        (ap (λ (xs : List ℕ). 32 ∷ xs) k.past.answers_logged))

    good_wanted : Good m h (unheld made_box) (grant (some wanted) t) (with_step_answers (32 ∷ l.step_answers) (log_granted b (unheld made_box) t l))
    unfolding log_granted unheld grant
    good_wanted =
        record {
          m_is = fields.m_same ∙ m_same;
          h_is = fields.h_same ∙ h_same;
          ghosts = made_g;
          inv = invariant_unheld made_box made_g made_inv;
          number = numbers;
          related = after_noted;
          eight = registers_grant (some wanted) t ∙ k.eight;
          cycling = between rest_phase refl;
          waiting = nothing_held refl refl refl;
          past = ended_granted;
        }

    pub good_granted : Good m h (granted (at_rest c)) (grant t.hold t) (with_step_answers (32 ∷ l.step_answers) (log_granted b (granted (at_rest c)) t l))
    unfolding granted at_rest
    good_granted = subst (λ (o : Option Asked). Good m h (unheld made_box) (grant o t) (with_step_answers (32 ∷ l.step_answers) (log_granted b (unheld made_box) t l))) (sym (y.asked_is ∙ ap some (asked_wanted y))) good_wanted
