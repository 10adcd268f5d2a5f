-- Demand 3: after an opening that answered 0 and any list of calls, all seven parts hold. What holds after any list of calls
-- (`Good`) holds after the opening and is kept by each call; the seven parts are read off it. Assumes nothing.
use Prim.Native.Nat.{ℕ, ◌+◌, ◌*◌, ◌≤◌, ◌<◌}
use mathlib.Core.Bool.{false, true≢false}
use mathlib.Core.List.{List, [], ◌∷◌}
use mathlib.Core.Logic.{inl, inr}
use mathlib.Core.Option.{some}
use mathlib.Core.Path.{◌≡◌, refl, sym, ◌∙◌, ap, subst}
use native.Mathlib.Omega.{arith}
use lib.ListN.{get_or-replicate}
use Rattle.rules.specs.Limits.{register_count}
use Rattle.rules.specs.Parts.{Word, Box}
use Rattle.rules.specs.Box.{Reply, data_word, register}
use Rattle.rules.specs.Request.{request}
use Rattle.rules.specs.Collector.{step}
use Rattle.rules.specs.Run.{run}
use Rattle.rules.specs.Open.{opened, opening}
use Rattle.history.specs.Machine.{HWord, fresh, datum, register_of, Call, ask, single_step, run_for, feed}
use Rattle.history.specs.Calls.{empty_log, World, start, log_step, after_request, after_step, after_run, play_call, play, CallInWidth, CallsInWidth}
use Rattle.history.specs.Demand3.{Every, IfThere, IsThere, NotNine, PendingInTime, InTime, UnderWayBounded, CycleLogged, held_in, HeldAlike, HoldLogged, Demand3, Demand3Claim}
use Rattle.history.proofs.Invariant.Statement.{Inv}
use Rattle.history.proofs.Invariant.Resting.{resting, resting_plan, none_kept}
use Rattle.history.proofs.Left.Bounds.{left_positive}
use Rattle.history.proofs.Left.Count.{left}
use Rattle.history.proofs.Asking.Opening.{handles_below}
use Rattle.history.proofs.Relation.Statement.{Match, Related, agree}
use Rattle.history.proofs.Relation.Hold.{registers_fresh}
use Rattle.history.proofs.Census.Directory.{reachable_not_gone, rest_sum}
use Rattle.history.proofs.Invariant.Theorems.{opened_by, invariant_open, words_above_top}
use Rattle.history.proofs.Good.Statement.{Cycling, between, under_way, Waiting, nothing_held, one_held, Good}
use Rattle.history.proofs.Good.Requests.{GoodReply, good_request}
use Rattle.history.proofs.Good.Steps as steps
use Rattle.history.proofs.Good.Steps.{After, GoodRun, good_run}

-- ---- the opening

opened_related : (m h : ℕ) (free : List ℕ) → Related (opened m h) (resting_plan []) fresh [] (λ x. 0)
unfolding opened fresh
opened_related m h free =
    record {
      roots_match = roots;
      kept_hold = λ x k. absurd (none_kept (opened m h) x k);
      nil_number = refl;
      all_given = refl;
      given_entry = λ i l u. absurd (omega arith);
      number_latest = λ i l u. absurd (omega arith);
    }
  where
    roots : (r : ℕ) → r < register_count → Match (λ x. 0) (register r (opened m h)) (register_of r fresh)
    roots r l = subst (λ (v : HWord). Match (λ x. 0) (register r (opened m h)) v) (sym (get_or-replicate register_count r (datum 0) (datum 0) l)) (subst (λ (w : Word). Match (λ x. 0) w (datum 0)) (sym zero_then) (refl, refl))
      where
        zero_then : register r (opened m h) ≡ data_word 0
        zero_then = λ j. record { bits = get_or-replicate register_count r 0 0 l j; flag = get_or-replicate register_count r false false l j }

opened_good : (m h : ℕ) → Inv (opened m h) (resting [] (handles_below h)) → Good m h (opened m h) fresh empty_log
unfolding opened fresh
opened_good m h v =
    record {
      m_is = refl;
      h_is = refl;
      ghosts = resting [] (handles_below h);
      inv = v;
      number = λ x. 0;
      related = opened_related m h (handles_below h);
      eight = registers_fresh;
      cycling = between refl refl;
      waiting = nothing_held refl refl refl;
      past = record { swept = tt; justly = tt; in_time = tt; bounded = tt; ends_logged = refl; answers_logged = refl };
    }

pub good_open : (m h : ℕ) (b : Box) → (opening m h b).answer ≡ 0 → Good m h (opening m h b).box fresh empty_log
good_open m h b e = subst (λ (r : Reply). Good m h r.box fresh empty_log) (sym (opened_by m h b e).1) start_good
  where
    inv_opened : Inv (opened m h) (resting [] (handles_below h))
    inv_opened = subst (λ (r : Reply). Inv r.box (resting [] (handles_below h))) (opened_by m h b e).1 (invariant_open m h b e)

    start_good : Good m h (opened m h) fresh empty_log
    start_good = opened_good m h inv_opened

-- ---- a call

-- all of it, and no answer was 9
pub record GoodWorld (m h : ℕ) (w : World) : Type 0 where
  pub good : Good m h w.box w.history w.log
  pub never_nine : Every NotNine w.answers

-- a single step
stepping : (m h : ℕ) (w : World) → GoodWorld m h w → After m h w.box w.history w.log (step w.box) → GoodWorld m h (after_step (step w.box) w)
unfolding after_step feed
stepping m h w k a = go a
  where
    by : (x : ℕ) → (step w.box).answer ≡ x → NotNine x
        → Good m h (step w.box).box (feed single_step x w.history) (log_step w.box (step w.box) w.history w.log)
        → GoodWorld m h (after_step (step w.box) w)
    by x e n g =
        record {
          good = subst (λ (y : ℕ). Good m h (step w.box).box (feed single_step y w.history) (log_step w.box (step w.box) w.history w.log)) (sym e) g;
          never_nine = (subst NotNine (sym e) n, k.never_nine);
        }

    go : After m h w.box w.history w.log (step w.box) → GoodWorld m h (after_step (step w.box) w)
    go (After.on (inl e) g) = by 30 e (omega arith) g
    go (After.on (inr e) g) = by 33 e (omega arith) g
    go (After.free e o g) = by 31 e (omega arith) g
    go (After.given e g) = by 32 e (omega arith) g
    go (After.dropped e g) = by 8 e (omega arith) g

good_call : (m h : ℕ) (w : World) → GoodWorld m h w → (c : Call) → CallInWidth c → GoodWorld m h (play_call c w)
unfolding play_call after_request after_step after_run
good_call m h w k (ask q) u =
    let g : GoodReply m h q (request q w.box) w.history w.log = good_request m h w.box w.history w.log k.good q u in
    record { good = g.good; never_nine = (g.not_nine, k.never_nine) }
good_call m h w k single_step u = stepping m h w k (steps.after_step m h w.box w.history w.log k.good)
good_call m h w k (run_for n) u =
    let g : GoodRun m h n w.box (run n w.box) w.history w.log = good_run m h n w.box w.history w.log k.good in
    record { good = g.good; never_nine = (g.not_nine, k.never_nine) }

pub good_play : (m h : ℕ) (calls : List Call) (w : World) → CallsInWidth calls → GoodWorld m h w → GoodWorld m h (play calls w)
unfolding play
good_play m h [] w u k = k
good_play m h (c ∷ cs) w u k = good_play m h cs (play_call c w) u.1 (good_call m h w k c u.0)

-- ---- the seven parts, and that the log misses nothing

in_time : (m h : ℕ) (w : World) → Good m h w.box w.history w.log → InTime m w
in_time m h w k = record { not_yet = go k.waiting; by_then = k.past.in_time }
  where
    go : Waiting w.box k.ghosts w.history w.log.pending → IfThere (PendingInTime m) w.log.pending
    go (nothing_held p x o) = subst (IfThere (PendingInTime m)) (sym o) tt
    go (one_held p q x y o z) =
        let u : y.steps + left w.box k.ghosts ≤ 16 * w.box.m + 4 = z.in_time in
        let v : 1 ≤ left w.box k.ghosts = left_positive w.box k.ghosts k.inv in
        let e : w.box.m ≡ m = k.m_is in
        let f : PendingInTime m y = omega arith in
        subst (IfThere (PendingInTime m)) (sym o) f

under_way_bounded : (m h : ℕ) (w : World) → Good m h w.box w.history w.log → IfThere UnderWayBounded w.log.cycle
under_way_bounded m h w k = go k.cycling
  where
    go : Cycling w.box k.ghosts w.history k.number w.log.cycle → IfThere UnderWayBounded w.log.cycle
    go (between p o) = subst (IfThere UnderWayBounded) (sym o) tt
    go (under_way p y o z) = subst (IfThere UnderWayBounded) (sym o) fewer
      where
        fewer : UnderWayBounded y
        fewer q =
            let u : y.steps + left w.box k.ghosts ≤ 8 * y.first_top + 2 = z.bounded q in
            let v : 1 ≤ left w.box k.ghosts = left_positive w.box k.ghosts k.inv in
            omega arith

cycle_logged : (m h : ℕ) (w : World) → Good m h w.box w.history w.log → CycleLogged w
cycle_logged m h w k = go k.cycling
  where
    go : Cycling w.box k.ghosts w.history k.number w.log.cycle → CycleLogged w
    go (between p o) = (λ x. absurd (subst IsThere o x), λ n. absurd (n p))
    go (under_way p y o z) = (λ x. p, λ n. subst IsThere (sym o) tt)

hold_logged : (m h : ℕ) (w : World) → Good m h w.box w.history w.log → HoldLogged w
hold_logged m h w k = go k.waiting
  where
    go : Waiting w.box k.ghosts w.history w.log.pending → HoldLogged w
    go (nothing_held p x o) =
        record {
          box_holds = (λ y. absurd (subst IsThere o y), λ e. absurd (true≢false (sym e ∙ p)));
          history_holds = (λ y. absurd (subst IsThere o y), λ y. absurd (subst IsThere x y));
          same_hold = subst (IfThere (HeldAlike w)) (sym o) tt;
        }
    go (one_held p q x y o z) =
        record {
          box_holds = (λ u. p, λ e. subst IsThere (sym o) tt);
          history_holds = (λ u. subst IsThere (sym x) tt, λ u. subst IsThere (sym o) tt);
          same_hold = subst (IfThere (HeldAlike w)) (sym o) (x ∙ ap some (sym z.asked_is), z.asked_is ∙ held);
        }
      where
        held : q ≡ held_in w.box
        held = λ i. record { register = z.register_is i; size = z.size_is i; tag = z.tag_is i }

seven_parts : (m h : ℕ) (w : World) → GoodWorld m h w → Demand3 m h w
seven_parts m h w k =
    record {
      agreement = agree w.box k.good.ghosts.plan w.history w.log.given k.good.number k.good.related k.good.inv.contents;
      never_nine = k.never_nine;
      dead_tuples_gone = k.good.past.swept;
      no_reachable_gone = λ i x. reachable_not_gone w.box k.good.ghosts w.history w.log.given k.good.number k.good.inv k.good.related i x;
      holds_justly_answered = k.good.past.justly;
      holds_in_time = in_time m h w k.good;
      rest_sum = rest_sum w k.good.ghosts k.good.number k.good.inv k.good.related;
      zero_above_top = λ a l. words_above_top w.box k.good.ghosts k.good.inv a (omega arith);
      cycles_bounded = k.good.past.bounded;
      cycle_under_way_bounded = under_way_bounded m h w k.good;
      log_complete = record { cycle_logged = cycle_logged m h w k.good; hold_logged = hold_logged m h w k.good; ends_logged = k.good.past.ends_logged; answers_logged = k.good.past.answers_logged };
    }

-- ---- the theorem

pub demand3 : Demand3Claim
demand3 m h b e calls u = seven_parts m h (play calls (start (opening m h b).box)) (good_play m h calls (start (opening m h b).box) u (record {
  good = good_open m h b e;
  never_nine = tt;
}))
