-- Demand 3 of lists of C calls. The world that a caller follows is the world of a list of calls of crates/history, played from what the last
-- opening that answered 0 found; so `demand3` speaks of it. Assumes nothing.
use Prim.Native.Nat.{ℕ, zero, suc}
use mathlib.Core.List.{List, [], ◌∷◌, ◌++◌}
use mathlib.Core.Logic.{◌≢◌, ◌⊎◌, inl, inr}
use mathlib.Core.Option.{Option, none, some}
use mathlib.Core.Path.{◌≡◌, refl, sym, ◌∙◌, ap, subst}
use native.Mathlib.Omega.{arith}
use lib.Dec.{eqb-suc-zero}
use Rattle.rules.specs.declared.kinds.Request.{Request}
use Rattle.rules.specs.Parts.{Box}
use Rattle.rules.specs.Box.{Reply, reply}
use Rattle.rules.specs.Request.{request}
use Rattle.rules.specs.Collector.{step}
use Rattle.rules.specs.Run.{Ran, run}
use Rattle.rules.specs.Open.{opened, opening}
use Rattle.rules.proofs.Demand1.{demand1}
use Rattle.record.specs.Requests.{request_of}
use Rattle.capi.specs.Calls.{c_asked, c_request, c_run}
use Rattle.capi.specs.Promises.{Lent, box_of}
use Rattle.history.specs.Machine.{Call, ask, single_step, run_for}
use Rattle.history.specs.Calls.{World, start, after_request, after_step, after_run, play_call, play, RequestInWidth, CallInWidth, CallsInWidth}
use Rattle.history.specs.Demand3.{IfThere, Demand3}
use Rattle.history.proofs.Theorem.{demand3}
use Rattle.callers.specs.CCalls.{holding, CCall, gloamish_open, gloamish_request, gloamish_step, gloamish_run, InWidth, Promised}
use Rattle.callers.specs.Followed.{Seen, Trace, last_parts, AllInWidth, Followed, with_world, started, follow_open, follow_request, ran_by, follow_call, follow}
use Rattle.callers.specs.CDemand3.{CDemand3, CDemand3Claim}
use Rattle.callers.proofs.Widths.{asked_in_width}
use Rattle.callers.proofs.Runs.{run_back}

-- ---- a list of calls, and one more at its end

play_last : (cs : List Call) (c : Call) (w : World) → play (cs ++ c ∷ []) w ≡ play_call c (play cs w)
unfolding play
play_last [] c w = refl
play_last (d ∷ cs) c w = play_last cs c (play_call d w)

width_last : (cs : List Call) (c : Call) → CallsInWidth cs → CallInWidth c → CallsInWidth (cs ++ c ∷ [])
width_last [] c us u = (u, tt)
width_last (d ∷ cs) c us u = (us.0, width_last cs c us.1 u)

-- ---- what goes through a list of C calls

-- the lent parts are p, and f is what was followed
record Played (p : Lent) (f : Followed) : Type 0 where
  -- the box that the last opening that answered 0 found
  found : Box
  opens : (opening f.m f.h found).answer ≡ 0
  -- the calls since then
  calls : List Call
  in_width : CallsInWidth calls
  plays : f.world ≡ play calls (start (opening f.m f.h found).box)
  box_is : f.world.box ≡ box_of p

-- nothing was called: the parts make the same box
unchanged : (p q : Lent) (f : Followed) → Played p f → box_of q ≡ box_of p → Played q f
unchanged p q f k e =
    record {
      found = k.found;
      opens = k.opens;
      calls = k.calls;
      in_width = k.in_width;
      plays = k.plays;
      box_is = k.box_is ∙ sym e;
    }

-- one call more
one_more : (p q : Lent) (f : Followed) → Played p f → (c : Call) → CallInWidth c → (w : World) → w ≡ play_call c f.world → w.box ≡ box_of q → Played q (with_world w f)
one_more p q f k c u w e b =
    record {
      found = k.found;
      opens = k.opens;
      calls = k.calls ++ c ∷ [];
      in_width = width_last k.calls c k.in_width u;
      plays = e ∙ ap (play_call c) k.plays ∙ sym (play_last k.calls c (start (opening f.m f.h k.found).box));
      box_is = b;
    }

-- ---- an opening

opened_anew : (m h : ℕ) (p q : Lent) → reply (box_of q) 0 ≡ opening m h (box_of p) → Played q (started m h (box_of q))
unfolding started play
opened_anew m h p q e =
    record {
      found = box_of p;
      opens = sym (ap (λ (r : Reply). r.answer) e);
      calls = [];
      in_width = tt;
      plays = ap (λ (r : Reply). start r.box) e;
      box_is = refl;
    }

-- one that is refused answers 10, and leaves the box as found
refused : (m h : ℕ) (b : Box) → (opening m h b).answer ≢ 0 → (opening m h b).box ≡ b
refused m h b n = go ((demand1 b).opening_answers m h)
  where
    go : ((opening m h b).answer ≡ 0) ⊎ ((opening m h b).answer ≡ 10) → (opening m h b).box ≡ b
    go (inl e) = absurd (n e)
    go (inr e) = (demand1 b).opening_refused m h e

-- and what was followed as it was
stays : (m h r : ℕ) (b : Box) (f : Followed) → follow_open m h (reply b (suc r)) f ≡ f
unfolding follow_open
stays m h r b f = search (eqb-suc-zero)

by_opening : (m h r : ℕ) (p q : Lent) (f : Followed) → Played p f → reply (box_of q) r ≡ opening m h (box_of p) → Played q (follow_open m h (reply (box_of q) r) f)
unfolding follow_open
by_opening m h zero p q f k e = opened_anew m h p q e
by_opening m h (suc r) p q f k e =
    let a : suc r ≡ (opening m h (box_of p)).answer = ap (λ (x : Reply). x.answer) e in
    let n : (opening m h (box_of p)).answer ≢ 0 = omega arith in
    subst (Played q) (sym (stays m h r (box_of q) f)) (unchanged p q f k (ap (λ (x : Reply). x.box) e ∙ refused m h (box_of p) n))

-- ---- a request, a step and a run

by_request : (o : Option Request) (r : ℕ) (p q : Lent) (f : Followed) → Played p f → IfThere RequestInWidth o → reply (box_of q) r ≡ c_asked o (box_of p) → Played q (with_world (follow_request o (reply (box_of q) r) f.world) f)
unfolding c_asked follow_request after_request play_call
by_request none r p q f k u e = unchanged p q f k (ap (λ (x : Reply). x.box) e)
by_request (some a) r p q f k u e = one_more p q f k (ask a) u (after_request a (reply (box_of q) r) f.world) (ap (λ (x : Reply). after_request a x f.world) (e ∙ ap (request a) (sym k.box_is))) refl

by_step : (r : ℕ) (p q : Lent) (f : Followed) → Played p f → reply (box_of q) r ≡ step (box_of p) → Played q (with_world (after_step (reply (box_of q) r) f.world) f)
unfolding after_step play_call
by_step r p q f k e = one_more p q f k single_step tt (after_step (reply (box_of q) r) f.world) (ap (λ (x : Reply). after_step x f.world) (e ∙ ap step (sym k.box_is))) refl

by_run : (budget r : ℕ) (p q : Lent) (f : Followed) → Played p f → CallInWidth (run_for budget) → reply (box_of q) r ≡ c_run budget (box_of p) → Played q (with_world (after_run budget (ran_by (reply (box_of q) r)) f.world) f)
unfolding after_run play_call
by_run budget r p q f k u e = one_more p q f k (run_for budget) u (after_run budget (ran_by (reply (box_of q) r)) f.world) (ap (λ (x : Ran). after_run budget x f.world) same) refl
  where
    same : ran_by (reply (box_of q) r) ≡ run budget f.world.box
    same = ap ran_by e ∙ run_back budget (box_of p) ∙ ap (run budget) (sym k.box_is)

-- ---- any C call, and a list of them

-- the hold is as it was, so the box with the hold at entry is the box of the parts at exit
with_hold : (p q : Lent) (r : ℕ) (x : Reply) → (reply (box_of (holding p.hold q)) r ≡ x) × (q.hold ≡ p.hold) → reply (box_of q) r ≡ x
with_hold p q r x e = ap (λ (hold : List ℕ). reply (box_of (holding hold q)) r) e.1 ∙ e.0

by_call : (c : CCall) (r : ℕ) (p q : Lent) (f : Followed) → Played p f → InWidth c → Promised c p q r → Played q (follow_call c (reply (box_of q) r) f)
unfolding follow_call c_request
by_call (gloamish_open m h) r p q f k u e = by_opening m h r p q f k e
by_call (gloamish_request kind a b c) r p q f k u e = by_request (request_of kind a b c) r p q f k (asked_in_width kind a b c u.2) e
by_call gloamish_step r p q f k u e = by_step r p q f k (with_hold p q r (step (box_of p)) e)
by_call (gloamish_run budget) r p q f k u e = by_run budget r p q f k u (with_hold p q r (c_run budget (box_of p)) e)

by_calls : (ss : List Seen) (p : Lent) (f : Followed) → Played p f → Trace p ss → AllInWidth ss → Played (last_parts p ss) (follow ss f)
unfolding follow
by_calls [] p f k e u = k
by_calls (s ∷ ss) p f k e u = by_calls ss s.parts (follow_call s.call (reply (box_of s.parts) s.returned) f) (by_call s.call s.returned p s.parts f k u.0 e.0) e.1 u.1

-- ---- the theorem

claimed : (p : Lent) (f : Followed) → Played p f → CDemand3 f p
claimed p f k =
    record {
      demand = subst (Demand3 f.m f.h) (sym k.plays) (demand3 f.m f.h k.found k.opens k.calls k.in_width);
      box_is = k.box_is;
    }

pub c_demand3 : CDemand3Claim
c_demand3 m h before opened rest e u = claimed (last_parts opened rest) (follow rest (started m h (box_of opened))) (by_calls rest opened (started m h (box_of opened)) (opened_anew m h before opened e.0) e.1 u.1)
