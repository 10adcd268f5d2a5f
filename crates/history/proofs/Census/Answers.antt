-- A held request is answered justly: granted where the tuples reachable as it was put on hold and the one asked for fit, and
-- dropped where they don't. The history machine does not change while a request is held, so reachable then is reachable now. What
-- is reachable is in the directory, so room in the box means that it fits; and after a cycle begun under the hold the directory has
-- the reachable tuples only, so no room means that it does not. Assumes nothing.
use Prim.Native.Nat.{ℕ, ◌+◌, ◌≤◌, ◌<◌}
use mathlib.Core.List.{List}
use mathlib.Core.Logic.{◌≢◌, ◌⊎◌}
use mathlib.Core.Path.{◌≡◌, refl, sym, subst}
use native.Mathlib.Omega.{arith}
use Rattle.rules.specs.Parts.{Box}
use Rattle.history.specs.Machine.{History, made}
use Rattle.history.specs.Agreement.{Reachable, Member, Lists, Fits}
use Rattle.history.specs.Calls.{Pending}
use Rattle.history.specs.Demand3.{JustlyAnswered}
use Rattle.history.proofs.Invariant.Statement.{Ghosts, Inv, Kept, unswept}
use Rattle.history.proofs.Census.Reach.{reachable_list}
use Rattle.history.proofs.Relation.Statement.{Related, Keeps, reached}
use Rattle.history.proofs.Spared.Tracked.{Spared, reachable_then, made_since}
use Rattle.history.proofs.Census.Directory.{alive, numbers_of, fits_if_room, no_fit}

module _ (b : Box) (g : Ghosts) (m : History) (given : List ℕ) (number : ℕ → ℕ) (v : Inv b g) (s : Related b g.plan m given number) where
  -- a reachable tuple was made
  pub reachable-made : (i : ℕ) → Reachable m i → (1 ≤ i) × (i ≤ made m)
  reachable-made i x =
      let k : Keeps b g.plan number i = reached b g.plan m given number s v.contents i x in
      subst (λ (y : ℕ). (1 ≤ y) × (y ≤ made m)) k.numbered (s.kept_hold k.handle k.kept).number_made

  module _ (e : b.collector.phase ≡ 0) where
    pub granted_justly : (n : ℕ) → b.free ≢ 0 → b.top + n + 1 ≤ b.m → (w : Pending) → w.history_then ≡ m
        → w.asked.size ≡ n → JustlyAnswered b.m b.h (record { hold = w; answer = 32 })
    granted_justly n f t w q r =
        let is : (ys : List ℕ) × Lists (Reachable m) ys = reachable_list m reachable-made in
        let y : Fits b.m b.h is.0 n m = fits_if_room b g m given number v s e is.0 is.1 n f t in
        let z : Fits b.m b.h is.0 w.asked.size w.history_then = subst (λ (x : History). Fits b.m b.h is.0 w.asked.size x) (sym q) (subst (λ (x : ℕ). Fits b.m b.h is.0 x m) (sym r) y) in
        record {
          reachable_then = is.0;
          are_reachable = subst (λ (x : History). Lists (Reachable x) is.0) (sym q) is.1;
          dropped = (λ a. absurd (omega arith), λ a. absurd (a z));
          granted = (λ a. z, λ a. refl);
        }

    -- the cycle began under the hold: what is kept was reachable then, so is now
    only-reachable : ((h : ℕ) → Kept b g.plan h → Spared m (number h)) → (i : ℕ) → Member i (alive b g m given number v s e) → Reachable m i
    unfolding alive
    only-reachable f i x =
        let r = numbers_of number g.plan.ahead i x in
        let k : Kept b g.plan r.0 = unswept r.1 (omega arith) in
        let u : number r.0 ≤ made m = (s.kept_hold r.0 k).number_made.1 in
        subst (λ (y : ℕ). Reachable m y) r.2 (go (number r.0) u (f r.0 k))
      where
        go : (j : ℕ) → j ≤ made m → Spared m j → Reachable m j
        go j u (reachable_then y) = y
        go j u (made_since y) = absurd (omega arith)

    pub dropped_justly : ((h : ℕ) → Kept b g.plan h → Spared m (number h)) → (n : ℕ)
        → (b.free ≡ 0) ⊎ (b.m < b.top + n + 1) → (w : Pending) → w.history_then ≡ m → w.asked.size ≡ n
        → JustlyAnswered b.m b.h (record { hold = w; answer = 8 })
    dropped_justly f n o w q r =
        let is : (ys : List ℕ) × Lists (Reachable m) ys = reachable_list m reachable-made in
        let y : ¬ Fits b.m b.h is.0 n m = no_fit b g m given number v s e is.0 is.1 (only-reachable f) n o in
        let z : ¬ Fits b.m b.h is.0 w.asked.size w.history_then = subst (λ (x : History). ¬ Fits b.m b.h is.0 w.asked.size x) (sym q) (subst (λ (x : ℕ). ¬ Fits b.m b.h is.0 x m) (sym r) y) in
        record {
          reachable_then = is.0;
          are_reachable = subst (λ (x : History). Lists (Reachable x) is.0) (sym q) is.1;
          dropped = (λ a. z, λ a. refl);
          granted = (λ a. absurd (omega arith), λ a. absurd (z a));
        }
