-- A request in the middle of a cycle leaves what the cycle may keep as it is, in the box and in the history machine: it marks only
-- what a register names or a tuple that it makes. Assumes nothing.
use Prim.Native.Nat.{ℕ, suc, ◌+◌, ◌≤◌, ◌<◌}
use mathlib.Core.Bool.{true}
use mathlib.Core.List.{[], ◌∷◌}
use mathlib.Core.Logic.{◌≢◌, ◌⊎◌, inl, inr}
use mathlib.Core.Path.{◌≡◌, sym, ◌∙◌, subst}
use native.Mathlib.Decide.{ℕ_discrete}
use native.Mathlib.Omega.{arith}
use Rattle.rules.specs.Limits.{register_count}
use Rattle.rules.specs.Parts.{Box}
use Rattle.rules.specs.Box.{marked}
use Rattle.rules.specs.Request.{new_tuple}
use Rattle.history.specs.Machine.{History, made, make}
use Rattle.history.specs.Agreement.{Member}
use Rattle.history.specs.Calls.{In16}
use Rattle.history.proofs.Invariant.Statement.{Plan, Ghosts, Inv, Kept}
use Rattle.history.proofs.Lists.Handles.{member_cases}
use Rattle.history.proofs.Asking.InRange.{free_bounds}
use Rattle.history.proofs.Asking.NewTuple.{New, new_box, Made, made_plan, new_tuple_made}
use Rattle.history.proofs.Relation.NewTuple.{renumbered, renumbered_same, renumbered_other}
use Rattle.history.proofs.Spared.Tracked.{Spared, made_since, Tracked}
use Rattle.history.proofs.Spared.History.{SparedIn, spared_make}

pub tracked_in : (b : Box) (p : Plan) (m : History) (number : ℕ → ℕ) (started : History) → Tracked b p m number started → SparedIn m started
tracked_in b p m number started t = record { not_fewer = t.not_fewer; roots_spared = t.roots_spared; words_spared = t.words_spared }

-- what a request shows of the box, where the plan and the numbers stay
pub record Unmarking (b : Box) (p : Plan) (c : Box) (number : ℕ → ℕ) (started : History) : Type 0 where
  pub phase_same : c.collector.phase ≡ b.collector.phase
  pub tuple_same : c.collector.tuple ≡ b.collector.tuple
  pub marked_from : (h : ℕ) → marked h c ≡ true → (marked h b ≡ true) ⊎ Spared started (number h)
  pub kept_to : (h : ℕ) → Kept c p h → Kept b p h

pub tracked_asked : (b : Box) (p : Plan) (c : Box) (m n : History) (number : ℕ → ℕ) (started : History) → Unmarking b p c number started
    → SparedIn n started → Tracked b p m number started → Tracked c p n number started
tracked_asked b p c m n number started u s t =
    record {
      not_fewer = s.not_fewer;
      roots_spared = s.roots_spared;
      words_spared = s.words_spared;
      marked_spared = λ l h x k. go h l x (u.marked_from h k);
      adding_spared = λ e. subst (λ (y : ℕ). Spared started (number y)) (sym u.tuple_same) (t.adding_spared (sym u.phase_same ∙ e));
      kept_spared = λ l h k. t.kept_spared (subst (λ (y : ℕ). 4 ≤ y) u.phase_same l) h (u.kept_to h k);
    }
  where
    go : (h : ℕ) → c.collector.phase ≤ 3 → Member h p.ahead → (marked h b ≡ true) ⊎ Spared started (number h) → Spared started (number h)
    go h l x (inl k) = t.marked_spared (subst (λ (y : ℕ). y ≤ 3) u.phase_same l) h x k
    go h l x (inr y) = y

-- a new tuple
module _ (b : Box) (g : Ghosts) (v : Inv b g) (r n tag : ℕ) (lr : r < register_count) (fr : b.free ≢ 0) (fit : b.top + n + 1 ≤ b.m) (tg : In16 tag) (m : History) (number : ℕ → ℕ) (started : History) (t : Tracked b g.plan m number started) where
  abbrev box : Box
  box = new_tuple r n tag b

  abbrev numbers : ℕ → ℕ
  numbers = renumbered number b.free (suc (made m))

  what : New b box r n tag
  what = new_box b v.shape r n tag lr (free_bounds b g v fr).1 fit

  changed : Made b g.plan box (made_plan g.plan b.free) r n tag
  changed = new_tuple_made b g v r n tag lr fr fit tg

  -- the new one is spared, and an old one where it was
  spared_new : (h : ℕ) → (h ≢ b.free → Spared started (number h)) → Spared started (numbers h)
  spared_new h f = go (ℕ_discrete h b.free)
    where
      go : Dec (h ≡ b.free) → Spared started (numbers h)
      go (yes e) = let u : made started ≤ made m = t.not_fewer in subst (λ (y : ℕ). Spared started y) (sym (renumbered_same number b.free (suc (made m)) h e)) (made_since (omega arith))
      go (no e) = subst (λ (y : ℕ). Spared started y) (sym (renumbered_other number b.free (suc (made m)) h e)) (f e)

  pub tracked_made : Tracked box (made_plan g.plan b.free) (make r n tag m) numbers started
  tracked_made =
      let s : SparedIn (make r n tag m) started = spared_make m started (tracked_in b g.plan m number started t) r n tag in
      record {
        not_fewer = s.not_fewer;
        roots_spared = s.roots_spared;
        words_spared = s.words_spared;
        marked_spared = marks;
        adding_spared = adding;
        kept_spared = keeps;
      }
    where
      marks : box.collector.phase ≤ 3 → (h : ℕ) → Member h (made_plan g.plan b.free).ahead → marked h box ≡ true → Spared started (numbers h)
      marks l h x k = spared_new h (λ e. t.marked_spared (subst (λ (y : ℕ). y ≤ 3) what.phase_same l) h (old e (member_cases h g.plan.ahead (b.free ∷ []) x)) (sym (what.mark_other h e) ∙ k))
        where
          old : h ≢ b.free → Member h g.plan.ahead ⊎ Member h (b.free ∷ []) → Member h g.plan.ahead
          old e (inl y) = y
          old e (inr (inl y)) = absurd (e y)
          old e (inr (inr y)) = absurd y

      adding : box.collector.phase ≡ 3 → Spared started (numbers box.collector.tuple)
      adding e = spared_new box.collector.tuple (λ d. subst (λ (y : ℕ). Spared started (number y)) (sym what.tuple_same) (t.adding_spared (sym what.phase_same ∙ e)))

      keeps : 4 ≤ box.collector.phase → (h : ℕ) → Kept box (made_plan g.plan b.free) h → Spared started (numbers h)
      keeps l h k = spared_new h (λ e. old e (changed.kept_to h k))
        where
          old : h ≢ b.free → Kept b g.plan h ⊎ (h ≡ b.free) → Spared started (number h)
          old e (inl y) = t.kept_spared (subst (λ (y : ℕ). 4 ≤ y) what.phase_same l) h y
          old e (inr y) = absurd (e y)
