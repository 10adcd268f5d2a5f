-- A step that only goes through a tuple's words, by its cases; and what it comes to: a reply is the step's, or nothing was done. By computing the
-- definition under the facts of each case. Assumes nothing.
use Prim.Native.Nat.{ℕ, ◌+◌, ◌<◌, ◌≤◌}
use mathlib.Core.Bool.{Bool, true, false, cond}
use mathlib.Core.Logic.{◌≢◌}
use mathlib.Core.Path.{◌≡◌, refl, sym, ap, subst}
use native.Mathlib.Omega.{arith}
use lib.Dec.{eqb}
use borrow.Author.Tests.{lt-ltb, eq-eqb, ne_eqb, eqb-true}
use Rattle.std.specs.Prelude.{Option, None, Some, IfSome}
use Rattle.rules.specs.Parts.{Box}
use Rattle.rules.specs.Box.{Reply, reply, sound}
use Rattle.rules.specs.Collector.{scan_word, mark_scan, copy_word, sweep_read, sweep_clear, sweep_write, zero_word, sweep_zero, rule_of, step}
use Rattle.rules.proofs.Demand1.{step_between}
use Rattle.collector.proofs.Marking.{mark_scan_word}
use Rattle.collector.proofs.Moving.{read_word, zero_done}
use Rattle.phases.specs.Words.{at_word, word_step, or_none, word_reply}

-- ---- the rules at a word: x is what the method left of b

module _ (b x : Box) (i : b.collector.index ≤ b.collector.size) (l : b.collector.src + b.collector.index < b.m) where
  pub scan_at : x ≡ scan_word b → reply x 30 ≡ mark_scan b
  scan_at e = mark_scan_word b x i (lt-ltb _ _ l) e

  pub read_at : x ≡ copy_word (b.collector.src + b.collector.index) b → reply x 30 ≡ sweep_read b
  read_at e = read_word b x i (lt-ltb _ _ l) e

  pub zero_at : x ≡ zero_word b → reply x 30 ≡ sweep_zero b
  zero_at e = zero_done b x i (lt-ltb _ _ l) e

-- ---- the cases

module _ (b : Box) where
  pub words_7 : b.collector.phase ≡ 7 → word_step b ≡ Some (sweep_write b)
  unfolding word_step
  words_7 e = simp (eq-eqb b.collector.phase 7 e)

  pub words_6 : b.collector.phase ≡ 6 → word_step b ≡ Some (sweep_clear b)
  unfolding word_step
  words_6 e = simp e

  module _ (t : at_word b ≡ true) where
    pub words_5 : b.collector.phase ≡ 5 → word_step b ≡ Some (sweep_read b)
    unfolding word_step
    words_5 e = simp (e, t)

    pub words_2 : b.collector.phase ≡ 2 → word_step b ≡ Some (mark_scan b)
    unfolding word_step
    words_2 e = simp (e, t)

    pub words_8 : b.collector.phase ≡ 8 → word_step b ≡ Some (sweep_zero b)
    unfolding word_step
    words_8 e = simp (e, t)

  module _ (x : b.collector.phase ≢ 7) (y : b.collector.phase ≢ 6) where
    pub words_none : at_word b ≡ false → word_step b ≡ None
    unfolding word_step
    words_none t = simp (ne_eqb b.collector.phase 7 x, ne_eqb b.collector.phase 6 y, t)

    pub words_other : b.collector.phase ≢ 5 → b.collector.phase ≢ 2 → b.collector.phase ≢ 8 → word_step b ≡ None
    unfolding word_step
    words_other z w v = simp (ne_eqb b.collector.phase 7 x, ne_eqb b.collector.phase 6 y, ne_eqb b.collector.phase 5 z, ne_eqb b.collector.phase 2 w, ne_eqb b.collector.phase 8 v, either_none (at_word b))
      where
        either_none : (t : Bool) → ◌≡◌ {A = Option Reply} (cond t None None) None
        either_none true = refl
        either_none false = refl

-- ---- what it comes to

module _ (b : Box) where
  -- the phase's rule, or nothing
  Came : Option Reply → Type 0
  Came o = IfSome o (λ r. r ≡ rule_of b.collector.phase b)

  either : (t : Bool) (o p : Option Reply) → (t ≡ true → Came o) → (t ≡ false → Came p) → Came (cond t o p)
  either true o p x y = x refl
  either false o p x y = y refl

  picked : (k : ℕ) → eqb b.collector.phase k ≡ true → rule_of k b ≡ rule_of b.collector.phase b
  picked k e = sym (ap (λ (n : ℕ). rule_of n b) (eqb-true b.collector.phase k e))

  came : Came (word_step b)
  unfolding word_step rule_of Came
  came =
      either (eqb b.collector.phase 7) _ _ (λ e. picked 7 e) (λ x.
      either (eqb b.collector.phase 6) _ _ (λ e. picked 6 e) (λ y.
      either (at_word b) _ _ (λ t.
      either (eqb b.collector.phase 5) _ _ (λ e. picked 5 e) (λ z.
      either (eqb b.collector.phase 2) _ _ (λ e. picked 2 e) (λ w.
      either (eqb b.collector.phase 8) _ _ (λ e. picked 8 e) (λ v. tt))))
      (λ t. tt)))

  -- where there is a reply, it is the step's
  pub word_done : sound b ≡ true → (r : Reply) → word_step b ≡ Some r → r ≡ step b
  unfolding step Came
  word_done s r e = let q : r ≡ rule_of b.collector.phase b = subst Came e came in simp (s, q)

  -- as one reply, with 0 nothing was done
  pub word_left : sound b ≡ true → (x : Box) (a : ℕ) → reply x a ≡ word_reply b → a ≡ 0 → x ≡ b
  unfolding word_reply
  word_left s x a e z = go (word_step b) refl e
    where
      go : (o : Option Reply) → word_step b ≡ o → reply x a ≡ or_none b o → x ≡ b
      go None p q = ap (λ (r : Reply). r.box) q
      go (Some r) p q =
          let f : a ≡ r.answer = ap (λ (y : Reply). y.answer) q in
          let g : r.answer ≡ (step b).answer = ap (λ (y : Reply). y.answer) (word_done s r p) in
          absurd (omega (arith, (step_between b).0))
