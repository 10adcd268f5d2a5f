-- Single steps as the code does them: their answers become lines one by one. By induction on their number. Assumes nothing.
use Prim.Native.Nat.{ℕ, zero, suc, ◌+◌, ◌*◌, ◌≤◌, ◌<◌}
use mathlib.Core.List.{List, ◌++◌, append-nil, append_assoc}
use mathlib.Core.Path.{◌≡◌, refl, sym, ◌∙◌, ap}
use native.Mathlib.Omega.{arith}
use native.Mathlib.Numerals.{add-one}
use lib.ListN.{length, length-append}
use lib.Seq.{sets, length-sets}
use Rattle.rules.specs.Parts.{Box}
use Rattle.rules.specs.Box.{Reply, reply, sound}
use Rattle.rules.specs.Collector.{step}
use Rattle.rules.proofs.Demand1.{step_between}
use Rattle.rules.proofs.Sound.{step_same_sound}
use Rattle.lent.specs.declared.unit.MemoryUnit.{MemoryUnit}
use Rattle.lent.specs.Lent.{SameReferences}
use Rattle.pieces.specs.Text.{line, text}
use Rattle.pieces.specs.Lines.{play_steps}
use Rattle.pieces.proofs.Lines.{line_short, sets_more}
use Rattle.pieces.proofs.Turns.{line_length}
use Rattle.trace.specs.Stepped.{Stepped}

-- ---- the lines of so many steps

pub step_small : (b : Box) → (step b).answer < 100
step_small b = omega (arith, (step_between b).1)

pub steps_short : (n : ℕ) (b : Box) → length (text (play_steps n b).lines) ≤ 3 * n
unfolding play_steps text
steps_short zero b = omega arith
steps_short (suc n) b = omega (arith, length-append (line (step b).answer) (text (play_steps n (step b).box).lines), line_short (step b).answer (step_small b), steps_short n (step b).box)

pub steps_long : (n : ℕ) (b : Box) → n ≤ length (text (play_steps n b).lines)
unfolding play_steps text
steps_long zero b = omega arith
steps_long (suc n) b = omega (arith, length-append (line (step b).answer) (text (play_steps n (step b).box).lines), line_length (step b).answer, steps_long n (step b).box)

pub steps_sound : (n : ℕ) (b : Box) → sound (play_steps n b).box ≡ sound b
unfolding play_steps
steps_sound zero b = refl
steps_sound (suc n) b = steps_sound n (step b).box ∙ step_same_sound b

-- a call after another one: each part is the caller's still
pub same_then : (u v w : MemoryUnit) → SameReferences u v → SameReferences v w → SameReferences u w
same_then u v w s t = (t.0 ∙ s.0, t.1 ∙ s.1, t.2 ∙ s.2, t.3 ∙ s.3, t.4 ∙ s.4, t.5 ∙ s.5, t.6 ∙ s.6, t.7 ∙ s.7, t.8 ∙ s.8, t.9 ∙ s.9)

-- ---- so many steps, and one more

more_box : (n : ℕ) (b : Box) → (play_steps (suc n) b).box ≡ (step (play_steps n b).box).box
unfolding play_steps
more_box zero b = refl
more_box (suc n) b = more_box n (step b).box

more_text : (n : ℕ) (b : Box) → text (play_steps (suc n) b).lines ≡ text (play_steps n b).lines ++ line (step (play_steps n b).box).answer
unfolding play_steps text
more_text zero b = append-nil (line (step b).answer)
more_text (suc n) b = ap (λ (x : List ℕ). line (step b).answer ++ x) (more_text n (step b).box) ∙ sym (append_assoc (line (step b).answer) (text (play_steps n (step b).box).lines) (line (step (play_steps n (step b).box).box).answer))

-- ---- one by one, as the code does them

pub none_stepped : (o : List ℕ) (b : Box) (at : ℕ) → Stepped 0 o o b b at at
unfolding play_steps text
none_stepped o b at = record { box_is = refl; out_is = refl; end_is = omega arith }

-- so many are done: the box b1 is as sound as b, and the output still has room for the lines of the others
module _ (n : ℕ) (o o1 : List ℕ) (b b1 : Box) (at end : ℕ) (s : Stepped n o o1 b b1 at end) where
  pub stepped_sound : sound b1 ≡ sound b
  stepped_sound = ap sound s.box_is ∙ steps_sound n b

  pub stepped_room : (many : ℕ) → n < many → at + 3 * many ≤ length o → end + 3 ≤ length o1
  stepped_room many l r = omega (arith, s.end_is, steps_short n b, ap length s.out_is, length-sets o at (text (play_steps n b).lines))

  -- and the next is done, with its answer a
  pub stepped_more : (o2 : List ℕ) (b2 : Box) (a end1 : ℕ) → reply b2 a ≡ step b1 → (o2 ≡ sets o1 end (line a)) × (end1 ≡ end + length (line a)) → Stepped (n + 1) o o2 b b2 at end1
  stepped_more o2 b2 a end1 e w =
      let c : reply b2 a ≡ step (play_steps n b).box = e ∙ ap step s.box_is in
      let ans : a ≡ (step (play_steps n b).box).answer = ap (λ (r : Reply). r.answer) c in
      let xs : List ℕ = text (play_steps n b).lines in
      let whole : text (play_steps (n + 1) b).lines ≡ xs ++ line a = rw (add-one n, ans) (more_text n b) in
      record {
        box_is = rw (add-one n) (ap (λ (r : Reply). r.box) c ∙ sym (more_box n b));
        out_is = rw (whole, w.0, s.out_is, s.end_is) (sets_more o at xs (line a));
        end_is = omega (arith, w.1, s.end_is, ap length whole, length-append xs (line a));
      }

-- an answer that the code got
pub stepped_small : (b b1 : Box) (a : ℕ) → reply b1 a ≡ step b → a < 100
stepped_small b b1 a e = let h : a ≡ (step b).answer = ap (λ (r : Reply). r.answer) e in omega (arith, step_small b)
