-- Phase 5, a word is read: it is copied, and nothing else but the phase changes. The word whose turn it is was at src + index and
-- is now in the copy register, with the same value; the others are where they were. Below live the next phase is 7, and the word
-- left behind is none that is claimed to be zero; otherwise it is 6. Assumes nothing.
use Prim.Native.Nat.{ℕ, ◌+◌, ◌≤◌, ◌<◌}
use mathlib.Core.Path.{◌≡◌, refl, sym, ap, ◌∙◌}
use native.Mathlib.Omega.{arith}
use Rattle.rules.specs.Parts.{Box}
use Rattle.rules.specs.Box.{word_at}
use Rattle.history.proofs.Invariant.Statement.{Ghosts, Inv, Move, Zero, word, clearing, writing}
use Rattle.history.proofs.Invariant.Words.{word_moved, word_copied, word_unmoved, word_unread}
use Rattle.history.proofs.Invariant.Frame.{Next}
use Rattle.history.proofs.Moving.Tuple.{Turn, earlier, now, later, turn}
use Rattle.history.proofs.Moving.Within.{Within, within}
use Rattle.history.proofs.Invariant.Stages.{AtRead, at_read}
use Rattle.rules.proofs.View.Boxes.{copied_box}

copies_words : (p : ℕ) (b : Box) (g : Ghosts) → Move b g → b.collector.phase ≡ 5 → 6 ≤ p → p ≤ 7 → (i : ℕ)
    → word b.collector.tuple i (copied_box p b) ≡ word b.collector.tuple i b
copies_words p b g m q l u i = go (turn i b.collector.index)
  where
    go : Turn i b.collector.index → word b.collector.tuple i (copied_box p b) ≡ word b.collector.tuple i b
    go (earlier e) = word_moved b.collector.tuple i (copied_box p b) refl (omega arith) u e ∙ sym (word_moved b.collector.tuple i b refl (omega arith) (omega arith) e)
    go (now e) = word_copied b.collector.tuple i (copied_box p b) refl l u e ∙ ap (λ (a : ℕ). word_at a b) (sym (ap (λ (a : ℕ). a + i) m.src_is ∙ ap (λ (j : ℕ). b.collector.src + j) e)) ∙ sym (word_unread b.collector.tuple i b (omega arith) (omega arith))
    go (later e) = word_unmoved b.collector.tuple i (copied_box p b) e ∙ sym (word_unmoved b.collector.tuple i b e)

copies_within : (p : ℕ) (b : Box) (g : Ghosts) → Move b g → b.collector.phase ≡ 5 → 6 ≤ p → p ≤ 7 → Within b (copied_box p b)
copies_within p b g m q l u =
    record {
      still = search;
      words_length = refl;
      flags_length = refl;
      phase_before = omega arith;
      phase_after = omega arith;
      words_below = λ a x. refl;
      words_above = λ a x. refl;
      words_moved = λ i x. copies_words p b g m q l u i;
    }

-- zero words stay; where src + index is below live, the bound may pass it
copies_zero : (p : ℕ) (b : Box) (z y : ℕ) → ((a : ℕ) → b.collector.live ≤ a → a < y → a < z) → Zero b z → Zero (copied_box p b) y
copies_zero p b z y f s = record { above_top = s.above_top; behind = λ a l u. s.behind a l (f a l u) }

-- below live: to phase 7
pub copies_low : (b : Box) (g : Ghosts) → Inv b g → b.collector.phase ≡ 5 → b.collector.index ≤ b.collector.size
    → b.collector.src + b.collector.index < b.collector.live → Next b g (copied_box 7 b)
copies_low b g v p l u =
    let s : AtRead b g = at_read b g v.stage p in
    within b (copied_box 7 b) g (b.collector.src + b.collector.index + 1) v s.move
    (copies_within 7 b g s.move p (omega arith) (omega arith))
    (copies_zero 7 b g.zeroed (b.collector.src + b.collector.index + 1) (λ a x y. omega (arith, s.zeroed_is)) v.zero_words)
    (λ m. writing refl m l refl)

-- from live on: to phase 6
pub copies_high : (b : Box) (g : Ghosts) → Inv b g → b.collector.phase ≡ 5 → b.collector.index ≤ b.collector.size
    → b.collector.live ≤ b.collector.src + b.collector.index → Next b g (copied_box 6 b)
copies_high b g v p l u =
    let s : AtRead b g = at_read b g v.stage p in
    within b (copied_box 6 b) g (b.collector.src + b.collector.index) v s.move
    (copies_within 6 b g s.move p (omega arith) (omega arith))
    (copies_zero 6 b g.zeroed (b.collector.src + b.collector.index) (λ a x y. omega (arith, s.zeroed_is)) v.zero_words)
    (λ m. clearing refl m l refl)
