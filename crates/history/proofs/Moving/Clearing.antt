-- Phase 6, a word is cleared: the word at src + index becomes data 0. It is nobody's any more: the moved tuple's words before
-- index are at dest, the one whose turn it is in the copy register, those behind it further up; every other kept tuple lies below
-- dest or behind. One word more from live on is known to be zero. Assumes nothing.
use Prim.Native.Nat.{ℕ, ◌+◌, ◌≤◌, ◌<◌}
use mathlib.Core.Logic.{◌≢◌}
use mathlib.Core.Path.{◌≡◌, refl, sym, ◌∙◌, subst}
use lib.ListN.{length, length-set}
use native.Mathlib.Decide.{ℕ_discrete}
use native.Mathlib.Omega.{arith}
use Rattle.rules.specs.Parts.{Box}
use Rattle.rules.specs.Box.{data_word, word_at, put, address}
use Rattle.rules.specs.Collector.{to_phase}
use Rattle.history.proofs.Invariant.Statement.{Ghosts, Inv, Move, Zero, word, writing}
use Rattle.history.proofs.Invariant.Words.{word_moved, word_copied, word_unmoved, put_same, put_other}
use Rattle.history.proofs.Invariant.Frame.{Next}
use Rattle.history.proofs.Moving.Tuple.{Bounds, bounds, Turn, earlier, now, later, turn}
use Rattle.history.proofs.Moving.Within.{Within, within}
use Rattle.history.proofs.Invariant.Stages.{AtClear, at_clear}
use Rattle.rules.proofs.View.Boxes.{cleared_box}

elsewhere : (b : Box) (a : ℕ) → a ≢ b.collector.src + b.collector.index → word_at a (cleared_box b) ≡ word_at a b
elsewhere b a n = put_other (b.collector.src + b.collector.index) (data_word 0) b a n

clears_words : (b : Box) (g : Ghosts) → Move b g → b.collector.phase ≡ 6 → (i : ℕ) → i ≤ b.collector.size
    → word b.collector.tuple i (cleared_box b) ≡ word b.collector.tuple i b
clears_words b g m p i l = go (turn i b.collector.index)
  where
    go : Turn i b.collector.index → word b.collector.tuple i (cleared_box b) ≡ word b.collector.tuple i b
    go (earlier e) = word_moved b.collector.tuple i (cleared_box b) refl (omega arith) (omega arith) e ∙ elsewhere b (b.collector.dest + i) (omega (arith, m.downward)) ∙ sym (word_moved b.collector.tuple i b refl (omega arith) (omega arith) e)
    go (now e) = word_copied b.collector.tuple i (cleared_box b) refl (omega arith) (omega arith) e ∙ sym (word_copied b.collector.tuple i b refl (omega arith) (omega arith) e)
    go (later e) = word_unmoved b.collector.tuple i (cleared_box b) e ∙ elsewhere b (address b.collector.tuple b + i) (omega (arith, m.src_is)) ∙ sym (word_unmoved b.collector.tuple i b e)

clears_within : (b : Box) (g : Ghosts) → Move b g → b.collector.phase ≡ 6 → b.collector.index ≤ b.collector.size → Within b (cleared_box b)
clears_within b g m p l =
    record {
      still = search;
      words_length = simp length-set;
      flags_length = simp length-set;
      phase_before = omega arith;
      phase_after = omega arith;
      words_below = λ a x. elsewhere b a (omega (arith, m.downward));
      words_above = λ a x. elsewhere b a (omega arith);
      words_moved = clears_words b g m p;
    }

clears_zero : (b : Box) (z : ℕ) → b.collector.src + b.collector.index < length b.memory.words → b.collector.src + b.collector.index < length b.memory.flags
    → z ≡ b.collector.src + b.collector.index → Zero b z → Zero (cleared_box b) (b.collector.src + b.collector.index + 1)
clears_zero b z f k e s =
    record {
      above_top = λ a u. go a (s.above_top a u) (ℕ_discrete a (b.collector.src + b.collector.index));
      behind = λ a u x. last a u x (ℕ_discrete a (b.collector.src + b.collector.index));
    }
  where
    here : (a : ℕ) → a ≡ b.collector.src + b.collector.index → word_at a (cleared_box b) ≡ data_word 0
    here a q = subst (λ (n : ℕ). word_at n (cleared_box b) ≡ data_word 0) (sym q) (put_same (b.collector.src + b.collector.index) (data_word 0) b f k)

    go : (a : ℕ) → word_at a b ≡ data_word 0 → Dec (a ≡ b.collector.src + b.collector.index) → word_at a (cleared_box b) ≡ data_word 0
    go a o (yes q) = here a q
    go a o (no n) = elsewhere b a n ∙ o

    last : (a : ℕ) → b.collector.live ≤ a → a < b.collector.src + b.collector.index + 1 → Dec (a ≡ b.collector.src + b.collector.index) → word_at a (cleared_box b) ≡ data_word 0
    last a u x (yes q) = here a q
    last a u x (no n) = elsewhere b a n ∙ s.behind a u (omega arith)

pub clears : (b : Box) (g : Ghosts) → Inv b g → b.collector.phase ≡ 6 → Next b g (to_phase 7 (put (b.collector.src + b.collector.index) (data_word 0) b))
clears b g v p =
    let s : AtClear b g = at_clear b g v.stage p in
    let f : Bounds b g = bounds b g v s.move in
    within b (cleared_box b) g (b.collector.src + b.collector.index + 1) v s.move (clears_within b g s.move p s.index_most) (clears_zero b g.zeroed (omega (arith, v.shape.words_length)) (omega (arith, v.shape.flags_length)) s.zeroed_is v.zero_words) (λ m. writing refl m s.index_most refl)
