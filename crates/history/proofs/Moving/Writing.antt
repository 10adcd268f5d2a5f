-- Phase 7, a word is written: dest + index takes the copy, and index grows by 1. The word whose turn it was is at dest now. The
-- address written is below live, so no word known to be zero is written; it is below the words of the moved tuple that are still
-- to be read, and above its words before index; every other kept tuple lies below dest or behind. Assumes nothing.
use Prim.Native.Nat.{ℕ, ◌+◌, ◌≤◌, ◌<◌}
use mathlib.Core.Logic.{◌≢◌}
use mathlib.Core.Path.{◌≡◌, refl, sym, ◌∙◌, ap}
use lib.ListN.{length, length-set}
use native.Mathlib.Omega.{arith}
use Rattle.rules.specs.Parts.{Box}
use Rattle.rules.specs.Box.{word_at, address}
use Rattle.rules.specs.Collector.{write_copy}
use Rattle.history.proofs.Invariant.Statement.{Ghosts, Inv, Move, Stage, Zero, word, reading}
use Rattle.history.proofs.Invariant.Words.{word_moved, word_copied, word_unmoved, word_unread, put_same, put_other}
use Rattle.history.proofs.Invariant.Frame.{Next}
use Rattle.history.proofs.Moving.Tuple.{Bounds, bounds, Turn, earlier, now, later, turn}
use Rattle.history.proofs.Moving.Within.{Within, zeroed_to, within}
use Rattle.history.proofs.Invariant.Stages.{AtWrite, at_write}

elsewhere : (b : Box) (a : ℕ) → a ≢ b.collector.dest + b.collector.index → word_at a (write_copy b) ≡ word_at a b
unfolding write_copy
elsewhere b a n = put_other (b.collector.dest + b.collector.index) b.collector.copy b a n

here : (b : Box) → b.collector.dest + b.collector.index < length b.memory.words → b.collector.dest + b.collector.index < length b.memory.flags
    → word_at (b.collector.dest + b.collector.index) (write_copy b) ≡ b.collector.copy
unfolding write_copy
here b l u = put_same (b.collector.dest + b.collector.index) b.collector.copy b l u

writes_words : (b : Box) (g : Ghosts) → Move b g → b.collector.phase ≡ 7
    → word_at (b.collector.dest + b.collector.index) (write_copy b) ≡ b.collector.copy → (i : ℕ)
    → word b.collector.tuple i (write_copy b) ≡ word b.collector.tuple i b
unfolding write_copy
writes_words b g m p w i = go (turn i b.collector.index)
  where
    go : Turn i b.collector.index → word b.collector.tuple i (write_copy b) ≡ word b.collector.tuple i b
    go (earlier e) = word_moved b.collector.tuple i (write_copy b) refl (omega arith) (omega arith) (omega arith) ∙ elsewhere b (b.collector.dest + i) (omega arith) ∙ sym (word_moved b.collector.tuple i b refl (omega arith) (omega arith) e)
    go (now e) = word_moved b.collector.tuple i (write_copy b) refl (omega arith) (omega arith) (omega arith) ∙ ap (λ (j : ℕ). word_at (b.collector.dest + j) (write_copy b)) e ∙ w ∙ sym (word_copied b.collector.tuple i b refl (omega arith) (omega arith) e)
    go (later e) = word_unread b.collector.tuple i (write_copy b) (omega arith) (omega arith) ∙ elsewhere b (address b.collector.tuple b + i) (omega (arith, m.src_is, m.downward)) ∙ sym (word_unmoved b.collector.tuple i b e)

writes_within : (b : Box) (g : Ghosts) → Move b g → b.collector.phase ≡ 7 → b.collector.index ≤ b.collector.size
    → word_at (b.collector.dest + b.collector.index) (write_copy b) ≡ b.collector.copy → Within b (write_copy b)
unfolding write_copy
writes_within b g m p l w =
    record {
      still = search;
      words_length = simp length-set;
      flags_length = simp length-set;
      phase_before = omega arith;
      phase_after = omega arith;
      words_below = λ a x. elsewhere b a (omega arith);
      words_above = λ a x. elsewhere b a (omega (arith, m.downward));
      words_moved = λ i x. writes_words b g m p w i;
    }

writes_zero : (b : Box) (z : ℕ) → b.collector.dest + b.collector.index < b.collector.live → b.collector.dest + b.collector.index < b.top → Zero b z → Zero (write_copy b) z
unfolding write_copy
writes_zero b z l t s = record { above_top = λ a u. elsewhere b a (omega arith) ∙ s.above_top a u; behind = λ a u x. elsewhere b a (omega arith) ∙ s.behind a u x }

writes_stage : (b : Box) (g : Ghosts) (z : ℕ) → b.collector.index ≤ b.collector.size → z ≡ b.collector.src + b.collector.index + 1
    → Move (write_copy b) (zeroed_to z g) → Stage (write_copy b) (zeroed_to z g)
unfolding write_copy
writes_stage b g z l e m = reading refl m (omega arith) (omega arith)

pub writes : (b : Box) (g : Ghosts) → Inv b g → b.collector.phase ≡ 7 → Next b g (write_copy b)
writes b g v p =
    let s : AtWrite b g = at_write b g v.stage p in
    let f : Bounds b g = bounds b g v s.move in
    let w : word_at (b.collector.dest + b.collector.index) (write_copy b) ≡ b.collector.copy = here b (omega (arith, v.shape.words_length)) (omega (arith, v.shape.flags_length)) in
    within b (write_copy b) g g.zeroed v s.move (writes_within b g s.move p s.index_most w) (writes_zero b g.zeroed (omega arith) (omega arith) v.zero_words) (writes_stage b g g.zeroed s.index_most s.zeroed_is)
