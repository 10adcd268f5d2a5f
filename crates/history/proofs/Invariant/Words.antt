-- Where a word of a tuple is, as laws of `word`: those of its place, read at the facts in hand. Then the laws of a word put at an
-- address, and of pointers. Assumes nothing.
use Prim.Native.Nat.{ℕ, ◌+◌, ◌≤◌, ◌<◌}
use mathlib.Core.Bool.{true, false, not}
use mathlib.Core.Logic.{◌≢◌}
use mathlib.Core.Path.{◌≡◌, ap}
use lib.ListN.{length}
use lib.Seq.{get_or-set_same, get_or-set_other}
use native.Mathlib.Omega.{arith}
use Rattle.rules.specs.Limits.{half_word}
use Rattle.rules.specs.Parts.{Word, Box}
use Rattle.rules.specs.Box.{word_at, put, address, handle_of, pointer, names_tuple, is_nil}
use Rattle.rules.specs.Place.{Place, read}
use Rattle.rules.specs.Answers.{InCopy, Moved}
use Rattle.rules.proofs.View.Places.{place_copied, place_moved, place_home}
use Rattle.history.proofs.Invariant.Statement.{word}
use Rattle.rules.proofs.Sizes.{and_left}

-- a word that is neither in the copy register nor at dest is at its tuple's address
pub word_home : (h i : ℕ) (b : Box) → ¬ InCopy h i b → ¬ Moved h i b → word h i b ≡ word_at (address h b + i) b
unfolding word read
word_home h i b n m = ap (λ (p : Place). read p b) (place_home h i b n m)

-- so is a word of a tuple that is not being moved
pub word_other : (h i : ℕ) (b : Box) → h ≢ b.collector.tuple → word h i b ≡ word_at (address h b + i) b
word_other h i b n = word_home h i b (λ x. n x.0.0) (λ x. n x.0.0)

-- and before and after the moves that of every tuple
pub word_early : (h i : ℕ) (b : Box) → b.collector.phase < 5 → word h i b ≡ word_at (address h b + i) b
word_early h i b l = word_home h i b (λ x. omega arith) (λ x. omega arith)

pub word_late : (h i : ℕ) (b : Box) → 7 < b.collector.phase → word h i b ≡ word_at (address h b + i) b
word_late h i b l = word_home h i b (λ x. omega arith) (λ x. omega arith)

-- the word whose turn it is, in phase 6 or 7, is in the copy register
pub word_copied : (h i : ℕ) (b : Box) → h ≡ b.collector.tuple → 6 ≤ b.collector.phase → b.collector.phase ≤ 7 → i ≡ b.collector.index → word h i b ≡ b.collector.copy
unfolding word read
word_copied h i b e l u t = ap (λ (p : Place). read p b) (place_copied h i b ((e, omega arith, u), l, t))

-- words before it are at dest already
pub word_moved : (h i : ℕ) (b : Box) → h ≡ b.collector.tuple → 5 ≤ b.collector.phase → b.collector.phase ≤ 7 → i < b.collector.index → word h i b ≡ word_at (b.collector.dest + i) b
unfolding word read
word_moved h i b e l u t = ap (λ (p : Place). read p b) (place_moved h i b ((e, l, u), t))

-- words behind it are still at the tuple's address; in phase 5 so is the word whose turn it is
pub word_unmoved : (h i : ℕ) (b : Box) → b.collector.index < i → word h i b ≡ word_at (address h b + i) b
word_unmoved h i b t = word_home h i b (λ x. omega arith) (λ x. omega arith)

pub word_unread : (h i : ℕ) (b : Box) → b.collector.phase ≤ 5 → b.collector.index ≤ i → word h i b ≡ word_at (address h b + i) b
word_unread h i b p t = word_home h i b (λ x. omega arith) (λ x. omega arith)

-- ---- a word put at an address: it is there, and every other address has its word as before

pub put_same : (a : ℕ) (w : Word) (b : Box) → a < length b.memory.words → a < length b.memory.flags → word_at a (put a w b) ≡ w
put_same a w b l u = λ i. record { bits = get_or-set_same b.memory.words a w.bits 0 l i; flag = get_or-set_same b.memory.flags a w.flag false u i }

pub put_other : (a : ℕ) (w : Word) (b : Box) (x : ℕ) → x ≢ a → word_at x (put a w b) ≡ word_at x b
put_other a w b x n = λ i. record { bits = get_or-set_other b.memory.words a x w.bits 0 n i; flag = get_or-set_other b.memory.flags a x w.flag false n i }

-- ---- pointers

pub names_flag : (w : Word) → names_tuple w ≡ true → w.flag ≡ true
names_flag w n = and_left w.flag (not (is_nil w)) n

-- a pointer's handle, its offset being of 16 bits
pub pointer_handle : (h o : ℕ) → o < half_word → handle_of (pointer h o) ≡ h
pointer_handle h o l = omega arith
