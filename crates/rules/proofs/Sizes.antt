-- Laws of the tests that every call makes first: the sizes, the lengths of the lent columns and the phase. Each follows from
-- the definition by the tests it is made of. Assumes nothing.
use Prim.Native.Nat.{ℕ, ◌≤◌, ◌<◌}
use native.Mathlib.Omega.{arith}
use mathlib.Core.Bool.{Bool, true, false, ◌&&◌, true≢false}
use mathlib.Core.Path.{◌≡◌, refl, sym, ◌∙◌}
use lib.Dec.{leb, eqb}
use lib.ListN.{length}
use borrow.Author.Tests.{eq-eqb, leb-true, le-leb, eqb-true}
use Rattle.rules.specs.Limits.{least_words, most_words, least_entries, most_entries, last_phase, in_range}
use Rattle.rules.specs.Parts.{Box}
use Rattle.rules.specs.Box.{lengths_are, right_sizes, sound}
use Rattle.rules.specs.Answers.{Lengths, RightSizes, Right}

-- ---- conjunctions

pub and_left : (a b : Bool) → (a && b) ≡ true → a ≡ true
and_left true b p = refl
and_left false b p = p

pub and_right : (a b : Bool) → (a && b) ≡ true → b ≡ true
and_right true b p = p
and_right false true p = refl
and_right false false p = p

split4 : (a b c d : Bool) → (a && b && c && d) ≡ true → (a ≡ true) × (b ≡ true) × (c ≡ true) × (d ≡ true)
split4 a b c d p =
    let p3 = and_left (a && b && c) d p in
    let p2 = and_left (a && b) c p3 in
    (and_left a b p2, and_right a b p2, and_right (a && b) c p3, and_right (a && b && c) d p)

split7 : (a b c d e f g : Bool) → (a && b && c && d && e && f && g) ≡ true → (a ≡ true) × (b ≡ true) × (c ≡ true) × (d ≡ true) × (e ≡ true) × (f ≡ true) × (g ≡ true)
split7 a b c d e f g p =
    let p6 = and_left (a && b && c && d && e && f) g p in
    let p5 = and_left (a && b && c && d && e) f p6 in
    let q = split4 a b c d (and_left (a && b && c && d) e p5) in
    (q.0, q.1, q.2, q.3, and_right (a && b && c && d) e p5, and_right (a && b && c && d && e) f p6, and_right (a && b && c && d && e && f) g p)

-- ---- lengths

pub lengths_hold : (m h : ℕ) (b : Box) → lengths_are m h b ≡ true → Lengths m h b
unfolding lengths_are
lengths_hold m h b p =
    let q = split7 (eqb (length b.memory.words) m) (eqb (length b.memory.flags) m) (eqb (length b.directory.addresses) h) (eqb (length b.directory.sizes) h) (eqb (length b.directory.links) h) (eqb (length b.directory.marks) h) (eqb (length b.directory.deeps) h) p in
    record { words = eqb-true _ _ q.0; flags = eqb-true _ _ q.1; addresses = eqb-true _ _ q.2; sizes = eqb-true _ _ q.3; links = eqb-true _ _ q.4; marks = eqb-true _ _ q.5; deeps = eqb-true _ _ q.6 }

-- ---- sizes

-- what later proofs use of the limits: a size fits 16 bits, and so does a handle
pub record Ranges (m h : ℕ) : Type 0 where
  pub words : m < 65536
  pub entries : h ≤ 4096
  pub some_words : 0 < m
  pub some_entries : 1 < h

pub range_holds : (m h : ℕ) → in_range m h ≡ true → Ranges m h
unfolding in_range
range_holds m h p =
    let q = split4 (leb 16 m) (leb m 8192) (leb 2 h) (leb h 1024) p in
    let a : 16 ≤ m = leb-true _ _ q.0 in
    let b : m ≤ 8192 = leb-true _ _ q.1 in
    let c : 2 ≤ h = leb-true _ _ q.2 in
    let d : h ≤ 1024 = leb-true _ _ q.3 in
    record { words = omega arith; entries = omega arith; some_words = omega arith; some_entries = omega arith }

pub sizes_ranges : (m h : ℕ) (b : Box) → right_sizes m h b ≡ true → Ranges m h
unfolding right_sizes
sizes_ranges m h b p = range_holds m h (and_left _ _ p)

pub sizes_lengths : (m h : ℕ) (b : Box) → right_sizes m h b ≡ true → Lengths m h b
unfolding right_sizes
sizes_lengths m h b p = lengths_hold m h b (and_right (in_range m h) _ p)

-- ---- a sound box

pub sound_ranges : (b : Box) → sound b ≡ true → Ranges b.m b.h
unfolding sound
sound_ranges b p = sizes_ranges _ _ b (and_left _ _ p)

pub sound_lengths : (b : Box) → sound b ≡ true → Lengths b.m b.h b
unfolding sound
sound_lengths b p = sizes_lengths _ _ b (and_left _ _ p)

pub sound_phase : (b : Box) → sound b ≡ true → b.collector.phase ≤ 8
unfolding sound
sound_phase b p = leb-true _ _ (and_right (right_sizes b.m b.h b) _ p)

-- ---- the tests, as document 01's table of answers says them

pub sizes_right : (m h : ℕ) (b : Box) → right_sizes m h b ≡ true → RightSizes m h b
unfolding right_sizes in_range
sizes_right m h b p =
    let q = split4 (leb least_words m) (leb m most_words) (leb least_entries h) (leb h most_entries) (and_left _ _ p) in
    record {
      words_in_range = (leb-true _ _ q.0, leb-true _ _ q.1);
      entries_in_range = (leb-true _ _ q.2, leb-true _ _ q.3);
      lengths = sizes_lengths m h b p;
    }

right_sizes_true : (m h : ℕ) (b : Box) → RightSizes m h b → right_sizes m h b ≡ true
unfolding right_sizes in_range lengths_are
right_sizes_true m h b r =
    let l : Lengths m h b = r.lengths in
    simp (le-leb least_words m r.words_in_range.0, le-leb m most_words r.words_in_range.1, le-leb least_entries h r.entries_in_range.0, le-leb h most_entries r.entries_in_range.1, eq-eqb (length b.memory.words) m l.words, eq-eqb (length b.memory.flags) m l.flags, eq-eqb (length b.directory.addresses) h l.addresses, eq-eqb (length b.directory.sizes) h l.sizes, eq-eqb (length b.directory.links) h l.links, eq-eqb (length b.directory.marks) h l.marks, eq-eqb (length b.directory.deeps) h l.deeps)

pub sizes_wrong : (m h : ℕ) (b : Box) → right_sizes m h b ≡ false → ¬ RightSizes m h b
sizes_wrong m h b p r = true≢false (sym (right_sizes_true m h b r) ∙ p)

pub sound_right : (b : Box) → sound b ≡ true → Right b
unfolding sound
sound_right b p = record { right_sizes = sizes_right b.m b.h b (and_left _ _ p); right_phase = sound_phase b p }

pub unsound_wrong : (b : Box) → sound b ≡ false → ¬ Right b
unfolding sound
unsound_wrong b p r = true≢false (sym all ∙ p)
  where
    all : sound b ≡ true
    all = simp (right_sizes_true b.m b.h b r.right_sizes, le-leb b.collector.phase last_phase r.right_phase)
