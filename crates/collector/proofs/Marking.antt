-- The marking rules by their cases: for each way through a rule, what it leaves and answers, from the facts that lead there.
-- By computing the definitions under those facts. Assumes nothing.
use Prim.Native.Nat.{ℕ, ◌+◌, ◌<◌, ◌≤◌}
use mathlib.Core.Bool.{true, false}
use mathlib.Core.Path.{◌≡◌}
use lib.Dec.{ltb}
use borrow.Author.Tests.{le-leb, lt-leb, eq-eqb, ne_eqb}
use Rattle.rules.specs.Parts.{Box, with_begun, with_current, with_index, with_live, with_next, with_phase, with_tuple}
use Rattle.rules.specs.Box.{Reply, reply, word_at, handle_of, names_tuple, is_entry}
use Rattle.rules.specs.Place.{can_shade, shade}
use Rattle.rules.specs.Collector.{to_phase, rest, note_begun, scan, scan_next, scan_word, scan_current, mark_scan, mark_add}

module _ (b : Box) where
  pub rest_held : b.hold.held ≡ true → reply (with_begun true (with_live 0 (with_current 0 (with_next 0 (with_phase 1 b))))) 30 ≡ rest b
  unfolding rest note_begun
  rest_held t = simp t

  pub rest_free : b.hold.held ≡ false → reply (with_live 0 (with_current 0 (with_next 0 (with_phase 1 b)))) 30 ≡ rest b
  unfolding rest note_begun
  rest_free t = simp t

  pub scan_next_done : (a : Box) → is_entry b.collector.next b ≡ true → a ≡ scan b.collector.next (with_next 0 b) → reply a 30 ≡ scan_next b
  unfolding scan_next
  scan_next_done a e q = simp (e, q)

  pub scan_next_refused : is_entry b.collector.next b ≡ false → reply b 9 ≡ scan_next b
  unfolding scan_next
  scan_next_refused e = simp e

  pub scan_current_empty : b.collector.current ≡ 0 → reply (to_phase 1 b) 30 ≡ scan_current b
  unfolding scan_current
  scan_current_empty z = simp (eq-eqb b.collector.current 0 z)

  pub scan_current_done : (a : Box) → (b.collector.current ≡ 0 → ⊥) → is_entry b.collector.current b ≡ true → a ≡ scan b.collector.current b → reply a 30 ≡ scan_current b
  unfolding scan_current
  scan_current_done a z e q = simp (ne_eqb b.collector.current 0 z, e, q)

  pub scan_current_refused : (b.collector.current ≡ 0 → ⊥) → is_entry b.collector.current b ≡ false → reply b 9 ≡ scan_current b
  unfolding scan_current
  scan_current_refused z e = simp (ne_eqb b.collector.current 0 z, e)

  pub scan_word_pointer : (h : ℕ) → h ≡ handle_of (word_at (b.collector.src + b.collector.index) b) → names_tuple (word_at (b.collector.src + b.collector.index) b) ≡ true → with_index (b.collector.index + 1) (with_tuple h (with_phase 3 b)) ≡ scan_word b
  unfolding scan_word
  scan_word_pointer h q t = simp (t, q)

  pub scan_word_passed : names_tuple (word_at (b.collector.src + b.collector.index) b) ≡ false → with_index (b.collector.index + 1) b ≡ scan_word b
  unfolding scan_word
  scan_word_passed t = simp t

  pub mark_scan_word : (a : Box) → b.collector.index ≤ b.collector.size → ltb (b.collector.src + b.collector.index) b.m ≡ true → a ≡ scan_word b → reply a 30 ≡ mark_scan b
  unfolding mark_scan
  mark_scan_word a o t q = simp (le-leb b.collector.index b.collector.size o, t, q)

  pub mark_scan_refused : b.collector.index ≤ b.collector.size → ltb (b.collector.src + b.collector.index) b.m ≡ false → reply b 9 ≡ mark_scan b
  unfolding mark_scan
  mark_scan_refused o t = simp (le-leb b.collector.index b.collector.size o, t)

  pub mark_scan_behind : (r : Reply) → b.collector.size < b.collector.index → r ≡ scan_current b → r ≡ mark_scan b
  unfolding mark_scan
  mark_scan_behind r o q = simp (lt-leb b.collector.index b.collector.size o, q)

  pub mark_add_done : (a : Box) → can_shade b.collector.tuple b ≡ true → a ≡ shade b.collector.tuple b → reply (to_phase 2 a) 30 ≡ mark_add b
  unfolding mark_add
  mark_add_done a t q = simp (t, q)

  pub mark_add_refused : can_shade b.collector.tuple b ≡ false → reply b 9 ≡ mark_add b
  unfolding mark_add
  mark_add_refused t = simp t
