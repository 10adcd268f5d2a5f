-- The sweep over the tuples by its cases: for each way through a rule, what it leaves and answers, from the facts that lead
-- there. By computing the definitions under those facts. Assumes nothing.
use Prim.Native.Nat.{ℕ, ◌+◌, ◌-◌, ◌<◌, ◌≤◌}
use mathlib.Core.Bool.{true, false}
use mathlib.Core.Path.{◌≡◌, ◌∙◌}
use lib.Dec.{leb, ltb}
use borrow.Author.Tests.{lt-ltb, le-ltb, eq-eqb, ne_eqb}
use Rattle.rules.specs.Parts.{Box, with_dest, with_free, with_index, with_phase, with_size, with_src, with_tuple}
use Rattle.rules.specs.Box.{Reply, reply, word_at, handle_of, size_of, marked, set_mark, set_link, is_entry}
use Rattle.rules.specs.Request.{no_room}
use Rattle.rules.specs.Collector.{after, go_on, keep_in_place, start_move, free_tuple, start_zero, release, sweep_tuple, sweep_scan, end_cycle}
use Rattle.collector.specs.Decide.{end_refused}
use Rattle.collector.proofs.Compare.{one_more}
use Rattle.collector.proofs.Ending.{bare, end_refuses}

pub goes_on : (a h : ℕ) (b : Box) → h ≡ handle_of (word_at a b) → with_src a (with_tuple h (with_phase 4 b)) ≡ go_on a b
unfolding go_on
goes_on a h b q = simp q

module _ (b : Box) where
  pub zero_live : b.collector.src < b.collector.live → with_index (b.collector.live - b.collector.src) (with_phase 8 b) ≡ start_zero b
  unfolding start_zero
  zero_live o = simp (lt-ltb b.collector.src b.collector.live o)

  pub zero_whole : b.collector.live ≤ b.collector.src → with_index 0 (with_phase 8 b) ≡ start_zero b
  unfolding start_zero
  zero_whole o = simp (le-ltb b.collector.src b.collector.live o)

  pub scan_done : (r : Reply) → is_entry b.collector.tuple b ≡ true → r ≡ sweep_tuple b (with_size (size_of b.collector.tuple b) b) → r ≡ sweep_scan b
  unfolding sweep_scan
  scan_done r e q = simp (e, q)

  pub scan_refused : is_entry b.collector.tuple b ≡ false → reply b 9 ≡ sweep_scan b
  unfolding sweep_scan
  scan_refused e = simp e

-- found is the box before the step, and b has the tuple's size
module _ (found b : Box) where
  -- ---- marked and in place
  pub keep_refused : after b ≡ b.top → end_refused (bare b) ≡ true → reply found 9 ≡ keep_in_place found b
  unfolding keep_in_place end_refused no_room is_entry
  keep_refused o e = simp (eq-eqb (after b) b.top o) (end_refuses (set_mark b.collector.tuple false b) found e)

  pub keep_ended : (r : Reply) → after b ≡ b.top → r ≡ end_cycle found (set_mark b.collector.tuple false b) → r ≡ keep_in_place found b
  unfolding keep_in_place
  keep_ended r o q = simp (eq-eqb (after b) b.top o, q)

  pub keep_on : (a : Box) → (after b ≡ b.top → ⊥) → after b < b.m → a ≡ go_on (after b) (set_mark b.collector.tuple false (with_dest (after b) b)) → reply a 30 ≡ keep_in_place found b
  unfolding keep_in_place
  keep_on a n o q = simp (ne_eqb (after b) b.top n, lt-ltb (after b) b.m o, q)

  pub keep_far : (after b ≡ b.top → ⊥) → b.m ≤ after b → reply found 9 ≡ keep_in_place found b
  unfolding keep_in_place
  keep_far n o = simp (ne_eqb (after b) b.top n, le-ltb (after b) b.m o)

  -- ---- unmarked
  pub release_on : (a : Box) → b.collector.src + b.collector.size < b.collector.live → after b < b.m → a ≡ go_on (after b) (set_link b.collector.tuple b.free (with_free b.collector.tuple b)) → reply a 30 ≡ release found b
  unfolding release free_tuple
  release_on a l o q = simp (lt-ltb (b.collector.src + b.collector.size) b.collector.live l, lt-ltb (after b) b.m o, q)

  pub release_far : b.collector.src + b.collector.size < b.collector.live → b.m ≤ after b → reply found 9 ≡ release found b
  unfolding release
  release_far l o = simp (lt-ltb (b.collector.src + b.collector.size) b.collector.live l, le-ltb (after b) b.m o)

  pub release_zero : (a : Box) → b.collector.live ≤ b.collector.src + b.collector.size → a ≡ start_zero (set_link b.collector.tuple b.free (with_free b.collector.tuple b)) → reply a 30 ≡ release found b
  unfolding release free_tuple
  release_zero a l q = simp (le-ltb (b.collector.src + b.collector.size) b.collector.live l, q)

  -- ---- any
  within : ltb (b.collector.src + b.collector.size) b.m ≡ true → leb (after b) b.m ≡ true
  within t = one_more (b.collector.src + b.collector.size) b.m ∙ t

  pub tuple_kept : (r : Reply) → ltb (b.collector.src + b.collector.size) b.m ≡ true → marked b.collector.tuple b ≡ true → b.collector.src ≡ b.collector.dest → r ≡ keep_in_place found b → r ≡ sweep_tuple found b
  unfolding sweep_tuple
  tuple_kept r t k o q = simp (within t, k, eq-eqb b.collector.src b.collector.dest o, q)

  pub tuple_moves : ltb (b.collector.src + b.collector.size) b.m ≡ true → marked b.collector.tuple b ≡ true → (b.collector.src ≡ b.collector.dest → ⊥) → reply (start_move b) 30 ≡ sweep_tuple found b
  unfolding sweep_tuple
  tuple_moves t k o = simp (within t, k, ne_eqb b.collector.src b.collector.dest o)

  pub tuple_released : (r : Reply) → ltb (b.collector.src + b.collector.size) b.m ≡ true → marked b.collector.tuple b ≡ false → r ≡ release found b → r ≡ sweep_tuple found b
  unfolding sweep_tuple
  tuple_released r t k q = simp (within t, k, q)

  pub tuple_far : ltb (b.collector.src + b.collector.size) b.m ≡ false → reply found 9 ≡ sweep_tuple found b
  unfolding sweep_tuple
  tuple_far t = simp (one_more (b.collector.src + b.collector.size) b.m ∙ t)
