-- The phases that move a tuple and clear words, by their cases, and that what is decided first decides whether the sweep leaves
-- its tuple. By computing the definitions under the facts of each case. Assumes nothing.
use Prim.Native.Nat.{ℕ, ◌+◌, ◌<◌, ◌≤◌}
use mathlib.Core.Bool.{Bool, true, false, not, cond, ◌&&◌, false≢true}
use mathlib.Core.Path.{◌≡◌, refl, sym, ◌∙◌}
use lib.Dec.{leb, ltb, eqb}
use borrow.Author.Tests.{lt-ltb, le-ltb, le-leb, lt-leb, eq-eqb, ne_eqb, ltb-true, leb-true, not-true}
use Rattle.rules.specs.Parts.{Box, with_copy, with_dest, with_index, with_phase, with_top}
use Rattle.rules.specs.Box.{Reply, reply, data_word, word_at, put, set_address, is_entry}
use Rattle.rules.specs.Request.{no_room}
use Rattle.rules.specs.Collector.{after, to_phase, go_on, leave_tuple, settle_move, finish_move, copy_word, sweep_read, sweep_clear, write_copy, sweep_write, zero_word, sweep_zero, end_cycle}
use Rattle.collector.specs.Decide.{end_refused, can_leave}
use Rattle.rules.proofs.Sizes.{and_left, and_right}
use Rattle.collector.proofs.Compare.{one_more}
use Rattle.collector.proofs.Ending.{bare, end_refuses}

-- top is where the last tuple kept ends
abbrev cut : Box → Box
cut b = with_top b.collector.dest b

module _ (b : Box) where
  within : ltb (b.collector.src + b.collector.size) b.m ≡ true → leb (after b) b.m ≡ true
  within t = one_more (b.collector.src + b.collector.size) b.m ∙ t

  -- ---- whether the sweep can leave its tuple
  pub stays_far : ltb (b.collector.src + b.collector.size) b.m ≡ false → false ≡ can_leave b
  unfolding can_leave
  stays_far t = simp (one_more (b.collector.src + b.collector.size) b.m ∙ t)

  pub stays_refused : ltb (b.collector.src + b.collector.size) b.m ≡ true → after b ≡ b.top → end_refused (cut b) ≡ true → false ≡ can_leave b
  unfolding can_leave
  stays_refused t o e = simp (within t, eq-eqb (after b) b.top o, e)

  pub leaves_last : ltb (b.collector.src + b.collector.size) b.m ≡ true → after b ≡ b.top → end_refused (cut b) ≡ false → true ≡ can_leave b
  unfolding can_leave
  leaves_last t o e = simp (within t, eq-eqb (after b) b.top o, e)

  pub leaves_inner : ltb (b.collector.src + b.collector.size) b.m ≡ true → (after b ≡ b.top → ⊥) → ltb (after b) b.m ≡ can_leave b
  unfolding can_leave
  leaves_inner t o = simp (within t, ne_eqb (after b) b.top o)

  -- ---- what follows where it can
  pub leaving_within : can_leave b ≡ true → after b ≤ b.m
  unfolding can_leave
  leaving_within e = leb-true (after b) b.m (and_left (leb (after b) b.m) _ e)

  leaving_test : can_leave b ≡ true → cond (eqb (after b) b.top) (not (end_refused (cut b))) (ltb (after b) b.m) ≡ true
  unfolding can_leave
  leaving_test e = and_right (leb (after b) b.m) _ e

  pub leaving_last : can_leave b ≡ true → after b ≡ b.top → end_refused (cut b) ≡ false
  leaving_last e o = not-true (end_refused (cut b)) (simp (eq-eqb (after b) b.top o) at (leaving_test e))

  pub leaving_inner : can_leave b ≡ true → (after b ≡ b.top → ⊥) → after b < b.m
  leaving_inner e o = ltb-true (after b) b.m (simp (ne_eqb (after b) b.top o) at (leaving_test e))

  pub leaving_alone : can_leave (bare b) ≡ true → can_leave b ≡ true
  unfolding can_leave end_refused no_room is_entry
  leaving_alone e = e

  -- ---- leaving it, where found is the box before the step
  module _ (found : Box) where
    pub leave_last : (r : Reply) → can_leave (bare b) ≡ true → after b ≡ b.top → r ≡ end_cycle found (cut b) → r ≡ leave_tuple found b
    unfolding leave_tuple
    leave_last r e o q = simp (le-leb (after b) b.m (leaving_within (leaving_alone e)), eq-eqb (after b) b.top o, q)

    pub leave_inner : (a : Box) → can_leave (bare b) ≡ true → (after b ≡ b.top → ⊥) → a ≡ go_on (after b) b → reply a 30 ≡ leave_tuple found b
    unfolding leave_tuple
    leave_inner a e o q = simp (le-leb (after b) b.m (leaving_within (leaving_alone e)), ne_eqb (after b) b.top o, lt-ltb (after b) b.m (leaving_inner (leaving_alone e) o), q)

    refused_cases : (w t o l : Bool) (x y : Reply) → (w && cond t (not l) o) ≡ false → (l ≡ true → reply found 9 ≡ x) → reply found 9 ≡ cond w (cond t x (cond o y (reply found 9))) (reply found 9)
    refused_cases true true o true x y e f = f refl
    refused_cases true true o false x y e f = absurd (false≢true (sym e))
    refused_cases true false true l x y e f = absurd (false≢true (sym e))
    refused_cases true false false l x y e f = refl
    refused_cases false t o l x y e f = refl

    pub leave_refused : can_leave b ≡ false → reply found 9 ≡ leave_tuple found b
    unfolding leave_tuple can_leave
    leave_refused e = refused_cases (leb (after b) b.m) (eqb (after b) b.top) (ltb (after b) b.m) (end_refused (cut b)) _ _ e (end_refuses (cut b) found)

module _ (b : Box) where
  -- ---- the move is finished
  staying_alone : can_leave (bare (with_dest (b.collector.dest + b.collector.size + 1) b)) ≡ false → can_leave (settle_move b) ≡ false
  unfolding settle_move can_leave end_refused no_room is_entry
  staying_alone e = e

  pub finish_no_entry : is_entry b.collector.tuple b ≡ false → reply b 9 ≡ finish_move b
  unfolding finish_move
  finish_no_entry e = simp e

  pub finish_over : is_entry b.collector.tuple b ≡ true → ltb (b.collector.dest + b.collector.size) b.m ≡ false → reply b 9 ≡ finish_move b
  unfolding finish_move
  finish_over e t = simp (e, one_more (b.collector.dest + b.collector.size) b.m ∙ t)

  pub finish_refused : is_entry b.collector.tuple b ≡ true → ltb (b.collector.dest + b.collector.size) b.m ≡ true → can_leave (bare (with_dest (b.collector.dest + b.collector.size + 1) b)) ≡ false → reply b 9 ≡ finish_move b
  unfolding finish_move settle_move
  finish_refused e t l = simp (e, one_more (b.collector.dest + b.collector.size) b.m ∙ t) (leave_refused (settle_move b) b (staying_alone l))

  pub finish_left : (r : Reply) → is_entry b.collector.tuple b ≡ true → ltb (b.collector.dest + b.collector.size) b.m ≡ true → r ≡ leave_tuple b (set_address b.collector.tuple b.collector.dest (with_dest (b.collector.dest + b.collector.size + 1) b)) → r ≡ finish_move b
  unfolding finish_move settle_move
  finish_left r e t q = simp (e, one_more (b.collector.dest + b.collector.size) b.m ∙ t, q)

  -- ---- the words
  pub copy_below : (a : ℕ) → a < b.collector.live → with_copy (word_at a b) (with_phase 7 b) ≡ copy_word a b
  unfolding copy_word
  copy_below a o = simp (lt-ltb a b.collector.live o)

  pub copy_above : (a : ℕ) → b.collector.live ≤ a → with_copy (word_at a b) (with_phase 6 b) ≡ copy_word a b
  unfolding copy_word
  copy_above a o = simp (le-ltb a b.collector.live o)

  pub read_word : (a : Box) → b.collector.index ≤ b.collector.size → ltb (b.collector.src + b.collector.index) b.m ≡ true → a ≡ copy_word (b.collector.src + b.collector.index) b → reply a 30 ≡ sweep_read b
  unfolding sweep_read
  read_word a o t q = simp (le-leb b.collector.index b.collector.size o, t, q)

  pub read_refused : b.collector.index ≤ b.collector.size → ltb (b.collector.src + b.collector.index) b.m ≡ false → reply b 9 ≡ sweep_read b
  unfolding sweep_read
  read_refused o t = simp (le-leb b.collector.index b.collector.size o, t)

  pub read_behind : (r : Reply) → b.collector.size < b.collector.index → r ≡ finish_move b → r ≡ sweep_read b
  unfolding sweep_read
  read_behind r o q = simp (lt-leb b.collector.index b.collector.size o, q)

  pub clear_done : ltb (b.collector.src + b.collector.index) b.m ≡ true → reply (to_phase 7 (put (b.collector.src + b.collector.index) (data_word 0) b)) 30 ≡ sweep_clear b
  unfolding sweep_clear
  clear_done t = simp t

  pub clear_refused : ltb (b.collector.src + b.collector.index) b.m ≡ false → reply b 9 ≡ sweep_clear b
  unfolding sweep_clear
  clear_refused t = simp t

  pub write_done : ltb (b.collector.dest + b.collector.index) b.m ≡ true → reply (put (b.collector.dest + b.collector.index) b.collector.copy (with_index (b.collector.index + 1) (with_phase 5 b))) 30 ≡ sweep_write b
  unfolding sweep_write write_copy
  write_done t = simp t

  pub write_refused : ltb (b.collector.dest + b.collector.index) b.m ≡ false → reply b 9 ≡ sweep_write b
  unfolding sweep_write
  write_refused t = simp t

  pub zero_done : (a : Box) → b.collector.index ≤ b.collector.size → ltb (b.collector.src + b.collector.index) b.m ≡ true → a ≡ zero_word b → reply a 30 ≡ sweep_zero b
  unfolding sweep_zero
  zero_done a o t q = simp (le-leb b.collector.index b.collector.size o, t, q)

  pub zero_refused : b.collector.index ≤ b.collector.size → ltb (b.collector.src + b.collector.index) b.m ≡ false → reply b 9 ≡ sweep_zero b
  unfolding sweep_zero
  zero_refused o t = simp (le-leb b.collector.index b.collector.size o, t)

  pub zero_behind : (r : Reply) → b.collector.size < b.collector.index → r ≡ leave_tuple b b → r ≡ sweep_zero b
  unfolding sweep_zero
  zero_behind r o q = simp (lt-leb b.collector.index b.collector.size o, q)
