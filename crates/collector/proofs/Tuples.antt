-- Laws of a new tuple: whether it finds room and can be made, and what each column and the state become, over any parts.
-- By computing the definitions under the facts of each case. Assumes nothing.
use Prim.Native.Nat.{ℕ, ◌+◌, ◌*◌, ◌-◌, ◌<◌, ◌≤◌}
use native.Mathlib.Omega.{arith}
use mathlib.Core.Bool.{Bool, true, false, not, cond, ◌||◌}
use mathlib.Core.List.{List}
use mathlib.Core.Path.{◌≡◌, refl, ◌∙◌, ap}
use lib.Dec.{eqb, leb, ltb}
use lib.ListN.{get_or, set}
use borrow.Author.Tests.{eq-eqb, ne_eqb, lt-ltb, le-ltb, lt-leb, ltb-true, ltb-false, leb-true, leb-false}
use Rattle.collector.specs.declared.state.State.{State}
use Rattle.rules.specs.Parts.{Registers, Box, with_free, with_live, with_top}
use Rattle.rules.specs.Box.{pointer, put_register, is_entry}
use Rattle.collector.specs.Boxed.{boxed}
use Rattle.rules.specs.Request.{no_room, collecting, can_make, new_entry, take_room, new_tuple}
use Rattle.collector.proofs.Compare.{same_test, below_difference}
use Rattle.collector.proofs.Entries.{entry, entry_nil, entry_far}
use Rattle.rules.proofs.Sizes.{and_left, and_right}

-- ---- tests by subtraction

over_test : (m t n : ℕ) → t ≤ m → leb (m - t) n ≡ ltb m (t + n + 1)
over_test m t n l =
    same_test (leb (m - t) n) (ltb m (t + n + 1)) (λ e. lt-ltb m (t + n + 1) (omega (arith, leb-true (m - t) n e)))
    (λ e. le-ltb m (t + n + 1) (omega (arith, leb-false (m - t) n e)))

or_right : (a b : Bool) → (a || b) ≡ false → b ≡ false
or_right true true p = p
or_right true false p = refl
or_right false b p = p

-- ---- whether there is room

module _ (n : ℕ) (b : Box) where
  pub no_handle : b.free ≡ 0 → true ≡ no_room n b
  unfolding no_room
  no_handle z = simp (eq-eqb b.free 0 z)

  pub top_over : (b.free ≡ 0 → ⊥) → b.m < b.top → true ≡ no_room n b
  unfolding no_room
  top_over f o = simp (ne_eqb b.free 0 f, lt-ltb b.m (b.top + n + 1) (omega arith))

  pub by_rest : (b.free ≡ 0 → ⊥) → b.top ≤ b.m → leb (b.m - b.top) n ≡ no_room n b
  unfolding no_room
  by_rest f o = simp (ne_eqb b.free 0 f, over_test b.m b.top n o)

  pub room_top : no_room n b ≡ false → b.top + n + 1 ≤ b.m
  unfolding no_room
  room_top t = ltb-false b.m (b.top + n + 1) (or_right (eqb b.free 0) _ t)

-- ---- whether it can be made

module _ (n : ℕ) (b : Box) where
  pub make_nil : b.free ≡ 0 → false ≡ can_make n b
  unfolding can_make
  make_nil z = simp (entry_nil b.free b z)

  pub make_far : b.h ≤ b.free → false ≡ can_make n b
  unfolding can_make
  make_far f = simp (entry_far b.free b f)

  pub make_rest : (b.free ≡ 0 → ⊥) → b.free < b.h → b.collector.phase ≡ 0 → true ≡ can_make n b
  unfolding can_make collecting
  make_rest f q z = simp (entry b.free b (omega arith) q, eq-eqb b.collector.phase 0 z)

  pub make_over : (b.free ≡ 0 → ⊥) → b.free < b.h → (b.collector.phase ≡ 0 → ⊥) → b.m < b.collector.live → false ≡ can_make n b
  unfolding can_make collecting
  make_over f q z o = simp (entry b.free b (omega arith) q, ne_eqb b.collector.phase 0 z, lt-leb (b.collector.live + n + 1) b.m (omega arith))

  pub make_by_rest : (b.free ≡ 0 → ⊥) → b.free < b.h → (b.collector.phase ≡ 0 → ⊥) → b.collector.live ≤ b.m → ltb n (b.m - b.collector.live) ≡ can_make n b
  unfolding can_make collecting
  make_by_rest f q z o = simp (entry b.free b (omega arith) q, ne_eqb b.collector.phase 0 z, below_difference b.m b.collector.live n o)

  pub make_entry : can_make n b ≡ true → b.free < b.h
  unfolding can_make is_entry
  make_entry t = ltb-true b.free b.h (and_right (leb 1 b.free) _ (and_left (is_entry b.free b) _ t))

  pub make_live : can_make n b ≡ true → (b.collector.phase ≡ 0 → ⊥) → b.collector.live + n + 1 ≤ b.m
  unfolding can_make collecting
  make_live t z = leb-true _ _ (simp (ne_eqb b.collector.phase 0 z) at (and_right (is_entry b.free b) _ t))

-- ---- what it leaves

-- in Rest live is as it was
pub rest_live : (p l k : ℕ) → p ≡ 0 → l ≡ cond (not (eqb p 0)) k l
rest_live p l k e = simp (eq-eqb p 0 e)

-- the columns and the numbers as they are left; r may be any register
pub made : (q : Registers) (ws : List ℕ) (fs : List Bool) (ads ss ls : List ℕ) (ms ds : List Bool) (r n tag control : ℕ) (s : State) (x : Box) → control ≡ s.free * 65536 + tag → x ≡ with_free (get_or ls s.free 0) (with_top (s.top + n + 1) (with_live (cond (not (eqb s.phase 0)) (s.live + n + 1) s.live) (boxed q (set ws s.top control) (set fs s.top false) (set ads s.free s.top) (set ss s.free n) ls (set ms s.free (not (eqb s.phase 0))) (set ds s.free false) s))) → put_register r (pointer s.free 0) x ≡ new_tuple r n tag (boxed q ws fs ads ss ls ms ds s)
unfolding collecting new_entry take_room new_tuple
made q ws fs ads ss ls ms ds r n tag control s x p1 p3 = ap (put_register r (pointer s.free 0)) p3 ∙ rw p1
