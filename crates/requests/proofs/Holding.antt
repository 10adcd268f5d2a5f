-- A new tuple, and a request that is put on hold: what the tests say of the room, and the arrays with the hold. By the laws of stores.
-- Assumes nothing.
use Prim.Native.Nat.{ℕ}
use mathlib.Core.Bool.{Bool, true, false}
use mathlib.Core.List.{List, [], ◌∷◌}
use mathlib.Core.Path.{◌≡◌}
use native.Mathlib.Omega.{arith}
use lib.ListN.{length, set, length-set}
use lib.Seq.{get_or-set_same, get_or-set_other, take-set-le}
use Rattle.rules.specs.Parts.{Box}
use Rattle.rules.specs.Request.{no_room, can_make, put_on_hold}
use Rattle.collector.specs.declared.state.State.{State}
use Rattle.collector.specs.Boxed.{boxed, blank}
use Rattle.collector.proofs.Tuples.{room_top, make_entry, make_live}
use Rattle.lent.specs.Lent.{state_of, registers_of, lent, HasRoom}

-- the struct s with columns that bear on nothing
abbrev alone : State → Box
alone s = boxed blank [] [] [] [] [] [] [] s

-- what the two tests before a new tuple say of the struct
pub has_room : (n : ℕ) (s z : State) → s ≡ z → no_room n (alone s) ≡ false → can_make n (alone s) ≡ true → HasRoom z n
has_room n s z e r m =
    let room : HasRoom s n = (make_entry n (alone s) m, room_top n (alone s) r, make_live n (alone s) m) in
    rw e at room

-- the arrays with a request put on hold: s1 are the switches then
pub hold_box : (ns : List ℕ) (sw s1 : List Bool) (hd : List ℕ) (r n tag : ℕ) (ws : List ℕ) (fs : List Bool) (ads ss ls : List ℕ) (ms ds : List Bool) → length sw ≡ 11 → s1 ≡ set (set sw 9 true) 10 false
    → lent ns s1 (r ∷ n ∷ tag ∷ []) ws fs ads ss ls ms ds ≡ put_on_hold r n tag (lent ns sw hd ws fs ads ss ls ms ds)
unfolding state_of registers_of put_on_hold
hold_box ns sw s1 hd r n tag ws fs ads ss ls ms ds l e =
    rw (e, take-set-le 8 (set sw 9 true) 10 false (omega arith), take-set-le 8 sw 9 true (omega arith), get_or-set_other (set sw 9 true) 10 8 false false (omega arith), get_or-set_other sw 9 8 true false (omega arith), get_or-set_other (set sw 9 true) 10 9 false false (omega arith), get_or-set_same sw 9 true false (omega arith), get_or-set_same (set sw 9 true) 10 false false (simp length-set (omega arith)))
