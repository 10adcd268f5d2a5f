-- A new tuple on the lent parts: the struct is put back, and the register then points to it. By what each call leaves. Assumes
-- nothing.
use Prim.Native.Nat.{ℕ, ◌+◌, ◌*◌}
use mathlib.Core.Bool.{Bool, true, false}
use mathlib.Core.List.{List}
use mathlib.Core.Path.{◌≡◌, sym, ◌∙◌, ap}
use native.Mathlib.Omega.{arith}
use lib.ListN.{length, set}
use lib.Seq.{get_or-set_same, get_or-set_other, take-set-le}
use Rattle.rules.specs.Parts.{Registers, Box, with_held}
use Rattle.rules.specs.Box.{pointer, put_register}
use Rattle.rules.specs.Request.{new_tuple}
use Rattle.rules.specs.Collector.{unheld, granted}
use Rattle.rules.proofs.Kept.{outline, same, tuple_keeps}
use Rattle.collector.specs.declared.state.State.{State}
use Rattle.lent.specs.Lent.{state_of, registers_of, lent, put_in}

-- P0 and P1 make a box of registers and a struct, with the columns as they were and as they are left. The tuple is made on the
-- struct s, which leaves x
module _ (r n tag : ℕ) (P0 P1 : Registers → State → Box) (q : Registers) (s x : State) (e : put_register r (pointer s.free 0) (P1 q x) ≡ new_tuple r n tag (P0 q s)) where
  -- the sizes and the request that the hold names stay
  pub made_outline : outline (put_register r (pointer s.free 0) (P1 q x)) ≡ outline (P0 q s)
  made_outline = ap outline e ∙ (tuple_keeps r n tag (P0 q s) (P0 q s) (same (P0 q s))).outline_same

  -- registers and struct as they are put back
  pub made_lent : (q1 q2 : Registers) (z z1 : State) (bits : ℕ) → put_register r (pointer s.free 0) (P1 q x) ≡ P1 (put_in r (pointer s.free 0) q) x
      → s ≡ z → q1 ≡ put_in r (record { bits = bits; flag = true }) q2 → q2 ≡ q → z1 ≡ x → bits ≡ s.free * 65536 + 0 → P1 q1 z1 ≡ new_tuple r n tag (P0 q z)
  made_lent q1 q2 z z1 bits k t p u w b =
      let v : q1 ≡ put_in r (pointer s.free 0) q = p ∙ ap (λ (y : Registers). put_in r (record { bits = bits; flag = true }) y) u ∙ ap (λ (m : ℕ). put_in r (record { bits = m; flag = true }) q) b in
      ap (λ (y : State). P1 q1 y) w ∙ ap (λ (y : Registers). P1 y x) v ∙ sym k ∙ e ∙ ap (λ (y : State). new_tuple r n tag (P0 q y)) t

-- the hold is dropped
pub dropped : (ns : List ℕ) (sw : List Bool) (hd : List ℕ) (ws : List ℕ) (fs : List Bool) (ads ss ls : List ℕ) (ms ds : List Bool) → length sw ≡ 11
    → lent ns (set sw 9 false) hd ws fs ads ss ls ms ds ≡ with_held false (lent ns sw hd ws fs ads ss ls ms ds)
unfolding state_of registers_of
dropped ns sw hd ws fs ads ss ls ms ds l =
    rw (take-set-le 8 sw 9 false (omega arith), get_or-set_other sw 9 8 false false (omega arith), get_or-set_same sw 9 false false (omega arith), get_or-set_other sw 9 10 false false (omega arith))

pub granted_lent : (b x y : Box) → x ≡ new_tuple b.hold.register b.hold.size b.hold.tag b → y ≡ with_held false x → y ≡ granted b
unfolding granted unheld
granted_lent b x y p q = q ∙ ap (with_held false) p
