-- STORE by its cases: what it leaves in the lent parts. By computing the definitions under the facts of each case, and by the laws of
-- lists. Assumes nothing.
use Prim.Native.Nat.{ℕ, ◌<◌}
use mathlib.Core.Bool.{Bool, false}
use mathlib.Core.List.{List}
use mathlib.Core.Path.{◌≡◌, sym, subst}
use native.Mathlib.Omega.{arith}
use lib.ListN.{length, set}
use lib.Seq.{get_or-set_same, get_or-set_other, drop-set-lt, take-set-le}
use Rattle.rules.specs.Parts.{Word, with_copy}
use Rattle.rules.proofs.Kept.{Outline, outline}
use Rattle.lent.specs.declared.unit.MemoryUnit.{MemoryUnit}
use Rattle.lent.specs.Lent.{state_of, registers_of, lent, box_of, state_in}
use Rattle.requests.specs.declared.place.Place as code_place
use Rattle.requests.specs.Found.{Within}

-- ---- the copy register in the lent arrays: number 13 and switch 8

pub copy_put : (w : Word) (ns n1 : List ℕ) (sw s1 : List Bool) (hd ws : List ℕ) (fs : List Bool) (ads ss ls : List ℕ) (ms ds : List Bool) → length ns ≡ 22 → length sw ≡ 11 → n1 ≡ set ns 13 w.bits → s1 ≡ set sw 8 w.flag
    → lent n1 s1 hd ws fs ads ss ls ms ds ≡ with_copy w (lent ns sw hd ws fs ads ss ls ms ds)
unfolding state_of registers_of
copy_put w ns n1 sw s1 hd ws fs ads ss ls ms ds l k e f =
    let v : ℕ = w.bits in
    let g : Bool = w.flag in
    rw (e, f, drop-set-lt 14 ns 13 v (omega arith), take-set-le 8 sw 8 g (omega arith), get_or-set_same ns 13 v 0 (omega arith), get_or-set_same sw 8 g false (omega arith), get_or-set_other sw 8 9 g false (omega arith), get_or-set_other sw 8 10 g false (omega arith), get_or-set_other ns 13 0 v 0 (omega arith), get_or-set_other ns 13 1 v 0 (omega arith), get_or-set_other ns 13 2 v 0 (omega arith), get_or-set_other ns 13 3 v 0 (omega arith), get_or-set_other ns 13 4 v 0 (omega arith), get_or-set_other ns 13 5 v 0 (omega arith), get_or-set_other ns 13 6 v 0 (omega arith), get_or-set_other ns 13 7 v 0 (omega arith), get_or-set_other ns 13 8 v 0 (omega arith), get_or-set_other ns 13 9 v 0 (omega arith), get_or-set_other ns 13 10 v 0 (omega arith), get_or-set_other ns 13 11 v 0 (omega arith), get_or-set_other ns 13 12 v 0 (omega arith))

-- ---- what can be looked up and touched in u can be in v, which has the same sizes

module _ (u v : MemoryUnit) (e : outline (box_of v) ≡ outline (box_of u)) where
  pub tuple_kept : (h : ℕ) → h < (state_in u).h → h < (state_in v).h
  tuple_kept h k = subst (λ (o : Outline). h < o.h) (sym e) k

  pub within_kept : (p : code_place.Place) → Within p (state_in u).m → Within p (state_in v).m
  within_kept p k = subst (λ (o : Outline). Within p o.m) (sym e) k
