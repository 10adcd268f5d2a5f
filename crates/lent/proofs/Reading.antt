-- A register in the lent arrays: read, and written, which leaves the rest of the state. By the laws of lists. Assumes nothing.
use Prim.Native.Nat.{ℕ, ◌+◌, ◌<◌}
use mathlib.Core.Bool.{Bool, false}
use mathlib.Core.List.{List}
use mathlib.Core.Path.{◌≡◌, sym, ◌∙◌, ap}
use native.Mathlib.Omega.{arith}
use lib.ListN.{get_or, set, drop, take}
use lib.Seq.{get_or-drop, get_or-take, get_or-set_other, drop-set-add, take-set-lt}
use Rattle.rules.specs.Parts.{Word}
use Rattle.lent.specs.Lent.{state_of, registers_of, register_in, put_in}

module _ (ns : List ℕ) (sw : List Bool) (r : ℕ) (b : r < 8) where
  swap : r + 14 ≡ 14 + r
  swap = omega arith

  pub read_is : (w : Word) → w.bits ≡ get_or ns (r + 14) 0 → w.flag ≡ get_or sw r false → w ≡ register_in r (registers_of ns sw)
  unfolding registers_of
  read_is w p q =
      let bits : w.bits ≡ get_or (drop 14 ns) r 0 = p ∙ ap (λ (k : ℕ). get_or ns k 0) swap ∙ sym (get_or-drop 14 ns r 0) in
      let flag : w.flag ≡ get_or (take 8 sw) r false = q ∙ sym (get_or-take 8 sw r false b) in
      λ i. record { bits = bits i; flag = flag i }

  pub written_registers : (w : Word) → registers_of (set ns (r + 14) w.bits) (set sw r w.flag) ≡ put_in r w (registers_of ns sw)
  unfolding registers_of
  written_registers w =
      let words : drop 14 (set ns (r + 14) w.bits) ≡ set (drop 14 ns) r w.bits = ap (λ (k : ℕ). drop 14 (set ns k w.bits)) swap ∙ drop-set-add 14 ns r w.bits in
      let flags : take 8 (set sw r w.flag) ≡ set (take 8 sw) r w.flag = take-set-lt 8 sw r w.flag b in
      λ i. record { words = words i; flags = flags i }

  pub written_state : (v : ℕ) (f : Bool) (hd : List ℕ) → state_of (set ns (r + 14) v) (set sw r f) hd ≡ state_of ns sw hd
  unfolding state_of
  written_state v f hd = λ i. record { m = get_or-set_other ns (r + 14) 0 v 0 (omega arith) i; h = get_or-set_other ns (r + 14) 1 v 0 (omega arith) i; top = get_or-set_other ns (r + 14) 2 v 0 (omega arith) i; free = get_or-set_other ns (r + 14) 3 v 0 (omega arith) i; phase = get_or-set_other ns (r + 14) 4 v 0 (omega arith) i; live = get_or-set_other ns (r + 14) 5 v 0 (omega arith) i; current = get_or-set_other ns (r + 14) 6 v 0 (omega arith) i; next = get_or-set_other ns (r + 14) 7 v 0 (omega arith) i; src = get_or-set_other ns (r + 14) 8 v 0 (omega arith) i; dest = get_or-set_other ns (r + 14) 9 v 0 (omega arith) i; tuple = get_or-set_other ns (r + 14) 10 v 0 (omega arith) i; size = get_or-set_other ns (r + 14) 11 v 0 (omega arith) i; index = get_or-set_other ns (r + 14) 12 v 0 (omega arith) i; copy = get_or-set_other ns (r + 14) 13 v 0 (omega arith) i; copy_flag = get_or-set_other sw r 8 f false (omega arith) i; held = get_or-set_other sw r 9 f false (omega arith) i; begun = get_or-set_other sw r 10 f false (omega arith) i; hold_register = get_or hd 0 0; hold_size = get_or hd 1 0; hold_tag = get_or hd 2 0 }
