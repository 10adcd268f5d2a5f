-- The equation of a public call settles every number, switch and hold field: boxes made of two lent states are equal only where the
-- arrays are. Field by field. Assumes nothing.
use Prim.Native.Nat.{ℕ, zero, suc, ◌<◌}
use mathlib.Core.Bool.{Bool, false}
use mathlib.Core.List.{List}
use mathlib.Core.Path.{◌≡◌, sym, ◌∙◌, ap}
use native.Mathlib.Omega.{arith}
use lib.ListN.{length, get_or}
use lib.Seq.{ext_get_or, get_or-drop, get_or-take}
use Rattle.rules.specs.Parts.{Registers}
use Rattle.collector.specs.declared.state.State.{State}
use Rattle.lent.specs.Lent.{state_of, registers_of}

module _ (ns n1 : List ℕ) (sw w1 : List Bool) (hd h1 : List ℕ) (e : state_of ns sw hd ≡ state_of n1 w1 h1) (r : registers_of ns sw ≡ registers_of n1 w1) where
  pub numbers_settled : length ns ≡ 22 → length n1 ≡ 22 → ns ≡ n1
  unfolding state_of registers_of
  numbers_settled l m = ext_get_or 0 ns n1 (l ∙ sym m) (λ k b. at k (omega arith))
    where
      at : (k : ℕ) → k < 22 → get_or ns k 0 ≡ get_or n1 k 0
      at zero b = ap (λ (s : State). s.m) e
      at (suc zero) b = ap (λ (s : State). s.h) e
      at (suc (suc zero)) b = ap (λ (s : State). s.top) e
      at (suc (suc (suc zero))) b = ap (λ (s : State). s.free) e
      at (suc (suc (suc (suc zero)))) b = ap (λ (s : State). s.phase) e
      at (suc (suc (suc (suc (suc zero))))) b = ap (λ (s : State). s.live) e
      at (suc (suc (suc (suc (suc (suc zero)))))) b = ap (λ (s : State). s.current) e
      at (suc (suc (suc (suc (suc (suc (suc zero))))))) b = ap (λ (s : State). s.next) e
      at (suc (suc (suc (suc (suc (suc (suc (suc zero)))))))) b = ap (λ (s : State). s.src) e
      at (suc (suc (suc (suc (suc (suc (suc (suc (suc zero))))))))) b = ap (λ (s : State). s.dest) e
      at (suc (suc (suc (suc (suc (suc (suc (suc (suc (suc zero)))))))))) b = ap (λ (s : State). s.tuple) e
      at (suc (suc (suc (suc (suc (suc (suc (suc (suc (suc (suc zero))))))))))) b = ap (λ (s : State). s.size) e
      at (suc (suc (suc (suc (suc (suc (suc (suc (suc (suc (suc (suc zero)))))))))))) b = ap (λ (s : State). s.index) e
      at (suc (suc (suc (suc (suc (suc (suc (suc (suc (suc (suc (suc (suc zero))))))))))))) b = ap (λ (s : State). s.copy) e
      at (suc (suc (suc (suc (suc (suc (suc (suc (suc (suc (suc (suc (suc (suc zero)))))))))))))) b = sym (get_or-drop 14 ns 0 0) ∙ ap (λ (q : Registers). get_or q.words 0 0) r ∙ get_or-drop 14 n1 0 0
      at (suc (suc (suc (suc (suc (suc (suc (suc (suc (suc (suc (suc (suc (suc (suc zero))))))))))))))) b = sym (get_or-drop 14 ns 1 0) ∙ ap (λ (q : Registers). get_or q.words 1 0) r ∙ get_or-drop 14 n1 1 0
      at (suc (suc (suc (suc (suc (suc (suc (suc (suc (suc (suc (suc (suc (suc (suc (suc zero)))))))))))))))) b = sym (get_or-drop 14 ns 2 0) ∙ ap (λ (q : Registers). get_or q.words 2 0) r ∙ get_or-drop 14 n1 2 0
      at (suc (suc (suc (suc (suc (suc (suc (suc (suc (suc (suc (suc (suc (suc (suc (suc (suc zero))))))))))))))))) b = sym (get_or-drop 14 ns 3 0) ∙ ap (λ (q : Registers). get_or q.words 3 0) r ∙ get_or-drop 14 n1 3 0
      at (suc (suc (suc (suc (suc (suc (suc (suc (suc (suc (suc (suc (suc (suc (suc (suc (suc (suc zero)))))))))))))))))) b = sym (get_or-drop 14 ns 4 0) ∙ ap (λ (q : Registers). get_or q.words 4 0) r ∙ get_or-drop 14 n1 4 0
      at (suc (suc (suc (suc (suc (suc (suc (suc (suc (suc (suc (suc (suc (suc (suc (suc (suc (suc (suc zero))))))))))))))))))) b = sym (get_or-drop 14 ns 5 0) ∙ ap (λ (q : Registers). get_or q.words 5 0) r ∙ get_or-drop 14 n1 5 0
      at (suc (suc (suc (suc (suc (suc (suc (suc (suc (suc (suc (suc (suc (suc (suc (suc (suc (suc (suc (suc zero)))))))))))))))))))) b = sym (get_or-drop 14 ns 6 0) ∙ ap (λ (q : Registers). get_or q.words 6 0) r ∙ get_or-drop 14 n1 6 0
      at (suc (suc (suc (suc (suc (suc (suc (suc (suc (suc (suc (suc (suc (suc (suc (suc (suc (suc (suc (suc (suc zero))))))))))))))))))))) b = sym (get_or-drop 14 ns 7 0) ∙ ap (λ (q : Registers). get_or q.words 7 0) r ∙ get_or-drop 14 n1 7 0
      at (suc (suc (suc (suc (suc (suc (suc (suc (suc (suc (suc (suc (suc (suc (suc (suc (suc (suc (suc (suc (suc (suc k)))))))))))))))))))))) b = absurd (omega arith)

  pub switches_settled : length sw ≡ 11 → length w1 ≡ 11 → sw ≡ w1
  unfolding state_of registers_of
  switches_settled l m = ext_get_or false sw w1 (l ∙ sym m) (λ k b. at k (omega arith))
    where
      at : (k : ℕ) → k < 11 → get_or sw k false ≡ get_or w1 k false
      at zero b = sym (get_or-take 8 sw 0 false (omega arith)) ∙ ap (λ (q : Registers). get_or q.flags 0 false) r ∙ get_or-take 8 w1 0 false (omega arith)
      at (suc zero) b = sym (get_or-take 8 sw 1 false (omega arith)) ∙ ap (λ (q : Registers). get_or q.flags 1 false) r ∙ get_or-take 8 w1 1 false (omega arith)
      at (suc (suc zero)) b = sym (get_or-take 8 sw 2 false (omega arith)) ∙ ap (λ (q : Registers). get_or q.flags 2 false) r ∙ get_or-take 8 w1 2 false (omega arith)
      at (suc (suc (suc zero))) b = sym (get_or-take 8 sw 3 false (omega arith)) ∙ ap (λ (q : Registers). get_or q.flags 3 false) r ∙ get_or-take 8 w1 3 false (omega arith)
      at (suc (suc (suc (suc zero)))) b = sym (get_or-take 8 sw 4 false (omega arith)) ∙ ap (λ (q : Registers). get_or q.flags 4 false) r ∙ get_or-take 8 w1 4 false (omega arith)
      at (suc (suc (suc (suc (suc zero))))) b = sym (get_or-take 8 sw 5 false (omega arith)) ∙ ap (λ (q : Registers). get_or q.flags 5 false) r ∙ get_or-take 8 w1 5 false (omega arith)
      at (suc (suc (suc (suc (suc (suc zero)))))) b = sym (get_or-take 8 sw 6 false (omega arith)) ∙ ap (λ (q : Registers). get_or q.flags 6 false) r ∙ get_or-take 8 w1 6 false (omega arith)
      at (suc (suc (suc (suc (suc (suc (suc zero))))))) b = sym (get_or-take 8 sw 7 false (omega arith)) ∙ ap (λ (q : Registers). get_or q.flags 7 false) r ∙ get_or-take 8 w1 7 false (omega arith)
      at (suc (suc (suc (suc (suc (suc (suc (suc zero)))))))) b = ap (λ (s : State). s.copy_flag) e
      at (suc (suc (suc (suc (suc (suc (suc (suc (suc zero))))))))) b = ap (λ (s : State). s.held) e
      at (suc (suc (suc (suc (suc (suc (suc (suc (suc (suc zero)))))))))) b = ap (λ (s : State). s.begun) e
      at (suc (suc (suc (suc (suc (suc (suc (suc (suc (suc (suc k))))))))))) b = absurd (omega arith)

  pub hold_settled : length hd ≡ 3 → length h1 ≡ 3 → hd ≡ h1
  unfolding state_of
  hold_settled l m = ext_get_or 0 hd h1 (l ∙ sym m) (λ k b. at k (omega arith))
    where
      at : (k : ℕ) → k < 3 → get_or hd k 0 ≡ get_or h1 k 0
      at zero b = ap (λ (s : State). s.hold_register) e
      at (suc zero) b = ap (λ (s : State). s.hold_size) e
      at (suc (suc zero)) b = ap (λ (s : State). s.hold_tag) e
      at (suc (suc (suc k))) b = absurd (omega arith)
