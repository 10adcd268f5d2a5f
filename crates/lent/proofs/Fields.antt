-- The lent arrays as a list of their numbers, and what is left when a rule's changed fields are put back: the struct that the rule
-- left, and the registers as they were. By writing the arrays out. Assumes nothing.
use Prim.Native.Nat.{ℕ, zero, suc, ◌<◌}
use mathlib.Core.Bool.{Bool, true, false, not, cond, beq, false≢true}
use mathlib.Core.List.{List, [], ◌∷◌}
use mathlib.Core.Path.{◌≡◌, refl, sym, ◌∙◌, ap}
use native.Mathlib.Omega.{arith}
use borrow.Author.Tests.{eqb-true}
use lib.Dec.{eqb}
use lib.ListN.{length, get_or, set, drop, take}
use lib.Seq.{ext_get_or, set-get_or}
use Rattle.collector.specs.declared.state.State.{State}
use Rattle.lent.specs.Lent.{state_of, registers_of, put_at, put_flag}

-- ---- storing what is there changes nothing

put_set : (l : List ℕ) (i o n : ℕ) → get_or l i 0 ≡ o → put_at l i o n ≡ set l i n
unfolding put_at
put_set l i o n e = go (eqb o n) refl
  where
    go : (t : Bool) → eqb o n ≡ t → cond t l (set l i n) ≡ set l i n
    go true q = sym (set-get_or l i 0) ∙ ap (set l i) (e ∙ eqb-true o n q)
    go false q = refl

put_flag_set : (l : List Bool) (i : ℕ) (o n : Bool) → get_or l i false ≡ o → put_flag l i o n ≡ set l i n
unfolding put_flag
put_flag_set l i true true e = sym (set-get_or l i false) ∙ ap (set l i) e
put_flag_set l i true false e = refl
put_flag_set l i false true e = refl
put_flag_set l i false false e = sym (set-get_or l i false) ∙ ap (set l i) e

-- a switch that differs is stored, and one that does not is left
pub flag_differs : (l : List Bool) (i : ℕ) (o n : Bool) → not (beq o n) ≡ true → set l i n ≡ put_flag l i o n
unfolding put_flag
flag_differs l i true true e = absurd (false≢true e)
flag_differs l i true false e = refl
flag_differs l i false true e = refl
flag_differs l i false false e = absurd (false≢true e)

pub flag_same : (l : List Bool) (i : ℕ) (o n : Bool) → not (beq o n) ≡ false → l ≡ put_flag l i o n
unfolding put_flag
flag_same l i true true e = refl
flag_same l i true false e = absurd (false≢true (sym e))
flag_same l i false true e = absurd (false≢true (sym e))
flag_same l i false false e = refl

-- ---- the arrays written out

abbrev numbers : List ℕ → List ℕ
numbers l = get_or l 0 0 ∷ get_or l 1 0 ∷ get_or l 2 0 ∷ get_or l 3 0 ∷ get_or l 4 0 ∷ get_or l 5 0 ∷ get_or l 6 0 ∷ get_or l 7 0 ∷ get_or l 8 0 ∷ get_or l 9 0 ∷ get_or l 10 0 ∷ get_or l 11 0 ∷ get_or l 12 0 ∷ get_or l 13 0 ∷ get_or l 14 0 ∷ get_or l 15 0 ∷ get_or l 16 0 ∷ get_or l 17 0 ∷ get_or l 18 0 ∷ get_or l 19 0 ∷ get_or l 20 0 ∷ get_or l 21 0 ∷ []

pub numbers_are : (l : List ℕ) → length l ≡ 22 → l ≡ numbers l
numbers_are l e = ext_get_or 0 l (numbers l) e (λ k b. at k (omega arith))
  where
    at : (k : ℕ) → k < 22 → get_or l k 0 ≡ get_or (numbers l) k 0
    at zero b = refl
    at (suc zero) b = refl
    at (suc (suc zero)) b = refl
    at (suc (suc (suc zero))) b = refl
    at (suc (suc (suc (suc zero)))) b = refl
    at (suc (suc (suc (suc (suc zero))))) b = refl
    at (suc (suc (suc (suc (suc (suc zero)))))) b = refl
    at (suc (suc (suc (suc (suc (suc (suc zero))))))) b = refl
    at (suc (suc (suc (suc (suc (suc (suc (suc zero)))))))) b = refl
    at (suc (suc (suc (suc (suc (suc (suc (suc (suc zero))))))))) b = refl
    at (suc (suc (suc (suc (suc (suc (suc (suc (suc (suc zero)))))))))) b = refl
    at (suc (suc (suc (suc (suc (suc (suc (suc (suc (suc (suc zero))))))))))) b = refl
    at (suc (suc (suc (suc (suc (suc (suc (suc (suc (suc (suc (suc zero)))))))))))) b = refl
    at (suc (suc (suc (suc (suc (suc (suc (suc (suc (suc (suc (suc (suc zero))))))))))))) b = refl
    at (suc (suc (suc (suc (suc (suc (suc (suc (suc (suc (suc (suc (suc (suc zero)))))))))))))) b = refl
    at (suc (suc (suc (suc (suc (suc (suc (suc (suc (suc (suc (suc (suc (suc (suc zero))))))))))))))) b = refl
    at (suc (suc (suc (suc (suc (suc (suc (suc (suc (suc (suc (suc (suc (suc (suc (suc zero)))))))))))))))) b = refl
    at (suc (suc (suc (suc (suc (suc (suc (suc (suc (suc (suc (suc (suc (suc (suc (suc (suc zero))))))))))))))))) b = refl
    at (suc (suc (suc (suc (suc (suc (suc (suc (suc (suc (suc (suc (suc (suc (suc (suc (suc (suc zero)))))))))))))))))) b = refl
    at (suc (suc (suc (suc (suc (suc (suc (suc (suc (suc (suc (suc (suc (suc (suc (suc (suc (suc (suc zero))))))))))))))))))) b = refl
    at (suc (suc (suc (suc (suc (suc (suc (suc (suc (suc (suc (suc (suc (suc (suc (suc (suc (suc (suc (suc zero)))))))))))))))))))) b = refl
    at (suc (suc (suc (suc (suc (suc (suc (suc (suc (suc (suc (suc (suc (suc (suc (suc (suc (suc (suc (suc (suc zero))))))))))))))))))))) b = refl
    at (suc (suc (suc (suc (suc (suc (suc (suc (suc (suc (suc (suc (suc (suc (suc (suc (suc (suc (suc (suc (suc (suc k)))))))))))))))))))))) b = absurd (omega arith)

abbrev switches : List Bool → List Bool
switches l = get_or l 0 false ∷ get_or l 1 false ∷ get_or l 2 false ∷ get_or l 3 false ∷ get_or l 4 false ∷ get_or l 5 false ∷ get_or l 6 false ∷ get_or l 7 false ∷ get_or l 8 false ∷ get_or l 9 false ∷ get_or l 10 false ∷ []

pub switches_are : (l : List Bool) → length l ≡ 11 → l ≡ switches l
switches_are l e = ext_get_or false l (switches l) e (λ k b. at k (omega arith))
  where
    at : (k : ℕ) → k < 11 → get_or l k false ≡ get_or (switches l) k false
    at zero b = refl
    at (suc zero) b = refl
    at (suc (suc zero)) b = refl
    at (suc (suc (suc zero))) b = refl
    at (suc (suc (suc (suc zero)))) b = refl
    at (suc (suc (suc (suc (suc zero))))) b = refl
    at (suc (suc (suc (suc (suc (suc zero)))))) b = refl
    at (suc (suc (suc (suc (suc (suc (suc zero))))))) b = refl
    at (suc (suc (suc (suc (suc (suc (suc (suc zero)))))))) b = refl
    at (suc (suc (suc (suc (suc (suc (suc (suc (suc zero))))))))) b = refl
    at (suc (suc (suc (suc (suc (suc (suc (suc (suc (suc zero)))))))))) b = refl
    at (suc (suc (suc (suc (suc (suc (suc (suc (suc (suc (suc k))))))))))) b = absurd (omega arith)

-- ---- the fields that are put back, group by group

abbrev pub put_room : List ℕ → State → State → List ℕ
put_room ns b s = put_at (put_at (put_at (put_at ns 2 b.top s.top) 3 b.free s.free) 4 b.phase s.phase) 5 b.live s.live

abbrev pub put_lists : List ℕ → State → State → List ℕ
put_lists ns b s = put_at (put_at (put_at ns 6 b.current s.current) 7 b.next s.next) 13 b.copy s.copy

abbrev pub put_walk : List ℕ → State → State → List ℕ
put_walk ns b s = put_at (put_at (put_at (put_at (put_at ns 8 b.src s.src) 9 b.dest s.dest) 10 b.tuple s.tuple) 11 b.size s.size) 12 b.index s.index

abbrev pub put_flags : List Bool → State → State → List Bool
put_flags sw b s = put_flag (put_flag (put_flag sw 8 b.copy_flag s.copy_flag) 9 b.held s.held) 10 b.begun s.begun

room_is : (a0 a1 a2 a3 a4 a5 a6 a7 a8 a9 a10 a11 a12 a13 a14 a15 a16 a17 a18 a19 a20 a21 : ℕ) (b s : State) (p2 : a2 ≡ b.top) (p3 : a3 ≡ b.free) (p4 : a4 ≡ b.phase) (p5 : a5 ≡ b.live) → put_room (a0 ∷ a1 ∷ a2 ∷ a3 ∷ a4 ∷ a5 ∷ a6 ∷ a7 ∷ a8 ∷ a9 ∷ a10 ∷ a11 ∷ a12 ∷ a13 ∷ a14 ∷ a15 ∷ a16 ∷ a17 ∷ a18 ∷ a19 ∷ a20 ∷ a21 ∷ []) b s ≡ a0 ∷ a1 ∷ s.top ∷ s.free ∷ s.phase ∷ s.live ∷ a6 ∷ a7 ∷ a8 ∷ a9 ∷ a10 ∷ a11 ∷ a12 ∷ a13 ∷ a14 ∷ a15 ∷ a16 ∷ a17 ∷ a18 ∷ a19 ∷ a20 ∷ a21 ∷ []
room_is a0 a1 a2 a3 a4 a5 a6 a7 a8 a9 a10 a11 a12 a13 a14 a15 a16 a17 a18 a19 a20 a21 b s p2 p3 p4 p5 =
    rw (put_set (a0 ∷ a1 ∷ a2 ∷ a3 ∷ a4 ∷ a5 ∷ a6 ∷ a7 ∷ a8 ∷ a9 ∷ a10 ∷ a11 ∷ a12 ∷ a13 ∷ a14 ∷ a15 ∷ a16 ∷ a17 ∷ a18 ∷ a19 ∷ a20 ∷ a21 ∷ []) 2 b.top s.top p2, put_set (a0 ∷ a1 ∷ s.top ∷ a3 ∷ a4 ∷ a5 ∷ a6 ∷ a7 ∷ a8 ∷ a9 ∷ a10 ∷ a11 ∷ a12 ∷ a13 ∷ a14 ∷ a15 ∷ a16 ∷ a17 ∷ a18 ∷ a19 ∷ a20 ∷ a21 ∷ []) 3 b.free s.free p3, put_set (a0 ∷ a1 ∷ s.top ∷ s.free ∷ a4 ∷ a5 ∷ a6 ∷ a7 ∷ a8 ∷ a9 ∷ a10 ∷ a11 ∷ a12 ∷ a13 ∷ a14 ∷ a15 ∷ a16 ∷ a17 ∷ a18 ∷ a19 ∷ a20 ∷ a21 ∷ []) 4 b.phase s.phase p4, put_set (a0 ∷ a1 ∷ s.top ∷ s.free ∷ s.phase ∷ a5 ∷ a6 ∷ a7 ∷ a8 ∷ a9 ∷ a10 ∷ a11 ∷ a12 ∷ a13 ∷ a14 ∷ a15 ∷ a16 ∷ a17 ∷ a18 ∷ a19 ∷ a20 ∷ a21 ∷ []) 5 b.live s.live p5)

lists_is : (a0 a1 a2 a3 a4 a5 a6 a7 a8 a9 a10 a11 a12 a13 a14 a15 a16 a17 a18 a19 a20 a21 : ℕ) (b s : State) (p6 : a6 ≡ b.current) (p7 : a7 ≡ b.next) (p13 : a13 ≡ b.copy) → put_lists (a0 ∷ a1 ∷ s.top ∷ s.free ∷ s.phase ∷ s.live ∷ a6 ∷ a7 ∷ a8 ∷ a9 ∷ a10 ∷ a11 ∷ a12 ∷ a13 ∷ a14 ∷ a15 ∷ a16 ∷ a17 ∷ a18 ∷ a19 ∷ a20 ∷ a21 ∷ []) b s ≡ a0 ∷ a1 ∷ s.top ∷ s.free ∷ s.phase ∷ s.live ∷ s.current ∷ s.next ∷ a8 ∷ a9 ∷ a10 ∷ a11 ∷ a12 ∷ s.copy ∷ a14 ∷ a15 ∷ a16 ∷ a17 ∷ a18 ∷ a19 ∷ a20 ∷ a21 ∷ []
lists_is a0 a1 a2 a3 a4 a5 a6 a7 a8 a9 a10 a11 a12 a13 a14 a15 a16 a17 a18 a19 a20 a21 b s p6 p7 p13 =
    rw (put_set (a0 ∷ a1 ∷ s.top ∷ s.free ∷ s.phase ∷ s.live ∷ a6 ∷ a7 ∷ a8 ∷ a9 ∷ a10 ∷ a11 ∷ a12 ∷ a13 ∷ a14 ∷ a15 ∷ a16 ∷ a17 ∷ a18 ∷ a19 ∷ a20 ∷ a21 ∷ []) 6 b.current s.current p6, put_set (a0 ∷ a1 ∷ s.top ∷ s.free ∷ s.phase ∷ s.live ∷ s.current ∷ a7 ∷ a8 ∷ a9 ∷ a10 ∷ a11 ∷ a12 ∷ a13 ∷ a14 ∷ a15 ∷ a16 ∷ a17 ∷ a18 ∷ a19 ∷ a20 ∷ a21 ∷ []) 7 b.next s.next p7, put_set (a0 ∷ a1 ∷ s.top ∷ s.free ∷ s.phase ∷ s.live ∷ s.current ∷ s.next ∷ a8 ∷ a9 ∷ a10 ∷ a11 ∷ a12 ∷ a13 ∷ a14 ∷ a15 ∷ a16 ∷ a17 ∷ a18 ∷ a19 ∷ a20 ∷ a21 ∷ []) 13 b.copy s.copy p13)

walk_is : (a0 a1 a2 a3 a4 a5 a6 a7 a8 a9 a10 a11 a12 a13 a14 a15 a16 a17 a18 a19 a20 a21 : ℕ) (b s : State) (p8 : a8 ≡ b.src) (p9 : a9 ≡ b.dest) (p10 : a10 ≡ b.tuple) (p11 : a11 ≡ b.size) (p12 : a12 ≡ b.index) → put_walk (a0 ∷ a1 ∷ s.top ∷ s.free ∷ s.phase ∷ s.live ∷ s.current ∷ s.next ∷ a8 ∷ a9 ∷ a10 ∷ a11 ∷ a12 ∷ s.copy ∷ a14 ∷ a15 ∷ a16 ∷ a17 ∷ a18 ∷ a19 ∷ a20 ∷ a21 ∷ []) b s ≡ a0 ∷ a1 ∷ s.top ∷ s.free ∷ s.phase ∷ s.live ∷ s.current ∷ s.next ∷ s.src ∷ s.dest ∷ s.tuple ∷ s.size ∷ s.index ∷ s.copy ∷ a14 ∷ a15 ∷ a16 ∷ a17 ∷ a18 ∷ a19 ∷ a20 ∷ a21 ∷ []
walk_is a0 a1 a2 a3 a4 a5 a6 a7 a8 a9 a10 a11 a12 a13 a14 a15 a16 a17 a18 a19 a20 a21 b s p8 p9 p10 p11 p12 =
    rw (put_set (a0 ∷ a1 ∷ s.top ∷ s.free ∷ s.phase ∷ s.live ∷ s.current ∷ s.next ∷ a8 ∷ a9 ∷ a10 ∷ a11 ∷ a12 ∷ s.copy ∷ a14 ∷ a15 ∷ a16 ∷ a17 ∷ a18 ∷ a19 ∷ a20 ∷ a21 ∷ []) 8 b.src s.src p8, put_set (a0 ∷ a1 ∷ s.top ∷ s.free ∷ s.phase ∷ s.live ∷ s.current ∷ s.next ∷ s.src ∷ a9 ∷ a10 ∷ a11 ∷ a12 ∷ s.copy ∷ a14 ∷ a15 ∷ a16 ∷ a17 ∷ a18 ∷ a19 ∷ a20 ∷ a21 ∷ []) 9 b.dest s.dest p9, put_set (a0 ∷ a1 ∷ s.top ∷ s.free ∷ s.phase ∷ s.live ∷ s.current ∷ s.next ∷ s.src ∷ s.dest ∷ a10 ∷ a11 ∷ a12 ∷ s.copy ∷ a14 ∷ a15 ∷ a16 ∷ a17 ∷ a18 ∷ a19 ∷ a20 ∷ a21 ∷ []) 10 b.tuple s.tuple p10, put_set (a0 ∷ a1 ∷ s.top ∷ s.free ∷ s.phase ∷ s.live ∷ s.current ∷ s.next ∷ s.src ∷ s.dest ∷ s.tuple ∷ a11 ∷ a12 ∷ s.copy ∷ a14 ∷ a15 ∷ a16 ∷ a17 ∷ a18 ∷ a19 ∷ a20 ∷ a21 ∷ []) 11 b.size s.size p11, put_set (a0 ∷ a1 ∷ s.top ∷ s.free ∷ s.phase ∷ s.live ∷ s.current ∷ s.next ∷ s.src ∷ s.dest ∷ s.tuple ∷ s.size ∷ a12 ∷ s.copy ∷ a14 ∷ a15 ∷ a16 ∷ a17 ∷ a18 ∷ a19 ∷ a20 ∷ a21 ∷ []) 12 b.index s.index p12)

flags_is : (f0 f1 f2 f3 f4 f5 f6 f7 f8 f9 f10 : Bool) (b s : State) (p8 : f8 ≡ b.copy_flag) (p9 : f9 ≡ b.held) (p10 : f10 ≡ b.begun) → put_flags (f0 ∷ f1 ∷ f2 ∷ f3 ∷ f4 ∷ f5 ∷ f6 ∷ f7 ∷ f8 ∷ f9 ∷ f10 ∷ []) b s ≡ f0 ∷ f1 ∷ f2 ∷ f3 ∷ f4 ∷ f5 ∷ f6 ∷ f7 ∷ s.copy_flag ∷ s.held ∷ s.begun ∷ []
flags_is f0 f1 f2 f3 f4 f5 f6 f7 f8 f9 f10 b s p8 p9 p10 =
    rw (put_flag_set (f0 ∷ f1 ∷ f2 ∷ f3 ∷ f4 ∷ f5 ∷ f6 ∷ f7 ∷ f8 ∷ f9 ∷ f10 ∷ []) 8 b.copy_flag s.copy_flag p8, put_flag_set (f0 ∷ f1 ∷ f2 ∷ f3 ∷ f4 ∷ f5 ∷ f6 ∷ f7 ∷ s.copy_flag ∷ f9 ∷ f10 ∷ []) 9 b.held s.held p9, put_flag_set (f0 ∷ f1 ∷ f2 ∷ f3 ∷ f4 ∷ f5 ∷ f6 ∷ f7 ∷ s.copy_flag ∷ s.held ∷ f10 ∷ []) 10 b.begun s.begun p10)

-- ---- all of them

-- what is left: the struct s that a rule left of b, and the registers
pub record PutBack (ns n3 : List ℕ) (sw w1 : List Bool) (hd : List ℕ) (s : State) : Type 0 where
  pub state_is : state_of n3 w1 hd ≡ s
  pub registers_are : registers_of n3 w1 ≡ registers_of ns sw

module _ (ns : List ℕ) (sw : List Bool) (hd : List ℕ) (b s : State) (l : length ns ≡ 22) (w : length sw ≡ 11) (t : b ≡ state_of ns sw hd) where
  rooms : put_room ns b s ≡ get_or ns 0 0 ∷ get_or ns 1 0 ∷ s.top ∷ s.free ∷ s.phase ∷ s.live ∷ get_or ns 6 0 ∷ get_or ns 7 0 ∷ get_or ns 8 0 ∷ get_or ns 9 0 ∷ get_or ns 10 0 ∷ get_or ns 11 0 ∷ get_or ns 12 0 ∷ get_or ns 13 0 ∷ get_or ns 14 0 ∷ get_or ns 15 0 ∷ get_or ns 16 0 ∷ get_or ns 17 0 ∷ get_or ns 18 0 ∷ get_or ns 19 0 ∷ get_or ns 20 0 ∷ get_or ns 21 0 ∷ []
  unfolding state_of
  rooms = ap (λ (x : List ℕ). put_room x b s) (numbers_are ns l) ∙ room_is (get_or ns 0 0) (get_or ns 1 0) (get_or ns 2 0) (get_or ns 3 0) (get_or ns 4 0) (get_or ns 5 0) (get_or ns 6 0) (get_or ns 7 0) (get_or ns 8 0) (get_or ns 9 0) (get_or ns 10 0) (get_or ns 11 0) (get_or ns 12 0) (get_or ns 13 0) (get_or ns 14 0) (get_or ns 15 0) (get_or ns 16 0) (get_or ns 17 0) (get_or ns 18 0) (get_or ns 19 0) (get_or ns 20 0) (get_or ns 21 0) b s (sym (ap (λ (x : State). x.top) t)) (sym (ap (λ (x : State). x.free) t)) (sym (ap (λ (x : State). x.phase) t)) (sym (ap (λ (x : State). x.live) t))

  listed : put_lists (put_room ns b s) b s ≡ get_or ns 0 0 ∷ get_or ns 1 0 ∷ s.top ∷ s.free ∷ s.phase ∷ s.live ∷ s.current ∷ s.next ∷ get_or ns 8 0 ∷ get_or ns 9 0 ∷ get_or ns 10 0 ∷ get_or ns 11 0 ∷ get_or ns 12 0 ∷ s.copy ∷ get_or ns 14 0 ∷ get_or ns 15 0 ∷ get_or ns 16 0 ∷ get_or ns 17 0 ∷ get_or ns 18 0 ∷ get_or ns 19 0 ∷ get_or ns 20 0 ∷ get_or ns 21 0 ∷ []
  unfolding state_of
  listed = ap (λ (x : List ℕ). put_lists x b s) rooms ∙ lists_is (get_or ns 0 0) (get_or ns 1 0) (get_or ns 2 0) (get_or ns 3 0) (get_or ns 4 0) (get_or ns 5 0) (get_or ns 6 0) (get_or ns 7 0) (get_or ns 8 0) (get_or ns 9 0) (get_or ns 10 0) (get_or ns 11 0) (get_or ns 12 0) (get_or ns 13 0) (get_or ns 14 0) (get_or ns 15 0) (get_or ns 16 0) (get_or ns 17 0) (get_or ns 18 0) (get_or ns 19 0) (get_or ns 20 0) (get_or ns 21 0) b s (sym (ap (λ (x : State). x.current) t)) (sym (ap (λ (x : State). x.next) t)) (sym (ap (λ (x : State). x.copy) t))

  walked : put_walk (put_lists (put_room ns b s) b s) b s ≡ get_or ns 0 0 ∷ get_or ns 1 0 ∷ s.top ∷ s.free ∷ s.phase ∷ s.live ∷ s.current ∷ s.next ∷ s.src ∷ s.dest ∷ s.tuple ∷ s.size ∷ s.index ∷ s.copy ∷ get_or ns 14 0 ∷ get_or ns 15 0 ∷ get_or ns 16 0 ∷ get_or ns 17 0 ∷ get_or ns 18 0 ∷ get_or ns 19 0 ∷ get_or ns 20 0 ∷ get_or ns 21 0 ∷ []
  unfolding state_of
  walked = ap (λ (x : List ℕ). put_walk x b s) listed ∙ walk_is (get_or ns 0 0) (get_or ns 1 0) (get_or ns 2 0) (get_or ns 3 0) (get_or ns 4 0) (get_or ns 5 0) (get_or ns 6 0) (get_or ns 7 0) (get_or ns 8 0) (get_or ns 9 0) (get_or ns 10 0) (get_or ns 11 0) (get_or ns 12 0) (get_or ns 13 0) (get_or ns 14 0) (get_or ns 15 0) (get_or ns 16 0) (get_or ns 17 0) (get_or ns 18 0) (get_or ns 19 0) (get_or ns 20 0) (get_or ns 21 0) b s (sym (ap (λ (x : State). x.src) t)) (sym (ap (λ (x : State). x.dest) t)) (sym (ap (λ (x : State). x.tuple) t)) (sym (ap (λ (x : State). x.size) t)) (sym (ap (λ (x : State). x.index) t))

  flagged : put_flags sw b s ≡ get_or sw 0 false ∷ get_or sw 1 false ∷ get_or sw 2 false ∷ get_or sw 3 false ∷ get_or sw 4 false ∷ get_or sw 5 false ∷ get_or sw 6 false ∷ get_or sw 7 false ∷ s.copy_flag ∷ s.held ∷ s.begun ∷ []
  unfolding state_of
  flagged = ap (λ (x : List Bool). put_flags x b s) (switches_are sw w) ∙ flags_is (get_or sw 0 false) (get_or sw 1 false) (get_or sw 2 false) (get_or sw 3 false) (get_or sw 4 false) (get_or sw 5 false) (get_or sw 6 false) (get_or sw 7 false) (get_or sw 8 false) (get_or sw 9 false) (get_or sw 10 false) b s (sym (ap (λ (x : State). x.copy_flag) t)) (sym (ap (λ (x : State). x.held) t)) (sym (ap (λ (x : State). x.begun) t))

  pub put_back : (n1 n2 n3 : List ℕ) (w1 : List Bool) → n1 ≡ put_room ns b s → n2 ≡ put_lists n1 b s → n3 ≡ put_walk n2 b s → w1 ≡ put_flags sw b s
      → s.m ≡ b.m → s.h ≡ b.h → s.hold_register ≡ b.hold_register → s.hold_size ≡ b.hold_size → s.hold_tag ≡ b.hold_tag → PutBack ns n3 sw w1 hd s
  unfolding state_of registers_of
  put_back n1 n2 n3 w1 p1 p2 p3 p4 em eh er ez eg =
      let n : n3 ≡ get_or ns 0 0 ∷ get_or ns 1 0 ∷ s.top ∷ s.free ∷ s.phase ∷ s.live ∷ s.current ∷ s.next ∷ s.src ∷ s.dest ∷ s.tuple ∷ s.size ∷ s.index ∷ s.copy ∷ get_or ns 14 0 ∷ get_or ns 15 0 ∷ get_or ns 16 0 ∷ get_or ns 17 0 ∷ get_or ns 18 0 ∷ get_or ns 19 0 ∷ get_or ns 20 0 ∷ get_or ns 21 0 ∷ [] = p3 ∙ ap (λ (x : List ℕ). put_walk x b s) (p2 ∙ ap (λ (x : List ℕ). put_lists x b s) p1) ∙ walked in
      let f : w1 ≡ get_or sw 0 false ∷ get_or sw 1 false ∷ get_or sw 2 false ∷ get_or sw 3 false ∷ get_or sw 4 false ∷ get_or sw 5 false ∷ get_or sw 6 false ∷ get_or sw 7 false ∷ s.copy_flag ∷ s.held ∷ s.begun ∷ [] = p4 ∙ flagged in
      let qm : get_or ns 0 0 ≡ s.m = sym (em ∙ ap (λ (x : State). x.m) t) in
      let qh : get_or ns 1 0 ≡ s.h = sym (eh ∙ ap (λ (x : State). x.h) t) in
      let qr : get_or hd 0 0 ≡ s.hold_register = sym (er ∙ ap (λ (x : State). x.hold_register) t) in
      let qz : get_or hd 1 0 ≡ s.hold_size = sym (ez ∙ ap (λ (x : State). x.hold_size) t) in
      let qg : get_or hd 2 0 ≡ s.hold_tag = sym (eg ∙ ap (λ (x : State). x.hold_tag) t) in
      let same : state_of (get_or ns 0 0 ∷ get_or ns 1 0 ∷ s.top ∷ s.free ∷ s.phase ∷ s.live ∷ s.current ∷ s.next ∷ s.src ∷ s.dest ∷ s.tuple ∷ s.size ∷ s.index ∷ s.copy ∷ get_or ns 14 0 ∷ get_or ns 15 0 ∷ get_or ns 16 0 ∷ get_or ns 17 0 ∷ get_or ns 18 0 ∷ get_or ns 19 0 ∷ get_or ns 20 0 ∷ get_or ns 21 0 ∷ []) (get_or sw 0 false ∷ get_or sw 1 false ∷ get_or sw 2 false ∷ get_or sw 3 false ∷ get_or sw 4 false ∷ get_or sw 5 false ∷ get_or sw 6 false ∷ get_or sw 7 false ∷ s.copy_flag ∷ s.held ∷ s.begun ∷ []) hd ≡ s = λ i. record { m = qm i; h = qh i; top = s.top; free = s.free; phase = s.phase; live = s.live; current = s.current; next = s.next; src = s.src; dest = s.dest; tuple = s.tuple; size = s.size; index = s.index; copy = s.copy; copy_flag = s.copy_flag; held = s.held; begun = s.begun; hold_register = qr i; hold_size = qz i; hold_tag = qg i } in
      let words : drop 14 n3 ≡ drop 14 ns = ap (drop 14) n ∙ sym (ap (drop 14) (numbers_are ns l)) in
      let flags : take 8 w1 ≡ take 8 sw = ap (take 8) f ∙ sym (ap (take 8) (switches_are sw w)) in
      record {
        state_is = ap (λ (x : List ℕ). state_of x w1 hd) n ∙ ap (λ (x : List Bool). state_of (get_or ns 0 0 ∷ get_or ns 1 0 ∷ s.top ∷ s.free ∷ s.phase ∷ s.live ∷ s.current ∷ s.next ∷ s.src ∷ s.dest ∷ s.tuple ∷ s.size ∷ s.index ∷ s.copy ∷ get_or ns 14 0 ∷ get_or ns 15 0 ∷ get_or ns 16 0 ∷ get_or ns 17 0 ∷ get_or ns 18 0 ∷ get_or ns 19 0 ∷ get_or ns 20 0 ∷ get_or ns 21 0 ∷ []) x hd) f ∙ same;
        registers_are = λ i. record { words = words i; flags = flags i };
      }
