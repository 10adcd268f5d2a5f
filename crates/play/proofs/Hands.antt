-- The bytes at hand, at the front, and more behind them. By lists. Assumes nothing.
use Rattle.std.proofs.Common.{ℕ, ◌+◌, ◌-◌, ◌≤◌, true, List, ◌≡◌, sym, ◌∙◌, ap, arith, eqb, length, take, drop, length-take, length-drop}
use Rattle.std.proofs.lemmas.Bool.{eq-eqb}
use Rattle.std.proofs.lemmas.List.{drop-take}
use Rattle.play.specs.declared.Reader.{Reader}
use Rattle.play.specs.Hand.{at_hand}

-- the bytes at hand are at the front, and `got` more behind them
module _ (r : Reader) (l l1 : List ℕ) (got : ℕ) (ordered : r.from ≤ r.till) (inside : r.till ≤ length l) where
  hand_length : length (at_hand r l) ≡ r.till - r.from
  hand_length = omega (arith, length-take (r.till - r.from) (drop r.from l), length-drop r.from l)

  whole : take (r.till - r.from + got - 0) l1 ≡ take (r.till - r.from + got) l1
  whole =
      let z : r.till - r.from + got - 0 ≡ r.till - r.from + got = omega arith in
      ap (λ (x : ℕ). take x l1) z

  -- those that came stand there
  pub came_behind : drop (length (at_hand r l)) (take (r.till - r.from + got - 0) l1) ≡ take got (drop (r.till - r.from) l1)
  came_behind = rw (hand_length, whole) (drop-take (r.till - r.from) got l1)

  -- where nothing stands there, none came
  pub none_came : r.till - r.from + got ≤ length l1 → take (r.till - r.from + got - 0) l1 ≡ at_hand r l → eqb got 0 ≡ true
  none_came room same = eq-eqb got 0 (omega (arith, hand_length, ap length (sym whole ∙ same), length-take (r.till - r.from + got) l1))
