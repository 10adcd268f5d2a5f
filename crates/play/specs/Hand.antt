-- The bytes at hand: a part of the input that was read and is not used yet.
use Rattle.std.specs.Prelude.{ℕ, ◌-◌, ◌≤◌, true, List, ◌≡◌, length, take, drop}
use Rattle.play.specs.declared.Reader.{Reader}

abbrev pub at_hand : Reader → List ℕ → List ℕ
at_hand r l = take (r.till - r.from) (drop r.from l)

-- they are within the input
abbrev pub Within : Reader → ℕ → Type 0
Within r n = (r.from ≤ r.till) × (r.till ≤ n)

-- the bytes at hand stand at the front
abbrev pub AtFront : Reader → List ℕ → List ℕ → Type 0
AtFront r l l1 = take (length (at_hand r l)) l1 ≡ at_hand r l

-- the bytes at hand are still there, in front of those that came; where none came they are the last
pub record Fed (r s : Reader) (l l1 : List ℕ) : Type 0 where
  pub within : Within s 65536
  pub place : s.place ≡ r.place
  pub kept : take (length (at_hand r l)) (at_hand s l1) ≡ at_hand r l
  pub ended : s.last ≡ true → at_hand s l1 ≡ at_hand r l
