-- The reader's refusals are 20 to 23, and 24 comes only at the end: by the groups of a number, then field by field. Assumes nothing.
use Prim.Native.Nat.{ℕ, zero, suc, ◌-◌, ◌≤◌}
use mathlib.Core.Bool.{Bool, true, false, cond}
use mathlib.Core.List.{List, [], ◌∷◌}
use mathlib.Core.Option.{Option, none, some}
use mathlib.Core.Path.{◌≡◌, subst}
use native.Mathlib.Omega.{arith}
use lib.Dec.{leb, ltb, eqb}
use Rattle.record.specs.Number.{Number, found, refused, before, more_groups, number}
use Rattle.record.specs.Fields.{Item, whole, fault, joined, within, field, fields, named, entry}

pub either_way : {A : Type 0} (P : A → Type 0) (s : Bool) (x y : A) → P x → P y → P (cond s x y)
either_way P true x y p q = p
either_way P false x y p q = q

abbrev NumberRefuses : Number → Type 0
NumberRefuses (found n rest) = Unit
NumberRefuses (refused a) = (20 ≤ a) × (a ≤ 23)

abbrev ItemRefuses : Item → Type 0
ItemRefuses (whole ns rest) = Unit
ItemRefuses (fault a) = (20 ≤ a) × (a ≤ 23)

before_refuses : (g : ℕ) (x : Number) → NumberRefuses x → NumberRefuses (before g x)
unfolding before
before_refuses g (found n rest) p = tt
before_refuses g (refused a) p = p

groups_refuse : (k : ℕ) (bs : List ℕ) → NumberRefuses (more_groups k bs)
unfolding more_groups
groups_refuse k [] = omega arith
groups_refuse zero (b ∷ bs) = either_way NumberRefuses (eqb b 0) _ _ (omega arith) (either_way NumberRefuses (leb b 15) (found b bs) _ tt (omega arith))
groups_refuse (suc k) (b ∷ bs) =
    either_way NumberRefuses (eqb b 0) _ _ (omega arith) (either_way NumberRefuses (ltb b 128) (found b bs) _ tt (before_refuses (b - 128) (more_groups k bs) (groups_refuse k bs)))

number_refuses : (bs : List ℕ) → NumberRefuses (number bs)
unfolding number
number_refuses [] = omega arith
number_refuses (b ∷ bs) = either_way NumberRefuses (ltb b 128) (found b bs) _ tt (before_refuses (b - 128) (more_groups 3 bs) (groups_refuse 3 bs))

within_refuses : (l : ℕ) (x : Number) → NumberRefuses x → NumberRefuses (within l x)
unfolding within
within_refuses l (found n rest) p = either_way NumberRefuses (leb n l) (found n rest) _ tt (omega arith)
within_refuses l (refused a) p = p

joined_refuses : (n : ℕ) (x : Item) → ItemRefuses x → ItemRefuses (joined n x)
unfolding joined
joined_refuses n (whole ns rest) p = tt
joined_refuses n (fault a) p = p

fields_refuse : (ls bs : List ℕ) → ItemRefuses (fields ls bs)
unfolding fields field
fields_refuse [] bs = tt
fields_refuse (l ∷ ls) bs = go (within l (number bs)) (within_refuses l (number bs) (number_refuses bs)) (fields_refuse ls)
  where
    go : (x : Number) → NumberRefuses x → ((r : List ℕ) → ItemRefuses (fields ls r)) → ItemRefuses (elim x [ found n rest ↦ joined n (fields ls rest) | refused a ↦ fault a ])
    go (found n r) p ih = joined_refuses n (fields ls r) (ih r)
    go (refused a) p ih = p

named_refuses : (t : Option (List ℕ)) (k : ℕ) (bs : List ℕ) → ItemRefuses (named t k bs)
unfolding named
named_refuses none k bs = omega arith
named_refuses (some ls) k bs = joined_refuses k (fields ls bs) (fields_refuse ls bs)

entry_refuses : (table : ℕ → Option (List ℕ)) (bs : List ℕ) → ItemRefuses (entry table bs)
unfolding entry
entry_refuses table bs = go (number bs) (number_refuses bs)
  where
    go : (x : Number) → NumberRefuses x → ItemRefuses (elim x [ found k rest ↦ named (table k) k rest | refused a ↦ fault a ])
    go (found k r) p = named_refuses (table k) k r
    go (refused a) p = p

pub entry_fault_named : (table : ℕ → Option (List ℕ)) (bs : List ℕ) (a : ℕ) → entry table bs ≡ fault a → (20 ≤ a) × (a ≤ 23)
entry_fault_named table bs a e = subst ItemRefuses e (entry_refuses table bs)

pub entry_fault_some : (table : ℕ → Option (List ℕ)) (bs : List ℕ) (a : ℕ) → entry table bs ≡ fault a → a ≡ 0 → ⊥
entry_fault_some table bs a e z = omega (arith, entry_fault_named table bs a e)
