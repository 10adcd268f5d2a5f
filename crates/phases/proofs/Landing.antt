-- A phase keeps the sizes and the request that the hold names: what each rule keeps, said of the struct that its method left. Assumes
-- nothing.
use Prim.Native.Nat.{ℕ}
use mathlib.Core.Bool.{Bool, true, false, cond}
use mathlib.Core.Path.{◌≡◌, refl, sym, ◌∙◌, ap}
use lib.Dec.{eqb}
use Rattle.rules.specs.Parts.{Box}
use Rattle.rules.specs.Box.{Reply, reply}
use Rattle.rules.specs.Collector.{granted}
use Rattle.rules.proofs.Kept.{outline, Keeps, same, granted_keeps}
use Rattle.collector.specs.Decide.{with_grant}
use Rattle.lent.proofs.Columns.{Kept, outline_kept}

-- a granted request keeps the sizes, the lengths and the request that the hold names
pub grant_outline : (b : Box) (a : ℕ) → outline (with_grant (reply b a)).box ≡ outline b
unfolding with_grant
grant_outline b a = go (eqb a 32)
  where
    go : (t : Bool) → outline (cond t (reply (granted b) 32) (reply b a)).box ≡ outline b
    go true = (granted_keeps b b (same b)).outline_same
    go false = refl

-- a rule left x of b, and answered a
module _ (b x : Box) (a : ℕ) (r : Reply) (k : Keeps b r.box) where
  pub kept : reply x a ≡ r → Kept b x
  kept e = outline_kept b x (ap (λ (y : Reply). outline y.box) e ∙ k.outline_same)

  pub kept_or_granted : with_grant (reply x a) ≡ r → Kept b x
  kept_or_granted e = outline_kept b x (sym (grant_outline x a) ∙ ap (λ (y : Reply). outline y.box) e ∙ k.outline_same)
