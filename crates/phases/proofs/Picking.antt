-- How the phase picks its rule. Assumes nothing.
use Prim.Native.Nat.{ℕ}
use mathlib.Core.Path.{◌≡◌, sym, ap, ◌∙◌}
use Rattle.rules.specs.Parts.{Box}
use Rattle.rules.specs.Box.{Reply, reply}
use Rattle.rules.specs.Collector.{rule_of}
use Rattle.collector.specs.Decide.{with_grant}
use Rattle.collector.proofs.Granting.{Calm, calm_reply}

module _ (b : Box) where
  pub rule_at : (p k : ℕ) (x : Reply) → p ≡ k → x ≡ rule_of k b → x ≡ rule_of p b
  rule_at p k x z q = q ∙ sym (ap (λ (y : ℕ). rule_of y b) z)

  -- a rule that never grants
  pub calm_at : (x : Box) (a p k : ℕ) → Calm (rule_of k b) → p ≡ k → reply x a ≡ rule_of k b → with_grant (reply x a) ≡ rule_of p b
  calm_at x a p k n z q = rule_at p k (with_grant (reply x a)) z (calm_reply x a (rule_of k b) n q)
