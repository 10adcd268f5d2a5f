-- A list along the links: what keeps it, what a push makes of it, and what its head says of it. Each by induction on the list, from
-- the laws of a store. Assumes nothing.
use Prim.Native.Nat.{ℕ, ◌≤◌, ◌<◌}
use mathlib.Core.List.{List, [], ◌∷◌}
use mathlib.Core.Logic.{◌≢◌, inl, inr}
use mathlib.Core.Path.{◌≡◌, refl, sym, ap, subst}
use native.Mathlib.Omega.{arith}
use lib.ListN.{length, get_or, set}
use lib.Seq.{get_or-set_same, get_or-set_other}
use Rattle.history.specs.Agreement.{Member}
use Rattle.history.proofs.Invariant.Statement.{Chain}

-- the chain goes only by the links of its members
pub chain_frame : (links links' : List ℕ) (head : ℕ) (hs : List ℕ) → ((h : ℕ) → Member h hs → get_or links' h 0 ≡ get_or links h 0)
    → Chain links head hs → Chain links' head hs
chain_frame links links' head [] same c = c
chain_frame links links' head (h ∷ hs) same c =
    (c.0, subst (λ (n : ℕ). Chain links' n hs) (sym (same h (inl refl))) (chain_frame links links' (get_or links h 0) hs (λ k m. same k (inr m)) c.1))

-- a link is set outside the chain
pub chain_set_other : (links : List ℕ) (head : ℕ) (hs : List ℕ) (y v : ℕ) → ¬ Member y hs → Chain links head hs → Chain (set links y v) head hs
chain_set_other links head hs y v out c =
    chain_frame links (set links y v) head hs (λ h m. get_or-set_other links y h v 0 (λ e. out (subst (λ (k : ℕ). Member k hs) e m))) c

pub chain_push : (links : List ℕ) (head : ℕ) (hs : List ℕ) (y : ℕ) → Chain links head hs → ¬ Member y hs → y < length links → Chain (set links y head) y (y ∷ hs)
chain_push links head hs y c out fits =
    (refl, subst (λ (n : ℕ). Chain (set links y head) n hs) (sym (get_or-set_same links y head 0 fits)) (chain_set_other links head hs y head out c))

-- what a chain's head says of it: 0, and it has no members; otherwise the head is its first
pub data Headed (links : List ℕ) (head : ℕ) (hs : List ℕ) : Type 0 where
  no_head : head ≡ 0 → hs ≡ [] → Headed links head hs
  head_first : (tl : List ℕ) → hs ≡ head ∷ tl → Chain links (get_or links head 0) tl → Headed links head hs

pub chain_headed : (links : List ℕ) (head : ℕ) (hs : List ℕ) → Chain links head hs → Headed links head hs
chain_headed links head [] c = no_head c refl
chain_headed links head (h ∷ hs) c =
    head_first hs (ap (λ (k : ℕ). k ∷ hs) (sym c.0)) (subst (λ (k : ℕ). Chain links (get_or links k 0) hs) (sym c.0) c.1)

pub chain_head : (links : List ℕ) (head : ℕ) (hs : List ℕ) → Chain links head hs → head ≢ 0 → (tl : List ℕ) × (hs ≡ head ∷ tl) × Chain links (get_or links head 0) tl
chain_head links head hs c some_head = cases (chain_headed links head hs c)
  where
    cases : Headed links head hs → (tl : List ℕ) × (hs ≡ head ∷ tl) × Chain links (get_or links head 0) tl
    cases (no_head e f) = absurd (some_head e)
    cases (head_first tl e d) = (tl, e, d)

pub chain_empty : (links : List ℕ) (head : ℕ) (hs : List ℕ) → Chain links head hs → ((h : ℕ) → Member h hs → 1 ≤ h) → head ≡ 0 → hs ≡ []
chain_empty links head [] c least e = refl
chain_empty links head (h ∷ hs) c least e = absurd (impossible (least h (inl refl)))
  where
    impossible : 1 ≤ h → ⊥
    impossible l = let f : head ≡ h = c.0 in omega arith

-- a chain of no members has head 0
pub chain_none : (links : List ℕ) (head : ℕ) (hs : List ℕ) → Chain links head hs → hs ≡ [] → head ≡ 0
chain_none links head hs c e = subst (λ (ks : List ℕ). Chain links head ks) e c
