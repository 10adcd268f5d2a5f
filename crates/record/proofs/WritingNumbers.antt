-- A number's groups, stored one by one: what is stored and the groups left, stored from the next place on, give the number's bytes. Each
-- group takes seven bits off, so a number of 32 bits has at most five. Assumes nothing.
use Prim.Native.Nat.{ℕ, zero, suc, ◌+◌, ◌-◌, ◌*◌, ◌/◌, ◌%◌, ◌≤◌, ◌<◌}
use native.Mathlib.Omega.{arith}
use native.Mathlib.Numerals.{add-one}
use mathlib.Core.List.{List, [], ◌∷◌}
use mathlib.Core.Path.{◌≡◌, refl, sym, ◌∙◌, ap, subst}
use borrow.Author.Tests.{lt-ltb, le-ltb}
use lib.ListN.{length, set}
use lib.Seq.{sets}
use Rattle.record.specs.Number.{groups, number_bytes}
use Rattle.record.specs.WritingSteps.{Puts}

-- what may be left where k more groups may follow this one: four bits, and seven for each of them
pub most_left : ℕ → ℕ
most_left zero = 16
most_left (suc k) = 128 * most_left k

pub record Left (n : ℕ) (old new : List ℕ) (at end left k : ℕ) : Type 0 where
  pub place : end + k ≡ at + 4
  pub small : left < most_left k
  pub same : sets new end (groups k left) ≡ sets old at (groups 4 n)
  pub behind : end + length (groups k left) ≡ at + length (groups 4 n)

pub start : (n : ℕ) (old : List ℕ) (at : ℕ) → n < 4294967296 → Left n old old at at n (at + 4 - at)
unfolding most_left
start n old at h =
    subst (λ (k : ℕ). Left n old old at at n k) e (record { place = refl; small = omega arith; same = refl; behind = refl })
  where
    e : 4 ≡ at + 4 - at
    e = omega arith

one_more : (k n : ℕ) → 128 ≤ n → groups (suc k) n ≡ (n % 128 + 128) ∷ groups k (n / 128)
unfolding groups
one_more k n h = simp (le-ltb n 128 h)

last_group : (k n : ℕ) → n < 128 → groups k n ≡ n ∷ []
unfolding groups
last_group zero n h = refl
last_group (suc k) n h = simp (lt-ltb n 128 h)

pub turn : {n : ℕ} {old new after : List ℕ} {at end left k : ℕ} → 128 ≤ left → after ≡ set new end (left % 128 + 128) → Left n old new at end left k → Left n old after at (end + 1) (left / 128) (at + 4 - (end + 1))
unfolding most_left
turn {k = zero} h e l = let s = l.small in absurd (omega arith)
turn {n} {old} {new} {after} {at} {end} {left} {k = suc k} h e l =
    let p = l.place in
    let s = l.small in
    subst (λ (m : ℕ). Left n old after at (end + 1) (left / 128) m) fewer (record { place = omega arith; small = omega arith; same = same; behind = omega (arith, l.behind, ap length (one_more k left h)) })
  where
    same : sets after (end + 1) (groups k (left / 128)) ≡ sets old at (groups 4 n)
    same =
        ap (λ (bs : List ℕ). sets bs (end + 1) (groups k (left / 128))) e
        ∙ ap (λ (m : ℕ). sets (set new end (left % 128 + 128)) m (groups k (left / 128))) (add-one end)
        ∙ ap (λ (gs : List ℕ). sets new end gs) (sym (one_more k left h))
        ∙ l.same

    fewer : k ≡ at + 4 - (end + 1)
    fewer = let p = l.place in omega arith

pub last : {n : ℕ} {old new after : List ℕ} {at end left k : ℕ} → left < 128 → after ≡ set new end left → Left n old new at end left k → Puts n old after at (end + 1)
unfolding number_bytes
last {n} {old} {new} {after} {at} {end} {left} {k} h e l =
    let p = l.place in
    record { put = e ∙ ap (λ (gs : List ℕ). sets new end gs) (sym (last_group k left h)) ∙ l.same; ends = omega (arith, l.behind, ap length (last_group k left h)); short = omega arith }
