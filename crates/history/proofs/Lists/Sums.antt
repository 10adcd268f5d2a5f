-- Sums over a list of handles of a linear function of a tuple's size, k size + c, over all of the list and over the unmarked of
-- it: of appended lists, of a list in another order, what keeps them, the sum over some of the members, and comparison with the
-- words that the tuples take. Each by induction on the list or on a permutation. Assumes nothing.
use Prim.Native.Nat.{ℕ, ◌+◌, ◌*◌, ◌≤◌}
use mathlib.Core.Bool.{Bool, true, false, cond}
use mathlib.Core.List.{List, [], ◌∷◌, ◌++◌}
use mathlib.Core.Logic.{◌≢◌, inl, inr}
use mathlib.Core.Path.{◌≡◌, refl, sym, ap, ◌∙◌, subst}
use native.Mathlib.Nat.{add-mul, mul-le-mul_right, mul-add, mul-one}
use native.Mathlib.Omega.{arith}
use Rattle.rules.specs.Parts.{Box}
use Rattle.rules.specs.Box.{size_of, marked}
use Rattle.history.specs.Agreement.{Member, Distinct}
use Rattle.history.proofs.Invariant.Statement.{rooms}
use Rattle.history.proofs.Lists.Handles.{Perm, perm_nil, perm_cons, perm_swap, perm_trans, perm_refl, perm_member, member_differs}

unfoldable pub total : ℕ → ℕ → Box → List ℕ → ℕ
total k c b [] = 0
total k c b (h ∷ hs) = k * size_of h b + c + total k c b hs

unfoldable pub unmarked_total : ℕ → ℕ → Box → List ℕ → ℕ
unmarked_total k c b [] = 0
unmarked_total k c b (h ∷ hs) = cond (marked h b) 0 (k * size_of h b + c) + unmarked_total k c b hs

-- ---- all of a list

pub total_none : (k c : ℕ) (b : Box) → total k c b [] ≡ 0
unfolding total
total_none k c b = refl

pub total_cons : (k c : ℕ) (b : Box) (h : ℕ) (hs : List ℕ) → total k c b (h ∷ hs) ≡ k * size_of h b + c + total k c b hs
unfolding total
total_cons k c b h hs = refl

pub total_append : (k c : ℕ) (b : Box) (xs ys : List ℕ) → total k c b (xs ++ ys) ≡ total k c b xs + total k c b ys
unfolding total
total_append k c b [] ys = omega arith
total_append k c b (x ∷ xs) ys = omega (arith, total_append k c b xs ys)

pub total_perm : (k c : ℕ) (b : Box) {xs ys : List ℕ} → Perm xs ys → total k c b xs ≡ total k c b ys
unfolding total
total_perm k c b perm_nil = refl
total_perm k c b (perm_cons p) = omega (arith, total_perm k c b p)
total_perm k c b perm_swap = omega arith
total_perm k c b (perm_trans p q) = total_perm k c b p ∙ total_perm k c b q

pub total_frame : (k c : ℕ) (b d : Box) (hs : List ℕ) → ((h : ℕ) → Member h hs → size_of h d ≡ size_of h b) → total k c d hs ≡ total k c b hs
unfolding total
total_frame k c b d [] sizes = refl
total_frame k c b d (h ∷ hs) sizes =
    omega (arith, ap (λ (n : ℕ). k * n) (sizes h (inl refl)), total_frame k c b d hs (λ x m. sizes x (inr m)))

-- two sums in one
pub total_add : (k c l d : ℕ) (b : Box) (hs : List ℕ) → total k c b hs + total l d b hs ≡ total (k + l) (c + d) b hs
unfolding total
total_add k c l d b [] = refl
total_add k c l d b (h ∷ hs) = omega (arith, add-mul k l (size_of h b), total_add k c l d b hs)

pub total_le : (k c l d : ℕ) (b : Box) (hs : List ℕ) → k ≤ l → c ≤ d → total k c b hs ≤ total l d b hs
unfolding total
total_le k c l d b [] p q = omega arith
total_le k c l d b (h ∷ hs) p q = omega (arith, mul-le-mul_right (size_of h b) p, total_le k c l d b hs p q)

-- a tuple of size s takes s + 1 words
pub total_rooms : (k c n : ℕ) (b : Box) (hs : List ℕ) → k ≤ n → c ≤ n → total k c b hs ≤ n * rooms b hs
unfolding total rooms
total_rooms k c n b [] p q = omega arith
total_rooms k c n b (h ∷ hs) p q =
    omega (
      arith,
      mul-le-mul_right (size_of h b) p,
      mul-add n (size_of h b + 1) (rooms b hs),
      mul-add n (size_of h b) 1,
      mul-one n,
      total_rooms k c n b hs p q,
    )

-- ---- the unmarked of a list

passed_marked : (t : Bool) (n : ℕ) → t ≡ true → cond t 0 n ≡ 0
passed_marked t n e = ap (λ (s : Bool). cond s 0 n) e

taken_unmarked : (t : Bool) (n : ℕ) → t ≡ false → cond t 0 n ≡ n
taken_unmarked t n e = ap (λ (s : Bool). cond s 0 n) e

taken_most : (t : Bool) (n : ℕ) → cond t 0 n ≤ n
taken_most true n = omega arith
taken_most false n = omega arith

taken_same : (s t : Bool) (m n : ℕ) → s ≡ t → m ≡ n → cond s 0 m ≡ cond t 0 n
taken_same s t m n p q = λ i. cond (p i) 0 (q i)

pub unmarked_total_marked : (k c : ℕ) (b : Box) (h : ℕ) (hs : List ℕ) → marked h b ≡ true → unmarked_total k c b (h ∷ hs) ≡ unmarked_total k c b hs
unfolding unmarked_total
unmarked_total_marked k c b h hs e = omega (arith, passed_marked (marked h b) (k * size_of h b + c) e)

pub unmarked_total_le : (k c : ℕ) (b : Box) (hs : List ℕ) → unmarked_total k c b hs ≤ total k c b hs
unfolding total unmarked_total
unmarked_total_le k c b [] = omega arith
unmarked_total_le k c b (h ∷ hs) = omega (arith, taken_most (marked h b) (k * size_of h b + c), unmarked_total_le k c b hs)

pub unmarked_total_perm : (k c : ℕ) (b : Box) {xs ys : List ℕ} → Perm xs ys → unmarked_total k c b xs ≡ unmarked_total k c b ys
unfolding unmarked_total
unmarked_total_perm k c b perm_nil = refl
unmarked_total_perm k c b (perm_cons p) = omega (arith, unmarked_total_perm k c b p)
unmarked_total_perm k c b perm_swap = omega arith
unmarked_total_perm k c b (perm_trans p q) = unmarked_total_perm k c b p ∙ unmarked_total_perm k c b q

pub unmarked_total_frame : (k c : ℕ) (b d : Box) (hs : List ℕ) → ((h : ℕ) → Member h hs → size_of h d ≡ size_of h b) → ((h : ℕ) → Member h hs → marked h d ≡ marked h b)
    → unmarked_total k c d hs ≡ unmarked_total k c b hs
unfolding unmarked_total
unmarked_total_frame k c b d [] sizes marks = refl
unmarked_total_frame k c b d (h ∷ hs) sizes marks =
    omega (
      arith,
      taken_same (marked h d) (marked h b) (k * size_of h d + c) (k * size_of h b + c) (marks h (inl refl)) (ap (λ (n : ℕ). k * n + c) (sizes h (inl refl))),
      unmarked_total_frame k c b d hs (λ x m. sizes x (inr m)) (λ x m. marks x (inr m)),
    )

-- a mark is set
pub unmarked_total_mark : (k c : ℕ) (b d : Box) (hs : List ℕ) (h : ℕ) → Distinct hs → Member h hs → marked h b ≡ false → marked h d ≡ true
    → ((x : ℕ) → Member x hs → size_of x d ≡ size_of x b) → ((x : ℕ) → Member x hs → x ≢ h → marked x d ≡ marked x b)
    → unmarked_total k c d hs + (k * size_of h b + c) ≡ unmarked_total k c b hs
unfolding unmarked_total
unmarked_total_mark k c b d [] h u m f t sizes marks = absurd m
unmarked_total_mark k c b d (x ∷ hs) h u (inl p) f t sizes marks =
    subst (λ (n : ℕ). cond (marked x d) 0 (k * size_of x d + c) + unmarked_total k c d hs + (k * size_of n b + c) ≡ cond (marked x b) 0 (k * size_of x b + c) + unmarked_total k c b hs) (sym p)
    (omega (
      arith,
      passed_marked (marked x d) (k * size_of x d + c) (subst (λ (n : ℕ). marked n d ≡ true) p t),
      taken_unmarked (marked x b) (k * size_of x b + c) (subst (λ (n : ℕ). marked n b ≡ false) p f),
      unmarked_total_frame k c b d hs (λ y m. sizes y (inr m)) (λ y m. marks y (inr m) (λ q. member_differs y x hs m u.0 (q ∙ p))),
    ))
unmarked_total_mark k c b d (x ∷ hs) h u (inr m) f t sizes marks =
    omega (
      arith,
      taken_same (marked x d) (marked x b) (k * size_of x d + c) (k * size_of x b + c) (marks x (inl refl) (λ q. member_differs h x hs m u.0 (sym q))) (ap (λ (n : ℕ). k * n + c) (sizes x (inl refl))),
      unmarked_total_mark k c b d hs h u.1 m f t (λ y n. sizes y (inr n)) (λ y n. marks y (inr n)),
    )

-- ---- some of the members

-- a member comes first in another order
pub record Removed (h : ℕ) (ys : List ℕ) : Type 0 where
  pub others : List ℕ
  pub order : Perm ys (h ∷ others)

pub take_out : (h : ℕ) (ys : List ℕ) → Member h ys → Removed h ys
take_out h [] m = absurd m
take_out h (y ∷ ys) (inl e) = record { others = ys; order = subst (λ (n : ℕ). Perm (y ∷ ys) (n ∷ ys)) (sym e) (perm_refl (y ∷ ys)) }
take_out h (y ∷ ys) (inr m) =
    let r : Removed h ys = take_out h ys m in
    record { others = y ∷ r.others; order = perm_trans (perm_cons r.order) perm_swap }

-- what is among all of them, but is not the one removed, is among the others
pub removed_member : (h : ℕ) (ys : List ℕ) (r : Removed h ys) (x : ℕ) → Member x ys → x ≢ h → Member x r.others
removed_member h ys r x m f = left_over (perm_member r.order x m)
  where
    left_over : Member x (h ∷ r.others) → Member x r.others
    left_over (inl e) = absurd (f e)
    left_over (inr n) = n

-- marked members and the unmarked of a list take no more than all of it
pub total_marked_members : (k c : ℕ) (b : Box) (xs ys : List ℕ) → Distinct xs → ((x : ℕ) → Member x xs → Member x ys) → ((x : ℕ) → Member x xs → marked x b ≡ true)
    → total k c b xs + unmarked_total k c b ys ≤ total k c b ys
unfolding total
total_marked_members k c b [] ys d among marks = omega (arith, unmarked_total_le k c b ys)
total_marked_members k c b (x ∷ xs) ys d among marks =
    let r : Removed x ys = take_out x ys (among x (inl refl)) in
    omega (
      arith,
      total_perm k c b r.order,
      unmarked_total_perm k c b r.order,
      unmarked_total_marked k c b x r.others (marks x (inl refl)),
      total_marked_members k c b xs r.others d.1 (λ y m. removed_member x ys r y (among y (inr m)) (member_differs y x xs m d.0)) (λ y m. marks y (inr m)),
    )
