-- Lists of the numbers of tuples: one taken out, several taken out, a list within another, and the room that the tuples of a
-- list take in the history machine. Assumes nothing.
use Prim.Native.Nat.{ℕ, zero, suc, ◌+◌, ◌≤◌, zero-le}
use mathlib.Core.List.{List, [], ◌∷◌}
use mathlib.Core.Logic.{◌≢◌, ◌⊎◌, inl, inr}
use mathlib.Core.Path.{◌≡◌, refl, sym, ◌∙◌, ap, subst}
use native.Mathlib.Decide.{ℕ_discrete}
use native.Mathlib.Omega.{arith}
use lib.ListN.{length}
use Rattle.history.specs.Machine.{History, size_at}
use Rattle.history.specs.Agreement.{Member, Distinct, room}
use Rattle.history.proofs.Lists.Handles.{member?}

-- ---- a list of distinct numbers from 1 to n has at most n members

unfoldable pub pick : {x y : ℕ} → Dec (x ≡ y) → List ℕ → List ℕ → List ℕ
pick (yes e) ys rest = ys
pick (no n) ys rest = rest

unfoldable pub remove : ℕ → List ℕ → List ℕ
remove x [] = []
remove x (y ∷ ys) = pick (ℕ_discrete x y) ys (y ∷ remove x ys)

pub remove_length : (x : ℕ) (xs : List ℕ) → Member x xs → length xs ≡ suc (length (remove x xs))
unfolding remove pick
remove_length x [] m = elim m [ ]
remove_length x (y ∷ ys) m = go (ℕ_discrete x y) (remove_length x ys)
  where
    go : (d : Dec (x ≡ y)) → (Member x ys → length ys ≡ suc (length (remove x ys))) → suc (length ys) ≡ suc (length (pick d ys (y ∷ remove x ys)))
    go (yes e) ih = refl
    go (no n) ih = ap suc (ih (other m))
      where
        other : (x ≡ y) ⊎ Member x ys → Member x ys
        other (inl e) = absurd (n e)
        other (inr t) = t

pub remove_member : (x z : ℕ) (xs : List ℕ) → Member z (remove x xs) → Member z xs
unfolding remove pick
remove_member x z [] m = m
remove_member x z (y ∷ ys) m = go (ℕ_discrete x y) (remove_member x z ys) m
  where
    go : (d : Dec (x ≡ y)) → (Member z (remove x ys) → Member z ys) → Member z (pick d ys (y ∷ remove x ys)) → (z ≡ y) ⊎ Member z ys
    go (yes e) ih m = inr m
    go (no n) ih (inl e) = inl e
    go (no n) ih (inr m) = inr (ih m)

pub remove_distinct : (x : ℕ) (xs : List ℕ) → Distinct xs → Distinct (remove x xs)
unfolding remove pick
remove_distinct x [] d = tt
remove_distinct x (y ∷ ys) d = go (ℕ_discrete x y) (remove_distinct x ys d.1)
  where
    go : (t : Dec (x ≡ y)) → Distinct (remove x ys) → Distinct (pick t ys (y ∷ remove x ys))
    go (yes e) ih = d.1
    go (no n) ih = (λ m. d.0 (remove_member x y ys m), ih)

pub remove_gone : (x : ℕ) (xs : List ℕ) → Distinct xs → ¬ Member x (remove x xs)
unfolding remove pick
remove_gone x [] d m = m
remove_gone x (y ∷ ys) d m = go (ℕ_discrete x y) (remove_gone x ys d.1) m
  where
    go : (t : Dec (x ≡ y)) → ¬ Member x (remove x ys) → ¬ Member x (pick t ys (y ∷ remove x ys))
    go (yes e) ih m = d.0 (subst (λ (z : ℕ). Member z ys) e m)
    go (no n) ih (inl e) = n e
    go (no n) ih (inr m) = ih m

-- what is at most n + 1 and is not n + 1 is at most n
lower : (n : ℕ) (xs ys : List ℕ) → ((x : ℕ) → Member x xs → (1 ≤ x) × (x ≤ suc n)) → ((x : ℕ) → Member x ys → Member x xs)
    → ¬ Member (suc n) ys → (x : ℕ) → Member x ys → (1 ≤ x) × (x ≤ n)
lower n xs ys f g o x m =
    let u : (1 ≤ x) × (x ≤ suc n) = f x (g x m) in
    let v : x ≢ suc n = λ e. o (subst (λ (z : ℕ). Member z ys) e m) in
    (u.0, omega arith)

pub pigeonhole : (n : ℕ) (xs : List ℕ) → Distinct xs → ((x : ℕ) → Member x xs → (1 ≤ x) × (x ≤ n)) → length xs ≤ n
pigeonhole zero [] d f = zero-le
pigeonhole zero (x ∷ xs) d f = let e : (1 ≤ x) × (x ≤ 0) = f x (inl refl) in absurd (omega arith)
pigeonhole (suc n) xs d f =
    go (member? (suc n) xs) (λ m. pigeonhole n (remove (suc n) xs) (remove_distinct (suc n) xs d) (lower n xs (remove (suc n) xs) f (λ x y. remove_member (suc n) x xs y) (remove_gone (suc n) xs d)))
    (λ o. pigeonhole n xs d (lower n xs xs f (λ x m. m) o))
  where
    go : Dec (Member (suc n) xs) → (Member (suc n) xs → length (remove (suc n) xs) ≤ n) → (¬ Member (suc n) xs → length xs ≤ n) → length xs ≤ suc n
    go (yes m) p q =
        let e : length xs ≡ suc (length (remove (suc n) xs)) = remove_length (suc n) xs m in
        let l : length (remove (suc n) xs) ≤ n = p m in
        omega arith
    go (no o) p q = let l : length xs ≤ n = q o in omega arith

-- a member other than the one taken out stays
pub remove_other : (x z : ℕ) (xs : List ℕ) → z ≢ x → Member z xs → Member z (remove x xs)
unfolding remove pick
remove_other x z [] n m = m
remove_other x z (y ∷ ys) n m = go (ℕ_discrete x y) (remove_other x z ys n) m
  where
    go : (d : Dec (x ≡ y)) → (Member z ys → Member z (remove x ys)) → (z ≡ y) ⊎ Member z ys → Member z (pick d ys (y ∷ remove x ys))
    go (yes e) ih (inl q) = absurd (n (q ∙ sym e))
    go (yes e) ih (inr m) = m
    go (no d) ih (inl q) = inl q
    go (no d) ih (inr m) = inr (ih m)

pub remove_room : (x : ℕ) (xs : List ℕ) (t : History) → Member x xs → room xs t ≡ size_at x t + 1 + room (remove x xs) t
unfolding remove pick room
remove_room x [] t m = elim m [ ]
remove_room x (y ∷ ys) t m = go (ℕ_discrete x y) (remove_room x ys t) m
  where
    go : (d : Dec (x ≡ y)) → (Member x ys → room ys t ≡ size_at x t + 1 + room (remove x ys) t) → (x ≡ y) ⊎ Member x ys
        → size_at y t + 1 + room ys t ≡ size_at x t + 1 + room (pick d ys (y ∷ remove x ys)) t
    go (yes e) ih m = ap (λ (z : ℕ). size_at z t + 1 + room ys t) (sym e)
    go (no d) ih (inl q) = absurd (d q)
    go (no d) ih (inr m) = let e : room ys t ≡ size_at x t + 1 + room (remove x ys) t = ih m in omega arith

-- ---- a list within another

-- the members of ys taken out of xs
unfoldable pub minus : List ℕ → List ℕ → List ℕ
minus xs [] = xs
minus xs (y ∷ ys) = minus (remove y xs) ys

abbrev pub Sublist : List ℕ → List ℕ → Type 0
Sublist ys xs = (x : ℕ) → Member x ys → Member x xs

-- the rest of ys is within what is left
sublist_rest : (y : ℕ) (ys xs : List ℕ) → Distinct (y ∷ ys) → Sublist (y ∷ ys) xs → Sublist ys (remove y xs)
sublist_rest y ys xs d w x m = remove_other y x xs (λ e. d.0 (subst (λ (z : ℕ). Member z ys) e m)) (w x (inr m))

pub minus_distinct : (xs ys : List ℕ) → Distinct xs → Distinct (minus xs ys)
unfolding minus
minus_distinct xs [] d = d
minus_distinct xs (y ∷ ys) d = minus_distinct (remove y xs) ys (remove_distinct y xs d)

pub minus_member : (xs ys : List ℕ) (z : ℕ) → Member z (minus xs ys) → Member z xs
unfolding minus
minus_member xs [] z m = m
minus_member xs (y ∷ ys) z m = remove_member y z xs (minus_member (remove y xs) ys z m)

pub minus_out : (xs ys : List ℕ) (z : ℕ) → Distinct xs → Member z (minus xs ys) → ¬ Member z ys
unfolding minus
minus_out xs [] z d m x = x
minus_out xs (y ∷ ys) z d m (inl e) = remove_gone y xs d (subst (λ (x : ℕ). Member x (remove y xs)) e (minus_member (remove y xs) ys z m))
minus_out xs (y ∷ ys) z d m (inr x) = minus_out (remove y xs) ys z (remove_distinct y xs d) m x

pub minus_in : (xs ys : List ℕ) (z : ℕ) → Member z xs → ¬ Member z ys → Member z (minus xs ys)
unfolding minus
minus_in xs [] z m n = m
minus_in xs (y ∷ ys) z m n = minus_in (remove y xs) ys z (remove_other y z xs (λ e. n (inl e)) m) (λ x. n (inr x))

pub minus_room : (xs ys : List ℕ) (t : History) → Distinct ys → Sublist ys xs → room xs t ≡ room ys t + room (minus xs ys) t
unfolding minus room
minus_room xs [] t d w = omega arith
minus_room xs (y ∷ ys) t d w =
    let e : room xs t ≡ size_at y t + 1 + room (remove y xs) t = remove_room y xs t (w y (inl refl)) in
    let f : room (remove y xs) t ≡ room ys t + room (minus (remove y xs) ys) t = minus_room (remove y xs) ys t d.1 (sublist_rest y ys xs d w) in
    omega arith

pub sublist_room : (xs ys : List ℕ) (t : History) → Distinct ys → Sublist ys xs → room ys t ≤ room xs t
sublist_room xs ys t d w = let e : room xs t ≡ room ys t + room (minus xs ys) t = minus_room xs ys t d w in omega arith

pub sublist_length : (xs ys : List ℕ) → Distinct ys → Sublist ys xs → length ys ≤ length xs
sublist_length xs [] d w = zero-le
sublist_length xs (y ∷ ys) d w =
    let e : length xs ≡ suc (length (remove y xs)) = remove_length y xs (w y (inl refl)) in
    let l : length ys ≤ length (remove y xs) = sublist_length (remove y xs) ys d.1 (sublist_rest y ys xs d w) in
    omega arith

-- ---- the numbers from 1 to n

unfoldable pub upto : ℕ → List ℕ
upto zero = []
upto (suc n) = suc n ∷ upto n

pub upto_bounds : (n i : ℕ) → Member i (upto n) → (1 ≤ i) × (i ≤ n)
unfolding upto
upto_bounds zero i m = absurd m
upto_bounds (suc n) i (inl e) = (omega arith, omega arith)
upto_bounds (suc n) i (inr m) = let l : (1 ≤ i) × (i ≤ n) = upto_bounds n i m in (l.0, omega arith)

pub upto_member : (n i : ℕ) → 1 ≤ i → i ≤ n → Member i (upto n)
unfolding upto
upto_member zero i l u = absurd (omega arith)
upto_member (suc n) i l u = go (ℕ_discrete i (suc n)) (λ v. upto_member n i l v)
  where
    go : Dec (i ≡ suc n) → (i ≤ n → Member i (upto n)) → (i ≡ suc n) ⊎ Member i (upto n)
    go (yes e) f = inl e
    go (no d) f = inr (f (omega arith))

pub upto_distinct : (n : ℕ) → Distinct (upto n)
unfolding upto
upto_distinct zero = tt
upto_distinct (suc n) = (λ m. let l : (1 ≤ suc n) × (suc n ≤ n) = upto_bounds n (suc n) m in omega arith, upto_distinct n)
