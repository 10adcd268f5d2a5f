-- Lists of handles: membership in and distinctness of an appended list, permutations and what they keep, and the moves of one
-- handle between the four parts of `all` (done, mid, ahead, free). Each by induction on a list or on a permutation. Assumes nothing.
use Prim.Native.Nat.{ℕ, suc}
use mathlib.Core.List.{List, [], ◌∷◌, ◌++◌, append_assoc}
use mathlib.Core.Logic.{◌≢◌, ◌⊎◌, inl, inr}
use mathlib.Core.Path.{◌≡◌, refl, sym, ap, ◌∙◌, subst}
use native.Mathlib.Decide.{ℕ_discrete}
use lib.ListN.{length}
use lib.Seq.{append_snoc}
use Rattle.history.specs.Agreement.{Member, Distinct}

-- ---- membership

pub member_equal : (x y : ℕ) (xs : List ℕ) → x ≡ y → Member y xs → Member x xs
member_equal x y xs e m = subst (λ (z : ℕ). Member z xs) (sym e) m

pub member_left : (x : ℕ) (xs ys : List ℕ) → Member x xs → Member x (xs ++ ys)
member_left x [] ys m = absurd m
member_left x (y ∷ xs) ys (inl e) = inl e
member_left x (y ∷ xs) ys (inr m) = inr (member_left x xs ys m)

pub member_right : (x : ℕ) (xs ys : List ℕ) → Member x ys → Member x (xs ++ ys)
member_right x [] ys m = m
member_right x (y ∷ xs) ys m = inr (member_right x xs ys m)

pub member_cases : (x : ℕ) (xs ys : List ℕ) → Member x (xs ++ ys) → Member x xs ⊎ Member x ys
member_cases x [] ys m = inr m
member_cases x (y ∷ xs) ys (inl e) = inl (inl e)
member_cases x (y ∷ xs) ys (inr m) = later (member_cases x xs ys m)
  where
    later : Member x xs ⊎ Member x ys → Member x (y ∷ xs) ⊎ Member x ys
    later (inl n) = inl (inr n)
    later (inr n) = inr n

pub member? : (x : ℕ) (xs : List ℕ) → Dec (Member x xs)
member? x [] = no (λ m. m)
member? x (y ∷ ys) = decide (ℕ_discrete x y) (member? x ys)
  where
    decide : Dec (x ≡ y) → Dec (Member x ys) → Dec (Member x (y ∷ ys))
    decide (yes e) d = yes (inl e)
    decide (no f) (yes m) = yes (inr m)
    decide (no f) (no g) = no neither
      where
        neither : ¬ Member x (y ∷ ys)
        neither (inl e) = f e
        neither (inr m) = g m

-- a member differs from what is no member
pub member_differs : (x y : ℕ) (xs : List ℕ) → Member x xs → ¬ Member y xs → x ≢ y
member_differs x y xs m f e = f (member_equal y x xs (sym e) m)

-- ---- distinctness

pub distinct_left : (xs ys : List ℕ) → Distinct (xs ++ ys) → Distinct xs
distinct_left [] ys d = tt
distinct_left (x ∷ xs) ys d = (λ m. d.0 (member_left x xs ys m), distinct_left xs ys d.1)

pub distinct_right : (xs ys : List ℕ) → Distinct (xs ++ ys) → Distinct ys
distinct_right [] ys d = d
distinct_right (x ∷ xs) ys d = distinct_right xs ys d.1

pub distinct_apart : (xs ys : List ℕ) → Distinct (xs ++ ys) → (x : ℕ) → Member x xs → ¬ Member x ys
distinct_apart [] ys d x m n = m
distinct_apart (y ∷ xs) ys d x (inl e) n = d.0 (member_right y xs ys (member_equal y x ys (sym e) n))
distinct_apart (y ∷ xs) ys d x (inr m) n = distinct_apart xs ys d.1 x m n

-- ---- permutations

pub data Perm : List ℕ → List ℕ → Type 0 where
  perm_nil : Perm [] []
  perm_cons : {x : ℕ} {xs ys : List ℕ} → Perm xs ys → Perm (x ∷ xs) (x ∷ ys)
  perm_swap : {x y : ℕ} {xs : List ℕ} → Perm (x ∷ y ∷ xs) (y ∷ x ∷ xs)
  perm_trans : {xs ys zs : List ℕ} → Perm xs ys → Perm ys zs → Perm xs zs

pub perm_refl : (xs : List ℕ) → Perm xs xs
perm_refl [] = perm_nil
perm_refl (x ∷ xs) = perm_cons (perm_refl xs)

pub perm_equal : {xs ys : List ℕ} → xs ≡ ys → Perm xs ys
perm_equal {xs} e = subst (λ (zs : List ℕ). Perm xs zs) e (perm_refl xs)

pub perm_sym : {xs ys : List ℕ} → Perm xs ys → Perm ys xs
perm_sym perm_nil = perm_nil
perm_sym (perm_cons p) = perm_cons (perm_sym p)
perm_sym perm_swap = perm_swap
perm_sym (perm_trans p q) = perm_trans (perm_sym q) (perm_sym p)

pub perm_member : {xs ys : List ℕ} → Perm xs ys → (x : ℕ) → Member x xs → Member x ys
perm_member perm_nil x m = m
perm_member (perm_cons p) x (inl e) = inl e
perm_member (perm_cons p) x (inr m) = inr (perm_member p x m)
perm_member perm_swap x (inl e) = inr (inl e)
perm_member perm_swap x (inr (inl e)) = inl e
perm_member perm_swap x (inr (inr m)) = inr (inr m)
perm_member (perm_trans p q) x m = perm_member q x (perm_member p x m)

pub perm_distinct : {xs ys : List ℕ} → Perm xs ys → Distinct xs → Distinct ys
perm_distinct perm_nil d = d
perm_distinct (perm_cons {x = x} p) d = (λ m. d.0 (perm_member (perm_sym p) x m), perm_distinct p d.1)
perm_distinct (perm_swap {x = x} {y = y} {xs = xs}) d = (missing, (λ m. d.0 (inr m), d.1.1))
  where
    missing : ¬ Member y (x ∷ xs)
    missing (inl e) = d.0 (inl (sym e))
    missing (inr m) = d.1.0 m
perm_distinct (perm_trans p q) d = perm_distinct q (perm_distinct p d)

pub perm_length : {xs ys : List ℕ} → Perm xs ys → length xs ≡ length ys
perm_length perm_nil = refl
perm_length (perm_cons p) = ap suc (perm_length p)
perm_length perm_swap = refl
perm_length (perm_trans p q) = perm_length p ∙ perm_length q

pub perm_append_left : (zs : List ℕ) {xs ys : List ℕ} → Perm xs ys → Perm (zs ++ xs) (zs ++ ys)
perm_append_left [] p = p
perm_append_left (z ∷ zs) p = perm_cons (perm_append_left zs p)

pub perm_shift : (x : ℕ) (xs ys : List ℕ) → Perm (xs ++ x ∷ ys) (x ∷ (xs ++ ys))
perm_shift x [] ys = perm_refl (x ∷ ys)
perm_shift x (z ∷ xs) ys = perm_trans (perm_cons (perm_shift x xs ys)) perm_swap

-- ---- the moves of one handle h between done, mid, ahead and free

-- the first ahead, to the end of the settled
pub perm_ahead_done : (h : ℕ) (ds bs fs : List ℕ) → Perm (ds ++ ([] ++ ((h ∷ bs) ++ fs))) ((ds ++ (h ∷ [])) ++ ([] ++ (bs ++ fs)))
perm_ahead_done h ds bs fs = perm_equal (sym (append_snoc ds h (bs ++ fs)))

-- the first ahead is taken to be moved
pub perm_ahead_mid : (h : ℕ) (ds bs fs : List ℕ) → Perm (ds ++ ([] ++ ((h ∷ bs) ++ fs))) (ds ++ ((h ∷ []) ++ (bs ++ fs)))
perm_ahead_mid h ds bs fs = perm_refl (ds ++ h ∷ (bs ++ fs))

-- the one moved, to the end of the settled
pub perm_mid_done : (h : ℕ) (ds bs fs : List ℕ) → Perm (ds ++ ((h ∷ []) ++ (bs ++ fs))) ((ds ++ (h ∷ [])) ++ ([] ++ (bs ++ fs)))
perm_mid_done h ds bs fs = perm_equal (sym (append_snoc ds h (bs ++ fs)))

-- the first ahead becomes the first free
pub perm_ahead_free : (h : ℕ) (ds bs fs : List ℕ) → Perm (ds ++ ([] ++ ((h ∷ bs) ++ fs))) (ds ++ ([] ++ (bs ++ (h ∷ fs))))
perm_ahead_free h ds bs fs = perm_append_left ds (perm_sym (perm_shift h bs fs))

-- the first free, to the end of those ahead
pub perm_free_ahead : (h : ℕ) (ds ms bs fs : List ℕ) → Perm (ds ++ (ms ++ (bs ++ (h ∷ fs)))) (ds ++ (ms ++ ((bs ++ (h ∷ [])) ++ fs)))
perm_free_ahead h ds ms bs fs = perm_append_left ds (perm_append_left ms (perm_equal (sym (append_snoc bs h fs))))

-- all that are settled come to lie ahead
pub perm_done_ahead : (ds bs fs : List ℕ) → Perm (ds ++ ([] ++ (bs ++ fs))) ([] ++ ([] ++ ((ds ++ bs) ++ fs)))
perm_done_ahead ds bs fs = perm_equal (sym (append_assoc ds bs fs))

-- ---- the four parts

pub data Among (x : ℕ) (ds ms bs fs : List ℕ) : Type 0 where
  among_done : Member x ds → Among x ds ms bs fs
  among_mid : Member x ms → Among x ds ms bs fs
  among_ahead : Member x bs → Among x ds ms bs fs
  among_free : Member x fs → Among x ds ms bs fs

pub among : (x : ℕ) (ds ms bs fs : List ℕ) → Member x (ds ++ (ms ++ (bs ++ fs))) → Among x ds ms bs fs
among x ds ms bs fs m = first (member_cases x ds (ms ++ (bs ++ fs)) m)
  where
    third : Member x bs ⊎ Member x fs → Among x ds ms bs fs
    third (inl n) = among_ahead n
    third (inr n) = among_free n

    second : Member x ms ⊎ Member x (bs ++ fs) → Among x ds ms bs fs
    second (inl n) = among_mid n
    second (inr n) = third (member_cases x bs fs n)

    first : Member x ds ⊎ Member x (ms ++ (bs ++ fs)) → Among x ds ms bs fs
    first (inl n) = among_done n
    first (inr n) = second (member_cases x ms (bs ++ fs) n)

pub among_member : (x : ℕ) (ds ms bs fs : List ℕ) → Among x ds ms bs fs → Member x (ds ++ (ms ++ (bs ++ fs)))
among_member x ds ms bs fs (among_done m) = member_left x ds (ms ++ (bs ++ fs)) m
among_member x ds ms bs fs (among_mid m) = member_right x ds (ms ++ (bs ++ fs)) (member_left x ms (bs ++ fs) m)
among_member x ds ms bs fs (among_ahead m) = member_right x ds (ms ++ (bs ++ fs)) (member_right x ms (bs ++ fs) (member_left x bs fs m))
among_member x ds ms bs fs (among_free m) = member_right x ds (ms ++ (bs ++ fs)) (member_right x ms (bs ++ fs) (member_right x bs fs m))

-- each part holds its handles once, and shares none with another
pub record Parts (ds ms bs fs : List ℕ) : Type 0 where
  pub done_distinct : Distinct ds
  pub mid_distinct : Distinct ms
  pub ahead_distinct : Distinct bs
  pub free_distinct : Distinct fs
  pub done_mid : (x : ℕ) → Member x ds → ¬ Member x ms
  pub done_ahead : (x : ℕ) → Member x ds → ¬ Member x bs
  pub done_free : (x : ℕ) → Member x ds → ¬ Member x fs
  pub mid_ahead : (x : ℕ) → Member x ms → ¬ Member x bs
  pub mid_free : (x : ℕ) → Member x ms → ¬ Member x fs
  pub ahead_free : (x : ℕ) → Member x bs → ¬ Member x fs

pub parts : (ds ms bs fs : List ℕ) → Distinct (ds ++ (ms ++ (bs ++ fs))) → Parts ds ms bs fs
parts ds ms bs fs d =
    let ms_on : Distinct (ms ++ (bs ++ fs)) = distinct_right ds (ms ++ (bs ++ fs)) d in
    let bs_on : Distinct (bs ++ fs) = distinct_right ms (bs ++ fs) ms_on in
    record {
      done_distinct = distinct_left ds (ms ++ (bs ++ fs)) d;
      mid_distinct = distinct_left ms (bs ++ fs) ms_on;
      ahead_distinct = distinct_left bs fs bs_on;
      free_distinct = distinct_right bs fs bs_on;
      done_mid = λ x m n. distinct_apart ds (ms ++ (bs ++ fs)) d x m (member_left x ms (bs ++ fs) n);
      done_ahead = λ x m n. distinct_apart ds (ms ++ (bs ++ fs)) d x m (member_right x ms (bs ++ fs) (member_left x bs fs n));
      done_free = λ x m n. distinct_apart ds (ms ++ (bs ++ fs)) d x m (member_right x ms (bs ++ fs) (member_right x bs fs n));
      mid_ahead = λ x m n. distinct_apart ms (bs ++ fs) ms_on x m (member_left x bs fs n);
      mid_free = λ x m n. distinct_apart ms (bs ++ fs) ms_on x m (member_right x bs fs n);
      ahead_free = distinct_apart bs fs bs_on;
    }
