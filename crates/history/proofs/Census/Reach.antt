-- The reachable tuples of the history machine, as a list: each once, and no other. A list of reachable tuples either holds the
-- targets of all registers and of all words of its tuples, and is then complete, or grows by one more; it can't pass the number
-- of tuples made. Assumes nothing.
use Prim.Native.Nat.{ℕ, zero, suc, ◌+◌, ◌≤◌, ◌<◌}
use mathlib.Core.List.{List, [], ◌∷◌}
use mathlib.Core.Logic.{◌≢◌, ◌⊎◌, inl, inr}
use mathlib.Core.Path.{◌≡◌, refl, sym, ◌∙◌, ap, subst}
use native.Mathlib.Decide.{ℕ_discrete}
use native.Mathlib.Omega.{arith}
use lib.ListN.{length}
use Rattle.rules.specs.Limits.{register_count}
use Rattle.history.specs.Machine.{HWord, datum, pointer_to, History, register_of, size_at, word_of, made}
use Rattle.history.specs.Agreement.{Reachable, by_register, by_word, Member, Distinct, Lists}
use Rattle.history.proofs.Lists.Handles.{member?}
use Rattle.history.proofs.Lists.Numbers.{pigeonhole}

-- ---- does a list hold what a word names

-- the tuple that the word names, if it names one, is in the list
abbrev Inside : List ℕ → HWord → Type 0
Inside xs v = (i o : ℕ) → v ≡ pointer_to i o → i ≢ 0 → Member i xs

-- or it is not
record Outside (xs : List ℕ) (v : HWord) : Type 0 where
  number : ℕ
  offset : ℕ
  names : v ≡ pointer_to number offset
  not_nil : number ≢ 0
  not_in : ¬ Member number xs

-- the constructors apart, and their parts
abbrev pub target : HWord → ℕ
target (datum v) = 0
target (pointer_to i o) = i

inside? : (xs : List ℕ) (v : HWord) → Inside xs v ⊎ Outside xs v
inside? xs (datum v) = inl (λ i o e n. absurd (n (sym (ap target e))))
inside? xs (pointer_to j q) = go (ℕ_discrete j 0) (member? j xs)
  where
    go : Dec (j ≡ 0) → Dec (Member j xs) → Inside xs (pointer_to j q) ⊎ Outside xs (pointer_to j q)
    go (yes z) d = inl (λ i o e n. absurd (n (sym (ap target e) ∙ z)))
    go (no z) (yes m) = inl (λ i o e n. subst (λ (x : ℕ). Member x xs) (ap target e) m)
    go (no z) (no o) = inr (record { number = j; offset = q; names = refl; not_nil = z; not_in = o })

-- the same of all words of a sequence below n
record Leak (xs : List ℕ) (f : ℕ → HWord) (n : ℕ) : Type 0 where
  at : ℕ
  below : at < n
  out : Outside xs (f at)

all_inside? : (xs : List ℕ) (f : ℕ → HWord) (n : ℕ) → ((k : ℕ) → k < n → Inside xs (f k)) ⊎ Leak xs f n
all_inside? xs f zero = inl (λ k l. absurd (omega arith))
all_inside? xs f (suc n) = go (inside? xs (f n)) (all_inside? xs f n)
  where
    upto : Inside xs (f n) → ((k : ℕ) → k < n → Inside xs (f k)) → (k : ℕ) → k < suc n → Inside xs (f k)
    upto t g k l = more (ℕ_discrete k n)
      where
        more : Dec (k ≡ n) → Inside xs (f k)
        more (yes e) = subst (λ (x : ℕ). Inside xs (f x)) (sym e) t
        more (no d) = g k (omega arith)

    go : Inside xs (f n) ⊎ Outside xs (f n) → ((k : ℕ) → k < n → Inside xs (f k)) ⊎ Leak xs f n → ((k : ℕ) → k < suc n → Inside xs (f k)) ⊎ Leak xs f (suc n)
    go (inr o) r = inr (record { at = n; below = omega arith; out = o })
    go (inl t) (inl g) = inl (upto t g)
    go (inl t) (inr w) = inr (record { at = w.at; below = let l : w.at < n = w.below in omega arith; out = w.out })

module _ (m : History) where
  -- all words of the tuples of a list
  record Hole (xs ys : List ℕ) : Type 0 where
    tuple : ℕ
    member : Member tuple ys
    leak : Leak xs (λ k. word_of tuple k m) (size_at tuple m)

  words_inside? : (xs ys : List ℕ) → ((i : ℕ) → Member i ys → (k : ℕ) → k < size_at i m → Inside xs (word_of i k m)) ⊎ Hole xs ys
  words_inside? xs [] = inl (λ i x. absurd x)
  words_inside? xs (y ∷ ys) = go (all_inside? xs (λ k. word_of y k m) (size_at y m)) (words_inside? xs ys)
    where
      both : ((k : ℕ) → k < size_at y m → Inside xs (word_of y k m))
          → ((i : ℕ) → Member i ys → (k : ℕ) → k < size_at i m → Inside xs (word_of i k m)) → (i : ℕ) → (i ≡ y) ⊎ Member i ys → (k : ℕ)
          → k < size_at i m → Inside xs (word_of i k m)
      both f g i (inl e) = subst (λ (x : ℕ). (k : ℕ) → k < size_at x m → Inside xs (word_of x k m)) (sym e) f
      both f g i (inr x) = g i x

      go : ((k : ℕ) → k < size_at y m → Inside xs (word_of y k m)) ⊎ Leak xs (λ k. word_of y k m) (size_at y m)
          → ((i : ℕ) → Member i ys → (k : ℕ) → k < size_at i m → Inside xs (word_of i k m)) ⊎ Hole xs ys
          → ((i : ℕ) → (i ≡ y) ⊎ Member i ys → (k : ℕ) → k < size_at i m → Inside xs (word_of i k m)) ⊎ Hole xs (y ∷ ys)
      go (inr w) r = inr (record { tuple = y; member = inl refl; leak = w })
      go (inl f) (inl g) = inl (both f g)
      go (inl f) (inr w) = inr (record { tuple = w.tuple; member = inr w.member; leak = w.leak })

  -- one more reachable tuple, or the list is complete
  record More (xs : List ℕ) : Type 0 where
    one : ℕ
    reach : Reachable m one
    new : ¬ Member one xs

  complete : (xs : List ℕ) → ((r : ℕ) → r < register_count → Inside xs (register_of r m))
      → ((i : ℕ) → Member i xs → (k : ℕ) → k < size_at i m → Inside xs (word_of i k m)) → (n : ℕ) → Reachable m n → Member n xs
  complete xs f g n (by_register r i o l e z) = f r l i o e z
  complete xs f g n (by_word i k j o x l e z) = g i (complete xs f g i x) k l j o e z

  grow? : (xs : List ℕ) → ((i : ℕ) → Member i xs → Reachable m i) → ((n : ℕ) → Reachable m n → Member n xs) ⊎ More xs
  grow? xs s = go (all_inside? xs (λ r. register_of r m) register_count) (words_inside? xs xs)
    where
      go : ((r : ℕ) → r < register_count → Inside xs (register_of r m)) ⊎ Leak xs (λ r. register_of r m) register_count
          → ((i : ℕ) → Member i xs → (k : ℕ) → k < size_at i m → Inside xs (word_of i k m)) ⊎ Hole xs xs
          → ((n : ℕ) → Reachable m n → Member n xs) ⊎ More xs
      go (inl f) (inl g) = inl (complete xs f g)
      go (inl f) (inr w) = inr (record {
        one = w.leak.out.number;
        reach = by_word w.tuple w.leak.at w.leak.out.number w.leak.out.offset (s w.tuple w.member) w.leak.below w.leak.out.names w.leak.out.not_nil;
        new = w.leak.out.not_in;
      })
      go (inr w) r = inr (record {
        one = w.out.number;
        reach = by_register w.at w.out.number w.out.offset w.below w.out.names w.out.not_nil;
        new = w.out.not_in;
      })

  grow : ((n : ℕ) → Reachable m n → (1 ≤ n) × (n ≤ made m)) → (fuel : ℕ) (xs : List ℕ) → Distinct xs
      → ((i : ℕ) → Member i xs → Reachable m i) → made m < fuel + length xs → (ys : List ℕ) × Lists (Reachable m) ys
  grow f zero xs d s l =
      let u : length xs ≤ made m = pigeonhole (made m) xs d (λ x y. f x (s x y)) in
      absurd (omega arith)
  grow f (suc n) xs d s l = go (grow? xs s) (λ w. grow f n (w.one ∷ xs) (w.new, d) (added w) (omega arith))
    where
      added : (w : More xs) → (i : ℕ) → (i ≡ w.one) ⊎ Member i xs → Reachable m i
      added w i (inl e) = subst (λ (x : ℕ). Reachable m x) (sym e) w.reach
      added w i (inr x) = s i x

      go : ((n : ℕ) → Reachable m n → Member n xs) ⊎ More xs → (More xs → (ys : List ℕ) × Lists (Reachable m) ys) → (ys : List ℕ) × Lists (Reachable m) ys
      go (inl c) k = (xs, record { distinct = d; sound = s; complete = c })
      go (inr w) k = k w

  -- where every reachable tuple was made, the reachable ones are a list
  pub reachable_list : ((n : ℕ) → Reachable m n → (1 ≤ n) × (n ≤ made m)) → (ys : List ℕ) × Lists (Reachable m) ys
  reachable_list f = grow f (suc (made m)) [] tt (λ i x. absurd x) (omega arith)
