-- The relation between a box and the history machine, and that it gives agreement as document 01 defines it. `number` is, for each
-- handle, the number of the last tuple that had it; `given` the handle of each tuple made. Everything reachable in the history
-- machine is the number of a kept tuple, by induction on the path. Assumes nothing.
use Prim.Native.Nat.{ℕ, ◌+◌, ◌≤◌, ◌<◌}
use mathlib.Core.Bool.{true, false}
use mathlib.Core.List.{List}
use mathlib.Core.Logic.{◌≢◌}
use mathlib.Core.Path.{◌≡◌, sym, ◌∙◌, ap, subst}
use native.Mathlib.Decide.{ℕ_discrete}
use native.Mathlib.Omega.{arith}
use borrow.Author.Tests.{ne_eqb}
use lib.ListN.{length}
use Rattle.rules.specs.Limits.{register_count}
use Rattle.rules.specs.Parts.{Word, Box}
use Rattle.rules.specs.Box.{handle_of, offset_of, tag_of, names_tuple, register, size_of}
use Rattle.history.specs.Machine.{HWord, datum, pointer_to, History, register_of, tuple_of, size_at, word_of, made}
use Rattle.history.specs.Agreement.{Reachable, by_register, by_word, handle_at, Matches, Under, Agree}
use Rattle.history.proofs.Invariant.Statement.{Plan, word, Kept, Contents}

-- a word of the box and one of the history machine, by the numbers of handles
abbrev pub Match : (ℕ → ℕ) → Word → HWord → Type 0
Match number w (datum v) = (w.flag ≡ false) × (w.bits ≡ v)
Match number w (pointer_to i o) = (w.flag ≡ true) × (offset_of w ≡ o) × (number (handle_of w) ≡ i)

-- handle h holds the tuple with its number
pub record Holds (b : Box) (m : History) (given : List ℕ) (number : ℕ → ℕ) (h : ℕ) : Type 0 where
  pub number_made : (1 ≤ number h) × (number h ≤ made m)
  pub handle_given : handle_at (number h) given ≡ h
  pub size_same : size_of h b ≡ size_at (number h) m
  pub tag_same : tag_of (word h 0 b) ≡ (tuple_of (number h) m).tag
  pub words_match : (k : ℕ) → k < size_of h b → Match number (word h (k + 1) b) (word_of (number h) k m)

pub record Related (b : Box) (p : Plan) (m : History) (given : List ℕ) (number : ℕ → ℕ) : Type 0 where
  pub roots_match : (r : ℕ) → r < register_count → Match number (register r b) (register_of r m)
  pub kept_hold : (h : ℕ) → Kept b p h → Holds b m given number h
  -- nil has number 0
  pub nil_number : number 0 ≡ 0
  -- each tuple made was given a handle, and a handle's number is the greatest of those that had it
  pub all_given : length given ≡ made m
  pub given_entry : (i : ℕ) → 1 ≤ i → i ≤ made m → (1 ≤ handle_at i given) × (handle_at i given < b.h)
  pub number_latest : (i : ℕ) → 1 ≤ i → i ≤ made m → i ≤ number (handle_at i given)

-- ---- agreement

-- a pointer to a tuple of the history machine is a pointer other than nil of the box
match_names : (number : ℕ → ℕ) → number 0 ≡ 0 → (w : Word) (i o : ℕ) → Match number w (pointer_to i o) → i ≢ 0 → names_tuple w ≡ true
match_names number z w i o e n = simp (e.0, ne_eqb (handle_of w) 0 (λ q. n (sym e.2 ∙ ap number q ∙ z)))

-- the kept tuple with a number
pub record Keeps (b : Box) (p : Plan) (number : ℕ → ℕ) (n : ℕ) : Type 0 where
  pub handle : ℕ
  pub kept : Kept b p handle
  pub numbered : number handle ≡ n

module _ (b : Box) (p : Plan) (m : History) (given : List ℕ) (number : ℕ → ℕ) (s : Related b p m given number) (i : Contents b p) where
  -- the tuple that a word of the box names is kept, where the history machine's word names one
  named : (w : Word) (v : HWord) → (names_tuple w ≡ true → Kept b p (handle_of w)) → Match number w v → (j o : ℕ) → v ≡ pointer_to j o → j ≢ 0 → Keeps b p number j
  named w v k e j o q z =
      let f : Match number w (pointer_to j o) = subst (λ (x : HWord). Match number w x) q e in
      record { handle = handle_of w; kept = k (match_names number s.nil_number w j o f z); numbered = f.2 }

  from_word : (h : ℕ) → Kept b p h → (k : ℕ) → k < size_of h b → (j o : ℕ) → word_of (number h) k m ≡ pointer_to j o → j ≢ 0 → Keeps b p number j
  from_word h x k l j o q z = named (word h (k + 1) b) (word_of (number h) k m) (λ n. (i.words_kept h x k l n).0) ((s.kept_hold h x).words_match k l) j o q z

  below : (n : ℕ) (x : Keeps b p number n) (k : ℕ) → k < size_at n m → k < size_of x.handle b
  below n x k l = subst (λ (z : ℕ). k < z) (sym ((s.kept_hold x.handle x.kept).size_same ∙ ap (λ (y : ℕ). size_at y m) x.numbered)) l

  pub reached : (n : ℕ) → Reachable m n → Keeps b p number n
  reached n (by_register r j o l e z) = named (register r b) (register_of r m) (i.roots_kept r l) (s.roots_match r l) j o e z
  reached n (by_word j k n' o x l e z) =
      let y : Keeps b p number j = reached j x in
      from_word y.handle y.kept k (below j y k l) n' o (ap (λ (q : ℕ). word_of q k m) y.numbered ∙ e) z

  -- words that match by numbers match by handles
  matched : (w : Word) (v : HWord) → (names_tuple w ≡ true → Kept b p (handle_of w)) → Match number w v → Matches given w v
  matched w (datum v) k e = e
  matched w (pointer_to j o) k e = (e.0, e.1, go (ℕ_discrete (handle_of w) 0))
    where
      go : Dec (handle_of w ≡ 0) → handle_of w ≡ handle_at j given
      go (yes q) = q ∙ ap (λ (x : ℕ). handle_at x given) (sym (sym e.2 ∙ ap number q ∙ s.nil_number))
      go (no n) = sym (ap (λ (x : ℕ). handle_at x given) (sym e.2) ∙ (s.kept_hold (handle_of w) (k (simp (e.0, ne_eqb (handle_of w) 0 n)))).handle_given)

  -- the handle of a tuple that is reachable
  handle_is : (n : ℕ) (x : Keeps b p number n) → handle_at n given ≡ x.handle
  handle_is n x = ap (λ (y : ℕ). handle_at y given) (sym x.numbered) ∙ (s.kept_hold x.handle x.kept).handle_given

  under : (n : ℕ) → Keeps b p number n → Under b m given n (handle_at n given)
  unfolding word
  under n x =
      let h : Holds b m given number x.handle = s.kept_hold x.handle x.kept in
      subst (λ (y : ℕ). Under b m given n y) (sym (handle_is n x))
      (subst (λ (y : ℕ). Under b m given y x.handle) x.numbered
      (record {
        size_agrees = h.size_same;
        tag_agrees = h.tag_same;
        words_agree = λ k l. let u : k < size_of x.handle b = omega (arith, h.size_same) in matched (word x.handle (k + 1) b) (word_of (number x.handle) k m) (λ y. (i.words_kept x.handle x.kept k u y).0) (h.words_match k u);
      }))

  no_nil : (n : ℕ) → Keeps b p number n → handle_at n given ≢ 0
  no_nil n x e =
      let q : number x.handle ≡ 0 = ap number (sym (handle_is n x) ∙ e) ∙ s.nil_number in
      let l : 1 ≤ number x.handle = (s.kept_hold x.handle x.kept).number_made.0 in
      omega arith

  pub agree : Agree b m given
  agree =
      record {
        registers_agree = λ r l. matched (register r b) (register_of r m) (i.roots_kept r l) (s.roots_match r l);
        tuples_agree = λ n x. under n (reached n x);
        no_handle_nil = λ n x e. no_nil n (reached n x) e;
        no_handle_shared = λ n k x y e. sym (reached n x).numbered ∙ ap number (sym (handle_is n (reached n x)) ∙ e ∙ handle_is k (reached k y)) ∙ (reached k y).numbered;
      }
