-- A new tuple keeps the relation with the history machine, where it is made by a request or granted at the end of a cycle.
-- `Made` says what it changes in the box (Asking/NewTuple); the history machine's tuples before it stand as they were, and its
-- number is one more than theirs. No register and no word of a kept tuple named its handle before, so no number that the
-- relation speaks of changes. Assumes nothing.
use Prim.Native.Nat.{ℕ, suc, ◌+◌, ◌≤◌, ◌<◌, zero-le, suc-le-suc}
use mathlib.Core.Bool.{true, cond}
use mathlib.Core.List.{List, [], ◌∷◌, ◌++◌}
use mathlib.Core.Logic.{◌≢◌, ◌⊎◌, inl, inr}
use mathlib.Core.Path.{◌≡◌, refl, sym, ◌∙◌, ap, subst}
use native.Mathlib.Nat.{le_refl}
use native.Mathlib.Numerals.{add-one}
use native.Mathlib.Omega.{arith}
use borrow.Author.Tests.{eq-eqb, ne_eqb}
use lib.Dec.{eqb}
use lib.ListN.{length, get_or, replicate, length-append, length-replicate, get_or-replicate, get_or-append}
use lib.Seq.{get_or-append_seam, get_or-set_same, get_or-set_other}
use Rattle.rules.specs.Limits.{register_count}
use Rattle.rules.specs.Parts.{Word, Box}
use Rattle.rules.specs.Box.{pointer, handle_of, tag_of, names_tuple, register, size_of}
use Rattle.history.specs.Machine.{HWord, datum, pointer_to, HTuple, History, nil_tuple, register_of, tuple_of, word_of, made, make}
use Rattle.history.specs.Agreement.{handle_at}
use Rattle.history.proofs.Invariant.Statement.{Plan, word, Kept, Contents}
use Rattle.history.proofs.Relation.Statement.{Match, Holds, Related}
use Rattle.history.proofs.Relation.Registers.{pointer_offset}
use Rattle.rules.proofs.View.Tests.{eq?, le?}
use Rattle.history.proofs.Invariant.Words.{pointer_handle}
use Rattle.history.proofs.Asking.NewTuple.{Made}

-- ---- the numbers of handles with that of the new tuple

abbrev pub renumbered : (ℕ → ℕ) → ℕ → ℕ → ℕ → ℕ
renumbered number h n x = cond (eqb x h) n (number x)

pub renumbered_same : (number : ℕ → ℕ) (h n x : ℕ) → x ≡ h → renumbered number h n x ≡ n
renumbered_same number h n x e = simp (eq-eqb x h e)

pub renumbered_other : (number : ℕ → ℕ) (h n x : ℕ) → x ≢ h → renumbered number h n x ≡ number x
renumbered_other number h n x e = simp (ne_eqb x h e)

-- a word that doesn't name the new tuple matches what it matched
match_renumbered : (number : ℕ → ℕ) (h n : ℕ) (w : Word) (v : HWord) → (w.flag ≡ true → handle_of w ≢ h) → Match number w v → Match (renumbered number h n) w v
match_renumbered number h n w (datum v) f e = e
match_renumbered number h n w (pointer_to i o) f e = (e.0, e.1, renumbered_other number h n (handle_of w) (f e.0) ∙ e.2)

-- ---- one more at the end of a list, read from 1

last_old {ℓ} : {A : Type ℓ} (xs : List A) (x y d : A) (i : ℕ) → i ≤ length xs → get_or (y ∷ (xs ++ x ∷ [])) i d ≡ get_or (y ∷ xs) i d
last_old xs x y d i l = get_or-append (y ∷ xs) (x ∷ []) d i (suc-le-suc l)

last_new {ℓ} : {A : Type ℓ} (xs : List A) (x y d : A) → get_or (y ∷ (xs ++ x ∷ [])) (suc (length xs)) d ≡ x
last_new xs x y d = get_or-append_seam xs x [] d

last_length {ℓ} : {A : Type ℓ} (xs : List A) (x : A) → length (xs ++ x ∷ []) ≡ suc (length xs)
last_length xs x = length-append xs (x ∷ []) ∙ add-one (length xs)

-- ---- the history machine with a tuple more

-- the new tuple
abbrev new_of : ℕ → ℕ → HTuple
new_of n tag = record { tag = tag; words = replicate n (datum 0) }

pub made_make : (r n tag : ℕ) (m : History) → made (make r n tag m) ≡ suc (made m)
unfolding make
made_make r n tag m = last_length m.tuples (new_of n tag)

pub tuple_old : (r n tag : ℕ) (m : History) (i : ℕ) → i ≤ made m → tuple_of i (make r n tag m) ≡ tuple_of i m
unfolding make
tuple_old r n tag m i l = last_old m.tuples (new_of n tag) nil_tuple nil_tuple i l

pub tuple_new : (r n tag : ℕ) (m : History) → tuple_of (suc (made m)) (make r n tag m) ≡ new_of n tag
unfolding make
tuple_new r n tag m = last_new m.tuples (new_of n tag) nil_tuple nil_tuple

register_made_of : (r n tag : ℕ) (m : History) → r < length m.registers → register_of r (make r n tag m) ≡ pointer_to (suc (made m)) 0
unfolding make
register_made_of r n tag m l = get_or-set_same m.registers r (pointer_to (suc (made m)) 0) (datum 0) l

pub register_other_of : (r n tag : ℕ) (m : History) (s : ℕ) → s ≢ r → register_of s (make r n tag m) ≡ register_of s m
unfolding make
register_other_of r n tag m s e = get_or-set_other m.registers r s (pointer_to (suc (made m)) 0) (datum 0) e

-- ---- the relation

le_suc_of_le : (j n : ℕ) → j ≤ n → j ≤ suc n
le_suc_of_le j n u = omega arith

module _ (b : Box) (p : Plan) (c : Box) (q : Plan) (r n tag : ℕ) (m : History) (given : List ℕ) (number : ℕ → ℕ) (a : Made b p c q r n tag) (i : Contents b p) (s : Related b p m given number) (eight : length m.registers ≡ register_count) (l : r < register_count) where
  -- the handle of the new tuple
  abbrev h : ℕ
  h = b.free

  abbrev numbers : ℕ → ℕ
  numbers = renumbered number h (suc (made m))

  abbrev handles : List ℕ
  handles = given ++ h ∷ []

  abbrev machine : History
  machine = make r n tag m

  -- a word that names kept tuples alone
  not_new : (w : Word) → (names_tuple w ≡ true → Kept b p (handle_of w)) → w.flag ≡ true → handle_of w ≢ h
  not_new w k f e = a.was_free (subst (λ (x : ℕ). Kept b p x) e (k (simp (f, ne_eqb (handle_of w) 0 (λ z. a.handle_not_nil (sym e ∙ z))))))

  match_old : (w : Word) (v : HWord) → (names_tuple w ≡ true → Kept b p (handle_of w)) → Match number w v → Match numbers w v
  match_old w v k e = match_renumbered number h (suc (made m)) w v (not_new w k) e

  -- the handles given
  given_old : (j : ℕ) → j ≤ made m → handle_at j handles ≡ handle_at j given
  given_old j u = last_old given h 0 0 j (subst (λ (x : ℕ). j ≤ x) (sym s.all_given) u)

  given_new : handle_at (suc (made m)) handles ≡ h
  given_new = subst (λ (x : ℕ). handle_at (suc x) handles ≡ h) s.all_given (last_new given h 0 0)

  -- registers
  root_new : Match numbers (register r c) (register_of r machine)
  root_new =
      subst (λ (x : Word). Match numbers x (register_of r machine)) (sym a.register_made)
      (subst (λ (v : HWord). Match numbers (pointer h 0) v) (sym (register_made_of r n tag m (subst (λ (x : ℕ). r < x) (sym eight) l)))
      (refl, pointer_offset h 0 (omega arith), renumbered_same number h (suc (made m)) (handle_of (pointer h 0)) (pointer_handle h 0 (omega arith))))

  root_old : (t : ℕ) → t < register_count → t ≢ r → Match numbers (register t c) (register_of t machine)
  root_old t u e =
      subst (λ (x : Word). Match numbers x (register_of t machine)) (sym (a.registers_same t e))
      (subst (λ (v : HWord). Match numbers (register t b) v) (sym (register_other_of r n tag m t e))
      (match_old (register t b) (register_of t m) (i.roots_kept t u) (s.roots_match t u)))

  root_any : (t : ℕ) → t < register_count → (t ≡ r) ⊎ (t ≢ r) → Match numbers (register t c) (register_of t machine)
  root_any t u (inl e) = subst (λ (x : ℕ). Match numbers (register x c) (register_of x machine)) (sym e) root_new
  root_any t u (inr e) = root_old t u e

  -- a tuple kept before
  holds_old : (x : ℕ) → Kept b p x → Holds c machine handles numbers x
  holds_old x k =
      record {
        number_made = (rw same y.number_made.0, rw (same, made_make r n tag m) (le_suc_of_le (number x) (made m) y.number_made.1));
        handle_given = ap (λ (z : ℕ). handle_at z handles) same ∙ given_old (number x) y.number_made.1 ∙ y.handle_given;
        size_same = a.sizes_same x k ∙ y.size_same ∙ ap (λ (t : HTuple). length t.words) (sym tuple_same);
        tag_same = ap tag_of (a.words_same x k 0 zero-le) ∙ y.tag_same ∙ ap (λ (t : HTuple). t.tag) (sym tuple_same);
        words_match = words;
      }
    where
      y : Holds b m given number x
      y = s.kept_hold x k

      other : x ≢ h
      other e = a.was_free (subst (λ (z : ℕ). Kept b p z) e k)

      same : numbers x ≡ number x
      same = renumbered_other number h (suc (made m)) x other

      tuple_same : tuple_of (numbers x) machine ≡ tuple_of (number x) m
      tuple_same = ap (λ (z : ℕ). tuple_of z machine) same ∙ tuple_old r n tag m (number x) y.number_made.1

      words : (j : ℕ) → j < size_of x c → Match numbers (word x (j + 1) c) (word_of (numbers x) j machine)
      words j u =
          let v : j < size_of x b = subst (λ (z : ℕ). j < z) (a.sizes_same x k) u in
          let w : j + 1 ≤ size_of x b = omega arith in
          subst (λ (t : HTuple). Match numbers (word x (j + 1) c) (get_or t.words j (datum 0))) (sym tuple_same)
          (subst (λ (z : Word). Match numbers z (word_of (number x) j m)) (sym (a.words_same x k (j + 1) w))
          (match_old (word x (j + 1) b) (word_of (number x) j m) (λ f. (i.words_kept x k j v f).0) (y.words_match j v)))

  -- the new one
  holds_new : Holds c machine handles numbers h
  holds_new =
      record {
        number_made = (rw same (suc-le-suc zero-le), rw (same, made_make r n tag m) (le_refl (suc (made m))));
        handle_given = ap (λ (z : ℕ). handle_at z handles) same ∙ given_new;
        size_same = a.made_size ∙ sym (length-replicate n (datum 0)) ∙ ap (λ (t : HTuple). length t.words) (sym tuple_is);
        tag_same = a.made_tag ∙ ap (λ (t : HTuple). t.tag) (sym tuple_is);
        words_match = words;
      }
    where
      same : numbers h ≡ suc (made m)
      same = renumbered_same number h (suc (made m)) h refl

      tuple_is : tuple_of (numbers h) machine ≡ new_of n tag
      tuple_is = ap (λ (z : ℕ). tuple_of z machine) same ∙ tuple_new r n tag m

      words : (j : ℕ) → j < size_of h c → Match numbers (word h (j + 1) c) (word_of (numbers h) j machine)
      words j u =
          let v : j < n = subst (λ (z : ℕ). j < z) a.made_size u in
          subst (λ (t : HTuple). Match numbers (word h (j + 1) c) (get_or t.words j (datum 0))) (sym tuple_is)
          (subst (λ (z : HWord). Match numbers (word h (j + 1) c) z) (sym (get_or-replicate n j (datum 0) (datum 0) v))
          (subst (λ (z : Word). Match numbers z (datum 0)) (sym (a.made_words j v)) (refl, refl)))

  holds_any : (x : ℕ) → Kept b p x ⊎ (x ≡ h) → Holds c machine handles numbers x
  holds_any x (inl k) = holds_old x k
  holds_any x (inr e) = subst (λ (z : ℕ). Holds c machine handles numbers z) (sym e) holds_new

  -- each number made before, or the new one
  data Number (j : ℕ) : Type 0 where
    before : j ≤ made m → Number j
    latest : j ≡ suc (made m) → Number j

  number? : (j : ℕ) → j ≤ made machine → Number j
  number? j u = go (le? j (made m))
    where
      v : j ≤ suc (made m)
      v = rw (made_make r n tag m) at u

      go : (j ≤ made m) ⊎ (made m < j) → Number j
      go (inl w) = before w
      go (inr w) = latest (omega (arith, v))

  entry : (j : ℕ) → 1 ≤ j → Number j → (1 ≤ handle_at j handles) × (handle_at j handles < c.h)
  entry j o (before u) = rw (given_old j u, a.h_same) (s.given_entry j o u)
  entry j o (latest e) =
      let x : h ≢ 0 = a.handle_not_nil in
      let y : 1 ≤ h = omega arith in
      rw (e, given_new, a.h_same) (y, a.handle_below)

  latest_number : (j : ℕ) → 1 ≤ j → Number j → j ≤ numbers (handle_at j handles)
  latest_number j o (before u) = rw (given_old j u) (go (eq? (handle_at j given) h))
    where
      go : (handle_at j given ≡ h) ⊎ (handle_at j given ≢ h) → j ≤ numbers (handle_at j given)
      go (inl e) = subst (λ (z : ℕ). j ≤ z) (sym (renumbered_same number h (suc (made m)) (handle_at j given) e)) (le_suc_of_le j (made m) u)
      go (inr e) = subst (λ (z : ℕ). j ≤ z) (sym (renumbered_other number h (suc (made m)) (handle_at j given) e)) (s.number_latest j o u)
  latest_number j o (latest e) = rw (e, given_new, renumbered_same number h (suc (made m)) h refl) (le_refl (suc (made m)))

  pub related_made : Related c q (make r n tag m) (given ++ b.free ∷ []) (renumbered number b.free (suc (made m)))
  related_made =
      record {
        roots_match = λ t u. root_any t u (eq? t r);
        kept_hold = λ x k. holds_any x (a.kept_to x k);
        nil_number = renumbered_other number h (suc (made m)) 0 (λ e. a.handle_not_nil (sym e)) ∙ s.nil_number;
        all_given = last_length given h ∙ ap suc s.all_given ∙ sym (made_make r n tag m);
        given_entry = λ j o u. entry j o (number? j u);
        number_latest = λ j o u. latest_number j o (number? j u);
      }
