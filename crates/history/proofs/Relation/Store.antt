-- STORE keeps the relation with the history machine. `Stored` says what it changes in the box (Asking/Write): one word of one
-- tuple. The history machine changes that word of the tuple with its number, and no other kept tuple has that number. Assumes
-- nothing.
use Prim.Native.Nat.{ℕ, zero, suc, ◌+◌, ◌≤◌, ◌<◌, zero-le}
use mathlib.Core.Bool.{Bool, cond}
use mathlib.Core.List.{List, [], ◌∷◌}
use mathlib.Core.Logic.{◌≢◌, ◌⊎◌, inl, inr}
use mathlib.Core.Path.{◌≡◌, refl, sym, ◌∙◌, ap, subst}
use native.Mathlib.Nat.{le_of_suc-le-suc, not-suc-le-zero}
use native.Mathlib.Omega.{arith}
use borrow.Author.Tests.{lt-ltb}
use lib.ListN.{length, get_or, set, length-set}
use lib.Seq.{get_or-set_same, get_or-set_other}
use Rattle.rules.specs.declared.kinds.Request.TheVariants.{Store}
use Rattle.rules.specs.Limits.{register_count}
use Rattle.rules.specs.Parts.{Word, Box}
use Rattle.rules.specs.Box.{tag_of, register, size_of}
use Rattle.rules.specs.Answers.{named, number as word_number}
use Rattle.history.specs.Machine.{HWord, datum, pointer_to, HTuple, History, nil_tuple, register_of, tuple_of, size_at, word_of, made, rewrite_tuple, set_word, store_to, do_request, stored_in}
use Rattle.history.specs.Agreement.{handle_at}
use Rattle.history.proofs.Invariant.Statement.{Plan, Ghosts, Inv, word, Kept}
use Rattle.history.proofs.Relation.Statement.{Match, Holds, Related}
use Rattle.history.proofs.Relation.Registers.{pointer_not_datum, inside_both}
use Rattle.rules.proofs.View.Tests.{eq?}
use Rattle.rules.proofs.View.Request.{There}
use Rattle.history.proofs.Invariant.Words.{names_flag}
use Rattle.history.proofs.Asking.Write.{Stored}

-- ---- the history machine with a word changed

length_set_word : (i k : ℕ) (v : HWord) (ts : List HTuple) → length (set_word i k v ts) ≡ length ts
unfolding set_word
length_set_word i k v [] = refl
length_set_word zero k v (t ∷ ts) = refl
length_set_word (suc zero) k v (t ∷ ts) = refl
length_set_word (suc (suc i)) k v (t ∷ ts) = ap suc (length_set_word (suc i) k v ts)

pub made_stored : (i k : ℕ) (v : HWord) (m : History) → made (stored_in i k v m) ≡ made m
made_stored i k v m = length_set_word i k v m.tuples

-- the tuple changed
here_set_word : (i k : ℕ) (v : HWord) (ts : List HTuple) → i < length ts → get_or (set_word (suc i) k v ts) i nil_tuple ≡ rewrite_tuple (get_or ts i nil_tuple) k v
unfolding set_word
here_set_word i k v [] l = absurd (not-suc-le-zero l)
here_set_word zero k v (t ∷ ts) l = refl
here_set_word (suc i) k v (t ∷ ts) l = here_set_word i k v ts (le_of_suc-le-suc l)

pub tuple_stored : (i k : ℕ) (v : HWord) (m : History) → 1 ≤ i → i ≤ made m → tuple_of i (stored_in i k v m) ≡ rewrite_tuple (tuple_of i m) k v
tuple_stored zero k v m l u = absurd (not-suc-le-zero l)
tuple_stored (suc i) k v m l u = here_set_word i k v m.tuples u

-- the others
there_set_word : (i j k : ℕ) (v : HWord) (ts : List HTuple) → j ≢ i → get_or (set_word (suc i) k v ts) j nil_tuple ≡ get_or ts j nil_tuple
unfolding set_word
there_set_word i j k v [] n = refl
there_set_word zero zero k v (t ∷ ts) n = absurd (n refl)
there_set_word zero (suc j) k v (t ∷ ts) n = refl
there_set_word (suc i) zero k v (t ∷ ts) n = refl
there_set_word (suc i) (suc j) k v (t ∷ ts) n = there_set_word i j k v ts (λ e. n (ap suc e))

set_word_zero : (k : ℕ) (v : HWord) (ts : List HTuple) → set_word 0 k v ts ≡ ts
unfolding set_word
set_word_zero k v [] = refl
set_word_zero k v (t ∷ ts) = refl

pub tuple_not_stored : (i j k : ℕ) (v : HWord) (m : History) → j ≢ i → tuple_of j (stored_in i k v m) ≡ tuple_of j m
tuple_not_stored zero j k v m n = ap (λ (ts : List HTuple). get_or (nil_tuple ∷ ts) j nil_tuple) (set_word_zero k v m.tuples)
tuple_not_stored (suc i) zero k v m n = refl
tuple_not_stored (suc i) (suc j) k v m n = there_set_word i j k v m.tuples (λ e. n (ap suc e))

-- ---- the relation

module _ (b : Box) (p : Plan) (c : Box) (h k : ℕ) (w : Word) (v : HWord) (m : History) (given : List ℕ) (number : ℕ → ℕ) (a : Stored b p c p h k w) (s : Related b p m given number) (kept : Kept b p h) (inside : k < size_of h b) (e : Match number w v) where
  abbrev machine : History
  machine = stored_in (number h) k v m

  top : Holds b m given number h
  top = s.kept_hold h kept

  -- no other kept tuple has the number
  numbers_apart : (x : ℕ) → Kept b p x → x ≢ h → number x ≢ number h
  numbers_apart x y n q = n (sym (s.kept_hold x y).handle_given ∙ ap (λ (z : ℕ). handle_at z given) q ∙ top.handle_given)

  -- what holds of the numbers alone
  made_bound : (n : ℕ) → n ≤ made m → n ≤ made machine
  made_bound n l = subst (λ (z : ℕ). n ≤ z) (sym (made_stored (number h) k v m)) l

  bound_made : (n : ℕ) → n ≤ made machine → n ≤ made m
  bound_made n l = subst (λ (z : ℕ). n ≤ z) (made_stored (number h) k v m) l

  -- another tuple
  holds_other : (x : ℕ) → Kept b p x → x ≢ h → Holds c machine given number x
  holds_other x y n =
      record {
        number_made = (z.number_made.0, made_bound (number x) z.number_made.1);
        handle_given = z.handle_given;
        size_same = a.sizes_same x y ∙ z.size_same ∙ ap (λ (t : HTuple). length t.words) (sym same);
        tag_same = ap tag_of (a.words_same x y 0 zero-le (inl n)) ∙ z.tag_same ∙ ap (λ (t : HTuple). t.tag) (sym same);
        words_match = words;
      }
    where
      z : Holds b m given number x
      z = s.kept_hold x y

      same : tuple_of (number x) machine ≡ tuple_of (number x) m
      same = tuple_not_stored (number h) (number x) k v m (numbers_apart x y n)

      words : (j : ℕ) → j < size_of x c → Match number (word x (j + 1) c) (word_of (number x) j machine)
      words j u =
          let u' : j < size_of x b = subst (λ (q : ℕ). j < q) (a.sizes_same x y) u in
          let l : j + 1 ≤ size_of x b = omega arith in
          subst (λ (t : HTuple). Match number (word x (j + 1) c) (get_or t.words j (datum 0))) (sym same)
          (subst (λ (q : Word). Match number q (word_of (number x) j m)) (sym (a.words_same x y (j + 1) l (inl n))) (z.words_match j u'))

  -- the tuple written
  same_there : tuple_of (number h) machine ≡ rewrite_tuple (tuple_of (number h) m) k v
  same_there = tuple_stored (number h) k v m top.number_made.0 top.number_made.1

  word_here : (j : ℕ) → j < size_of h b → (j ≡ k) ⊎ (j ≢ k) → Match number (word h (j + 1) c) (get_or (set (tuple_of (number h) m).words k v) j (datum 0))
  word_here j u (inl q) =
      subst (λ (x : ℕ). Match number (word h (x + 1) c) (get_or (set (tuple_of (number h) m).words k v) x (datum 0))) (sym q)
      (subst (λ (x : Word). Match number x (get_or (set (tuple_of (number h) m).words k v) k (datum 0))) (sym a.word_stored)
      (subst (λ (x : HWord). Match number w x) (sym (get_or-set_same (tuple_of (number h) m).words k v (datum 0) (subst (λ (x : ℕ). k < x) top.size_same inside))) e))
  word_here j u (inr n) =
      let l : j + 1 ≤ size_of h b = omega arith in
      let o : j + 1 ≢ k + 1 = λ (q : j + 1 ≡ k + 1). n (omega arith) in
      subst (λ (x : Word). Match number x (get_or (set (tuple_of (number h) m).words k v) j (datum 0))) (sym (a.words_same h kept (j + 1) l (inr o)))
      (subst (λ (x : HWord). Match number (word h (j + 1) b) x) (sym (get_or-set_other (tuple_of (number h) m).words k j v (datum 0) n)) (top.words_match j u))

  holds_written : Holds c machine given number h
  holds_written =
      record {
        number_made = (top.number_made.0, made_bound (number h) top.number_made.1);
        handle_given = top.handle_given;
        size_same = a.sizes_same h kept ∙ top.size_same ∙ sym (length-set (tuple_of (number h) m).words k v) ∙ ap (λ (t : HTuple). length t.words) (sym same_there);
        tag_same = ap tag_of (a.words_same h kept 0 zero-le (inr (omega arith))) ∙ top.tag_same ∙ ap (λ (t : HTuple). t.tag) (sym same_there);
        words_match = words;
      }
    where
      words : (j : ℕ) → j < size_of h c → Match number (word h (j + 1) c) (word_of (number h) j machine)
      words j u =
          subst (λ (t : HTuple). Match number (word h (j + 1) c) (get_or t.words j (datum 0))) (sym same_there)
          (word_here j (subst (λ (q : ℕ). j < q) (a.sizes_same h kept) u) (eq? j k))

  holds_any : (x : ℕ) → Kept b p x → (x ≡ h) ⊎ (x ≢ h) → Holds c machine given number x
  holds_any x y (inl q) = subst (λ (z : ℕ). Holds c machine given number z) (sym q) holds_written
  holds_any x y (inr n) = holds_other x y n

  pub related_stored : Related c p (stored_in (number h) k v m) given number
  related_stored =
      record {
        roots_match = λ r l. subst (λ (x : Word). Match number x (register_of r m)) (sym (a.roots_same r)) (s.roots_match r l);
        kept_hold = λ x y. holds_any x (a.kept_to x y) (eq? x h);
        nil_number = s.nil_number;
        all_given = s.all_given ∙ sym (made_stored (number h) k v m);
        given_entry = λ n l u. rw a.h_same (s.given_entry n l (bound_made n u));
        number_latest = λ n l u. s.number_latest n l (bound_made n u);
      }

-- ---- the request

module _ (b : Box) (g : Ghosts) (m : History) (given : List ℕ) (number : ℕ → ℕ) (i : Inv b g) (s : Related b g.plan m given number) (eight : length m.registers ≡ register_count) where
  stores : (c : Box) (r t n : ℕ) → r < register_count → t < register_count → There t n b → Stored b g.plan c g.plan (named t b) (word_number t n b) (register r b)
      → (v : HWord) → Match number (register t b) v → Related c g.plan (store_to (register_of r m) v n m) given number
  unfolding store_to
  stores c r t n l k x a (datum v) e = absurd (pointer_not_datum number (register t b) v (names_flag (register t b) x.is_pointer) e)
  stores c r t n l k x a (pointer_to j o) e =
      subst (λ (y : Bool). Related c g.plan (cond y (stored_in j (o + n) (register_of r m) m) m) given number) (sym (lt-ltb (o + n) (size_at j m) (inside_both b g m given number i s eight t n k x j o e)))
      (subst (λ (y : ℕ). Related c g.plan (stored_in y (o + n) (register_of r m) m) given number) e.2
      (subst (λ (y : ℕ). Related c g.plan (stored_in (number (named t b)) (y + n) (register_of r m) m) given number) e.1
      (related_stored b g.plan c (named t b) (word_number t n b) (register r b) (register_of r m) m given number a s (i.contents.roots_kept t k x.is_pointer) x.inside (s.roots_match r l))))

  pub related_store : (c : Box) (r t n : ℕ) → r < register_count → t < register_count → There t n b
      → Stored b g.plan c g.plan (named t b) (word_number t n b) (register r b)
      → Related c g.plan (do_request (Store r t n) m) given number
  unfolding do_request
  related_store c r t n l k x a = stores c r t n l k x a (register_of t m) (s.roots_match t k)
