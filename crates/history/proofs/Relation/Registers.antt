-- Requests that write a register keep the relation with the history machine: the word that the box puts there matches the one
-- that the history machine puts there. A word of the history machine that matches a pointer is a pointer; what it names is the
-- number of a kept tuple, and so has its size, tag and words. Assumes nothing.
use Prim.Native.Nat.{ℕ, ◌+◌, ◌*◌, ◌/◌, ◌%◌, ◌<◌}
use mathlib.Core.Bool.{Bool, true, cond, ◌&&◌, and-true, and-false, true≢false}
use mathlib.Core.List.{List}
use mathlib.Core.Logic.{◌≢◌, ◌⊎◌, inl, inr}
use mathlib.Core.Path.{◌≡◌, refl, sym, ◌∙◌, ap, ap₂, subst}
use native.Mathlib.Nat.{div-add-mod'}
use native.Mathlib.Omega.{arith}
use borrow.Author.Tests.{lt-ltb, eq-eqb, ne_eqb}
use lib.Dec.{eqb}
use lib.ListN.{length}
use Rattle.rules.specs.declared.kinds.Request.TheVariants.{Setd, Nil, Move, Advance, Load, Size, Tag, Same}
use Rattle.rules.specs.Limits.{half_word, register_count}
use Rattle.rules.specs.Parts.{Word, Box}
use Rattle.rules.specs.Box.{data_word, pointer, handle_of, offset_of, tag_of, names_tuple, register, put_register, size_of}
use Rattle.rules.specs.Place.{place, read}
use Rattle.rules.specs.Request.{same_word}
use Rattle.rules.specs.Answers.{named, number as word_number}
use Rattle.history.specs.Machine.{HWord, datum, pointer_to, History, register_of, tuple_of, size_at, word_of, put_in, advance_by, load_from, size_to, tag_to, same_hword, do_request}
use Rattle.history.specs.Agreement.{handle_at, Matches, Agree}
use Rattle.history.proofs.Invariant.Statement.{Ghosts, Inv, Kept, word}
use Rattle.history.proofs.Relation.Statement.{Match, Holds, Related, agree}
use Rattle.history.proofs.Relation.Still.{related_put}
use Rattle.rules.proofs.View.Tests.{eq?}
use Rattle.rules.proofs.View.Request.{place_of, There}
use Rattle.history.proofs.Invariant.Words.{pointer_handle, names_flag}

-- ---- words

-- data matches no pointer
pub pointer_not_datum : (number : ℕ → ℕ) (w : Word) (v : ℕ) → w.flag ≡ true → ¬ Match number w (datum v)
pointer_not_datum number w v f e = true≢false (sym f ∙ e.0)

pub pointer_offset : (h o : ℕ) → o < half_word → offset_of (pointer h o) ≡ o
pointer_offset h o l = omega arith

-- handle and offset determine the bits
bits_same : (v w : Word) → handle_of v ≡ handle_of w → offset_of v ≡ offset_of w → v.bits ≡ w.bits
bits_same v w e f = sym (div-add-mod' v.bits half_word) ∙ ap₂ (λ (x y : ℕ). x * half_word + y) e f ∙ div-add-mod' w.bits half_word

-- SAME compares alike on both sides
pub same_alike : (number : ℕ → ℕ) (given : List ℕ) (v w : Word) (x y : HWord) → Match number v x → Match number w y → Matches given v x
    → Matches given w y → same_word v w ≡ same_hword x y
unfolding same_word same_hword
same_alike number given v w (datum a) (datum c) e f m n = simp (e.0, f.0, e.1, f.1, and-true)
same_alike number given v w (datum a) (pointer_to j q) e f m n = simp (e.0, f.0, and-false)
same_alike number given v w (pointer_to i o) (datum c) e f m n = simp (e.0, f.0, and-false)
same_alike number given v w (pointer_to i o) (pointer_to j q) e f m n = simp (e.0, f.0, and-true) (go (eq? i j) (eq? o q))
  where
    go : (i ≡ j) ⊎ (i ≢ j) → (o ≡ q) ⊎ (o ≢ q) → eqb v.bits w.bits ≡ (eqb i j && eqb o q)
    go (inl a) (inl c) = eq-eqb v.bits w.bits (bits_same v w (m.2 ∙ ap (λ (z : ℕ). handle_at z given) a ∙ sym n.2) (e.1 ∙ c ∙ sym f.1)) ∙ sym (simp (eq-eqb i j a, eq-eqb o q c))
    go (inl a) (inr c) = ne_eqb v.bits w.bits (λ z. c (sym e.1 ∙ ap (λ (t : ℕ). t % half_word) z ∙ f.1)) ∙ sym (simp (eq-eqb i j a, ne_eqb o q c))
    go (inr a) c = ne_eqb v.bits w.bits (λ z. a (sym e.2 ∙ ap (λ (t : ℕ). number (t / half_word)) z ∙ f.2)) ∙ sym (simp (ne_eqb i j a))

-- ---- the requests

module _ (b : Box) (g : Ghosts) (m : History) (given : List ℕ) (number : ℕ → ℕ) (i : Inv b g) (s : Related b g.plan m given number) (eight : length m.registers ≡ register_count) where
  -- register r takes words that match
  put_both : (r : ℕ) (w : Word) (v : HWord) → r < register_count → Match number w v → Related (put_register r w b) g.plan (put_in r v m) given number
  put_both r w v l e = related_put r w v b g.plan m given number i.shape eight l e s

  pub related_setd : (r v : ℕ) → r < register_count → Related (put_register r (data_word v) b) g.plan (do_request (Setd r v) m) given number
  unfolding do_request
  related_setd r v l = put_both r (data_word v) (datum v) l (refl, refl)

  pub related_nil : (r : ℕ) → r < register_count → Related (put_register r (pointer 0 0) b) g.plan (do_request (Nil r) m) given number
  unfolding do_request
  related_nil r l = put_both r (pointer 0 0) (pointer_to 0 0) l (refl, refl, s.nil_number)

  pub related_move : (r t : ℕ) → r < register_count → t < register_count → Related (put_register r (register t b) b) g.plan (do_request (Move r t) m) given number
  unfolding do_request
  related_move r t l k = put_both r (register t b) (register_of t m) l (s.roots_match t k)

  advanced : (r n : ℕ) → r < register_count → (register r b).flag ≡ true → offset_of (register r b) + n < half_word → (v : HWord) → Match number (register r b) v
      → Related (put_register r (pointer (named r b) (offset_of (register r b) + n)) b) g.plan (advance_by r n v m) given number
  unfolding advance_by
  advanced r n l f u (datum v) e = absurd (pointer_not_datum number (register r b) v f e)
  advanced r n l f u (pointer_to j o) e =
      put_both r (pointer (named r b) (offset_of (register r b) + n)) (pointer_to j (o + n)) l
      (refl, pointer_offset (named r b) (offset_of (register r b) + n) u ∙ ap (λ (x : ℕ). x + n) e.1, ap number (pointer_handle (named r b) (offset_of (register r b) + n) u) ∙ e.2)

  pub related_advance : (r n : ℕ) → r < register_count → (register r b).flag ≡ true → offset_of (register r b) + n < half_word
      → Related (put_register r (pointer (named r b) (offset_of (register r b) + n)) b) g.plan (do_request (Advance r n) m) given number
  unfolding do_request
  related_advance r n l f u = advanced r n l f u (register_of r m) (s.roots_match r l)

  -- the tuple that a register names
  pub root_kept : (t : ℕ) → t < register_count → names_tuple (register t b) ≡ true → Kept b g.plan (named t b)
  root_kept t k n = i.contents.roots_kept t k n

  root_holds : (t : ℕ) → t < register_count → names_tuple (register t b) ≡ true → Holds b m given number (named t b)
  root_holds t k n = s.kept_hold (named t b) (root_kept t k n)

  -- the word that a register and an index name, on both sides
  word_both : (t n : ℕ) → t < register_count → There t n b → (j o : ℕ) → Match number (register t b) (pointer_to j o)
      → Match number (read (place_of t n b) b) (word_of j (o + n) m)
  unfolding word
  word_both t n k x j o e =
      subst (λ (y : ℕ). Match number (read (place_of t n b) b) (word_of y (o + n) m)) e.2
      (subst (λ (y : ℕ). Match number (read (place_of t n b) b) (word_of (number (named t b)) (y + n) m)) e.1
      ((root_holds t k x.is_pointer).words_match (word_number t n b) x.inside))

  -- it is within the tuple there too
  pub inside_both : (t n : ℕ) → t < register_count → There t n b → (j o : ℕ) → Match number (register t b) (pointer_to j o) → o + n < size_at j m
  inside_both t n k x j o e =
      subst (λ (y : ℕ). y + n < size_at j m) e.1
      (subst (λ (y : ℕ). word_number t n b < y) ((root_holds t k x.is_pointer).size_same ∙ ap (λ (y : ℕ). size_at y m) e.2) x.inside)

  loaded : (r t n : ℕ) → r < register_count → t < register_count → There t n b → (v : HWord) → Match number (register t b) v
      → Related (put_register r (read (place_of t n b) b) b) g.plan (load_from r v n m) given number
  unfolding load_from
  loaded r t n l k x (datum v) e = absurd (pointer_not_datum number (register t b) v (names_flag (register t b) x.is_pointer) e)
  loaded r t n l k x (pointer_to j o) e =
      subst (λ (y : Bool). Related (put_register r (read (place_of t n b) b) b) g.plan (cond y (put_in r (word_of j (o + n) m) m) m) given number) (sym (lt-ltb (o + n) (size_at j m) (inside_both t n k x j o e)))
      (put_both r (read (place_of t n b) b) (word_of j (o + n) m) l (word_both t n k x j o e))

  pub related_load : (r t n : ℕ) → r < register_count → t < register_count → There t n b
      → Related (put_register r (read (place_of t n b) b) b) g.plan (do_request (Load r t n) m) given number
  unfolding do_request
  related_load r t n l k x = loaded r t n l k x (register_of t m) (s.roots_match t k)

  sized : (r t n : ℕ) → r < register_count → (register t b).flag ≡ true → n ≡ size_at (number (named t b)) m → (v : HWord) → Match number (register t b) v
      → Related (put_register r (data_word n) b) g.plan (size_to r v m) given number
  unfolding size_to
  sized r t n l f z (datum v) e = absurd (pointer_not_datum number (register t b) v f e)
  sized r t n l f z (pointer_to j o) e = put_both r (data_word n) (datum (size_at j m)) l (refl, z ∙ ap (λ (y : ℕ). size_at y m) e.2)

  pub related_size : (r t : ℕ) → r < register_count → t < register_count → names_tuple (register t b) ≡ true
      → Related (put_register r (data_word (size_of (named t b) b)) b) g.plan (do_request (Size r t) m) given number
  unfolding do_request
  related_size r t l k n = sized r t (size_of (named t b) b) l (names_flag (register t b) n) (root_holds t k n).size_same (register_of t m) (s.roots_match t k)

  -- nil has number 0
  nil_size : (t : ℕ) → named t b ≡ 0 → 0 ≡ size_at (number (named t b)) m
  nil_size t z = sym (ap (λ (y : ℕ). size_at y m) (ap number z ∙ s.nil_number))

  pub related_nil_size : (r t : ℕ) → r < register_count → t < register_count → (register t b).flag ≡ true → named t b ≡ 0
      → Related (put_register r (data_word 0) b) g.plan (do_request (Size r t) m) given number
  unfolding do_request
  related_nil_size r t l k f z = sized r t 0 l f (nil_size t z) (register_of t m) (s.roots_match t k)

  tagged : (r t n : ℕ) → r < register_count → (register t b).flag ≡ true → n ≡ (tuple_of (number (named t b)) m).tag → (v : HWord) → Match number (register t b) v
      → Related (put_register r (data_word n) b) g.plan (tag_to r v m) given number
  unfolding tag_to
  tagged r t n l f z (datum v) e = absurd (pointer_not_datum number (register t b) v f e)
  tagged r t n l f z (pointer_to j o) e = put_both r (data_word n) (datum (tuple_of j m).tag) l (refl, z ∙ ap (λ (y : ℕ). (tuple_of y m).tag) e.2)

  pub related_tag : (r t : ℕ) → r < register_count → t < register_count → names_tuple (register t b) ≡ true
      → Related (put_register r (data_word (tag_of (read (place (named t b) 0 b) b))) b) g.plan (do_request (Tag r t) m) given number
  unfolding do_request word
  related_tag r t l k n = tagged r t (tag_of (word (named t b) 0 b)) l (names_flag (register t b) n) (root_holds t k n).tag_same (register_of t m) (s.roots_match t k)

  nil_tag : (t : ℕ) → named t b ≡ 0 → 0 ≡ (tuple_of (number (named t b)) m).tag
  nil_tag t z = sym (ap (λ (y : ℕ). (tuple_of y m).tag) (ap number z ∙ s.nil_number))

  pub related_nil_tag : (r t : ℕ) → r < register_count → t < register_count → (register t b).flag ≡ true → named t b ≡ 0
      → Related (put_register r (data_word 0) b) g.plan (do_request (Tag r t) m) given number
  unfolding do_request
  related_nil_tag r t l k f z = tagged r t 0 l f (nil_tag t z) (register_of t m) (s.roots_match t k)

  pub related_same : (r t u : ℕ) → r < register_count → t < register_count → u < register_count
      → Related (put_register r (data_word (cond (same_word (register t b) (register u b)) 1 0)) b) g.plan (do_request (Same r t u) m) given number
  unfolding do_request
  related_same r t u l k o =
      put_both r (data_word (cond (same_word (register t b) (register u b)) 1 0)) (datum (cond (same_hword (register_of t m) (register_of u m)) 1 0)) l
      (refl, ap (λ (y : Bool). cond y 1 0) (same_alike number given (register t b) (register u b) (register_of t m) (register_of u m) (s.roots_match t k) (s.roots_match u o) (agreed.registers_agree t k) (agreed.registers_agree u o)))
    where
      agreed : Agree b m given
      agreed = agree b g.plan m given number s i.contents
