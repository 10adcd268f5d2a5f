-- The tuples that a cycle may keep hold the registers' targets and are closed under pointers in the history machine, and every
-- request leaves it so: it moves and stores only what a register or a word of such a tuple names, or makes a tuple, which is one of
-- them. Assumes nothing.
use Prim.Native.Nat.{ℕ, suc, ◌+◌, ◌≤◌, ◌<◌}
use mathlib.Core.Bool.{Bool, true, false, cond}
use mathlib.Core.List.{List}
use mathlib.Core.Logic.{◌≢◌}
use mathlib.Core.Path.{◌≡◌, refl, sym, ◌∙◌, ap, subst}
use native.Mathlib.Decide.{ℕ_discrete, dec_le, dec_lt}
use native.Mathlib.Omega.{arith}
use borrow.Author.Tests.{ltb-true}
use lib.Dec.{ltb}
use lib.ListN.{length, get_or, set, length-set, replicate, length-replicate, get_or-replicate, get_or-eq_default}
use lib.Seq.{get_or-set_same, get_or-set_other, set_out}
use Rattle.rules.specs.declared.kinds.Request.{Request}
use Rattle.rules.specs.declared.kinds.Request.TheVariants.{Setd, Nil, Move, Advance, Getm, Load, Store, Size, Tag, Same}
use Rattle.rules.specs.Limits.{register_count}
use Rattle.history.specs.Machine.{HWord, datum, pointer_to, HTuple, History, register_of, tuple_of, size_at, word_of, made, put_in, make, rewrite_tuple, advance_by, load_from, store_to, size_to, tag_to, same_hword, do_request, stored_in}
use Rattle.history.proofs.Relation.NewTuple.{made_make, tuple_old, tuple_new}
use Rattle.history.proofs.Relation.Store.{made_stored, tuple_stored, tuple_not_stored}
use Rattle.history.proofs.Spared.Tracked.{Spared, made_since, size_beyond}
use Rattle.history.proofs.Census.Reach.{target}

pub record SparedIn (m started : History) : Type 0 where
  pub not_fewer : made started ≤ made m
  pub roots_spared : (r i o : ℕ) → r < register_count → register_of r m ≡ pointer_to i o → i ≢ 0 → Spared started i
  pub words_spared : (i k j o : ℕ) → Spared started i → k < size_at i m → word_of i k m ≡ pointer_to j o → j ≢ 0 → Spared started j

-- what a word names, if it names a tuple, is spared
abbrev pub SparedWord : History → HWord → Type 0
SparedWord started v = (i o : ℕ) → v ≡ pointer_to i o → i ≢ 0 → Spared started i

pub datum_spared : (started : History) (v : ℕ) → SparedWord started (datum v)
datum_spared started v i o e n = absurd (n (sym (ap target e)))

pub nil_spared : (started : History) (o : ℕ) → SparedWord started (pointer_to 0 o)
nil_spared started o i q e n = absurd (n (sym (ap target e)))

module _ (m started : History) (s : SparedIn m started) where
  -- a register takes such a word
  pub spared_put : (r : ℕ) (v : HWord) → SparedWord started v → SparedIn (put_in r v m) started
  spared_put r v f = record { not_fewer = s.not_fewer; roots_spared = roots; words_spared = s.words_spared }
    where
      roots : (t i o : ℕ) → t < register_count → register_of t (put_in r v m) ≡ pointer_to i o → i ≢ 0 → Spared started i
      roots t i o l e n = go (ℕ_discrete t r) (dec_lt r (length m.registers))
        where
          go : Dec (t ≡ r) → Dec (r < length m.registers) → Spared started i
          go (yes q) (yes u) = f i o (sym (get_or-set_same m.registers r v (datum 0) u) ∙ ap (λ (x : ℕ). get_or (set m.registers r v) x (datum 0)) (sym q) ∙ e) n
          go (yes q) (no u) = s.roots_spared t i o l (ap (λ (x : List HWord). get_or x t (datum 0)) (sym (set_out m.registers r v (omega arith))) ∙ e) n
          go (no q) d = s.roots_spared t i o l (sym (get_or-set_other m.registers r t v (datum 0) q) ∙ e) n

  -- a tuple is made: its number is beyond those of the start, and its words are data
  new_spared : SparedWord started (pointer_to (suc (made m)) 0)
  new_spared i o e n =
      let q : suc (made m) ≡ i = ap target e in
      let u : made started ≤ made m = s.not_fewer in
      made_since (omega arith)

  made_inside : (r n tag i k j o : ℕ) → Spared started i → k < size_at i (make r n tag m) → word_of i k (make r n tag m) ≡ pointer_to j o → j ≢ 0 → Spared started j
  made_inside r n tag i k j o x l e z = go (dec_le i (made m)) (ℕ_discrete i (suc (made m)))
    where
      go : Dec (i ≤ made m) → Dec (i ≡ suc (made m)) → Spared started j
      go (yes u) d =
          let q : tuple_of i (make r n tag m) ≡ tuple_of i m = tuple_old r n tag m i u in
          s.words_spared i k j o x (subst (λ (t : HTuple). k < length t.words) q l) (ap (λ (t : HTuple). get_or t.words k (datum 0)) (sym q) ∙ e) z
      go (no u) (yes d) =
          let q : tuple_of i (make r n tag m) ≡ record {
            tag = tag;
            words = replicate n (datum 0);
          } = ap (λ (y : ℕ). tuple_of y (make r n tag m)) d ∙ tuple_new r n tag m in
          let v : k < length (replicate n (datum 0)) = subst (λ (t : HTuple). k < length t.words) q l in
          let w : k < n = subst (λ (y : ℕ). k < y) (length-replicate n (datum 0)) v in
          let f : datum 0 ≡ pointer_to j o = sym (get_or-replicate n k (datum 0) (datum 0) w) ∙ ap (λ (t : HTuple). get_or t.words k (datum 0)) (sym q) ∙ e in
          absurd (z (sym (ap target f)))
      go (no u) (no d) =
          let q : made (make r n tag m) ≡ suc (made m) = made_make r n tag m in
          let v : size_at i (make r n tag m) ≡ 0 = size_beyond i (make r n tag m) (omega arith) in
          absurd (omega arith)

  pub spared_make : (r n tag : ℕ) → SparedIn (make r n tag m) started
  unfolding make
  spared_make r n tag =
      record {
        not_fewer = let q : made (make r n tag m) ≡ suc (made m) = made_make r n tag m in let u : made started ≤ made m = s.not_fewer in omega arith;
        roots_spared = (spared_put r (pointer_to (suc (made m)) 0) new_spared).roots_spared;
        words_spared = made_inside r n tag;
      }

  -- a word of a tuple takes such a word
  pub spared_stored : (i k : ℕ) (v : HWord) → SparedWord started v → SparedIn (stored_in i k v m) started
  spared_stored i k v f =
      record { not_fewer = rw (made_stored i k v m) s.not_fewer; roots_spared = s.roots_spared; words_spared = inside }
    where
      inside : (x y j o : ℕ) → Spared started x → y < size_at x (stored_in i k v m) → word_of x y (stored_in i k v m) ≡ pointer_to j o → j ≢ 0 → Spared started j
      inside x y j o p l e z = go (ℕ_discrete x i) (dec_le x (made m)) (dec_le 1 x)
        where
          same : tuple_of x (stored_in i k v m) ≡ tuple_of x m → Spared started j
          same q = s.words_spared x y j o p (subst (λ (t : HTuple). y < length t.words) q l) (ap (λ (t : HTuple). get_or t.words y (datum 0)) (sym q) ∙ e) z

          changed : x ≡ i → 1 ≤ x → x ≤ made m → Spared started j
          changed d a b = more (ℕ_discrete y k)
            where
              q : tuple_of x (stored_in i k v m) ≡ rewrite_tuple (tuple_of x m) k v
              q = ap (λ (w : ℕ). tuple_of x (stored_in w k v m)) (sym d) ∙ tuple_stored x k v m a b

              u : y < size_at x m
              u = subst (λ (w : ℕ). y < w) (length-set (tuple_of x m).words k v) (subst (λ (t : HTuple). y < length t.words) q l)

              h : get_or (set (tuple_of x m).words k v) y (datum 0) ≡ pointer_to j o
              h = ap (λ (t : HTuple). get_or t.words y (datum 0)) (sym q) ∙ e

              more : Dec (y ≡ k) → Spared started j
              more (yes w) = f j o (sym (get_or-set_same (tuple_of x m).words k v (datum 0) (subst (λ (a : ℕ). a < size_at x m) w u)) ∙ ap (λ (a : ℕ). get_or (set (tuple_of x m).words k v) a (datum 0)) (sym w) ∙ h) z
              more (no w) = s.words_spared x y j o p u (sym (get_or-set_other (tuple_of x m).words k y v (datum 0) w) ∙ h) z

          go : Dec (x ≡ i) → Dec (x ≤ made m) → Dec (1 ≤ x) → Spared started j
          go (no d) a b = same (tuple_not_stored i x k v m d)
          go (yes d) (yes a) (yes b) = changed d b a
          go (yes d) (no a) b =
              let q : made (stored_in i k v m) ≡ made m = made_stored i k v m in
              let w : size_at x (stored_in i k v m) ≡ 0 = size_beyond x (stored_in i k v m) (omega arith) in
              absurd (omega arith)
          go (yes d) (yes a) (no b) = same (ap (λ (w : ℕ). tuple_of w (stored_in i k v m)) x_zero ∙ ap (λ (w : ℕ). tuple_of w m) (sym x_zero))
            where
              x_zero : x ≡ 0
              x_zero = omega arith

  -- ---- each kind

  advance_spared : (r n : ℕ) (v : HWord) → SparedWord started v → SparedIn (advance_by r n v m) started
  unfolding advance_by
  advance_spared r n (datum v) f = s
  advance_spared r n (pointer_to i o) f = spared_put r (pointer_to i (o + n)) (λ j q e z. subst (λ (x : ℕ). Spared started x) (ap target e) (f i o refl (λ y. z (sym (ap target e) ∙ y))))

  load_spared : (r : ℕ) (v : HWord) (k : ℕ) → SparedWord started v → SparedIn (load_from r v k m) started
  unfolding load_from
  load_spared r (datum v) k f = s
  load_spared r (pointer_to i o) k f = go (ltb (o + k) (size_at i m)) refl
    where
      go : (t : Bool) → ltb (o + k) (size_at i m) ≡ t → SparedIn (cond t (put_in r (word_of i (o + k) m) m) m) started
      go true e = spared_put r (word_of i (o + k) m) (λ j q w z. s.words_spared i (o + k) j q (f i o refl (nonzero (ltb-true (o + k) (size_at i m) e))) (ltb-true (o + k) (size_at i m) e) w z)
        where
          nonzero : o + k < size_at i m → i ≢ 0
          nonzero l y = let u : o + k < size_at 0 m = subst (λ (x : ℕ). o + k < size_at x m) y l in omega arith
      go false e = s

  store_spared : (w v : HWord) (k : ℕ) → SparedWord started w → SparedIn (store_to w v k m) started
  unfolding store_to
  store_spared w (datum v) k f = s
  store_spared w (pointer_to i o) k f = go (ltb (o + k) (size_at i m))
    where
      go : (t : Bool) → SparedIn (cond t (stored_in i (o + k) w m) m) started
      go true = spared_stored i (o + k) w f
      go false = s

  size_spared : (r : ℕ) (v : HWord) → SparedIn (size_to r v m) started
  unfolding size_to
  size_spared r (datum v) = s
  size_spared r (pointer_to i o) = spared_put r (datum (size_at i m)) (datum_spared started (size_at i m))

  tag_spared : (r : ℕ) (v : HWord) → SparedIn (tag_to r v m) started
  unfolding tag_to
  tag_spared r (datum v) = s
  tag_spared r (pointer_to i o) = spared_put r (datum (tuple_of i m).tag) (datum_spared started (tuple_of i m).tag)

  -- any register, in range or not, names what is spared
  any_register : length m.registers ≡ register_count → (t : ℕ) → SparedWord started (register_of t m)
  any_register l t i o e n = go (dec_lt t register_count)
    where
      go : Dec (t < register_count) → Spared started i
      go (yes u) = s.roots_spared t i o u e n
      go (no u) = absurd (n (sym (ap target (sym (get_or-eq_default m.registers (datum 0) {n = t} (rw l (omega arith))) ∙ e))))

  -- every request leaves it so
  pub spared_request : length m.registers ≡ register_count → (q : Request) → SparedIn (do_request q m) started
  unfolding do_request
  spared_request l (Setd r v) = spared_put r (datum v) (datum_spared started v)
  spared_request l (Nil r) = spared_put r (pointer_to 0 0) (nil_spared started 0)
  spared_request l (Move r t) = spared_put r (register_of t m) (any_register l t)
  spared_request l (Advance r n) = advance_spared r n (register_of r m) (any_register l r)
  spared_request l (Getm r n tag) = spared_make r n tag
  spared_request l (Load r t k) = load_spared r (register_of t m) k (any_register l t)
  spared_request l (Store r t k) = store_spared (register_of r m) (register_of t m) k (any_register l r)
  spared_request l (Size r t) = size_spared r (register_of t m)
  spared_request l (Tag r t) = tag_spared r (register_of t m)
  spared_request l (Same r t u) = spared_put r (datum (cond (same_hword (register_of t m) (register_of u m)) 1 0)) (datum_spared started (cond (same_hword (register_of t m) (register_of u m)) 1 0))
