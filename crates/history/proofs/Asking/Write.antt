-- A word written at the place of a word of a kept tuple: it changes exactly that word, since no two words of kept tuples are at one
-- place; it touches no control word, none from top on and none that the sweep has cleared. So it keeps the invariant where
-- what it names is kept and, in a marked tuple, marked. Assumes nothing.
use Prim.Native.Nat.{ℕ, ◌+◌, ◌≤◌, ◌<◌}
use mathlib.Core.Bool.{true, false}
use mathlib.Core.Logic.{◌≢◌, ◌⊎◌, inl, inr}
use mathlib.Core.Path.{◌≡◌, refl, sym, ap, ◌∙◌, subst}
use native.Mathlib.Omega.{arith}
use native.Mathlib.Decide.{ℕ_discrete}
use lib.ListN.{length-set}
use lib.Seq.{get_or-set_same, get_or-set_other}
use Rattle.rules.specs.Limits.{register_count}
use Rattle.rules.specs.Parts.{Word, Box}
use Rattle.rules.specs.Box.{data_word, handle_of, names_tuple, word_at, put, register, address, size_of, marked, deep, set_deep}
use Rattle.rules.specs.Place.{Place, copy_place, at, being_moved, place, read, write}
use Rattle.history.specs.Agreement.{Member}
use Rattle.history.proofs.Invariant.Statement.{Plan, Ghosts, Inv, word, Kept, Shape, Layout, Contents, Zero}
use Rattle.history.proofs.Lists.Laid.{laid_frame, laid_to, laid_bounds, rooms_frame}
use Rattle.history.proofs.Invariant.Frame.{shape_same, layout_same, zero_same}
use Rattle.history.proofs.Asking.Places.{Spot, done_spot, ahead_spot, same_spot, Found, in_copy, in_words, find, spot_top, spot_uncleared}
use Rattle.history.proofs.Asking.Steady.{Steady, Rewords, Safe, steady_inv, steady_kept_to, steady_kept_from}

-- ---- the deep flag is set

deepen_read : (h : ℕ) (b : Box) (p : Place) → read p (set_deep h true b) ≡ read p b
unfolding read
deepen_read h b copy_place = refl
deepen_read h b (at a) = refl

pub deepen_word : (h : ℕ) (b : Box) (k i : ℕ) → word k i (set_deep h true b) ≡ word k i b
unfolding word place being_moved
deepen_word h b k i = deepen_read h b (place k i b)

pub deepen_place : (h : ℕ) (b : Box) (k i : ℕ) → place k i (set_deep h true b) ≡ place k i b
unfolding place being_moved
deepen_place h b k i = refl

pub deepen_steady : (h : ℕ) (b : Box) → Steady b (set_deep h true b)
deepen_steady h b = search

pub deepen_deep : (h : ℕ) (b : Box) → Shape b → h < b.h → deep h (set_deep h true b) ≡ true
deepen_deep h b s l = get_or-set_same b.directory.deeps h true false (omega (arith, s.deeps_length))

pub deepen_stays : (h : ℕ) (b : Box) → Shape b → h < b.h → (k : ℕ) → deep k b ≡ true → deep k (set_deep h true b) ≡ true
deepen_stays h b s l k e = cases (ℕ_discrete k h)
  where
    cases : Dec (k ≡ h) → deep k (set_deep h true b) ≡ true
    cases (yes d) = ap (λ (z : ℕ). deep z (set_deep h true b)) d ∙ deepen_deep h b s l
    cases (no d) = get_or-set_other b.directory.deeps h k true false d ∙ e

deepen_shape : (h : ℕ) (b : Box) → Shape b → Shape (set_deep h true b)
deepen_shape h b s =
    shape_same b (set_deep h true b)
    (search length-set)
    s

deepen_contents : (h : ℕ) (b : Box) (p : Plan) → Shape b → h < b.h → Contents b p → Contents (set_deep h true b) p
deepen_contents h b p s l v = record { roots_kept = λ r u n. from (handle_of (register r b)) (v.roots_kept r u n); words_kept = inside }
  where
    from : (k : ℕ) → Kept b p k → Kept (set_deep h true b) p k
    from = steady_kept_from b (set_deep h true b) p (deepen_steady h b)

    inside : (k : ℕ) → Kept (set_deep h true b) p k → (i : ℕ) → i < size_of k (set_deep h true b)
        → names_tuple (word k (i + 1) (set_deep h true b)) ≡ true
        → Kept (set_deep h true b) p (handle_of (word k (i + 1) (set_deep h true b))) × (deep k (set_deep h true b) ≡ true)
    inside k x i u n =
        let e : word k (i + 1) (set_deep h true b) ≡ word k (i + 1) b = deepen_word h b k (i + 1) in
        let f = v.words_kept k (steady_kept_to b (set_deep h true b) p (deepen_steady h b) k x) i u (subst (λ (z : Word). names_tuple z ≡ true) e n) in
        (subst (λ (z : Word). Kept (set_deep h true b) p (handle_of z)) (sym e) (from (handle_of (word k (i + 1) b)) f.0), deepen_stays h b s l k f.1)

pub deepen_inv : (b : Box) (g : Ghosts) → Inv b g → (h : ℕ) → h < b.h → Inv (set_deep h true b) g
deepen_inv b g v h l =
    steady_inv b (set_deep h true b) g (deepen_steady h b)
    (record { controls_same = λ k x. deepen_word h b k 0; words_safe = λ k x i u. inl (deepen_word h b k (i + 1)); deeps_stay = deepen_stays h b v.shape l })
    (deepen_shape h b v.shape)
    (layout_same b (set_deep h true b) g.plan (λ k. refl) (λ k. refl) (λ a. refl) refl refl v.layout)
    (deepen_contents h b g.plan v.shape l v.contents)
    (zero_same b (set_deep h true b) g.zeroed (λ a. refl) refl refl v.zero_words)
    v

-- ---- a word is written

write_steady : (p : Place) (w : Word) (b : Box) → Steady b (write p w b)
unfolding write
write_steady copy_place w b = search
write_steady (at a) w b = search

write_place : (p : Place) (w : Word) (b : Box) (k i : ℕ) → place k i (write p w b) ≡ place k i b
unfolding write place being_moved
write_place copy_place w b k i = refl
write_place (at a) w b k i = refl

write_register : (p : Place) (w : Word) (b : Box) (r : ℕ) → register r (write p w b) ≡ register r b
unfolding write
write_register copy_place w b r = refl
write_register (at a) w b r = refl

write_deep : (p : Place) (w : Word) (b : Box) (k : ℕ) → deep k (write p w b) ≡ deep k b
unfolding write
write_deep copy_place w b k = refl
write_deep (at a) w b k = refl

write_shape : (p : Place) (w : Word) (b : Box) → Shape b → Shape (write p w b)
unfolding write
write_shape copy_place w b s = search
write_shape (at a) w b s = search length-set

-- the word is there
read_written : (p : Place) (w : Word) (b : Box) → Shape b → ((a : ℕ) → p ≡ at a → a < b.m) → read p (write p w b) ≡ w
unfolding read write
read_written copy_place w b s l = refl
read_written (at a) w b s l =
    let u = l a refl in
    λ i. record { bits = get_or-set_same b.memory.words a w.bits 0 (omega (arith, s.words_length)) i; flag = get_or-set_same b.memory.flags a w.flag false (omega (arith, s.flags_length)) i }

-- nothing is written elsewhere
put_elsewhere : (a : ℕ) (w : Word) (b : Box) (x : ℕ) → x ≢ a → word_at x (put a w b) ≡ word_at x b
put_elsewhere a w b x n = λ i. record { bits = get_or-set_other b.memory.words a x w.bits 0 n i; flag = get_or-set_other b.memory.flags a x w.flag false n i }

write_elsewhere : (p : Place) (w : Word) (b : Box) (x : ℕ) → p ≢ at x → word_at x (write p w b) ≡ word_at x b
unfolding write
write_elsewhere copy_place w b x n = refl
write_elsewhere (at a) w b x n = put_elsewhere a w b x (λ e. n (ap at (sym e)))

read_elsewhere : (p : Place) (w : Word) (b : Box) (q : Place) → p ≢ q → read q (write p w b) ≡ read q b
unfolding read write
read_elsewhere copy_place w b copy_place n = absurd (n refl)
read_elsewhere copy_place w b (at x) n = refl
read_elsewhere (at a) w b copy_place n = refl
read_elsewhere (at a) w b (at x) n = put_elsewhere a w b x (λ e. n (ap at (sym e)))

-- ---- a place has one word

copy_not_at : (a : ℕ) → copy_place ≢ at a
copy_not_at a e = let z : ◌≡◌ {A = ℕ} 0 1 = cc in omega arith

at_same : (a x : ℕ) → at a ≡ at x → a ≡ x
at_same a x e = cc

pub place_once : (b : Box) (g : Ghosts) → Inv b g → (h i k j : ℕ) → Kept b g.plan h → i ≤ size_of h b → Kept b g.plan k
    → j ≤ size_of k b → place h i b ≡ place k j b → (h ≡ k) × (i ≡ j)
place_once b g v h i k j x l y u q = cases (find b g v h i x l) (find b g v k j y u)
  where
    cases : Found b g h i → Found b g k j → (h ≡ k) × (i ≡ j)
    cases (in_copy e p o) (in_copy f r z) = (p ∙ sym r, o ∙ sym z)
    cases (in_copy e p o) (in_words a f s) = absurd (copy_not_at a (sym e ∙ q ∙ f))
    cases (in_words a e s) (in_copy f r z) = absurd (copy_not_at a (sym f ∙ sym q ∙ e))
    cases (in_words a e s) (in_words c f t) =
        let o : a ≡ c = at_same a c (sym e ∙ q ∙ f) in
        same_spot b g v.layout h i k j c (subst (λ (z : ℕ). Spot b g h i z) o s) t

-- what changed for the kept tuples: that word alone
pub record Stored (b : Box) (p : Plan) (c : Box) (q : Plan) (h n : ℕ) (w : Word) : Type 0 where
  pub kept_to : (k : ℕ) → Kept c q k → Kept b p k
  pub kept_from : (k : ℕ) → Kept b p k → Kept c q k
  pub roots_same : (r : ℕ) → register r c ≡ register r b
  pub h_same : c.h ≡ b.h
  pub sizes_same : (k : ℕ) → Kept b p k → size_of k c ≡ size_of k b
  pub word_stored : word h (n + 1) c ≡ w
  pub words_same : (k : ℕ) → Kept b p k → (i : ℕ) → i ≤ size_of k b → (k ≢ h) ⊎ (i ≢ n + 1) → word k i c ≡ word k i b

module _ (b : Box) (g : Ghosts) (v : Inv b g) (h n : ℕ) (kept : Kept b g.plan h) (l : n < size_of h b) (w : Word) where
  -- it is in memory
  written_within : (a : ℕ) → place h (n + 1) b ≡ at a → a < b.m
  written_within a e = cases (find b g v h (n + 1) kept (omega arith))
    where
      cases : Found b g h (n + 1) → a < b.m
      cases (in_copy f p o) = absurd (copy_not_at a (sym f ∙ e))
      cases (in_words c f s) = let o : c ≡ a = at_same c a (sym f ∙ e) in let t = spot_top b g v h (n + 1) c s in omega (arith, v.layout.top_fits)

  written_word : word h (n + 1) (write (place h (n + 1) b) w b) ≡ w
  unfolding word
  written_word =
      ap (λ (q : Place). read q (write (place h (n + 1) b) w b)) (write_place (place h (n + 1) b) w b h (n + 1))
      ∙ read_written (place h (n + 1) b) w b v.shape written_within

  written_other : (k : ℕ) → Kept b g.plan k → (i : ℕ) → i ≤ size_of k b → (k ≢ h) ⊎ (i ≢ n + 1) → word k i (write (place h (n + 1) b) w b) ≡ word k i b
  unfolding word
  written_other k x i u d =
      ap (λ (q : Place). read q (write (place h (n + 1) b) w b)) (write_place (place h (n + 1) b) w b k i)
      ∙ read_elsewhere (place h (n + 1) b) w b (place k i b) (λ e. apart d (place_once b g v h (n + 1) k i kept (omega arith) x u e))
    where
      apart : (k ≢ h) ⊎ (i ≢ n + 1) → (h ≡ k) × (n + 1 ≡ i) → ⊥
      apart (inl f) t = f (sym t.0)
      apart (inr f) t = f (sym t.1)

  -- which word: that one, or another
  which : (k i : ℕ) → ((k ≡ h) × (i ≡ n)) ⊎ ((k ≢ h) ⊎ (i + 1 ≢ n + 1))
  which k i = cases (ℕ_discrete k h) (ℕ_discrete i n)
    where
      cases : Dec (k ≡ h) → Dec (i ≡ n) → ((k ≡ h) × (i ≡ n)) ⊎ ((k ≢ h) ⊎ (i + 1 ≢ n + 1))
      cases (yes d) (yes e) = inl (d, e)
      cases (yes d) (no e) = inr (inr (λ f. e (omega arith)))
      cases (no d) e = inr (inl d)

  written_there : (k i : ℕ) → (k ≡ h) × (i ≡ n) → word k (i + 1) (write (place h (n + 1) b) w b) ≡ w
  written_there k i e = (λ j. word (e.0 j) (e.1 j + 1) (write (place h (n + 1) b) w b)) ∙ written_word

  -- an address that is none of the kept words' stays as it was
  written_clear : (x : ℕ) → ((a : ℕ) → Spot b g h (n + 1) a → a ≢ x) → word_at x (write (place h (n + 1) b) w b) ≡ word_at x b
  written_clear x out = write_elsewhere (place h (n + 1) b) w b x (λ e. cases e (find b g v h (n + 1) kept (omega arith)))
    where
      cases : place h (n + 1) b ≡ at x → Found b g h (n + 1) → ⊥
      cases e (in_copy f p o) = copy_not_at x (sym f ∙ e)
      cases e (in_words a f s) = out a s (at_same a x (sym f ∙ e))

  pub written_stored : Stored b g.plan (write (place h (n + 1) b) w b) g.plan h n w
  written_stored =
      record {
        kept_to = steady_kept_to b (write (place h (n + 1) b) w b) g.plan (write_steady (place h (n + 1) b) w b);
        kept_from = steady_kept_from b (write (place h (n + 1) b) w b) g.plan (write_steady (place h (n + 1) b) w b);
        roots_same = write_register (place h (n + 1) b) w b;
        h_same = (write_steady (place h (n + 1) b) w b).h_same;
        sizes_same = λ k x. (write_steady (place h (n + 1) b) w b).size_same k;
        word_stored = written_word;
        words_same = written_other;
      }

  written_layout : Layout (write (place h (n + 1) b) w b) g.plan
  written_layout =
      record {
        done_laid = laid_frame b c 0 g.plan.done g.plan.low (λ k x. s.address_same k) (λ k x. s.size_same k) done_control v.layout.done_laid;
        ahead_laid = laid_to c g.plan.base g.plan.ahead b.top c.top (sym s.top_same) (laid_frame b c g.plan.base g.plan.ahead b.top (λ k x. s.address_same k) (λ k x. s.size_same k) ahead_control v.layout.ahead_laid);
        low_base = rw (rooms_frame b c g.plan.mid (λ k x. s.size_same k)) v.layout.low_base;
        top_fits = omega (arith, v.layout.top_fits, s.top_same, s.m_same);
      }
    where
      c : Box
      c = write (place h (n + 1) b) w b

      s : Steady b (write (place h (n + 1) b) w b)
      s = write_steady (place h (n + 1) b) w b

      done_control : (k : ℕ) → Member k g.plan.done → word_at (address k b) (write (place h (n + 1) b) w b) ≡ word_at (address k b) b
      done_control k x =
          let y = laid_bounds b 0 g.plan.done g.plan.low v.layout.done_laid k x in
          written_clear (address k b) (λ a t e. let o = same_spot b g v.layout h (n + 1) k 0 a t (done_spot x (omega arith) (omega arith) (omega arith)) in omega arith)

      ahead_control : (k : ℕ) → Member k g.plan.ahead → word_at (address k b) (write (place h (n + 1) b) w b) ≡ word_at (address k b) b
      ahead_control k x =
          let y = laid_bounds b g.plan.base g.plan.ahead b.top v.layout.ahead_laid k x in
          written_clear (address k b) (λ a t e. let o = same_spot b g v.layout h (n + 1) k 0 a t (ahead_spot x (omega arith) (omega arith) (omega arith) (omega arith)) in omega arith)

  written_zero : Zero (write (place h (n + 1) b) w b) g.zeroed
  written_zero = record { above_top = above; behind = cleared }
    where
      s : Steady b (write (place h (n + 1) b) w b)
      s = write_steady (place h (n + 1) b) w b

      above : (x : ℕ) → (write (place h (n + 1) b) w b).top ≤ x → word_at x (write (place h (n + 1) b) w b) ≡ data_word 0
      above x u =
          let y : b.top ≤ x = subst (λ (z : ℕ). z ≤ x) s.top_same u in
          written_clear x (λ a t e. let o = spot_top b g v h (n + 1) a t in omega arith) ∙ v.zero_words.above_top x y

      cleared : (x : ℕ) → (write (place h (n + 1) b) w b).collector.live ≤ x → x < g.zeroed → word_at x (write (place h (n + 1) b) w b) ≡ data_word 0
      cleared x u z =
          let y : b.collector.live ≤ x = subst (λ (z : ℕ). z ≤ x) s.live_same u in
          written_clear x (λ a t e. spot_uncleared b g v h (n + 1) a t (omega arith) (omega arith)) ∙ v.zero_words.behind x y z

  -- what the word names is kept, and the tuple is deep
  written_contents : (names_tuple w ≡ true → Kept b g.plan (handle_of w) × (deep h b ≡ true)) → Contents (write (place h (n + 1) b) w b) g.plan
  written_contents f = record { roots_kept = roots; words_kept = inside }
    where
      from : (k : ℕ) → Kept b g.plan k → Kept (write (place h (n + 1) b) w b) g.plan k
      from = written_stored.kept_from

      roots : (r : ℕ) → r < register_count → names_tuple (register r (write (place h (n + 1) b) w b)) ≡ true
          → Kept (write (place h (n + 1) b) w b) g.plan (handle_of (register r (write (place h (n + 1) b) w b)))
      roots r u t =
          let e = write_register (place h (n + 1) b) w b r in
          subst (λ (z : Word). Kept (write (place h (n + 1) b) w b) g.plan (handle_of z)) (sym e) (from (handle_of (register r b)) (v.contents.roots_kept r u (subst (λ (z : Word). names_tuple z ≡ true) e t)))

      inside : (k : ℕ) → Kept (write (place h (n + 1) b) w b) g.plan k → (i : ℕ) → i < size_of k (write (place h (n + 1) b) w b)
          → names_tuple (word k (i + 1) (write (place h (n + 1) b) w b)) ≡ true
          → Kept (write (place h (n + 1) b) w b) g.plan (handle_of (word k (i + 1) (write (place h (n + 1) b) w b))) × (deep k (write (place h (n + 1) b) w b) ≡ true)
      inside k x i u t = cases (which k i)
        where
          y : Kept b g.plan k
          y = written_stored.kept_to k x

          z : i < size_of k b
          z = subst (λ (m : ℕ). i < m) (written_stored.sizes_same k y) u

          cases : ((k ≡ h) × (i ≡ n)) ⊎ ((k ≢ h) ⊎ (i + 1 ≢ n + 1))
              → Kept (write (place h (n + 1) b) w b) g.plan (handle_of (word k (i + 1) (write (place h (n + 1) b) w b))) × (deep k (write (place h (n + 1) b) w b) ≡ true)
          cases (inl e) =
              let q = written_there k i e in
              let o = f (subst (λ (x : Word). names_tuple x ≡ true) q t) in
              (subst (λ (x : Word). Kept (write (place h (n + 1) b) w b) g.plan (handle_of x)) (sym q) (from (handle_of w) o.0), write_deep (place h (n + 1) b) w b k ∙ ap (λ (m : ℕ). deep m b) e.0 ∙ o.1)
          cases (inr d) =
              let q = written_other k y (i + 1) (omega (arith, z)) d in
              let o = v.contents.words_kept k y i z (subst (λ (x : Word). names_tuple x ≡ true) q t) in
              (subst (λ (x : Word). Kept (write (place h (n + 1) b) w b) g.plan (handle_of x)) (sym q) (from (handle_of (word k (i + 1) b)) o.0), write_deep (place h (n + 1) b) w b k ∙ o.1)

  written_rewords : (b.collector.phase ≤ 3 → marked h b ≡ true → names_tuple w ≡ true → marked (handle_of w) b ≡ true) → Rewords b g.plan (write (place h (n + 1) b) w b)
  written_rewords f =
      record {
        controls_same = λ k x. written_other k x 0 (omega arith) (inr (omega arith));
        words_safe = safe;
        deeps_stay = λ k e. write_deep (place h (n + 1) b) w b k ∙ e;
      }
    where
      safe : (k : ℕ) → Kept b g.plan k → (i : ℕ) → i < size_of k b → Safe b (write (place h (n + 1) b) w b) k (i + 1)
      safe k x i u = cases (which k i)
        where
          cases : ((k ≡ h) × (i ≡ n)) ⊎ ((k ≢ h) ⊎ (i + 1 ≢ n + 1)) → Safe b (write (place h (n + 1) b) w b) k (i + 1)
          cases (inl e) =
              let q = written_there k i e in
              inr (λ p m t. subst (λ (z : Word). marked (handle_of z) b ≡ true) (sym q) (f p (subst (λ (z : ℕ). marked z b ≡ true) e.0 m) (subst (λ (z : Word). names_tuple z ≡ true) q t)))
          cases (inr d) = inl (written_other k x (i + 1) (omega arith) d)

  pub written_inv : (names_tuple w ≡ true → Kept b g.plan (handle_of w) × (deep h b ≡ true))
      → (b.collector.phase ≤ 3 → marked h b ≡ true → names_tuple w ≡ true → marked (handle_of w) b ≡ true)
      → Inv (write (place h (n + 1) b) w b) g
  written_inv f e = steady_inv b (write (place h (n + 1) b) w b) g (write_steady (place h (n + 1) b) w b) (written_rewords e) (write_shape (place h (n + 1) b) w b v.shape) written_layout (written_contents f) written_zero v
