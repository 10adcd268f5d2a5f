-- Requests that write a register only, and the hold. A register may take any word whose tuple, if it names one, is kept: only the roots
-- change, and every other clause reads none of the registers. Each kind is then a word of that sort: data, nil, another register's
-- word, the same handle with another offset, or a word of a kept tuple. The hold's fields are read by one clause alone. Assumes nothing.
use Prim.Native.Nat.{ℕ, ◌+◌, ◌<◌}
use mathlib.Core.Bool.{true, false, not, ◌&&◌, false≢true}
use mathlib.Core.Logic.{◌≢◌, inl}
use mathlib.Core.Path.{◌≡◌, refl, sym, ap, ◌∙◌, subst}
use native.Mathlib.Omega.{arith}
use native.Mathlib.Decide.{ℕ_discrete}
use lib.Dec.{eqb}
use lib.ListN.{length-set}
use lib.Seq.{get_or-set_same, get_or-set_other}
use Rattle.rules.specs.Limits.{half_word, register_count}
use Rattle.rules.specs.Parts.{Word, Box}
use Rattle.rules.specs.Box.{data_word, pointer, handle_of, offset_of, names_tuple, register, put_register, size_of, deep}
use Rattle.rules.specs.Place.{Place, copy_place, at, being_moved, place, read}
use Rattle.rules.specs.Request.{put_on_hold}
use Rattle.rules.specs.Collector.{unheld}
use Rattle.history.specs.Calls.{In16}
use Rattle.history.proofs.Invariant.Statement.{Plan, Ghosts, Inv, word, Kept, Shape, Contents}
use Rattle.history.proofs.Invariant.Frame.{shape_same, layout_same, zero_same, Quiet, quiet_contents}
use Rattle.history.proofs.Asking.Steady.{Steady, steady_inv, steady_kept_to, steady_kept_from}
use Rattle.history.proofs.Invariant.Words.{pointer_handle}

-- ---- handles and names

-- a pointer with the handle of another names a tuple where that does
pub names_alike : (v w : Word) → v.flag ≡ w.flag → handle_of v ≡ handle_of w → names_tuple v ≡ names_tuple w
names_alike v w f e = λ i. f i && not (eqb (e i) 0)

-- ---- a register takes a word

-- what changed: the register alone
pub record Put (b : Box) (p : Plan) (c : Box) (r : ℕ) (w : Word) : Type 0 where
  pub kept_to : (h : ℕ) → Kept c p h → Kept b p h
  pub kept_from : (h : ℕ) → Kept b p h → Kept c p h
  pub register_put : register r c ≡ w
  pub registers_same : (s : ℕ) → s ≢ r → register s c ≡ register s b
  pub sizes_same : (h : ℕ) → size_of h c ≡ size_of h b
  pub words_same : (h i : ℕ) → word h i c ≡ word h i b
  pub deeps_same : (h : ℕ) → deep h c ≡ deep h b

put_steady : (r : ℕ) (w : Word) (b : Box) → Steady b (put_register r w b)
put_steady r w b = search

put_read : (r : ℕ) (w : Word) (b : Box) (p : Place) → read p (put_register r w b) ≡ read p b
unfolding read
put_read r w b copy_place = refl
put_read r w b (at a) = refl

pub put_word : (r : ℕ) (w : Word) (b : Box) (h i : ℕ) → word h i (put_register r w b) ≡ word h i b
unfolding word place being_moved
put_word r w b h i = put_read r w b (place h i b)

pub put_kept_to : (r : ℕ) (w : Word) (b : Box) (p : Plan) (h : ℕ) → Kept (put_register r w b) p h → Kept b p h
put_kept_to r w b p = steady_kept_to b (put_register r w b) p (put_steady r w b)

pub register_put_same : (r : ℕ) (w : Word) (b : Box) → Shape b → r < register_count → register r (put_register r w b) ≡ w
register_put_same r w b s l = λ i. record { bits = get_or-set_same b.registers.words r w.bits 0 (omega (arith, s.registers_length)) i; flag = get_or-set_same b.registers.flags r w.flag false (omega (arith, s.register_flags_length)) i }

pub register_put_other : (r : ℕ) (w : Word) (b : Box) (s : ℕ) → s ≢ r → register s (put_register r w b) ≡ register s b
register_put_other r w b s n = λ i. record { bits = get_or-set_other b.registers.words r s w.bits 0 n i; flag = get_or-set_other b.registers.flags r s w.flag false n i }

pub register_put : (b : Box) (g : Ghosts) → Inv b g → (r : ℕ) (w : Word) → r < register_count → Put b g.plan (put_register r w b) r w
register_put b g v r w l =
    record {
      kept_to = put_kept_to r w b g.plan;
      kept_from = steady_kept_from b (put_register r w b) g.plan (put_steady r w b);
      register_put = register_put_same r w b v.shape l;
      registers_same = register_put_other r w b;
      sizes_same = λ h. refl;
      words_same = put_word r w b;
      deeps_same = λ h. refl;
    }

put_shape : (r : ℕ) (w : Word) (b : Box) → Shape b → Shape (put_register r w b)
put_shape r w b s =
    shape_same b (put_register r w b)
    (search length-set)
    s

put_contents : (b : Box) (g : Ghosts) → Inv b g → (r : ℕ) (w : Word) → r < register_count
    → (names_tuple w ≡ true → Kept b g.plan (handle_of w)) → Contents (put_register r w b) g.plan
put_contents b g v r w l k = record { roots_kept = roots; words_kept = inside }
  where
    t : Put b g.plan (put_register r w b) r w
    t = register_put b g v r w l

    roots : (s : ℕ) → s < register_count → names_tuple (register s (put_register r w b)) ≡ true
        → Kept (put_register r w b) g.plan (handle_of (register s (put_register r w b)))
    roots s u n = cases (ℕ_discrete s r)
      where
        cases : Dec (s ≡ r) → Kept (put_register r w b) g.plan (handle_of (register s (put_register r w b)))
        cases (yes e) =
            let f : register s (put_register r w b) ≡ w = ap (λ (x : ℕ). register x (put_register r w b)) e ∙ t.register_put in
            subst (λ (x : Word). Kept (put_register r w b) g.plan (handle_of x)) (sym f) (t.kept_from (handle_of w) (k (subst (λ (x : Word). names_tuple x ≡ true) f n)))
        cases (no d) =
            let f : register s (put_register r w b) ≡ register s b = t.registers_same s d in
            subst (λ (x : Word). Kept (put_register r w b) g.plan (handle_of x)) (sym f) (t.kept_from (handle_of (register s b)) (v.contents.roots_kept s u (subst (λ (x : Word). names_tuple x ≡ true) f n)))

    inside : (h : ℕ) → Kept (put_register r w b) g.plan h → (i : ℕ) → i < size_of h (put_register r w b)
        → names_tuple (word h (i + 1) (put_register r w b)) ≡ true
        → Kept (put_register r w b) g.plan (handle_of (word h (i + 1) (put_register r w b))) × (deep h (put_register r w b) ≡ true)
    inside h x i u n =
        let e : word h (i + 1) (put_register r w b) ≡ word h (i + 1) b = put_word r w b h (i + 1) in
        let f = v.contents.words_kept h (t.kept_to h x) i u (subst (λ (z : Word). names_tuple z ≡ true) e n) in
        (subst (λ (z : Word). Kept (put_register r w b) g.plan (handle_of z)) (sym e) (t.kept_from (handle_of (word h (i + 1) b)) f.0), f.1)

pub register_takes : (b : Box) (g : Ghosts) → Inv b g → (r : ℕ) (w : Word) → r < register_count
    → (names_tuple w ≡ true → Kept b g.plan (handle_of w)) → Inv (put_register r w b) g
register_takes b g v r w l k =
    steady_inv b (put_register r w b) g (put_steady r w b)
    (record { controls_same = λ h x. put_word r w b h 0; words_safe = λ h x i u. inl (put_word r w b h (i + 1)); deeps_stay = λ h e. e })
    (put_shape r w b v.shape)
    (layout_same b (put_register r w b) g.plan (λ h. refl) (λ h. refl) (λ a. refl) refl refl v.layout)
    (put_contents b g v r w l k)
    (zero_same b (put_register r w b) g.zeroed (λ a. refl) refl refl v.zero_words)
    v

-- ---- the kinds

-- SETD, SIZE, TAG and SAME: data
pub register_takes_data : (b : Box) (g : Ghosts) → Inv b g → (r x : ℕ) → r < register_count → Inv (put_register r (data_word x) b) g
register_takes_data b g v r x l = register_takes b g v r (data_word x) l (λ n. absurd (false≢true n))

-- NIL
pub register_takes_nil : (b : Box) (g : Ghosts) → Inv b g → (r : ℕ) → r < register_count → Inv (put_register r (pointer 0 0) b) g
register_takes_nil b g v r l = register_takes b g v r (pointer 0 0) l (λ n. absurd (false≢true n))

-- MOVE
pub register_takes_register : (b : Box) (g : Ghosts) → Inv b g → (r s : ℕ) → r < register_count → s < register_count → Inv (put_register r (register s b) b) g
register_takes_register b g v r s l u = register_takes b g v r (register s b) l (v.contents.roots_kept s u)

-- ADVANCE: the same handle
pub register_advances : (b : Box) (g : Ghosts) → Inv b g → (r n : ℕ) → r < register_count → (register r b).flag ≡ true
    → offset_of (register r b) + n < half_word
    → Inv (put_register r (pointer (handle_of (register r b)) (offset_of (register r b) + n)) b) g
register_advances b g v r n l f u = register_takes b g v r (pointer (handle_of (register r b)) (offset_of (register r b) + n)) l kept
  where
    same : handle_of (pointer (handle_of (register r b)) (offset_of (register r b) + n)) ≡ handle_of (register r b)
    same = pointer_handle (handle_of (register r b)) (offset_of (register r b) + n) u

    kept : names_tuple (pointer (handle_of (register r b)) (offset_of (register r b) + n)) ≡ true
        → Kept b g.plan (handle_of (pointer (handle_of (register r b)) (offset_of (register r b) + n)))
    kept t = subst (λ (h : ℕ). Kept b g.plan h) (sym same) (v.contents.roots_kept r l (sym (names_alike (pointer (handle_of (register r b)) (offset_of (register r b) + n)) (register r b) (sym f) same) ∙ t))

-- LOAD: a word of a kept tuple
pub register_loads : (b : Box) (g : Ghosts) → Inv b g → (r h n : ℕ) → r < register_count → Kept b g.plan h → n < size_of h b
    → Inv (put_register r (read (place h (n + 1) b) b) b) g
unfolding word
register_loads b g v r h n l k u = register_takes b g v r (word h (n + 1) b) l (λ t. (v.contents.words_kept h k n u t).0)

-- ---- the hold

hold_read : (r n t : ℕ) (b : Box) (p : Place) → read p (put_on_hold r n t b) ≡ read p b
unfolding read put_on_hold
hold_read r n t b copy_place = refl
hold_read r n t b (at a) = refl

hold_word : (r n t : ℕ) (b : Box) (h i : ℕ) → word h i (put_on_hold r n t b) ≡ word h i b
unfolding word place being_moved put_on_hold
hold_word r n t b h i = hold_read r n t b (place h i b)

hold_steady : (r n t : ℕ) (b : Box) → Steady b (put_on_hold r n t b)
unfolding put_on_hold
hold_steady r n t b = search

-- nothing of the tuples or the registers changes
pub hold_quiet : (r n t : ℕ) (b : Box) (p : Plan) → Quiet b p (put_on_hold r n t b) p
unfolding put_on_hold
hold_quiet r n t b p =
    record {
      kept_to = steady_kept_to b (put_on_hold r n t b) p (hold_steady r n t b);
      kept_from = steady_kept_from b (put_on_hold r n t b) p (hold_steady r n t b);
      roots_same = λ s. refl;
      sizes_same = λ h k. refl;
      words_same = λ h k i l. hold_word r n t b h i;
      deeps_same = λ h k. refl;
    }

hold_shape : (r n t : ℕ) (b : Box) → r < register_count → In16 t → Shape b → Shape (put_on_hold r n t b)
unfolding put_on_hold
hold_shape r n t b l y s =
    record {
      range = s.range;
      words_length = s.words_length;
      flags_length = s.flags_length;
      addresses_length = s.addresses_length;
      sizes_length = s.sizes_length;
      links_length = s.links_length;
      marks_length = s.marks_length;
      deeps_length = s.deeps_length;
      registers_length = s.registers_length;
      register_flags_length = s.register_flags_length;
      held_register = λ e. (l, y);
    }

pub invariant_hold : (b : Box) (g : Ghosts) → Inv b g → (r n t : ℕ) → r < register_count → In16 t → Inv (put_on_hold r n t b) g
unfolding put_on_hold
invariant_hold b g v r n t l y =
    steady_inv b (put_on_hold r n t b) g (hold_steady r n t b)
    (record { controls_same = λ h x. hold_word r n t b h 0; words_safe = λ h x i u. inl (hold_word r n t b h (i + 1)); deeps_stay = λ h e. e })
    (hold_shape r n t b l y v.shape)
    (layout_same b (put_on_hold r n t b) g.plan (λ h. refl) (λ h. refl) (λ a. refl) refl refl v.layout)
    (quiet_contents b g.plan (put_on_hold r n t b) g.plan (hold_quiet r n t b g.plan) v.contents)
    (zero_same b (put_on_hold r n t b) g.zeroed (λ a. refl) refl refl v.zero_words)
    v

-- ---- the hold is dropped

unheld_read : (b : Box) (p : Place) → read p (unheld b) ≡ read p b
unfolding read unheld
unheld_read b copy_place = refl
unheld_read b (at a) = refl

unheld_word : (b : Box) (h i : ℕ) → word h i (unheld b) ≡ word h i b
unfolding word place being_moved unheld
unheld_word b h i = unheld_read b (place h i b)

unheld_steady : (b : Box) → Steady b (unheld b)
unfolding unheld
unheld_steady b = search

pub unheld_quiet : (b : Box) (p : Plan) → Quiet b p (unheld b) p
unfolding unheld
unheld_quiet b p =
    record {
      kept_to = steady_kept_to b (unheld b) p (unheld_steady b);
      kept_from = steady_kept_from b (unheld b) p (unheld_steady b);
      roots_same = λ s. refl;
      sizes_same = λ h k. refl;
      words_same = λ h k i l. unheld_word b h i;
      deeps_same = λ h k. refl;
    }

unheld_shape : (b : Box) → Shape b → Shape (unheld b)
unfolding unheld
unheld_shape b s =
    record {
      range = s.range;
      words_length = s.words_length;
      flags_length = s.flags_length;
      addresses_length = s.addresses_length;
      sizes_length = s.sizes_length;
      links_length = s.links_length;
      marks_length = s.marks_length;
      deeps_length = s.deeps_length;
      registers_length = s.registers_length;
      register_flags_length = s.register_flags_length;
      held_register = λ e. absurd (false≢true e);
    }

pub invariant_unheld : (b : Box) (g : Ghosts) → Inv b g → Inv (unheld b) g
unfolding unheld
invariant_unheld b g v =
    steady_inv b (unheld b) g (unheld_steady b)
    (record { controls_same = λ h x. unheld_word b h 0; words_safe = λ h x i u. inl (unheld_word b h (i + 1)); deeps_stay = λ h e. e })
    (unheld_shape b v.shape)
    (layout_same b (unheld b) g.plan (λ h. refl) (λ h. refl) (λ a. refl) refl refl v.layout)
    (quiet_contents b g.plan (unheld b) g.plan (unheld_quiet b g.plan) v.contents)
    (zero_same b (unheld b) g.zeroed (λ a. refl) refl refl v.zero_words)
    v
