-- The invariant of every grown box: an opening has it (`invariant_open`), a step and a request keep it (`invariant_step`,
-- `invariant_request`), and with it no call answers 9 (`never_nine`) and the words from top on are
-- data 0 (`words_above_top`). The steps left fall with each step that ends no cycle (`left_falls`) and are at most
-- 8 top + 2 (`left_most`), so a cycle that no request
-- comes between ends within 8 top + 2 steps (`cycle_bound`). Each by the view of the call, whose cases meet their lemmas.
-- Assumes nothing.
use Prim.Native.Nat.{ℕ, zero, suc, ◌+◌, ◌*◌, ◌≤◌, ◌<◌}
use mathlib.Core.Bool.{Bool, true, false, cond, true≢false}
use mathlib.Core.List.{[]}
use mathlib.Core.Logic.{◌≢◌}
use mathlib.Core.Path.{◌≡◌, refl, sym, ◌∙◌, ap, subst}
use native.Mathlib.Omega.{arith}
use Rattle.rules.specs.declared.kinds.Request.{Request}
use Rattle.rules.specs.declared.kinds.Request.TheVariants.{Getm}
use Rattle.rules.specs.Limits.{register_count, in_range}
use Rattle.rules.specs.Parts.{Box}
use Rattle.rules.specs.Box.{Reply, reply, data_word, word_at, tag_of, register, size_of, lengths_are, right_sizes}
use Rattle.rules.specs.Place.{place, read}
use Rattle.rules.specs.Open.{opened, opening}
use Rattle.rules.specs.Request.{put_on_hold, same_word, request}
use Rattle.rules.specs.Collector.{at_rest, unheld, granted, end_cycle, step}
use Rattle.rules.specs.Answers.{named, number}
use Rattle.history.specs.Calls.{RequestInWidth}
use Rattle.history.proofs.Invariant.Statement.{Ghosts, Inv, Kept}
use Rattle.history.proofs.Invariant.Resting.{resting}
use Rattle.rules.proofs.Sizes.{and_left}
use Rattle.rules.proofs.View.Request.{Loss, There, Asked, asked}
use Rattle.history.proofs.Marking.Alike.{with_scans}
use Rattle.history.proofs.Marking.Shade.{shade_scans}
use Rattle.history.proofs.Marking.InRange.{root_room}
use Rattle.history.proofs.Asking.Opening.{handles_below, opened_inv}
use Rattle.history.proofs.Asking.InRange.{register_bounds, place_in_memory, free_bounds, live_fits, sound_box}
use Rattle.history.proofs.Asking.Registers.{register_takes_data, register_takes_nil, register_takes_register, register_advances, register_loads, invariant_hold}
use Rattle.history.proofs.Asking.NewTuple.{made_ghosts, invariant_new_tuple}
use Rattle.history.proofs.Asking.Store.{stores_data, stores_late, stores_marked, stores_shaded}
use Rattle.history.proofs.Left.Count.{left}
use Rattle.history.proofs.Left.Bounds.{left_positive, left_bound}
use Rattle.history.proofs.Left.Steps.{step_left}
use Rattle.history.proofs.Invariant.Stepping.{Stepped, stepped}
use Rattle.history.proofs.Invariant.CycleEnd.{CycleEnd, cycle_end}

-- ---- replies

-- the box of a reply has the invariant, with some ghosts
abbrev pub Grown : Reply → Type 0
Grown r = (g : Ghosts) × Inv r.box g

grown : (r : Reply) (c : Box) (a : ℕ) (g : Ghosts) → r ≡ reply c a → Inv c g → Grown r
grown r c a g e v = subst Grown (sym e) (g, v)

answers : (r : Reply) (c : Box) (a x : ℕ) → r ≡ reply c a → a ≢ x → r.answer ≢ x
answers r c a x e n z = n (sym (ap (λ (y : Reply). y.answer) e) ∙ z)

-- ---- an opening

-- an opening that answers 0 has sizes in range, and leaves the box opened
pub opened_by : (m h : ℕ) (b : Box) → (opening m h b).answer ≡ 0 → (in_range m h ≡ true) × (opening m h b ≡ reply (opened m h) 0)
unfolding opening right_sizes
opened_by m h b e = go (right_sizes m h b) refl
  where
    go : (t : Bool) → right_sizes m h b ≡ t → (in_range m h ≡ true) × (opening m h b ≡ reply (opened m h) 0)
    go true f = (and_left (in_range m h) (lengths_are m h b) f, simp f)
    go false f = absurd (answers (opening m h b) b 10 0 (simp f) (omega arith) e)

pub invariant_open : (m h : ℕ) (b : Box) → (opening m h b).answer ≡ 0 → Inv (opening m h b).box (resting [] (handles_below h))
invariant_open m h b e =
    let o = opened_by m h b e in
    subst (λ (r : Reply). Inv r.box (resting [] (handles_below h))) (sym o.1) (opened_inv m h o.0)

-- ---- a step

-- what a step that ends a cycle leaves
step_ended : (b : Box) (c : Box) (g : Ghosts) → Inv (at_rest c) g → step b ≡ end_cycle b c → Grown (step b)
step_ended b c g v s = go (cycle_end b c g v)
  where
    go : CycleEnd b c g → Grown (step b)
    go (CycleEnd.ends_free h e) = grown (step b) (at_rest c) 31 g (s ∙ e) v
    go (CycleEnd.ends_held h n t e) = grown (step b) (at_rest c) 33 g (s ∙ e) v
    go (CycleEnd.ends_dropped h n t e i) = grown (step b) (unheld (at_rest c)) 8 g (s ∙ e) i
    go (CycleEnd.ends_granted h f t e i) = grown (step b) (granted (at_rest c)) 32 (made_ghosts g c.free) (s ∙ e) i

-- and its answer: 31, 33, 8 or 32
end_not_nine : (b : Box) (c : Box) (g : Ghosts) → Inv (at_rest c) g → step b ≡ end_cycle b c → (step b).answer ≢ 9
end_not_nine b c g v s = go (cycle_end b c g v)
  where
    go : CycleEnd b c g → (step b).answer ≢ 9
    go (CycleEnd.ends_free h e) = answers (step b) (at_rest c) 31 9 (s ∙ e) (omega arith)
    go (CycleEnd.ends_held h n t e) = answers (step b) (at_rest c) 33 9 (s ∙ e) (omega arith)
    go (CycleEnd.ends_dropped h n t e i) = answers (step b) (unheld (at_rest c)) 8 9 (s ∙ e) (omega arith)
    go (CycleEnd.ends_granted h f t e i) = answers (step b) (granted (at_rest c)) 32 9 (s ∙ e) (omega arith)

pub invariant_step : (b : Box) (g : Ghosts) → Inv b g → (g' : Ghosts) × Inv (step b).box g'
invariant_step b g v = go (stepped b g v)
  where
    go : Stepped b g → Grown (step b)
    go (Stepped.goes_on c s n l h t) = grown (step b) c 30 n.ghosts s n.inv
    go (Stepped.ends c s n p h e k) = step_ended b c n.ghosts n.inv s

pub never_nine_step : (b : Box) (g : Ghosts) → Inv b g → (step b).answer ≢ 9
never_nine_step b g v = go (stepped b g v)
  where
    go : Stepped b g → (step b).answer ≢ 9
    go (Stepped.goes_on c s n l h t) = answers (step b) c 30 9 s (omega arith)
    go (Stepped.ends c s n p h e k) = end_not_nine b c n.ghosts n.inv s

-- ---- a request

-- the tuple that a register points to is kept
there_kept : (b : Box) (g : Ghosts) → Inv b g → (s k : ℕ) → s < register_count → There s k b → Kept b g.plan (named s b)
there_kept b g v s k l t = v.contents.roots_kept s l t.is_pointer

-- no request looks up, touches or forms anything out of range
pub never_loss : (b : Box) (g : Ghosts) → Inv b g → Loss b → ⊥
never_loss b g v (Loss.free_lost n z m e) = e (free_bounds b g v m.0)
never_loss b g v (Loss.free_total n z m e p u) = omega (arith, live_fits b g v n m.1)
never_loss b g v (Loss.handle_lost s l n e) = e (register_bounds b g v s l n)
never_loss b g v (Loss.place_past s l n e i u f) = true≢false (sym (place_in_memory b g v (named s b) i (v.contents.roots_kept s l n) u) ∙ f)
never_loss b g v (Loss.stored_total r l n a z e t u) = omega (arith, root_room b g v z r l n t)

pub never_nine_request : (q : Request) (b : Box) (g : Ghosts) → Inv b g → (request q b).answer ≢ 9
never_nine_request q b g v = go (asked q b)
  where
    done : {r : Reply} {c : Box} → r ≡ reply c 0 → r.answer ≢ 9
    done {r} {c} e = answers r c 0 9 e (omega arith)

    go : {q : Request} → Asked b q → (request q b).answer ≢ 9
    go (Asked.refuses_unsound f e) = absurd (true≢false (sym (sound_box b g v) ∙ f))
    go (Asked.refuses {q} a x y z o e) = answers (request q b) b a 9 e z
    go (Asked.refuses_lost f h x o e) = absurd (never_loss b g v x)
    go (Asked.holds {r} {n} {t} f h l z m e) = answers (request (Getm r n t) b) (put_on_hold r n t b) 7 9 e (omega arith)
    go (Asked.sets_data f h l e) = done e
    go (Asked.sets_nil f h l e) = done e
    go (Asked.moves f h l u e) = done e
    go (Asked.advances f h l x o e) = done e
    go (Asked.makes f h l z m t x p e) = done e
    go (Asked.loads f h l u t e) = done e
    go (Asked.stores_data f h l u t n e) = done e
    go (Asked.stores_late f h l u t n o e) = done e
    go (Asked.stores_marked f h l u t n a z x k e) = done e
    go (Asked.stores_unmarked f h l u t n a z x k i e) = done e
    go (Asked.gives_size f h l u n x e) = done e
    go (Asked.gives_nil_size f h l u n x e) = done e
    go (Asked.gives_tag f h l u n x i e) = done e
    go (Asked.gives_nil_tag f h l u n x e) = done e
    go (Asked.compares f h l u t e) = done e

pub invariant_request : (q : Request) (b : Box) (g : Ghosts) → RequestInWidth q → Inv b g → (g' : Ghosts) × Inv (request q b).box g'
invariant_request q b g w v = go w (asked q b)
  where
    done : {r : Reply} {c : Box} {a : ℕ} → r ≡ reply c a → (g' : Ghosts) → Inv c g' → Grown r
    done {r} {c} {a} e g' i = grown r c a g' e i

    go : {q : Request} → RequestInWidth q → Asked b q → Grown (request q b)
    go w (Asked.refuses_unsound f e) = done e g v
    go w (Asked.refuses a x y z o e) = done e g v
    go w (Asked.refuses_lost f h x o e) = done e g v
    go w (Asked.holds {r} {n} {t} f h l z m e) = done e g (invariant_hold b g v r n t l w.2)
    go w (Asked.sets_data {r} {v = x} f h l e) = done e g (register_takes_data b g v r x l)
    go w (Asked.sets_nil {r} f h l e) = done e g (register_takes_nil b g v r l)
    go w (Asked.moves {r} {s} f h l u e) = done e g (register_takes_register b g v r s l u)
    go w (Asked.advances {r} {n} f h l x o e) = done e g (register_advances b g v r n l x o)
    go w (Asked.makes {r} {n} {t} f h l z m x y p e) = done e (made_ghosts g b.free) (invariant_new_tuple b g v r n t l m x w.2)
    go w (Asked.loads {r} {s} {k} f h l u t e) = done e g (register_loads b g v r (named s b) (number s k b) l (there_kept b g v s k u t) t.inside)
    go w (Asked.stores_data {r} {s} {k} f h l u t n e) = done e g (stores_data b g v (named s b) (number s k b) (there_kept b g v s k u t) t.inside (register r b) n)
    go w (Asked.stores_late {r} {s} {k} f h l u t n o e) = done e g (stores_late b g v (named s b) (number s k b) (there_kept b g v s k u t) t.inside (register r b) (v.contents.roots_kept r l n) o)
    go w (Asked.stores_marked {r} {s} {k} f h l u t n a z x m e) = done e g (stores_marked b g v (named s b) (number s k b) (there_kept b g v s k u t) t.inside (register r b) (v.contents.roots_kept r l n) m)
    go w (Asked.stores_unmarked {r} {s} {k} f h l u t n a z x m i e) =
        done e (with_scans (shade_scans (named r b) b g.scans) g)
        (stores_shaded b g v (named s b) (number s k b) (there_kept b g v s k u t) t.inside (register r b) (v.contents.roots_kept r l n) (record {
          names = n;
          phase_least = a;
          phase_most = z;
        }))
    go w (Asked.gives_size {r} {s} f h l u n x e) = done e g (register_takes_data b g v r (size_of (named s b) b) l)
    go w (Asked.gives_nil_size {r} f h l u n x e) = done e g (register_takes_data b g v r 0 l)
    go w (Asked.gives_tag {r} {s} f h l u n x i e) = done e g (register_takes_data b g v r (tag_of (read (place (named s b) 0 b) b)) l)
    go w (Asked.gives_nil_tag {r} f h l u n x e) = done e g (register_takes_data b g v r 0 l)
    go w (Asked.compares {r} {s} {t} f h l u y e) = done e g (register_takes_data b g v r (cond (same_word (register s b) (register t b)) 1 0) l)

-- neither a step nor any request
pub never_nine : (b : Box) (g : Ghosts) → Inv b g → ((step b).answer ≢ 9) × ((q : Request) → (request q b).answer ≢ 9)
never_nine b g v = (never_nine_step b g v, λ q. never_nine_request q b g v)

-- ---- the words above top

pub words_above_top : (b : Box) (g : Ghosts) → Inv b g → (a : ℕ) → b.top ≤ a → word_at a b ≡ data_word 0
words_above_top b g v = v.zero_words.above_top

-- ---- the steps of a cycle

pub left_falls : (b : Box) (g g' : Ghosts) → Inv b g → Inv (step b).box g' → (step b).answer ≡ 30 → left (step b).box g' < left b g
left_falls b g g' v w a = step_left b g v a g' w

pub left_most : (b : Box) (g : Ghosts) → Inv b g → left b g ≤ 8 * b.top + 2
left_most = left_bound

-- the first n single steps of b all answer 30
abbrev pub GoesOn : ℕ → Box → Type 0
GoesOn zero b = Unit {0}
GoesOn (suc n) b = ((step b).answer ≡ 30) × GoesOn n (step b).box

pub steps_below_left : (n : ℕ) (b : Box) (g : Ghosts) → Inv b g → GoesOn n b → n < left b g
steps_below_left zero b g v e = left_positive b g v
steps_below_left (suc n) b g v e =
    let w = invariant_step b g v in
    let l : n < left (step b).box w.0 = steps_below_left n (step b).box w.0 w.1 e.1 in
    let f : left (step b).box w.0 < left b g = left_falls b g w.0 v w.1 e.0 in
    omega arith

-- the cycle ends with step 8 top + 2 at the latest, whatever its phase now, if no request comes between
pub cycle_bound : (b : Box) (g : Ghosts) → Inv b g → (n : ℕ) → GoesOn n b → n < 8 * b.top + 2
cycle_bound b g v n e = omega (arith, steps_below_left n b g v e, left_bound b g v)
