-- The table of answers for single steps holds, and what a step that drops the hold leaves. The view's transitions are three cases: what
-- the rule looks up, touches or forms is lost; the cycle goes on; it ends. Assumes nothing.
use Prim.Native.Nat.{ℕ, zero, suc, ◌+◌, ◌≤◌, ◌<◌}
use mathlib.Core.Bool.{Bool, true, false, cond, true≢false}
use mathlib.Core.Logic.{◌≢◌, ◌⊎◌, inl, inr, ◌↔◌}
use mathlib.Core.Path.{◌≡◌, refl, sym, ◌∙◌, ap, subst}
use native.Mathlib.Omega.{arith}
use lib.Dec.{eqb}
use Rattle.rules.specs.Limits.{register_count}
use Rattle.rules.specs.Parts.{Box, Hold, with_hold, with_held, with_begun}
use Rattle.rules.specs.Box.{Reply, reply, size_of, marked, names_tuple, register}
use Rattle.rules.specs.Collector.{at_rest, unheld, end_cycle, step}
use Rattle.rules.specs.Answers.{holds, passed, given, Right, Entry, NoRoom, Unshadable, named, Passed, RootLost, after_entry, after_tuple, AfterLost, ScanLost, SweepLost, StepLost, StepEnds, end_top, StillNoRoom, GrantLost, HeldGives, EndGives, StepGives, GoesOn, Ended}
use Rattle.rules.specs.Demand1.{StepAnswers, Dropped}
use Rattle.rules.proofs.Sizes.{sound_right, unsound_wrong}
use Rattle.rules.proofs.View.Boxes.{kept_last_box, moved_last_box, zeroed_last_box}
use Rattle.rules.proofs.View.Tests.{lt?}
use Rattle.rules.proofs.View.Step.{Reason, Step, view}
use Rattle.rules.proofs.View.End.{Ending, ending, end_free, end_held}
use Rattle.rules.proofs.Table.Rows.{Each, each_when, each_last, Only, only_when, only_last, exactly}
use Rattle.rules.proofs.Table.Requests.{marked_shadable, unmarked_shadable}

-- ---- the box as the rule of a phase leaves it where the cycle ends

ended : ℕ → Box → Box
ended p b = cond (eqb p 5) (moved_last_box b) (cond (eqb p 8) (zeroed_last_box b) (cond (eqb p 4) (kept_last_box b) b))

-- ---- the answers of a step

-- 8, 9, those after which a run goes on, and those that end a cycle with nothing held any more
pub data Kind (a : ℕ) : Type 0 where
  drops : a ≡ 8 → Kind a
  refuses : a ≡ 9 → Kind a
  goes_on : GoesOn a → Kind a
  cycle_ends : Ended a → Kind a

-- ---- a step, in phase p

data Case (p : ℕ) (b : Box) : Type 0 where
  wrong : ¬ Right b → step b ≡ reply b 9 → Case p b
  lost : Right b → StepLost p b → step b ≡ reply b 9 → Case p b
  goes : Right b → ¬ StepLost p b → ¬ StepEnds p b → (c : Box) → step b ≡ reply c 30 → Case p b
  ends : Right b → ¬ StepLost p b → StepEnds p b → step b ≡ end_cycle b (ended p b) → Case p b

module _ (b : Box) where
  -- 1
  next_found : b.collector.next ≢ 0 → Entry b.collector.next b → ¬ StepLost 1 b
  next_found n e (inl x) = x.1 e
  next_found n e (inr x) = n x.0

  -- 2
  word_scanned : b.collector.index ≤ b.collector.size → b.collector.src + b.collector.index < b.m → ¬ ScanLost b
  word_scanned i a (inl x) = omega (arith, x.1)
  word_scanned i a (inr x) = omega (arith, x.0)

  none_current : b.collector.size < b.collector.index → b.collector.current ≡ 0 → ¬ ScanLost b
  none_current i z (inl x) = omega (arith, x.0)
  none_current i z (inr x) = x.1 z

  current_found : b.collector.size < b.collector.index → Entry b.collector.current b → ¬ ScanLost b
  current_found i e (inl x) = omega (arith, x.0)
  current_found i e (inr x) = x.2 e

  -- 4
  tuple_swept : Entry b.collector.tuple b → after_entry b ≤ b.m
      → (marked b.collector.tuple b ≡ true → b.collector.src ≡ b.collector.dest → after_entry b ≢ b.top → after_entry b < b.m)
      → (marked b.collector.tuple b ≡ false → b.collector.src + size_of b.collector.tuple b < b.collector.live → after_entry b < b.m) → ¬ SweepLost b
  tuple_swept e a k f (inl n) = n e
  tuple_swept e a k f (inr (inl l)) = omega arith
  tuple_swept e a k f (inr (inr (inl x))) = omega (arith, x.3, k x.0 x.1 x.2)
  tuple_swept e a k f (inr (inr (inr x))) = omega (arith, x.2, f x.0 x.1)

  -- 5 and 8
  after_found : (a : ℕ) → a ≤ b.m → (a ≢ b.top → a < b.m) → ¬ AfterLost a b
  after_found a l k (inl x) = omega arith
  after_found a l k (inr x) = omega (arith, x.1, k x.0)

  word_read : b.collector.index ≤ b.collector.size → b.collector.src + b.collector.index < b.m → ¬ StepLost 5 b
  word_read i a (inl x) = omega (arith, x.1)
  word_read i a (inr x) = omega (arith, x.0)

  move_finished : b.collector.size < b.collector.index → Entry b.collector.tuple b → b.collector.dest + b.collector.size + 1 ≤ b.m → ¬ AfterLost (after_tuple b) b → ¬ StepLost 5 b
  move_finished i e d k (inl x) = omega (arith, x.0)
  move_finished i e d k (inr x) = go x.1
    where
      go : ¬ ((¬ Entry b.collector.tuple b) ⊎ ((b.m < b.collector.dest + b.collector.size + 1) ⊎ AfterLost (after_tuple b) b))
      go (inl n) = n e
      go (inr (inl l)) = omega arith
      go (inr (inr y)) = k y

  word_zeroed : b.collector.index ≤ b.collector.size → b.collector.src + b.collector.index < b.m → ¬ StepLost 8 b
  word_zeroed i a (inl x) = omega (arith, x.1)
  word_zeroed i a (inr x) = omega (arith, x.0)

  zero_finished : b.collector.size < b.collector.index → ¬ AfterLost (after_tuple b) b → ¬ StepLost 8 b
  zero_finished i k (inl x) = omega (arith, x.0)
  zero_finished i k (inr x) = k x.1

  -- 1: a register that is passed over is not lost, and the first that is not passed over is the one found
  passed_shadable : (r : ℕ) → Passed r b → names_tuple (register r b) ≡ true → ¬ Unshadable (named r b) b
  passed_shadable r k n = marked_shadable (named r b) b (k n).0 (k n).1

  all_passed : b.collector.next ≡ 0 → ((r : ℕ) → r < register_count → Passed r b) → ¬ StepLost 1 b
  all_passed z k (inl x) = x.0 z
  all_passed z k (inr x) =
      let y : RootLost b = x.1 in
      passed_shadable y.root (k y.root y.is_register) y.points y.lost

  root_found : (r : ℕ) → b.collector.next ≡ 0 → ((q : ℕ) → q < r → Passed q b) → names_tuple (register r b) ≡ true → marked (named r b) b ≡ false
      → ¬ Unshadable (named r b) b → ¬ StepLost 1 b
  root_found r z g n t u (inl x) = x.0 z
  root_found r z g n t u (inr x) = go (lt? x.1.root r) (lt? r x.1.root)
    where
      y : RootLost b
      y = x.1

      go : (y.root < r) ⊎ (r ≤ y.root) → (r < y.root) ⊎ (y.root ≤ r) → ⊥
      go (inl l) m = passed_shadable y.root (g y.root l) y.points y.lost
      go (inr l) (inl m) = true≢false (sym (y.passed_before r m n).1 ∙ t)
      go (inr l) (inr m) =
          let e : y.root ≡ r = omega arith in
          u (subst (λ (q : ℕ). Unshadable (named q b) b) e y.lost)

-- ---- the view's transitions are these cases

-- a case in the phase that the box has
at : (b : Box) (p : ℕ) → b.collector.phase ≡ p → Case p b → Case b.collector.phase b
at b p e c = subst (λ (q : ℕ). Case q b) (sym e) c

lost_by : (b : Box) → Reason b → StepLost b.collector.phase b
lost_by b r = go r
  where
    in_phase : (p : ℕ) → b.collector.phase ≡ p → StepLost p b → StepLost b.collector.phase b
    in_phase p e x = subst (λ (q : ℕ). StepLost q b) (sym e) x

    go : Reason b → StepLost b.collector.phase b
    go (Reason.next_lost p n e) = in_phase 1 p (inl (n, e))
    go (Reason.root_lost p z r l g n e) = in_phase 1 p (inr (z, record { root = r; is_register = l; passed_before = g; points = n; lost = inl e }))
    go (Reason.root_total p z r l g n e t u) = in_phase 1 p (inr (z, record { root = r; is_register = l; passed_before = g; points = n; lost = inr (t, u) }))
    go (Reason.scan_past p i a) = in_phase 2 p (inl (i, a))
    go (Reason.current_lost p i n e) = in_phase 2 p (inr (i, n, e))
    go (Reason.add_lost p e) = in_phase 3 p (inl e)
    go (Reason.add_total p e t u) = in_phase 3 p (inr (t, u))
    go (Reason.sweep_lost p e) = in_phase 4 p (inl e)
    go (Reason.sweep_after p e a) = in_phase 4 p (inr (inl a))
    go (Reason.keep_past p e a t d q l) = in_phase 4 p (inr (inr (inl (t, d, q, l))))
    go (Reason.release_past p e a t v l) = in_phase 4 p (inr (inr (inr (t, v, l))))
    go (Reason.read_past p i a) = in_phase 5 p (inl (i, a))
    go (Reason.finish_lost p i e) = in_phase 5 p (inr (i, inl e))
    go (Reason.finish_total p i e d) = in_phase 5 p (inr (i, inr (inl d)))
    go (Reason.finish_after p i e d a) = in_phase 5 p (inr (i, inr (inr (inl a))))
    go (Reason.finish_past p i e d a q l) = in_phase 5 p (inr (i, inr (inr (inr (q, l)))))
    go (Reason.clear_past p a) = in_phase 6 p a
    go (Reason.write_past p a) = in_phase 7 p a
    go (Reason.zero_past p i a) = in_phase 8 p (inl (i, a))
    go (Reason.zero_after p i a) = in_phase 8 p (inr (i, inl a))
    go (Reason.zero_past_on p i a q l) = in_phase 8 p (inr (i, inr (q, l)))

case : (b : Box) → Case b.collector.phase b
unfolding ended
case b = go (view b)
  where
    -- a marked tuple is not unmarked
    not_both : marked b.collector.tuple b ≡ true → ¬ (marked b.collector.tuple b ≡ false)
    not_both t f = true≢false (sym t ∙ f)

    go : Step b → Case b.collector.phase b
    go (Step.unsound s e) = wrong (unsound_wrong b s) e
    go (Step.nine s r e) = lost (sound_right b s) (lost_by b r) e
    go (Step.rests s p e) = at b 0 p (goes (sound_right b s) (λ x. x) (λ x. x) _ e)
    go (Step.takes_next s p n y e) = at b 1 p (goes (sound_right b s) (next_found b n y) (λ x. n x.0) _ e)
    go (Step.shades_root s p z r l g n y t u e) =
        at b 1 p (goes (sound_right b s) (root_found b r z g n t (unmarked_shadable (named r b) b y u)) (λ x. true≢false (sym (x.1 r l n).1 ∙ t)) _ e)
    go (Step.ends_empty s p z k t e) = at b 1 p (ends (sound_right b s) (all_passed b z k) (z, k, t) e)
    go (Step.begins_sweep s p z k t e) = at b 1 p (goes (sound_right b s) (all_passed b z k) (λ x. t x.2) _ e)
    go (Step.scans_data s p i a w e) = at b 2 p (goes (sound_right b s) (word_scanned b i a) (λ x. x) _ e)
    go (Step.scans_pointer s p i a w e) = at b 2 p (goes (sound_right b s) (word_scanned b i a) (λ x. x) _ e)
    go (Step.scan_ends s p i z e) = at b 2 p (goes (sound_right b s) (none_current b i z) (λ x. x) _ e)
    go (Step.takes_current s p i n y e) = at b 2 p (goes (sound_right b s) (current_found b i y) (λ x. x) _ e)
    go (Step.adds_marked s p y t e) = at b 3 p (goes (sound_right b s) (marked_shadable b.collector.tuple b y t) (λ x. x) _ e)
    go (Step.adds_unmarked s p y t u e) = at b 3 p (goes (sound_right b s) (unmarked_shadable b.collector.tuple b y u) (λ x. x) _ e)
    go (Step.keeps_last s p y a t d q e) =
        at b 4 p (ends (sound_right b s) (tuple_swept b y a (λ t d n. absurd (n q)) (λ f v. absurd (not_both t f))) (t, d, q) e)
    go (Step.keeps s p y a t d q l e) =
        at b 4 p (goes (sound_right b s) (tuple_swept b y a (λ t d n. l) (λ f v. l)) (λ x. q x.2) _ e)
    go (Step.starts_move s p y a t d e) =
        at b 4 p (goes (sound_right b s) (tuple_swept b y a (λ t x n. absurd (d x)) (λ f v. absurd (not_both t f))) (λ x. d x.1) _ e)
    go (Step.releases s p y a t v l e) =
        at b 4 p (goes (sound_right b s) (tuple_swept b y a (λ t d n. l) (λ f v. l)) (λ x. not_both x.0 t) _ e)
    go (Step.starts_zero s p y a t v e) =
        at b 4 p (goes (sound_right b s) (tuple_swept b y a (λ k d n. absurd (not_both k t)) (λ f w. absurd (omega arith))) (λ x. not_both x.0 t) _ e)
    go (Step.copies_low s p i a v e) = at b 5 p (goes (sound_right b s) (word_read b i a) (λ x. omega (arith, x.0)) _ e)
    go (Step.copies_high s p i a v e) = at b 5 p (goes (sound_right b s) (word_read b i a) (λ x. omega (arith, x.0)) _ e)
    go (Step.ends_move s p i y d a q e) =
        at b 5 p (ends (sound_right b s) (move_finished b i y d (after_found b (after_tuple b) a (λ n. absurd (n q)))) (i, q) e)
    go (Step.moves_on s p i y d q l e) =
        at b 5 p (goes (sound_right b s) (move_finished b i y d (after_found b (after_tuple b) (omega arith) (λ n. l))) (λ x. q x.1) _ e)
    go (Step.clears s p a e) = at b 6 p (goes (sound_right b s) (λ x. omega arith) (λ x. x) _ e)
    go (Step.writes s p a e) = at b 7 p (goes (sound_right b s) (λ x. omega arith) (λ x. x) _ e)
    go (Step.zeroes s p i a e) = at b 8 p (goes (sound_right b s) (word_zeroed b i a) (λ x. omega (arith, x.0)) _ e)
    go (Step.zero_ends s p i a q e) = at b 8 p (ends (sound_right b s) (zero_finished b i (after_found b (after_tuple b) a (λ n. absurd (n q)))) (i, q) e)
    go (Step.zero_on s p i q l e) =
        at b 8 p (goes (sound_right b s) (zero_finished b i (after_found b (after_tuple b) (omega arith) (λ n. l))) (λ x. q x.1) _ e)

-- ---- the end of a cycle

-- what the rule leaves as it was, and top
record Leaves (b c : Box) (top_then : ℕ) : Type 0 where
  hold_is : c.hold ≡ b.hold
  free_is : c.free ≡ b.free
  m_is : c.m ≡ b.m
  h_is : c.h ≡ b.h
  top_is : c.top ≡ top_then

ended_leaves : (p : ℕ) (b : Box) → Leaves b (ended p b) (end_top p b)
unfolding ended
ended_leaves p b = go (eqb p 5) (eqb p 8) (eqb p 4)
  where
    go : (x y z : Bool) → Leaves b (cond x (moved_last_box b) (cond y (zeroed_last_box b) (cond z (kept_last_box b) b)))
        (cond x (b.collector.dest + b.collector.size + 1) (cond y b.collector.dest b.top))
    go true y z = record { hold_is = refl; free_is = refl; m_is = refl; h_is = refl; top_is = refl }
    go false true z = record { hold_is = refl; free_is = refl; m_is = refl; h_is = refl; top_is = refl }
    go false false true = record { hold_is = refl; free_is = refl; m_is = refl; h_is = refl; top_is = refl }
    go false false false = record { hold_is = refl; free_is = refl; m_is = refl; h_is = refl; top_is = refl }

module _ (b : Box) where
  last_box : Box
  last_box = ended b.collector.phase b

  leaves : Leaves b last_box (end_top b.collector.phase b)
  unfolding last_box
  leaves = ended_leaves b.collector.phase b

  held_is : (t : Bool) → last_box.hold.held ≡ t → b.hold.held ≡ t
  held_is t e = sym (ap (λ (o : Hold). o.held) leaves.hold_is) ∙ e

  begun_is : (t : Bool) → last_box.hold.begun ≡ t → b.hold.begun ≡ t
  begun_is t e = sym (ap (λ (o : Hold). o.begun) leaves.hold_is) ∙ e

  size_is : last_box.hold.size ≡ b.hold.size
  size_is = ap (λ (o : Hold). o.size) leaves.hold_is

  no_room : NoRoom last_box.hold.size last_box → StillNoRoom b
  no_room (inl z) = inl (sym leaves.free_is ∙ z)
  no_room (inr l) = inr (omega (arith, leaves.m_is, leaves.top_is, size_is))

  room : last_box.free ≢ 0 → last_box.top + last_box.hold.size + 1 ≤ last_box.m → ¬ StillNoRoom b
  room f l (inl z) = f (leaves.free_is ∙ z)
  room f l (inr x) = omega (arith, leaves.m_is, leaves.top_is, size_is)

  register_is : last_box.hold.register ≡ b.hold.register
  register_is = ap (λ (o : Hold). o.register) leaves.hold_is

  granted : last_box.hold.register < register_count → Entry last_box.free last_box → ¬ GrantLost b
  granted r e (inl x) = omega (arith, register_is)
  granted r e (inr x) = x (omega (arith, e.0, leaves.free_is), omega (arith, e.1, leaves.free_is, leaves.h_is))

  grant_lost : (register_count ≤ last_box.hold.register) ⊎ (¬ Entry last_box.free last_box) → GrantLost b
  grant_lost (inl r) = inl (omega (arith, register_is))
  grant_lost (inr e) = inr (λ x. e (omega (arith, x.0, leaves.free_is), omega (arith, x.1, leaves.free_is, leaves.h_is)))

  -- ---- the table

  by : (c : Box) (a : ℕ) → step b ≡ reply c a → StepGives b a → StepGives b (step b).answer
  by c a e g = subst (StepGives b) (sym (ap (λ (r : Reply). r.answer) e)) g

  -- the rows before those of the end are passed
  end_row : (a : ℕ) → Right b → ¬ StepLost b.collector.phase b → StepEnds b.collector.phase b → EndGives b a → StepGives b a
  end_row a r x y k = passed (λ n. n r) (passed x (passed (λ n. n y) k))

  held_row : (a : ℕ) → last_box.hold.held ≡ true → HeldGives b a → EndGives b a
  held_row a h k = passed (λ f. true≢false (sym (held_is true h) ∙ f)) k

  end_gives : Right b → ¬ StepLost b.collector.phase b → StepEnds b.collector.phase b → step b ≡ end_cycle b last_box → Ending b last_box → StepGives b (step b).answer
  end_gives r x y e (Ending.ends_free f w) = by _ 31 (e ∙ w) (end_row 31 r x y (holds (held_is false f) refl))
  end_gives r x y e (Ending.ends_held h n g w) =
      by _ 33 (e ∙ w) (end_row 33 r x y (held_row 33 h (passed (λ z. true≢false (sym z.1 ∙ begun_is false g)) (holds (no_room n) refl))))
  end_gives r x y e (Ending.ends_dropped h n g w) = by _ 8 (e ∙ w) (end_row 8 r x y (held_row 8 h (holds (no_room n, begun_is true g) refl)))
  end_gives r x y e (Ending.ends_granted h f l i n w) =
      by _ 32 (e ∙ w) (end_row 32 r x y (held_row 32 h (passed (λ z. room f l z.0) (passed (room f l) (passed (granted i n) (given refl))))))
  end_gives r x y e (Ending.ends_lost h f l i w) =
      by _ 9 (e ∙ w) (end_row 9 r x y (held_row 9 h (passed (λ z. room f l z.0) (passed (room f l) (holds (grant_lost i) refl)))))

  gives : StepGives b (step b).answer
  unfolding last_box
  gives = go (case b)
    where
      go : Case b.collector.phase b → StepGives b (step b).answer
      go (wrong n e) = by b 9 e (holds n refl)
      go (lost r x e) = by b 9 e (passed (λ n. n r) (holds x refl))
      go (goes r x y c e) = by c 30 e (passed (λ n. n r) (passed x (holds y refl)))
      go (ends r x y e) = end_gives r x y e (ending b last_box)

  only_one : Only (StepGives b)
  only_one = only_when _ 9 _ (only_when _ 9 _ (only_when _ 30 _ (only_when _ 31 _ (only_when _ 8 _ (only_when _ 33 _ (only_when _ 9 _ (only_last 32)))))))

  pub step_exactly : (a : ℕ) → ((step b).answer ≡ a) ↔ StepGives b a
  step_exactly a = exactly (StepGives b) only_one (step b).answer gives a

  -- what a step answers, as a run takes it
  pub step_kind : Kind (step b).answer
  step_kind = rows (step b).answer gives
    where
      rows : Each Kind (StepGives b)
      rows =
          each_when Kind (¬ Right b) 9 _ (λ x. refuses refl)
          (each_when Kind (StepLost b.collector.phase b) 9 _ (λ x. refuses refl)
          (each_when Kind (¬ StepEnds b.collector.phase b) 30 _ (λ x. goes_on (inl refl))
          (each_when Kind (b.hold.held ≡ false) 31 _ (λ x. cycle_ends (inl refl))
          (each_when Kind (StillNoRoom b × (b.hold.begun ≡ true)) 8 _ (λ x. drops refl)
          (each_when Kind (StillNoRoom b) 33 _ (λ x. goes_on (inr refl))
          (each_when Kind (GrantLost b) 9 _ (λ x. refuses refl)
          (each_last Kind 32 (cycle_ends (inr refl)))))))))

  pub step_answers : StepAnswers (step b).answer
  step_answers = go step_kind
    where
      go : Kind (step b).answer → StepAnswers (step b).answer
      go (drops e) = inl e
      go (refuses e) = inr (inl e)
      go (goes_on (inl e)) = inr (inr (omega arith, omega arith))
      go (goes_on (inr e)) = inr (inr (omega arith, omega arith))
      go (cycle_ends (inl e)) = inr (inr (omega arith, omega arith))
      go (cycle_ends (inr e)) = inr (inr (omega arith, omega arith))

-- ---- a step that drops the hold

-- neither what is tested first, nor what a rule tests, nor what it leaves where the cycle ends depends on the hold
right_any : (o : Hold) (b : Box) → Right b → Right (with_hold o b)
right_any o b r =
    record {
      right_sizes = record {
        words_in_range = r.right_sizes.words_in_range;
        entries_in_range = r.right_sizes.entries_in_range;
        lengths = record {
          words = r.right_sizes.lengths.words;
          flags = r.right_sizes.lengths.flags;
          addresses = r.right_sizes.lengths.addresses;
          sizes = r.right_sizes.lengths.sizes;
          links = r.right_sizes.lengths.links;
          marks = r.right_sizes.lengths.marks;
          deeps = r.right_sizes.lengths.deeps;
        };
      };
      right_phase = r.right_phase;
    }

lost_any : (p : ℕ) (o : Hold) (b : Box) → StepLost p (with_hold o b) → StepLost p b
lost_any zero o b x = x
lost_any (suc zero) o b (inl x) = inl x
lost_any (suc zero) o b (inr x) =
    let y : RootLost (with_hold o b) = x.1 in
    inr (x.0, record { root = y.root; is_register = y.is_register; passed_before = y.passed_before; points = y.points; lost = y.lost })
lost_any (suc (suc zero)) o b x = x
lost_any (suc (suc (suc zero))) o b x = x
lost_any (suc (suc (suc (suc zero)))) o b x = x
lost_any (suc (suc (suc (suc (suc zero))))) o b x = x
lost_any (suc (suc (suc (suc (suc (suc zero)))))) o b x = x
lost_any (suc (suc (suc (suc (suc (suc (suc zero))))))) o b x = x
lost_any (suc (suc (suc (suc (suc (suc (suc (suc zero)))))))) o b x = x
lost_any (suc (suc (suc (suc (suc (suc (suc (suc (suc p))))))))) o b x = x

ends_any : (p : ℕ) (o : Hold) (b : Box) → StepEnds p b → StepEnds p (with_hold o b)
ends_any zero o b x = x
ends_any (suc zero) o b x = x
ends_any (suc (suc zero)) o b x = x
ends_any (suc (suc (suc zero))) o b x = x
ends_any (suc (suc (suc (suc zero)))) o b x = x
ends_any (suc (suc (suc (suc (suc zero))))) o b x = x
ends_any (suc (suc (suc (suc (suc (suc zero)))))) o b x = x
ends_any (suc (suc (suc (suc (suc (suc (suc zero))))))) o b x = x
ends_any (suc (suc (suc (suc (suc (suc (suc (suc zero)))))))) o b x = x
ends_any (suc (suc (suc (suc (suc (suc (suc (suc (suc p))))))))) o b x = x

ended_any : (p : ℕ) (o : Hold) (b : Box) → ended p (with_hold o b) ≡ with_hold o (ended p b)
unfolding ended
ended_any p o b = go (eqb p 5) (eqb p 8) (eqb p 4)
  where
    go : (x y z : Bool) → cond x (moved_last_box (with_hold o b)) (cond y (zeroed_last_box (with_hold o b)) (cond z (kept_last_box (with_hold o b)) (with_hold o b)))
        ≡ with_hold o (cond x (moved_last_box b) (cond y (zeroed_last_box b) (cond z (kept_last_box b) b)))
    go true y z = refl
    go false true z = refl
    go false false true = refl
    go false false false = refl

-- a step that ends the cycle, whatever is held
ends_then : (b : Box) → Right b → ¬ StepLost b.collector.phase b → StepEnds b.collector.phase b → step b ≡ end_cycle b (last_box b)
unfolding last_box
ends_then b r x y = go (case b)
  where
    go : Case b.collector.phase b → step b ≡ end_cycle b (ended b.collector.phase b)
    go (wrong n e) = absurd (n r)
    go (lost q z e) = absurd (x z)
    go (goes q z n c e) = absurd (n y)
    go (ends q z n e) = e

ends_alike : (o : Hold) (b : Box) → Right b → ¬ StepLost b.collector.phase b → StepEnds b.collector.phase b
    → step (with_hold o b) ≡ end_cycle (with_hold o b) (with_hold o (last_box b))
unfolding last_box
ends_alike o b r x y =
    ends_then (with_hold o b) (right_any o b r) (λ z. x (lost_any b.collector.phase o b z)) (ends_any b.collector.phase o b y)
    ∙ ap (end_cycle (with_hold o b)) (ended_any b.collector.phase o b)

-- the hold of the box before, dropped, in the box at rest
dropped_hold : Hold → Hold
dropped_hold o = record { held = false; begun = o.begun; register = o.register; size = o.size; tag = o.tag }

unheld_is : (b : Box) → unheld (at_rest (last_box b)) ≡ with_hold (dropped_hold b.hold) (at_rest (last_box b))
unfolding unheld at_rest dropped_hold
unheld_is b = ap (λ (o : Hold). with_hold (dropped_hold o) (at_rest (last_box b))) (leaves b).hold_is

drop_leaves : (b : Box) → Right b → ¬ StepLost b.collector.phase b → StepEnds b.collector.phase b → b.hold.held ≡ true → NoRoom b.hold.size (last_box b)
    → (step b).box ≡ with_hold (dropped_hold b.hold) (at_rest (last_box b)) → Dropped b
unfolding at_rest dropped_hold
drop_leaves b r x y h n e =
    record {
      still_held = ap (λ (r : Reply). r.answer) still;
      as_still_held = e ∙ sym (ap (λ (r : Reply). with_held false (with_begun b.hold.begun r.box)) still);
      as_if_free = free ∙ ap (λ (c : Box). reply c 31) (sym e);
    }
  where
    waits : Hold
    waits = record { held = b.hold.held; begun = false; register = b.hold.register; size = b.hold.size; tag = b.hold.tag }

    still : step (with_begun false b) ≡ reply (at_rest (with_hold waits (last_box b))) 33
    still = ends_alike waits b r x y ∙ end_held (with_hold waits b) (with_hold waits (last_box b)) h n refl

    free : step (with_held false b) ≡ reply (at_rest (with_hold (dropped_hold b.hold) (last_box b))) 31
    free = ends_alike (dropped_hold b.hold) b r x y ∙ end_free (with_held false b) (with_hold (dropped_hold b.hold) (last_box b)) refl

pub step_dropped : (b : Box) → (step b).answer ≡ 8 → Dropped b
unfolding last_box
step_dropped b a = go (case b)
  where
    eight : (c : Box) (n : ℕ) → step b ≡ reply c n → n ≡ 8
    eight c n e = sym (ap (λ (r : Reply). r.answer) e) ∙ a

    by_end : Right b → ¬ StepLost b.collector.phase b → StepEnds b.collector.phase b → step b ≡ end_cycle b (last_box b) → Ending b (last_box b) → Dropped b
    by_end r x y e (Ending.ends_free f w) = absurd (omega (arith, eight _ 31 (e ∙ w)))
    by_end r x y e (Ending.ends_held h n g w) = absurd (omega (arith, eight _ 33 (e ∙ w)))
    by_end r x y e (Ending.ends_dropped h n g w) =
        drop_leaves b r x y (held_is b true h) (subst (λ (k : ℕ). NoRoom k (last_box b)) (size_is b) n) (ap (λ (r : Reply). r.box) (e ∙ w) ∙ unheld_is b)
    by_end r x y e (Ending.ends_granted h f l i n w) = absurd (omega (arith, eight _ 32 (e ∙ w)))
    by_end r x y e (Ending.ends_lost h f l i w) = absurd (omega (arith, eight _ 9 (e ∙ w)))

    go : Case b.collector.phase b → Dropped b
    go (wrong n e) = absurd (omega (arith, eight b 9 e))
    go (lost r x e) = absurd (omega (arith, eight b 9 e))
    go (goes r x y c e) = absurd (omega (arith, eight c 30 e))
    go (ends r x y e) = by_end r x y e (ending b (last_box b))
