-- The steps left fall with a transition at the box that its rule leaves, where that takes more than to cite the law of marking
-- or of the sweep. The ghosts after it are any with which the invariant holds. Assumes nothing.
use Prim.Native.Nat.{ℕ, ◌+◌, ◌≤◌, ◌<◌}
use mathlib.Core.Bool.{Bool, true, false}
use mathlib.Core.List.{List}
use mathlib.Core.Logic.{◌≢◌, inl}
use mathlib.Core.Path.{◌≡◌, refl, sym, ◌∙◌, subst}
use native.Mathlib.Omega.{arith}
use lib.Seq.{get_or-set_other}
use Rattle.rules.specs.Limits.{register_count}
use Rattle.rules.specs.Parts.{Word, Box, with_next}
use Rattle.rules.specs.Box.{data_word, handle_of, names_tuple, word_at, put, register, marked, deep}
use Rattle.rules.specs.Place.{list_next, mark_live, shade}
use Rattle.rules.specs.Collector.{to_phase, after, scan, begin_sweep, go_on, settle_move, write_copy, zero_word}
use Rattle.history.specs.Agreement.{Member}
use Rattle.history.proofs.Invariant.Statement.{Ghosts, Inv, Move}
use Rattle.history.proofs.Lists.Handles.{parts, member_differs}
use Rattle.history.proofs.Left.Count.{left}
use Rattle.history.proofs.Left.Marks.{Listing, unlisted, listed_first, ShadedBox, left_takes_next, left_shades_root, left_begins_sweep, left_scan_ends, left_takes_current, left_adds_marked, left_adds_unmarked}
use Rattle.history.proofs.Left.Sweeps.{left_moves_on, left_clears, left_writes, left_zeroes, left_zero_on}
use Rattle.history.proofs.Invariant.Words.{put_other}
use Rattle.history.proofs.Invariant.Stages.{unswept_of, kept_ahead, adding_of, at_read, at_clear, at_write}
use Rattle.history.proofs.Marking.Shade.{SameNumbers, shade_numbers}

-- ---- 1

pub fewer_takes_next : (b : Box) (g g' : Ghosts) → Inv b g → b.collector.phase ≡ 1 → b.collector.next ≢ 0
    → Inv (scan b.collector.next (with_next 0 b)) g' → left (scan b.collector.next (with_next 0 b)) g' < left b g
unfolding scan
fewer_takes_next b g g' v p n w = left_takes_next b g (scan b.collector.next (with_next 0 b)) g' v w p refl (search) n refl refl refl refl

-- what shading an unmarked tuple leaves
shade_box : (h : ℕ) (b : Box) → marked h b ≡ false → ShadedBox b (shade h b) h
unfolding shade list_next mark_live
shade_box h b f = go (deep h b) refl
  where
    go : (t : Bool) → deep h b ≡ t → ShadedBox b (shade h b) h
    go true e =
        record {
          heap = record { addresses_are = simp (f, e); sizes_are = simp (f, e); words_are = simp (f, e); flags_are = simp (f, e); top_is = simp (f, e) };
          marks_are = simp (f, e);
          listing = listed_first (simp (f, e)) (simp (f, e));
          current_is = simp (f, e);
        }
    go false e =
        record {
          heap = record { addresses_are = simp (f, e); sizes_are = simp (f, e); words_are = simp (f, e); flags_are = simp (f, e); top_is = simp (f, e) };
          marks_are = simp (f, e);
          listing = unlisted (simp (f, e)) (simp (f, e));
          current_is = simp (f, e);
        }

pub fewer_shades_root : (b : Box) (g g' : Ghosts) → Inv b g → b.collector.phase ≡ 1 → (r : ℕ) → r < register_count → names_tuple (register r b) ≡ true
    → marked (handle_of (register r b)) b ≡ false → Inv (shade (handle_of (register r b)) b) g' → left (shade (handle_of (register r b)) b) g' < left b g
fewer_shades_root b g g' v p r l n f w =
    let h : ℕ = handle_of (register r b) in
    left_shades_root b g (shade h b) g' h v w p ((shade_numbers h b).phase_is ∙ p) (shade_box h b f)
    (kept_ahead b g h (unswept_of b g v.stage (omega arith)) (v.contents.roots_kept r l n)) f

pub fewer_begins_sweep : (b : Box) (g g' : Ghosts) → Inv b g → b.collector.phase ≡ 1 → Inv (begin_sweep b) g' → left (begin_sweep b) g' < left b g
unfolding begin_sweep
fewer_begins_sweep b g g' v p w = left_begins_sweep b g (begin_sweep b) g' v w p refl (search) refl

-- ---- 2

pub fewer_scan_ends : (b : Box) (g g' : Ghosts) → Inv b g → b.collector.phase ≡ 2 → Inv (to_phase 1 b) g' → left (to_phase 1 b) g' < left b g
fewer_scan_ends b g g' v p w = left_scan_ends b g (to_phase 1 b) g' v w p refl (search) (search)

pub fewer_takes_current : (b : Box) (g g' : Ghosts) → Inv b g → b.collector.phase ≡ 2 → b.collector.current ≢ 0
    → Inv (scan b.collector.current b) g' → left (scan b.collector.current b) g' < left b g
unfolding scan
fewer_takes_current b g g' v p n w = left_takes_current b g (scan b.collector.current b) g' v w p refl (search) n refl refl refl refl

-- ---- 3

pub fewer_adds_marked : (b : Box) (g g' : Ghosts) → Inv b g → b.collector.phase ≡ 3 → Inv (to_phase 2 b) g' → left (to_phase 2 b) g' < left b g
fewer_adds_marked b g g' v p w = left_adds_marked b g (to_phase 2 b) g' v w p refl (search) (search) (search)

-- the phase is no part of it
phase_shaded : (b c : Box) (h p : ℕ) → ShadedBox b c h → ShadedBox b (to_phase p c) h
phase_shaded b c h p s =
    record {
      heap = search;
      marks_are = s.marks_are;
      listing = again s.listing;
      current_is = s.current_is;
    }
  where
    again : Listing b c h → Listing b (to_phase p c) h
    again (unlisted e n) = unlisted e n
    again (listed_first e n) = listed_first e n

pub fewer_adds_unmarked : (b : Box) (g g' : Ghosts) → Inv b g → b.collector.phase ≡ 3 → marked b.collector.tuple b ≡ false
    → Inv (to_phase 2 (shade b.collector.tuple b)) g' → left (to_phase 2 (shade b.collector.tuple b)) g' < left b g
fewer_adds_unmarked b g g' v p f w =
    let n : SameNumbers b (shade b.collector.tuple b) = shade_numbers b.collector.tuple b in
    left_adds_unmarked b g (to_phase 2 (shade b.collector.tuple b)) g' b.collector.tuple v w p refl
    (phase_shaded b (shade b.collector.tuple b) b.collector.tuple 2 (shade_box b.collector.tuple b f))
    (adding_of b g v.stage p).tuple_ahead f
    (record { size = n.size_is; index = n.index_is })

-- ---- 5

-- it does not lie ahead
moved_apart : (b : Box) (g : Ghosts) → Inv b g → Move b g → (h : ℕ) → Member h g.plan.ahead → h ≢ b.collector.tuple
moved_apart b g v m h x =
    member_differs h b.collector.tuple g.plan.ahead x
    ((parts g.plan.done g.plan.mid g.plan.ahead g.free v.handles.distinct).mid_ahead b.collector.tuple (subst (λ (l : List ℕ). Member b.collector.tuple l) (sym m.mid_is) (inl refl)))

pub fewer_moves_on : (b : Box) (g g' : Ghosts) → Inv b g → b.collector.phase ≡ 5
    → Inv (go_on (after (settle_move b)) (settle_move b)) g' → left (go_on (after (settle_move b)) (settle_move b)) g' < left b g
unfolding go_on settle_move
fewer_moves_on b g g' v p w =
    left_moves_on b g (go_on (after (settle_move b)) (settle_move b)) g' v w p refl
    (record {
      addresses = λ h x. get_or-set_other b.directory.addresses b.collector.tuple h b.collector.dest 0 (moved_apart b g v (at_read b g v.stage p).move h x);
      sizes = λ h. refl;
      words = λ x l. refl;
      top = refl;
    })
    refl

-- ---- 6 and 7

-- a word put below a leaves those from a on
put_below : (a k : ℕ) (u : Word) (b : Box) → k < a → (x : ℕ) → a ≤ x → word_at x (put k u b) ≡ word_at x b
put_below a k u b l x m = put_other k u b x (omega arith)

pub fewer_clears : (b : Box) (g g' : Ghosts) → Inv b g → b.collector.phase ≡ 6
    → Inv (to_phase 7 (put (b.collector.src + b.collector.index) (data_word 0) b)) g'
    → left (to_phase 7 (put (b.collector.src + b.collector.index) (data_word 0) b)) g' < left b g
fewer_clears b g g' v p w =
    let i : b.collector.index ≤ b.collector.size = (at_clear b g v.stage p).index_most in
    left_clears b g (to_phase 7 (put (b.collector.src + b.collector.index) (data_word 0) b)) g' v w p refl
    (record {
      addresses = λ h x. refl;
      sizes = λ h. refl;
      words = put_below (after b) (b.collector.src + b.collector.index) (data_word 0) b (omega arith);
      top = refl;
    })
    refl (search)

pub fewer_writes : (b : Box) (g g' : Ghosts) → Inv b g → b.collector.phase ≡ 7 → Inv (write_copy b) g' → left (write_copy b) g' < left b g
unfolding write_copy
fewer_writes b g g' v p w =
    let i : b.collector.index ≤ b.collector.size = (at_write b g v.stage p).index_most in
    let m : Move b g = (at_write b g v.stage p).move in
    left_writes b g (write_copy b) g' v w p refl
    (record {
      addresses = λ h x. refl;
      sizes = λ h. refl;
      words = put_below (after b) (b.collector.dest + b.collector.index) b.collector.copy b (omega arith);
      top = refl;
    })
    refl
    (record { size = refl; index = refl; within = i })

-- ---- 8

pub fewer_zeroes : (b : Box) (g g' : Ghosts) → Inv b g → b.collector.phase ≡ 8 → b.collector.index ≤ b.collector.size → Inv (zero_word b) g' → left (zero_word b) g' < left b g
unfolding zero_word
fewer_zeroes b g g' v p i w =
    left_zeroes b g (zero_word b) g' v w p p
    (record {
      addresses = λ h x. refl;
      sizes = λ h. refl;
      words = put_below (after b) (b.collector.src + b.collector.index) (data_word 0) b (omega arith);
      top = refl;
    })
    refl
    (record { size = refl; index = refl; within = i })

pub fewer_zero_on : (b : Box) (g g' : Ghosts) → Inv b g → b.collector.phase ≡ 8 → Inv (go_on (after b) b) g' → left (go_on (after b) b) g' < left b g
unfolding go_on
fewer_zero_on b g g' v p w = left_zero_on b g (go_on (after b) b) g' v w p refl (search) refl
