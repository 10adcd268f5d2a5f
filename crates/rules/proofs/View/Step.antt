-- The view of a collector step: for any box, which transition of document 01 it takes, with the facts that led there as facts
-- about numbers and the equation for the box it leaves. Each rule's tests are decided in the order of the rule, and each leaf is
-- the rule rewritten by the answers; `view` is complete because every test has two answers and a sound box has a phase up to 8.
-- Assumes nothing.
use Prim.Native.Nat.{ℕ, zero, suc, ◌+◌, ◌-◌, ◌≤◌, ◌<◌}
use mathlib.Core.Bool.{Bool, true, false, cond, ◌||◌, true≢false}
use mathlib.Core.Logic.{◌≢◌, ◌⊎◌, inl, inr}
use mathlib.Core.Path.{◌≡◌, refl, sym, ◌∙◌, ap, subst}
use native.Mathlib.Omega.{arith}
use borrow.Author.Tests.{lt-ltb, le-ltb, le-leb, lt-leb, eq-eqb, ne_eqb}
use lib.Dec.{ltb}
use Rattle.rules.specs.Limits.{register_count, last_phase}
use Rattle.rules.specs.Parts.{Box, with_next, with_begun, with_live, with_current, with_phase}
use Rattle.rules.specs.Box.{reply, handle_of, names_tuple, word_at, register, size_of, marked, sound}
use Rattle.rules.specs.Answers.{Entry, Passed}
use Rattle.rules.specs.Place.{shade}
use Rattle.rules.specs.Collector.{going, to_phase, after, end_cycle, note_begun, rest, scan, unmarked, damaged, nothing, look_register, look_from, begin_sweep, end_marking, mark_root, scan_next, mark_next, scan_word, scan_current, mark_scan, mark_add, go_on, keep_in_place, start_move, free_tuple, start_zero, release, sweep_tuple, sweep_scan, leave_tuple, settle_move, finish_move, copy_word, sweep_read, sweep_clear, write_copy, sweep_write, zero_word, sweep_zero, rule_of, step}
use Rattle.rules.proofs.Sizes.{sound_phase}
use Rattle.rules.proofs.View.Tests.{le?, lt?, eq?, true?, entry?, entry_true, entry_false, Shading, shading, shaded, unshaded, shade_lost, shade_total, can_shade_marked, can_shade_unmarked, can_shade_lost, can_shade_total, shade_marked}
use Rattle.rules.proofs.View.Boxes.{rested_box, scanned_data_box, scanned_pointer_box, kept_last_box, kept_box, move_begun_box, released_box, zero_begun_box, copied_box, moved_last_box, moved_box, cleared_box, zeroed_last_box, swept_size, swept_after, moved_end}

-- ---- the transitions

-- every register that points to a tuple points to a marked one
abbrev pub RootsMarked : Box → Type 0
RootsMarked b = (r : ℕ) → r < register_count → Passed r b

-- the look passes over all registers below this one
abbrev pub PassedBelow : ℕ → Box → Type 0
PassedBelow r b = (q : ℕ) → q < r → Passed q b

-- the ways in which a sound box answers 9, but for those at the end of a cycle
pub data Reason (b : Box) : Type 0 where
  next_lost : b.collector.phase ≡ 1 → b.collector.next ≢ 0 → ¬ Entry b.collector.next b → Reason b
  root_lost : b.collector.phase ≡ 1 → b.collector.next ≡ 0
      → (r : ℕ) → r < register_count → PassedBelow r b → names_tuple (register r b) ≡ true → ¬ Entry (handle_of (register r b)) b → Reason b
  root_total : b.collector.phase ≡ 1 → b.collector.next ≡ 0
      → (r : ℕ) → r < register_count → PassedBelow r b → names_tuple (register r b) ≡ true → Entry (handle_of (register r b)) b
      → marked (handle_of (register r b)) b ≡ false → b.m < b.collector.live + size_of (handle_of (register r b)) b + 1 → Reason b
  scan_past : b.collector.phase ≡ 2 → b.collector.index ≤ b.collector.size → b.m ≤ b.collector.src + b.collector.index → Reason b
  current_lost : b.collector.phase ≡ 2 → b.collector.size < b.collector.index → b.collector.current ≢ 0 → ¬ Entry b.collector.current b → Reason b
  add_lost : b.collector.phase ≡ 3 → ¬ Entry b.collector.tuple b → Reason b
  add_total : b.collector.phase ≡ 3 → Entry b.collector.tuple b → marked b.collector.tuple b ≡ false
      → b.m < b.collector.live + size_of b.collector.tuple b + 1 → Reason b
  sweep_lost : b.collector.phase ≡ 4 → ¬ Entry b.collector.tuple b → Reason b
  sweep_after : b.collector.phase ≡ 4 → Entry b.collector.tuple b → b.m < swept_after b → Reason b
  keep_past : b.collector.phase ≡ 4 → Entry b.collector.tuple b → swept_after b ≤ b.m → marked b.collector.tuple b ≡ true
      → b.collector.src ≡ b.collector.dest → swept_after b ≢ b.top → b.m ≤ swept_after b → Reason b
  release_past : b.collector.phase ≡ 4 → Entry b.collector.tuple b → swept_after b ≤ b.m → marked b.collector.tuple b ≡ false
      → b.collector.src + swept_size b < b.collector.live → b.m ≤ swept_after b → Reason b
  read_past : b.collector.phase ≡ 5 → b.collector.index ≤ b.collector.size → b.m ≤ b.collector.src + b.collector.index → Reason b
  finish_lost : b.collector.phase ≡ 5 → b.collector.size < b.collector.index → ¬ Entry b.collector.tuple b → Reason b
  finish_total : b.collector.phase ≡ 5 → b.collector.size < b.collector.index → Entry b.collector.tuple b → b.m < moved_end b → Reason b
  finish_after : b.collector.phase ≡ 5 → b.collector.size < b.collector.index → Entry b.collector.tuple b → moved_end b ≤ b.m
      → b.m < after b → Reason b
  finish_past : b.collector.phase ≡ 5 → b.collector.size < b.collector.index → Entry b.collector.tuple b → moved_end b ≤ b.m
      → after b ≤ b.m → after b ≢ b.top → b.m ≤ after b → Reason b
  clear_past : b.collector.phase ≡ 6 → b.m ≤ b.collector.src + b.collector.index → Reason b
  write_past : b.collector.phase ≡ 7 → b.m ≤ b.collector.dest + b.collector.index → Reason b
  zero_past : b.collector.phase ≡ 8 → b.collector.index ≤ b.collector.size → b.m ≤ b.collector.src + b.collector.index → Reason b
  zero_after : b.collector.phase ≡ 8 → b.collector.size < b.collector.index → b.m < after b → Reason b
  zero_past_on : b.collector.phase ≡ 8 → b.collector.size < b.collector.index → after b ≤ b.m → after b ≢ b.top
      → b.m ≤ after b → Reason b

pub data Step (b : Box) : Type 0 where
  unsound : sound b ≡ false → step b ≡ reply b 9 → Step b
  nine : sound b ≡ true → Reason b → step b ≡ reply b 9 → Step b
  -- 0
  rests : sound b ≡ true → b.collector.phase ≡ 0 → step b ≡ going (rested_box b) → Step b
  -- 1
  takes_next : sound b ≡ true → b.collector.phase ≡ 1 → b.collector.next ≢ 0 → Entry b.collector.next b
      → step b ≡ going (scan b.collector.next (with_next 0 b)) → Step b
  shades_root : sound b ≡ true → b.collector.phase ≡ 1 → b.collector.next ≡ 0
      → (r : ℕ) → r < register_count → PassedBelow r b → names_tuple (register r b) ≡ true → Entry (handle_of (register r b)) b
      → marked (handle_of (register r b)) b ≡ false → b.collector.live + size_of (handle_of (register r b)) b + 1 ≤ b.m
      → step b ≡ going (shade (handle_of (register r b)) b) → Step b
  ends_empty : sound b ≡ true → b.collector.phase ≡ 1 → b.collector.next ≡ 0 → RootsMarked b → b.top ≡ 0
      → step b ≡ end_cycle b b → Step b
  begins_sweep : sound b ≡ true → b.collector.phase ≡ 1 → b.collector.next ≡ 0 → RootsMarked b → b.top ≢ 0
      → step b ≡ going (begin_sweep b) → Step b
  -- 2
  scans_data : sound b ≡ true → b.collector.phase ≡ 2 → b.collector.index ≤ b.collector.size → b.collector.src + b.collector.index < b.m
      → names_tuple (word_at (b.collector.src + b.collector.index) b) ≡ false → step b ≡ going (scanned_data_box b) → Step b
  scans_pointer : sound b ≡ true → b.collector.phase ≡ 2 → b.collector.index ≤ b.collector.size → b.collector.src + b.collector.index < b.m
      → names_tuple (word_at (b.collector.src + b.collector.index) b) ≡ true → step b ≡ going (scanned_pointer_box b) → Step b
  scan_ends : sound b ≡ true → b.collector.phase ≡ 2 → b.collector.size < b.collector.index → b.collector.current ≡ 0
      → step b ≡ going (to_phase 1 b) → Step b
  takes_current : sound b ≡ true → b.collector.phase ≡ 2 → b.collector.size < b.collector.index → b.collector.current ≢ 0 → Entry b.collector.current b
      → step b ≡ going (scan b.collector.current b) → Step b
  -- 3
  adds_marked : sound b ≡ true → b.collector.phase ≡ 3 → Entry b.collector.tuple b → marked b.collector.tuple b ≡ true
      → step b ≡ going (to_phase 2 b) → Step b
  adds_unmarked : sound b ≡ true → b.collector.phase ≡ 3 → Entry b.collector.tuple b → marked b.collector.tuple b ≡ false
      → b.collector.live + size_of b.collector.tuple b + 1 ≤ b.m → step b ≡ going (to_phase 2 (shade b.collector.tuple b)) → Step b
  -- 4
  keeps_last : sound b ≡ true → b.collector.phase ≡ 4 → Entry b.collector.tuple b → swept_after b ≤ b.m → marked b.collector.tuple b ≡ true
      → b.collector.src ≡ b.collector.dest → swept_after b ≡ b.top → step b ≡ end_cycle b (kept_last_box b) → Step b
  keeps : sound b ≡ true → b.collector.phase ≡ 4 → Entry b.collector.tuple b → swept_after b ≤ b.m → marked b.collector.tuple b ≡ true
      → b.collector.src ≡ b.collector.dest → swept_after b ≢ b.top → swept_after b < b.m → step b ≡ going (kept_box b) → Step b
  starts_move : sound b ≡ true → b.collector.phase ≡ 4 → Entry b.collector.tuple b → swept_after b ≤ b.m → marked b.collector.tuple b ≡ true
      → b.collector.src ≢ b.collector.dest → step b ≡ going (move_begun_box b) → Step b
  releases : sound b ≡ true → b.collector.phase ≡ 4 → Entry b.collector.tuple b → swept_after b ≤ b.m → marked b.collector.tuple b ≡ false
      → b.collector.src + swept_size b < b.collector.live → swept_after b < b.m → step b ≡ going (released_box b) → Step b
  starts_zero : sound b ≡ true → b.collector.phase ≡ 4 → Entry b.collector.tuple b → swept_after b ≤ b.m → marked b.collector.tuple b ≡ false
      → b.collector.live ≤ b.collector.src + swept_size b → step b ≡ going (zero_begun_box b) → Step b
  -- 5
  copies_low : sound b ≡ true → b.collector.phase ≡ 5 → b.collector.index ≤ b.collector.size → b.collector.src + b.collector.index < b.m
      → b.collector.src + b.collector.index < b.collector.live → step b ≡ going (copied_box 7 b) → Step b
  copies_high : sound b ≡ true → b.collector.phase ≡ 5 → b.collector.index ≤ b.collector.size → b.collector.src + b.collector.index < b.m
      → b.collector.live ≤ b.collector.src + b.collector.index → step b ≡ going (copied_box 6 b) → Step b
  ends_move : sound b ≡ true → b.collector.phase ≡ 5 → b.collector.size < b.collector.index → Entry b.collector.tuple b → moved_end b ≤ b.m
      → after b ≤ b.m → after b ≡ b.top → step b ≡ end_cycle b (moved_last_box b) → Step b
  moves_on : sound b ≡ true → b.collector.phase ≡ 5 → b.collector.size < b.collector.index → Entry b.collector.tuple b → moved_end b ≤ b.m
      → after b ≢ b.top → after b < b.m → step b ≡ going (moved_box b) → Step b
  -- 6
  clears : sound b ≡ true → b.collector.phase ≡ 6 → b.collector.src + b.collector.index < b.m → step b ≡ going (cleared_box b) → Step b
  -- 7
  writes : sound b ≡ true → b.collector.phase ≡ 7 → b.collector.dest + b.collector.index < b.m → step b ≡ going (write_copy b) → Step b
  -- 8
  zeroes : sound b ≡ true → b.collector.phase ≡ 8 → b.collector.index ≤ b.collector.size → b.collector.src + b.collector.index < b.m
      → step b ≡ going (zero_word b) → Step b
  zero_ends : sound b ≡ true → b.collector.phase ≡ 8 → b.collector.size < b.collector.index → after b ≤ b.m → after b ≡ b.top
      → step b ≡ end_cycle b (zeroed_last_box b) → Step b
  zero_on : sound b ≡ true → b.collector.phase ≡ 8 → b.collector.size < b.collector.index → after b ≢ b.top → after b < b.m
      → step b ≡ going (go_on (after b) b) → Step b

-- ---- 0 Rest

-- whether a request is held or not, a cycle has begun under it if it is
noted : (t : Bool) (b : Box) → cond t (with_begun true b) b ≡ with_begun (t || b.hold.begun) b
noted true b = refl
noted false b = refl

rest_is : (b : Box) → rest b ≡ going (rested_box b)
unfolding rest note_begun
rest_is b = ap going (noted b.hold.held (with_live 0 (with_current 0 (with_next 0 (with_phase 1 b)))))

-- ---- 1 Mark next

-- of the last n registers, those below r are passed over
abbrev PassedFrom : ℕ → ℕ → Box → Type 0
PassedFrom n r b = (q : ℕ) → register_count ≤ q + n → q < r → Passed q b

-- what a look at the last n registers finds
data Look (n : ℕ) (b : Box) : Type 0 where
  look_root : (r : ℕ) → r < register_count → PassedFrom n r b → names_tuple (register r b) ≡ true → Entry (handle_of (register r b)) b
      → marked (handle_of (register r b)) b ≡ false → look_from n b ≡ unmarked (handle_of (register r b)) → Look n b
  look_lost : (r : ℕ) → r < register_count → PassedFrom n r b → names_tuple (register r b) ≡ true → ¬ Entry (handle_of (register r b)) b
      → look_from n b ≡ damaged → Look n b
  look_none : PassedFrom n register_count b → look_from n b ≡ nothing → Look n b

-- the register that a look at the last n + 1 begins with
abbrev first_of : ℕ → ℕ
first_of n = register_count - suc n

-- one more register, passed over
passed_more : (n r : ℕ) (b : Box) → r ≤ register_count → Passed (first_of n) b → PassedFrom n r b → PassedFrom (suc n) r b
passed_more n r b z k g q a l = go (eq? q (first_of n))
  where
    go : (q ≡ first_of n) ⊎ (q ≢ first_of n) → Passed q b
    go (inl e) = subst (λ (q : ℕ). Passed q b) (sym e) k
    go (inr e) = g q (omega arith) l

look_later : (n : ℕ) (b : Box) → Passed (first_of n) b → look_from (suc n) b ≡ look_from n b → Look n b → Look (suc n) b
look_later n b k e (look_root r l g w h u f) = look_root r l (passed_more n r b (omega arith) k g) w h u (e ∙ f)
look_later n b k e (look_lost r l g w h f) = look_lost r l (passed_more n r b (omega arith) k g) w h (e ∙ f)
look_later n b k e (look_none g f) = look_none (passed_more n register_count b (omega arith) k g) (e ∙ f)

-- no register lies below the first of the look
none_below : (n : ℕ) (b : Box) → PassedFrom (suc n) (first_of n) b
none_below n b q a l = absurd (omega arith)

look : (n : ℕ) (b : Box) → Look n b
unfolding look_from look_register
look zero b = look_none (λ q a l. absurd (omega arith)) refl
look (suc n) b = by_name (look n b) (true? (names_tuple (register (first_of n) b)))
  where
    by_mark : Look n b → names_tuple (register (first_of n) b) ≡ true → Entry (handle_of (register (first_of n) b)) b
        → (marked (handle_of (register (first_of n) b)) b ≡ true) ⊎ (marked (handle_of (register (first_of n) b)) b ≡ false) → Look (suc n) b
    by_mark l w e (inl t) = look_later n b (λ x. (e, t)) (simp (w, entry_true (handle_of (register (first_of n) b)) b e, t)) l
    by_mark l w e (inr t) = look_root (first_of n) (omega arith) (none_below n b) w e t (simp (w, entry_true (handle_of (register (first_of n) b)) b e, t))

    by_entry : Look n b → names_tuple (register (first_of n) b) ≡ true
        → Entry (handle_of (register (first_of n) b)) b ⊎ (¬ Entry (handle_of (register (first_of n) b)) b) → Look (suc n) b
    by_entry l w (inl e) = by_mark l w e (true? (marked (handle_of (register (first_of n) b)) b))
    by_entry l w (inr e) = look_lost (first_of n) (omega arith) (none_below n b) w e (simp (w, entry_false (handle_of (register (first_of n) b)) b e))

    by_name : Look n b → (names_tuple (register (first_of n) b) ≡ true) ⊎ (names_tuple (register (first_of n) b) ≡ false) → Look (suc n) b
    by_name l (inl w) = by_entry l w (entry? (handle_of (register (first_of n) b)) b)
    by_name l (inr w) = look_later n b (λ x. absurd (true≢false (sym x ∙ w))) (simp w) l

mark_next_view : (b : Box) → sound b ≡ true → b.collector.phase ≡ 1 → step b ≡ mark_next b → Step b
unfolding mark_next scan_next mark_root end_marking
mark_next_view b s p st = by_next (eq? b.collector.next 0)
  where
    by_total : b.collector.next ≡ 0 → (r : ℕ) → r < register_count → PassedBelow r b → names_tuple (register r b) ≡ true → Entry (handle_of (register r b)) b
        → marked (handle_of (register r b)) b ≡ false → look_from register_count b ≡ unmarked (handle_of (register r b))
        → (b.collector.live + size_of (handle_of (register r b)) b + 1 ≤ b.m) ⊎ (b.m < b.collector.live + size_of (handle_of (register r b)) b + 1) → Step b
    by_total z r l g w e u f (inl v) = shades_root s p z r l g w e u v (st ∙ simp (eq-eqb b.collector.next 0 z, f, can_shade_unmarked (handle_of (register r b)) b e u v))
    by_total z r l g w e u f (inr v) = nine s (root_total p z r l g w e u v) (st ∙ simp (eq-eqb b.collector.next 0 z, f, can_shade_total (handle_of (register r b)) b e u v))

    by_top : b.collector.next ≡ 0 → RootsMarked b → look_from register_count b ≡ nothing → (b.top ≡ 0) ⊎ (b.top ≢ 0) → Step b
    by_top z k f (inl t) = ends_empty s p z k t (st ∙ simp (eq-eqb b.collector.next 0 z, f, eq-eqb b.top 0 t))
    by_top z k f (inr t) = begins_sweep s p z k t (st ∙ simp (eq-eqb b.collector.next 0 z, f, ne_eqb b.top 0 t))

    by_look : b.collector.next ≡ 0 → Look register_count b → Step b
    by_look z (look_root r l g w e u f) = by_total z r l (λ q m. g q (omega arith) m) w e u f (le? (b.collector.live + size_of (handle_of (register r b)) b + 1) b.m)
    by_look z (look_lost r l g w e f) = nine s (root_lost p z r l (λ q m. g q (omega arith) m) w e) (st ∙ simp (eq-eqb b.collector.next 0 z, f))
    by_look z (look_none k f) = by_top z (λ r l. k r (omega arith) l) f (eq? b.top 0)

    by_entry : b.collector.next ≢ 0 → Entry b.collector.next b ⊎ (¬ Entry b.collector.next b) → Step b
    by_entry n (inl e) = takes_next s p n e (st ∙ simp (ne_eqb b.collector.next 0 n, entry_true b.collector.next b e))
    by_entry n (inr e) = nine s (next_lost p n e) (st ∙ simp (ne_eqb b.collector.next 0 n, entry_false b.collector.next b e))

    by_next : (b.collector.next ≡ 0) ⊎ (b.collector.next ≢ 0) → Step b
    by_next (inl z) = by_look z (look register_count b)
    by_next (inr n) = by_entry n (entry? b.collector.next b)

-- ---- 2 Mark scan

mark_scan_view : (b : Box) → sound b ≡ true → b.collector.phase ≡ 2 → step b ≡ mark_scan b → Step b
unfolding mark_scan scan_word scan_current
mark_scan_view b s p st = by_index (le? b.collector.index b.collector.size)
  where
    by_word : b.collector.index ≤ b.collector.size → b.collector.src + b.collector.index < b.m
        → (names_tuple (word_at (b.collector.src + b.collector.index) b) ≡ true) ⊎ (names_tuple (word_at (b.collector.src + b.collector.index) b) ≡ false) → Step b
    by_word i a (inl w) = scans_pointer s p i a w (st ∙ simp (le-leb b.collector.index b.collector.size i, lt-ltb (b.collector.src + b.collector.index) b.m a, w))
    by_word i a (inr w) = scans_data s p i a w (st ∙ simp (le-leb b.collector.index b.collector.size i, lt-ltb (b.collector.src + b.collector.index) b.m a, w))

    by_address : b.collector.index ≤ b.collector.size → (b.collector.src + b.collector.index < b.m) ⊎ (b.m ≤ b.collector.src + b.collector.index) → Step b
    by_address i (inl a) = by_word i a (true? (names_tuple (word_at (b.collector.src + b.collector.index) b)))
    by_address i (inr a) = nine s (scan_past p i a) (st ∙ simp (le-leb b.collector.index b.collector.size i, le-ltb (b.collector.src + b.collector.index) b.m a))

    by_entry : b.collector.size < b.collector.index → b.collector.current ≢ 0 → Entry b.collector.current b ⊎ (¬ Entry b.collector.current b) → Step b
    by_entry i n (inl e) =
        takes_current s p i n e
        (st ∙ simp (lt-leb b.collector.index b.collector.size i, ne_eqb b.collector.current 0 n, entry_true b.collector.current b e))
    by_entry i n (inr e) =
        nine s (current_lost p i n e)
        (st ∙ simp (lt-leb b.collector.index b.collector.size i, ne_eqb b.collector.current 0 n, entry_false b.collector.current b e))

    by_current : b.collector.size < b.collector.index → (b.collector.current ≡ 0) ⊎ (b.collector.current ≢ 0) → Step b
    by_current i (inl z) = scan_ends s p i z (st ∙ simp (lt-leb b.collector.index b.collector.size i, eq-eqb b.collector.current 0 z))
    by_current i (inr n) = by_entry i n (entry? b.collector.current b)

    by_index : (b.collector.index ≤ b.collector.size) ⊎ (b.collector.size < b.collector.index) → Step b
    by_index (inl i) = by_address i (lt? (b.collector.src + b.collector.index) b.m)
    by_index (inr i) = by_current i (eq? b.collector.current 0)

-- ---- 3 Mark add

mark_add_view : (b : Box) → sound b ≡ true → b.collector.phase ≡ 3 → step b ≡ mark_add b → Step b
unfolding mark_add
mark_add_view b s p st = go (shading b.collector.tuple b)
  where
    go : Shading b.collector.tuple b → Step b
    go (shaded e t) = adds_marked s p e t (st ∙ simp (can_shade_marked b.collector.tuple b e t, shade_marked b.collector.tuple b t))
    go (unshaded e t l) = adds_unmarked s p e t l (st ∙ simp (can_shade_unmarked b.collector.tuple b e t l))
    go (shade_lost e) = nine s (add_lost p e) (st ∙ simp (can_shade_lost b.collector.tuple b e))
    go (shade_total e t l) = nine s (add_total p e t l) (st ∙ simp (can_shade_total b.collector.tuple b e t l))

-- ---- 4 Sweep scan

-- the words from live on: none of them lies before the tuple where live is at or below src
first_zero : (src live : ℕ) → cond (ltb src live) (live - src) 0 ≡ live - src
first_zero src live = go (lt? src live)
  where
    go : (src < live) ⊎ (live ≤ src) → cond (ltb src live) (live - src) 0 ≡ live - src
    go (inl l) = simp (lt-ltb src live l)
    go (inr l) = simp (le-ltb src live l) (omega arith)

sweep_scan_view : (b : Box) → sound b ≡ true → b.collector.phase ≡ 4 → step b ≡ sweep_scan b → Step b
unfolding sweep_scan sweep_tuple keep_in_place start_move release go_on free_tuple start_zero
sweep_scan_view b s p st = by_entry (entry? b.collector.tuple b)
  where
    by_top : Entry b.collector.tuple b → swept_after b ≤ b.m → marked b.collector.tuple b ≡ true → b.collector.src ≡ b.collector.dest
        → (swept_after b ≡ b.top) ⊎ (swept_after b ≢ b.top) → (swept_after b < b.m) ⊎ (b.m ≤ swept_after b) → Step b
    by_top e a t d (inl q) l =
        keeps_last s p e a t d q
        (st ∙ simp (entry_true b.collector.tuple b e, le-leb (swept_after b) b.m a, t, eq-eqb b.collector.src b.collector.dest d, eq-eqb (swept_after b) b.top q))
    by_top e a t d (inr q) (inl l) =
        keeps s p e a t d q l
        (st ∙ simp (entry_true b.collector.tuple b e, le-leb (swept_after b) b.m a, t, eq-eqb b.collector.src b.collector.dest d, ne_eqb (swept_after b) b.top q, lt-ltb (swept_after b) b.m l))
    by_top e a t d (inr q) (inr l) =
        nine s (keep_past p e a t d q l)
        (st ∙ simp (entry_true b.collector.tuple b e, le-leb (swept_after b) b.m a, t, eq-eqb b.collector.src b.collector.dest d, ne_eqb (swept_after b) b.top q, le-ltb (swept_after b) b.m l))

    by_dest : Entry b.collector.tuple b → swept_after b ≤ b.m → marked b.collector.tuple b ≡ true
        → (b.collector.src ≡ b.collector.dest) ⊎ (b.collector.src ≢ b.collector.dest) → Step b
    by_dest e a t (inl d) = by_top e a t d (eq? (swept_after b) b.top) (lt? (swept_after b) b.m)
    by_dest e a t (inr d) =
        starts_move s p e a t d
        (st ∙ simp (entry_true b.collector.tuple b e, le-leb (swept_after b) b.m a, t, ne_eqb b.collector.src b.collector.dest d))

    by_live : Entry b.collector.tuple b → swept_after b ≤ b.m → marked b.collector.tuple b ≡ false
        → (b.collector.src + swept_size b < b.collector.live) ⊎ (b.collector.live ≤ b.collector.src + swept_size b)
        → (swept_after b < b.m) ⊎ (b.m ≤ swept_after b) → Step b
    by_live e a t (inl v) (inl l) =
        releases s p e a t v l
        (st ∙ simp (entry_true b.collector.tuple b e, le-leb (swept_after b) b.m a, t, lt-ltb (b.collector.src + swept_size b) b.collector.live v, lt-ltb (swept_after b) b.m l))
    by_live e a t (inl v) (inr l) =
        nine s (release_past p e a t v l)
        (st ∙ simp (entry_true b.collector.tuple b e, le-leb (swept_after b) b.m a, t, lt-ltb (b.collector.src + swept_size b) b.collector.live v, le-ltb (swept_after b) b.m l))
    by_live e a t (inr v) l =
        starts_zero s p e a t v
        (st ∙ simp (entry_true b.collector.tuple b e, le-leb (swept_after b) b.m a, t, le-ltb (b.collector.src + swept_size b) b.collector.live v, first_zero b.collector.src b.collector.live))

    by_mark : Entry b.collector.tuple b → swept_after b ≤ b.m → (marked b.collector.tuple b ≡ true) ⊎ (marked b.collector.tuple b ≡ false) → Step b
    by_mark e a (inl t) = by_dest e a t (eq? b.collector.src b.collector.dest)
    by_mark e a (inr t) = by_live e a t (lt? (b.collector.src + swept_size b) b.collector.live) (lt? (swept_after b) b.m)

    by_after : Entry b.collector.tuple b → (swept_after b ≤ b.m) ⊎ (b.m < swept_after b) → Step b
    by_after e (inl a) = by_mark e a (true? (marked b.collector.tuple b))
    by_after e (inr a) = nine s (sweep_after p e a) (st ∙ simp (entry_true b.collector.tuple b e, lt-leb (swept_after b) b.m a))

    by_entry : Entry b.collector.tuple b ⊎ (¬ Entry b.collector.tuple b) → Step b
    by_entry (inl e) = by_after e (le? (swept_after b) b.m)
    by_entry (inr e) = nine s (sweep_lost p e) (st ∙ simp (entry_false b.collector.tuple b e))

-- ---- 5 Sweep read

sweep_read_view : (b : Box) → sound b ≡ true → b.collector.phase ≡ 5 → step b ≡ sweep_read b → Step b
unfolding sweep_read copy_word finish_move leave_tuple settle_move go_on
sweep_read_view b s p st = by_index (le? b.collector.index b.collector.size)
  where
    by_live : b.collector.index ≤ b.collector.size → b.collector.src + b.collector.index < b.m
        → (b.collector.src + b.collector.index < b.collector.live) ⊎ (b.collector.live ≤ b.collector.src + b.collector.index) → Step b
    by_live i a (inl v) =
        copies_low s p i a v
        (st ∙ simp (le-leb b.collector.index b.collector.size i, lt-ltb (b.collector.src + b.collector.index) b.m a, lt-ltb (b.collector.src + b.collector.index) b.collector.live v))
    by_live i a (inr v) =
        copies_high s p i a v
        (st ∙ simp (le-leb b.collector.index b.collector.size i, lt-ltb (b.collector.src + b.collector.index) b.m a, le-ltb (b.collector.src + b.collector.index) b.collector.live v))

    by_address : b.collector.index ≤ b.collector.size → (b.collector.src + b.collector.index < b.m) ⊎ (b.m ≤ b.collector.src + b.collector.index) → Step b
    by_address i (inl a) = by_live i a (lt? (b.collector.src + b.collector.index) b.collector.live)
    by_address i (inr a) = nine s (read_past p i a) (st ∙ simp (le-leb b.collector.index b.collector.size i, le-ltb (b.collector.src + b.collector.index) b.m a))

    by_top : b.collector.size < b.collector.index → Entry b.collector.tuple b → moved_end b ≤ b.m → after b ≤ b.m
        → (after b ≡ b.top) ⊎ (after b ≢ b.top) → (after b < b.m) ⊎ (b.m ≤ after b) → Step b
    by_top i e d a (inl q) l =
        ends_move s p i e d a q
        (st ∙ simp (lt-leb b.collector.index b.collector.size i, entry_true b.collector.tuple b e, le-leb (moved_end b) b.m d, le-leb (after b) b.m a, eq-eqb (after b) b.top q))
    by_top i e d a (inr q) (inl l) =
        moves_on s p i e d q l
        (st ∙ simp (lt-leb b.collector.index b.collector.size i, entry_true b.collector.tuple b e, le-leb (moved_end b) b.m d, le-leb (after b) b.m a, ne_eqb (after b) b.top q, lt-ltb (after b) b.m l))
    by_top i e d a (inr q) (inr l) =
        nine s (finish_past p i e d a q l)
        (st ∙ simp (lt-leb b.collector.index b.collector.size i, entry_true b.collector.tuple b e, le-leb (moved_end b) b.m d, le-leb (after b) b.m a, ne_eqb (after b) b.top q, le-ltb (after b) b.m l))

    by_after : b.collector.size < b.collector.index → Entry b.collector.tuple b → moved_end b ≤ b.m → (after b ≤ b.m) ⊎ (b.m < after b) → Step b
    by_after i e d (inl a) = by_top i e d a (eq? (after b) b.top) (lt? (after b) b.m)
    by_after i e d (inr a) =
        nine s (finish_after p i e d a)
        (st ∙ simp (lt-leb b.collector.index b.collector.size i, entry_true b.collector.tuple b e, le-leb (moved_end b) b.m d, lt-leb (after b) b.m a))

    by_end : b.collector.size < b.collector.index → Entry b.collector.tuple b → (moved_end b ≤ b.m) ⊎ (b.m < moved_end b) → Step b
    by_end i e (inl d) = by_after i e d (le? (after b) b.m)
    by_end i e (inr d) =
        nine s (finish_total p i e d)
        (st ∙ simp (lt-leb b.collector.index b.collector.size i, entry_true b.collector.tuple b e, lt-leb (moved_end b) b.m d))

    by_entry : b.collector.size < b.collector.index → Entry b.collector.tuple b ⊎ (¬ Entry b.collector.tuple b) → Step b
    by_entry i (inl e) = by_end i e (le? (moved_end b) b.m)
    by_entry i (inr e) = nine s (finish_lost p i e) (st ∙ simp (lt-leb b.collector.index b.collector.size i, entry_false b.collector.tuple b e))

    by_index : (b.collector.index ≤ b.collector.size) ⊎ (b.collector.size < b.collector.index) → Step b
    by_index (inl i) = by_address i (lt? (b.collector.src + b.collector.index) b.m)
    by_index (inr i) = by_entry i (entry? b.collector.tuple b)

-- ---- 6 Sweep clear, 7 Sweep write

sweep_clear_view : (b : Box) → sound b ≡ true → b.collector.phase ≡ 6 → step b ≡ sweep_clear b → Step b
unfolding sweep_clear
sweep_clear_view b s p st = go (lt? (b.collector.src + b.collector.index) b.m)
  where
    go : (b.collector.src + b.collector.index < b.m) ⊎ (b.m ≤ b.collector.src + b.collector.index) → Step b
    go (inl a) = clears s p a (st ∙ simp (lt-ltb (b.collector.src + b.collector.index) b.m a))
    go (inr a) = nine s (clear_past p a) (st ∙ simp (le-ltb (b.collector.src + b.collector.index) b.m a))

sweep_write_view : (b : Box) → sound b ≡ true → b.collector.phase ≡ 7 → step b ≡ sweep_write b → Step b
unfolding sweep_write
sweep_write_view b s p st = go (lt? (b.collector.dest + b.collector.index) b.m)
  where
    go : (b.collector.dest + b.collector.index < b.m) ⊎ (b.m ≤ b.collector.dest + b.collector.index) → Step b
    go (inl a) = writes s p a (st ∙ simp (lt-ltb (b.collector.dest + b.collector.index) b.m a))
    go (inr a) = nine s (write_past p a) (st ∙ simp (le-ltb (b.collector.dest + b.collector.index) b.m a))

-- ---- 8 Sweep zero

sweep_zero_view : (b : Box) → sound b ≡ true → b.collector.phase ≡ 8 → step b ≡ sweep_zero b → Step b
unfolding sweep_zero leave_tuple
sweep_zero_view b s p st = by_index (le? b.collector.index b.collector.size)
  where
    by_address : b.collector.index ≤ b.collector.size → (b.collector.src + b.collector.index < b.m) ⊎ (b.m ≤ b.collector.src + b.collector.index) → Step b
    by_address i (inl a) = zeroes s p i a (st ∙ simp (le-leb b.collector.index b.collector.size i, lt-ltb (b.collector.src + b.collector.index) b.m a))
    by_address i (inr a) = nine s (zero_past p i a) (st ∙ simp (le-leb b.collector.index b.collector.size i, le-ltb (b.collector.src + b.collector.index) b.m a))

    by_top : b.collector.size < b.collector.index → after b ≤ b.m → (after b ≡ b.top) ⊎ (after b ≢ b.top)
        → (after b < b.m) ⊎ (b.m ≤ after b) → Step b
    by_top i a (inl q) l =
        zero_ends s p i a q
        (st ∙ simp (lt-leb b.collector.index b.collector.size i, le-leb (after b) b.m a, eq-eqb (after b) b.top q))
    by_top i a (inr q) (inl l) =
        zero_on s p i q l
        (st ∙ simp (lt-leb b.collector.index b.collector.size i, le-leb (after b) b.m a, ne_eqb (after b) b.top q, lt-ltb (after b) b.m l))
    by_top i a (inr q) (inr l) =
        nine s (zero_past_on p i a q l)
        (st ∙ simp (lt-leb b.collector.index b.collector.size i, le-leb (after b) b.m a, ne_eqb (after b) b.top q, le-ltb (after b) b.m l))

    by_after : b.collector.size < b.collector.index → (after b ≤ b.m) ⊎ (b.m < after b) → Step b
    by_after i (inl a) = by_top i a (eq? (after b) b.top) (lt? (after b) b.m)
    by_after i (inr a) = nine s (zero_after p i a) (st ∙ simp (lt-leb b.collector.index b.collector.size i, lt-leb (after b) b.m a))

    by_index : (b.collector.index ≤ b.collector.size) ⊎ (b.collector.size < b.collector.index) → Step b
    by_index (inl i) = by_address i (lt? (b.collector.src + b.collector.index) b.m)
    by_index (inr i) = by_after i (le? (after b) b.m)

-- ---- any step

step_is : (b : Box) → sound b ≡ true → step b ≡ rule_of b.collector.phase b
unfolding step
step_is b s = simp s

view_of : (b : Box) → sound b ≡ true → (p : ℕ) → b.collector.phase ≡ p → p ≤ last_phase → step b ≡ rule_of p b → Step b
unfolding rule_of
view_of b s zero e l st = rests s e (st ∙ rest_is b)
view_of b s (suc zero) e l st = mark_next_view b s e st
view_of b s (suc (suc zero)) e l st = mark_scan_view b s e st
view_of b s (suc (suc (suc zero))) e l st = mark_add_view b s e st
view_of b s (suc (suc (suc (suc zero)))) e l st = sweep_scan_view b s e st
view_of b s (suc (suc (suc (suc (suc zero))))) e l st = sweep_read_view b s e st
view_of b s (suc (suc (suc (suc (suc (suc zero)))))) e l st = sweep_clear_view b s e st
view_of b s (suc (suc (suc (suc (suc (suc (suc zero))))))) e l st = sweep_write_view b s e st
view_of b s (suc (suc (suc (suc (suc (suc (suc (suc zero)))))))) e l st = sweep_zero_view b s e st
view_of b s (suc (suc (suc (suc (suc (suc (suc (suc (suc p))))))))) e l st = absurd (omega arith)

pub view : (b : Box) → Step b
unfolding step
view b = go (true? (sound b))
  where
    go : (sound b ≡ true) ⊎ (sound b ≡ false) → Step b
    go (inl s) = view_of b s b.collector.phase refl (sound_phase b s) (step_is b s)
    go (inr s) = unsound s (simp s)
