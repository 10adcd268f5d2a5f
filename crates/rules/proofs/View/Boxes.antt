-- The boxes that the transitions of the collector leave, by phase, where the rule's own definition is not the box already. The
-- views and the transitions' lemmas speak of these. Definitions only. Assumes nothing.
use Prim.Native.Nat.{ℕ, ◌+◌, ◌-◌}
use mathlib.Core.Bool.{false, ◌||◌}
use Rattle.rules.specs.Parts.{Box, with_begun, with_copy, with_current, with_dest, with_free, with_index, with_live, with_next, with_phase, with_size, with_src, with_top, with_tuple}
use Rattle.rules.specs.Box.{data_word, handle_of, word_at, put, size_of, set_address, set_link, set_mark}
use Rattle.rules.specs.Collector.{to_phase, after}

-- 0: the cycle begins, and a hold notes it
abbrev pub rested_box : Box → Box
rested_box b =
    with_live 0
    (with_current 0 (with_next 0 (with_phase 1 (with_begun (b.hold.held || b.hold.begun) b))))

-- 2: the word under the scan is passed over, or names the tuple to be added
abbrev pub scanned_data_box : Box → Box
scanned_data_box b = with_index (b.collector.index + 1) b

abbrev pub scanned_pointer_box : Box → Box
scanned_pointer_box b =
    with_index (b.collector.index + 1)
    (with_tuple (handle_of (word_at (b.collector.src + b.collector.index) b)) (with_phase 3 b))

-- 4: the size of the tuple at src, from its entry, and the word behind it
abbrev pub swept_size : Box → ℕ
swept_size b = size_of b.collector.tuple b

abbrev pub swept_after : Box → ℕ
swept_after b = b.collector.src + swept_size b + 1

-- the last tuple is kept in place
abbrev pub kept_last_box : Box → Box
kept_last_box b = set_mark b.collector.tuple false (with_size (swept_size b) b)

-- a tuple is kept in place, and another lies behind it
abbrev pub kept_box : Box → Box
kept_box b =
    set_mark b.collector.tuple false
    (with_src (swept_after b)
    (with_dest (swept_after b)
    (with_tuple (handle_of (word_at (swept_after b) b)) (with_size (swept_size b) (with_phase 4 b)))))

-- a tuple begins to be moved
abbrev pub move_begun_box : Box → Box
move_begun_box b =
    set_mark b.collector.tuple false
    (with_size (swept_size b) (with_index 0 (with_phase 5 b)))

-- an unmarked tuple below live is freed, and the sweep goes on behind it
abbrev pub released_box : Box → Box
released_box b =
    set_link b.collector.tuple b.free
    (with_free b.collector.tuple
    (with_src (swept_after b)
    (with_tuple (handle_of (word_at (swept_after b) b)) (with_size (swept_size b) (with_phase 4 b)))))

-- an unmarked tuple that reaches live is freed, and its words from live on are to be zeroed
abbrev pub zero_begun_box : Box → Box
zero_begun_box b =
    set_link b.collector.tuple b.free
    (with_free b.collector.tuple
    (with_size (swept_size b) (with_index (b.collector.live - b.collector.src) (with_phase 8 b))))

-- 5: the word at src + index is in the copy register, and the phase is p
abbrev pub copied_box : ℕ → Box → Box
copied_box p b =
    with_copy (word_at (b.collector.src + b.collector.index) b) (with_phase p b)

-- where the tuple being moved ends
abbrev pub moved_end : Box → ℕ
moved_end b = b.collector.dest + b.collector.size + 1

-- the last tuple has been moved
abbrev pub moved_last_box : Box → Box
moved_last_box b =
    set_address b.collector.tuple b.collector.dest
    (with_top (moved_end b) (with_dest (moved_end b) b))

-- a tuple has been moved, and the sweep goes on behind where it was
abbrev pub moved_box : Box → Box
moved_box b =
    set_address b.collector.tuple b.collector.dest
    (with_dest (moved_end b)
    (with_src (after b) (with_tuple (handle_of (word_at (after b) b)) (with_phase 4 b))))

-- 6: the word copied is cleared where it was
abbrev pub cleared_box : Box → Box
cleared_box b = to_phase 7 (put (b.collector.src + b.collector.index) (data_word 0) b)

-- 8: behind the last tuple zeroed, top is dest
abbrev pub zeroed_last_box : Box → Box
zeroed_last_box b = with_top b.collector.dest b
