-- Document 01, "Collector steps": the nine rules, one definition each, and the end of a cycle. A rule tests all that it
-- looks up, touches and forms before it changes anything, and answers 9 with the box as found where a test fails.
use Rattle.std.specs.Prelude.{ℕ, zero, suc, ◌+◌, ◌-◌, true, false, cond, ◌&&◌, leb, ltb, eqb}
use Rattle.rules.specs.Limits.{register_count}
use Rattle.rules.specs.Parts.{Box, with_begun, with_copy, with_current, with_dest, with_free, with_held, with_index, with_live, with_next, with_phase, with_size, with_src, with_top, with_tuple}
use Rattle.rules.specs.Box.{Reply, reply, data_word, handle_of, names_tuple, word_at, put, register, address, size_of, link, marked, set_address, set_link, set_mark, is_entry, sound}
use Rattle.rules.specs.Place.{can_shade, shade}
use Rattle.rules.specs.Request.{is_register, no_room, can_make, new_tuple}

-- the cycle goes on
abbrev pub going : Box → Reply
going b = reply b 30

abbrev pub to_phase : ℕ → Box → Box
to_phase p b = with_phase p b

-- the word behind the tuple: src + size + 1
abbrev pub after : Box → ℕ
after b = b.collector.src + b.collector.size + 1

-- ---- the end of a cycle

-- live 0 and the phase Rest
unfoldable pub at_rest : Box → Box
at_rest b = with_live 0 (with_phase 0 b)

-- the hold is dropped; its other fields keep their values
unfoldable pub unheld : Box → Box
unheld b = with_held false b

-- the held request is carried out
unfoldable pub granted : Box → Box
granted b = unheld (new_tuple b.hold.register b.hold.size b.hold.tag b)

-- the held request is tried again: 32 granted, 8 dropped if the cycle began while it was held, 33 still held; 9, with the
-- box as it was found before the step, where it would be granted and can't be
unfoldable pub try_held : Box → Box → Reply
try_held found b =
    cond (no_room b.hold.size b)
    (cond b.hold.begun (reply (unheld b) 8) (reply b 33))
    (cond (is_register b.hold.register && can_make b.hold.size b) (reply (granted b) 32)
    (reply found 9))

-- 31 where nothing is held
unfoldable pub settle : Box → Box → Reply
settle found b = cond b.hold.held (try_held found b) (reply b 31)

-- found is the box before the step, b the box as its rule leaves it
unfoldable pub end_cycle : Box → Box → Reply
end_cycle found b = settle found (at_rest b)

-- ---- 0 Rest

-- the hold notes that a cycle begins under it
unfoldable pub note_begun : Box → Box
note_begun b = cond b.hold.held (with_begun true b) b

unfoldable pub rest : Box → Reply
rest b = going (note_begun (with_live 0 (with_current 0 (with_next 0 (with_phase 1 b)))))

-- ---- 1 Mark next

-- to scan: src and size from h's entry, index 1, the list behind h becomes current, phase 2
unfoldable pub scan : ℕ → Box → Box
scan h b =
    with_src (address h b)
    (with_size (size_of h b) (with_index 1 (with_current (link h b) (with_phase 2 b))))

-- what a look at the registers from r on finds
pub data Found : Type 0 where
  -- an unmarked tuple, the first
  unmarked : ℕ → Found
  -- a handle that can't be looked up, before any unmarked tuple
  damaged : Found
  -- none
  nothing : Found

-- nil and data are passed over, and so are marked tuples; none is looked up after the one found
unfoldable pub look_register : ℕ → Box → Found → Found
look_register r b later =
    cond (names_tuple (register r b))
    (cond (is_entry (handle_of (register r b)) b)
    (cond (marked (handle_of (register r b)) b) later (unmarked (handle_of (register r b))))
    damaged)
    later

-- the last n registers, from the lowest
unfoldable pub look_from : ℕ → Box → Found
look_from zero b = nothing
look_from (suc n) b = look_register (register_count - suc n) b (look_from n b)

-- marking is over: with top 0 the cycle ends, else the sweep begins at word 0
unfoldable pub begin_sweep : Box → Box
begin_sweep b =
    with_src 0 (with_dest 0 (with_tuple (handle_of (word_at 0 b)) (with_phase 4 b)))

unfoldable pub end_marking : Box → Reply
end_marking b = cond (eqb b.top 0) (end_cycle b b) (going (begin_sweep b))

unfoldable pub mark_root : Found → Box → Reply
mark_root (unmarked h) b = cond (can_shade h b) (going (shade h b)) (reply b 9)
mark_root damaged b = reply b 9
mark_root nothing b = end_marking b

unfoldable pub scan_next : Box → Reply
scan_next b =
    cond (is_entry b.collector.next b)
    (going (scan b.collector.next (with_next 0 b)))
    (reply b 9)

unfoldable pub mark_next : Box → Reply
mark_next b = cond (eqb b.collector.next 0) (mark_root (look_from register_count b) b) (scan_next b)

-- ---- 2 Mark scan

-- add 1 to index; for a non-nil pointer tuple is its handle, go to 3
unfoldable pub scan_word : Box → Box
scan_word b =
    cond (names_tuple (word_at (b.collector.src + b.collector.index) b))
    (with_index (b.collector.index + 1)
    (with_tuple (handle_of (word_at (b.collector.src + b.collector.index) b)) (with_phase 3 b)))
    (with_index (b.collector.index + 1) b)

unfoldable pub scan_current : Box → Reply
scan_current b =
    cond (eqb b.collector.current 0) (going (to_phase 1 b))
    (cond (is_entry b.collector.current b) (going (scan b.collector.current b)) (reply b 9))

unfoldable pub mark_scan : Box → Reply
mark_scan b =
    cond (leb b.collector.index b.collector.size)
    (cond (ltb (b.collector.src + b.collector.index) b.m) (going (scan_word b)) (reply b 9))
    (scan_current b)

-- ---- 3 Mark add

unfoldable pub mark_add : Box → Reply
mark_add b = cond (can_shade b.collector.tuple b) (going (to_phase 2 (shade b.collector.tuple b))) (reply b 9)

-- ---- 4 Sweep scan. Here b has the tuple's size from its entry already, and found is the box before the step

-- go on in phase 4 with the tuple at address a, whose handle is there
unfoldable pub go_on : ℕ → Box → Box
go_on a b = with_src a (with_tuple (handle_of (word_at a b)) (with_phase 4 b))

-- marked and in place: unmark; at top the cycle ends, else src = dest = after
unfoldable pub keep_in_place : Box → Box → Reply
keep_in_place found b =
    cond (eqb (after b) b.top) (end_cycle found (set_mark b.collector.tuple false b))
    (cond (ltb (after b) b.m)
    (going
    (go_on (after b) (set_mark b.collector.tuple false (with_dest (after b) b))))
    (reply found 9))

-- marked and not in place: unmark, index 0, go to 5
unfoldable pub start_move : Box → Box
start_move b = set_mark b.collector.tuple false (with_index 0 (with_phase 5 b))

-- its handle goes to the head of the free list
unfoldable pub free_tuple : Box → Box
free_tuple b = set_link b.collector.tuple b.free (with_free b.collector.tuple b)

-- the first word to become data 0: where live begins, or the whole tuple
unfoldable pub start_zero : Box → Box
start_zero b =
    with_index (cond (ltb b.collector.src b.collector.live) (b.collector.live - b.collector.src) 0) (with_phase 8 b)

-- unmarked: freed; if src + size < live go on at after, else go to 8
unfoldable pub release : Box → Box → Reply
release found b =
    cond (ltb (b.collector.src + b.collector.size) b.collector.live)
    (cond (ltb (after b) b.m) (going (go_on (after b) (free_tuple b))) (reply found 9))
    (going (start_zero (free_tuple b)))

unfoldable pub sweep_tuple : Box → Box → Reply
sweep_tuple found b =
    cond (leb (after b) b.m)
    (cond (marked b.collector.tuple b)
    (cond (eqb b.collector.src b.collector.dest) (keep_in_place found b) (going (start_move b)))
    (release found b))
    (reply found 9)

unfoldable pub sweep_scan : Box → Reply
sweep_scan b =
    cond (is_entry b.collector.tuple b)
    (sweep_tuple b (with_size (size_of b.collector.tuple b) b))
    (reply b 9)

-- ---- 5 Sweep read

-- behind the tuple: at top, top is dest and the cycle ends, else go on at after in 4
unfoldable pub leave_tuple : Box → Box → Reply
leave_tuple found b =
    cond (leb (after b) b.m)
    (cond (eqb (after b) b.top) (end_cycle found (with_top b.collector.dest b))
    (cond (ltb (after b) b.m) (going (go_on (after b) b)) (reply found 9)))
    (reply found 9)

-- the entry's address is dest, and dest grows by size + 1
unfoldable pub settle_move : Box → Box
settle_move b =
    set_address b.collector.tuple b.collector.dest
    (with_dest (b.collector.dest + b.collector.size + 1) b)

unfoldable pub finish_move : Box → Reply
finish_move b =
    cond (is_entry b.collector.tuple b && leb (b.collector.dest + b.collector.size + 1) b.m)
    (leave_tuple b (settle_move b))
    (reply b 9)

-- copy the word at address a; go to 7 below live, else to 6
unfoldable pub copy_word : ℕ → Box → Box
copy_word a b =
    with_copy (word_at a b) (with_phase (cond (ltb a b.collector.live) 7 6) b)

unfoldable pub sweep_read : Box → Reply
sweep_read b =
    cond (leb b.collector.index b.collector.size)
    (cond (ltb (b.collector.src + b.collector.index) b.m) (going (copy_word (b.collector.src + b.collector.index) b))
    (reply b 9))
    (finish_move b)

-- ---- 6 Sweep clear

unfoldable pub sweep_clear : Box → Reply
sweep_clear b =
    cond (ltb (b.collector.src + b.collector.index) b.m)
    (going (to_phase 7 (put (b.collector.src + b.collector.index) (data_word 0) b)))
    (reply b 9)

-- ---- 7 Sweep write

unfoldable pub write_copy : Box → Box
write_copy b =
    put (b.collector.dest + b.collector.index) b.collector.copy
    (with_index (b.collector.index + 1) (with_phase 5 b))

unfoldable pub sweep_write : Box → Reply
sweep_write b = cond (ltb (b.collector.dest + b.collector.index) b.m) (going (write_copy b)) (reply b 9)

-- ---- 8 Sweep zero

unfoldable pub zero_word : Box → Box
zero_word b =
    put (b.collector.src + b.collector.index) (data_word 0) (with_index (b.collector.index + 1) b)

unfoldable pub sweep_zero : Box → Reply
sweep_zero b =
    cond (leb b.collector.index b.collector.size)
    (cond (ltb (b.collector.src + b.collector.index) b.m) (going (zero_word b)) (reply b 9))
    (leave_tuple b b)

-- ---- one step

-- the rule of a phase; there are none above 8
unfoldable pub rule_of : ℕ → Box → Reply
rule_of zero b = rest b
rule_of (suc zero) b = mark_next b
rule_of (suc (suc zero)) b = mark_scan b
rule_of (suc (suc (suc zero))) b = mark_add b
rule_of (suc (suc (suc (suc zero)))) b = sweep_scan b
rule_of (suc (suc (suc (suc (suc zero))))) b = sweep_read b
rule_of (suc (suc (suc (suc (suc (suc zero)))))) b = sweep_clear b
rule_of (suc (suc (suc (suc (suc (suc (suc zero))))))) b = sweep_write b
rule_of (suc (suc (suc (suc (suc (suc (suc (suc zero)))))))) b = sweep_zero b
rule_of (suc (suc (suc (suc (suc (suc (suc (suc (suc p))))))))) b = reply b 9

-- sizes, lengths and phase first
unfoldable pub step : Box → Reply
step b = cond (sound b) (rule_of b.collector.phase b) (reply b 9)
