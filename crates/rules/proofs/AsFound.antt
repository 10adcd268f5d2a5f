-- A step that answers 9 leaves the box as it was found. Each rule either answers 9 with the box as found or answers something else, and
-- so does the end of a cycle: the tests only choose between such replies. Assumes nothing.
use Prim.Native.Nat.{ℕ, zero, suc, ◌+◌}
use mathlib.Core.Bool.{Bool, true, false, cond, ◌&&◌}
use mathlib.Core.Logic.{◌≢◌}
use mathlib.Core.Path.{◌≡◌, refl}
use lib.Dec.{leb, ltb, eqb}
use native.Mathlib.Omega.{arith}
use Rattle.rules.specs.Limits.{register_count}
use Rattle.rules.specs.Parts.{Box, with_dest, with_next, with_size, with_top}
use Rattle.rules.specs.Box.{Reply, reply, data_word, put, size_of, marked, set_mark, is_entry, sound}
use Rattle.rules.specs.Place.{can_shade, shade}
use Rattle.rules.specs.Request.{is_register, no_room, can_make}
use Rattle.rules.specs.Collector.{to_phase, after, at_rest, unheld, granted, try_held, settle, end_cycle, rest, scan, Found, unmarked, damaged, nothing, look_from, begin_sweep, end_marking, mark_root, scan_next, mark_next, scan_word, scan_current, mark_scan, mark_add, go_on, keep_in_place, start_move, free_tuple, start_zero, release, sweep_tuple, sweep_scan, leave_tuple, settle_move, finish_move, copy_word, sweep_read, sweep_clear, write_copy, sweep_write, zero_word, sweep_zero, rule_of, step}

-- a reply that gives the box back as found where it answers 9
abbrev pub AsFound : Box → Reply → Type 0
AsFound found r = r.answer ≡ 9 → r.box ≡ found

nine : (found : Box) → AsFound found (reply found 9)
nine found e = refl

other : (found b : Box) (a : ℕ) → a ≢ 9 → AsFound found (reply b a)
other found b a n e = absurd (n e)

going_found : (found b : Box) → AsFound found (reply b 30)
going_found found b = other found b 30 (omega arith)

-- a test chooses between such replies
either : (found : Box) (t : Bool) (r s : Reply) → AsFound found r → AsFound found s → AsFound found (cond t r s)
either found true r s x y = x
either found false r s x y = y

-- a step that goes on where a test holds, and else answers 9
go_or_nine : (found : Box) (t : Bool) (b : Box) → AsFound found (cond t (reply b 30) (reply found 9))
go_or_nine found t b = either found t (reply b 30) (reply found 9) (going_found found b) (nine found)

-- ---- the end of a cycle

try_held_found : (found b : Box) → AsFound found (try_held found b)
unfolding try_held
try_held_found found b = go (no_room b.hold.size b) b.hold.begun (is_register b.hold.register && can_make b.hold.size b)
  where
    go : (x y z : Bool) → AsFound found (cond x (cond y (reply (unheld b) 8) (reply b 33)) (cond z (reply (granted b) 32) (reply found 9)))
    go true true z = other found (unheld b) 8 (omega arith)
    go true false z = other found b 33 (omega arith)
    go false y true = other found (granted b) 32 (omega arith)
    go false y false = nine found

settle_found : (found b : Box) → AsFound found (settle found b)
unfolding settle
settle_found found b = either found b.hold.held (try_held found b) (reply b 31) (try_held_found found b) (other found b 31 (omega arith))

end_found : (found b : Box) → AsFound found (end_cycle found b)
unfolding end_cycle
end_found found b = settle_found found (at_rest b)

-- ---- the rules

end_marking_found : (b : Box) → AsFound b (end_marking b)
unfolding end_marking
end_marking_found b = either b (eqb b.top 0) (end_cycle b b) (reply (begin_sweep b) 30) (end_found b b) (going_found b (begin_sweep b))

root_found : (f : Found) (b : Box) → AsFound b (mark_root f b)
unfolding mark_root
root_found (unmarked h) b = go_or_nine b (can_shade h b) (shade h b)
root_found damaged b = nine b
root_found nothing b = end_marking_found b

scan_next_found : (b : Box) → AsFound b (scan_next b)
unfolding scan_next
scan_next_found b = go_or_nine b (is_entry b.collector.next b) (scan b.collector.next (with_next 0 b))

next_found : (b : Box) → AsFound b (mark_next b)
unfolding mark_next
next_found b = either b (eqb b.collector.next 0) (mark_root (look_from register_count b) b) (scan_next b) (root_found (look_from register_count b) b) (scan_next_found b)

scan_current_found : (b : Box) → AsFound b (scan_current b)
unfolding scan_current
scan_current_found b =
    either b (eqb b.collector.current 0) (reply (to_phase 1 b) 30) (cond (is_entry b.collector.current b) (reply (scan b.collector.current b) 30) (reply b 9))
    (going_found b (to_phase 1 b)) (go_or_nine b (is_entry b.collector.current b) (scan b.collector.current b))

scan_found : (b : Box) → AsFound b (mark_scan b)
unfolding mark_scan
scan_found b =
    either b (leb b.collector.index b.collector.size) (cond (ltb (b.collector.src + b.collector.index) b.m) (reply (scan_word b) 30) (reply b 9)) (scan_current b)
    (go_or_nine b (ltb (b.collector.src + b.collector.index) b.m) (scan_word b)) (scan_current_found b)

add_found : (b : Box) → AsFound b (mark_add b)
unfolding mark_add
add_found b = go_or_nine b (can_shade b.collector.tuple b) (to_phase 2 (shade b.collector.tuple b))

keep_found : (found b : Box) → AsFound found (keep_in_place found b)
unfolding keep_in_place
keep_found found b = go (eqb (after b) b.top) (ltb (after b) b.m) (end_cycle found (set_mark b.collector.tuple false b)) (go_on (after b) (set_mark b.collector.tuple false (with_dest (after b) b))) (end_found found (set_mark b.collector.tuple false b))
  where
    go : (x y : Bool) (r : Reply) (c : Box) → AsFound found r → AsFound found (cond x r (cond y (reply c 30) (reply found 9)))
    go x y r c k = either found x r (cond y (reply c 30) (reply found 9)) k (go_or_nine found y c)

release_found : (found b : Box) → AsFound found (release found b)
unfolding release
release_found found b =
    either found (ltb (b.collector.src + b.collector.size) b.collector.live) (cond (ltb (after b) b.m) (reply (go_on (after b) (free_tuple b)) 30) (reply found 9)) (reply (start_zero (free_tuple b)) 30)
    (go_or_nine found (ltb (after b) b.m) (go_on (after b) (free_tuple b))) (going_found found (start_zero (free_tuple b)))

tuple_found : (found b : Box) → AsFound found (sweep_tuple found b)
unfolding sweep_tuple
tuple_found found b = go (leb (after b) b.m) (marked b.collector.tuple b) (eqb b.collector.src b.collector.dest)
  where
    go : (x y z : Bool) → AsFound found (cond x (cond y (cond z (keep_in_place found b) (reply (start_move b) 30)) (release found b)) (reply found 9))
    go true true true = keep_found found b
    go true true false = going_found found (start_move b)
    go true false z = release_found found b
    go false y z = nine found

sweep_found : (b : Box) → AsFound b (sweep_scan b)
unfolding sweep_scan
sweep_found b =
    either b (is_entry b.collector.tuple b) (sweep_tuple b (with_size (size_of b.collector.tuple b) b)) (reply b 9)
    (tuple_found b (with_size (size_of b.collector.tuple b) b)) (nine b)

leave_found : (found b : Box) → AsFound found (leave_tuple found b)
unfolding leave_tuple
leave_found found b = go (leb (after b) b.m) (eqb (after b) b.top) (ltb (after b) b.m)
  where
    go : (x y z : Bool) → AsFound found (cond x (cond y (end_cycle found (with_top b.collector.dest b)) (cond z (reply (go_on (after b) b) 30) (reply found 9))) (reply found 9))
    go true true z = end_found found (with_top b.collector.dest b)
    go true false true = going_found found (go_on (after b) b)
    go true false false = nine found
    go false y z = nine found

finish_found : (b : Box) → AsFound b (finish_move b)
unfolding finish_move
finish_found b = either b (is_entry b.collector.tuple b && leb (b.collector.dest + b.collector.size + 1) b.m) (leave_tuple b (settle_move b)) (reply b 9) (leave_found b (settle_move b)) (nine b)

read_found : (b : Box) → AsFound b (sweep_read b)
unfolding sweep_read
read_found b =
    either b (leb b.collector.index b.collector.size) (cond (ltb (b.collector.src + b.collector.index) b.m) (reply (copy_word (b.collector.src + b.collector.index) b) 30) (reply b 9)) (finish_move b)
    (go_or_nine b (ltb (b.collector.src + b.collector.index) b.m) (copy_word (b.collector.src + b.collector.index) b)) (finish_found b)

zero_found : (b : Box) → AsFound b (sweep_zero b)
unfolding sweep_zero
zero_found b =
    either b (leb b.collector.index b.collector.size) (cond (ltb (b.collector.src + b.collector.index) b.m) (reply (zero_word b) 30) (reply b 9)) (leave_tuple b b)
    (go_or_nine b (ltb (b.collector.src + b.collector.index) b.m) (zero_word b)) (leave_found b b)

clear_found : (b : Box) → AsFound b (sweep_clear b)
unfolding sweep_clear
clear_found b = go_or_nine b (ltb (b.collector.src + b.collector.index) b.m) (to_phase 7 (put (b.collector.src + b.collector.index) (data_word 0) b))

write_found : (b : Box) → AsFound b (sweep_write b)
unfolding sweep_write
write_found b = go_or_nine b (ltb (b.collector.dest + b.collector.index) b.m) (write_copy b)

rest_found : (b : Box) → AsFound b (rest b)
unfolding rest
rest_found b e = absurd (thirty e)
  where
    thirty : ◌≡◌ {A = ℕ} 30 9 → ⊥
    thirty q = omega arith

rule_found : (p : ℕ) (b : Box) → AsFound b (rule_of p b)
unfolding rule_of
rule_found zero b = rest_found b
rule_found (suc zero) b = next_found b
rule_found (suc (suc zero)) b = scan_found b
rule_found (suc (suc (suc zero))) b = add_found b
rule_found (suc (suc (suc (suc zero)))) b = sweep_found b
rule_found (suc (suc (suc (suc (suc zero))))) b = read_found b
rule_found (suc (suc (suc (suc (suc (suc zero)))))) b = clear_found b
rule_found (suc (suc (suc (suc (suc (suc (suc zero))))))) b = write_found b
rule_found (suc (suc (suc (suc (suc (suc (suc (suc zero)))))))) b = zero_found b
rule_found (suc (suc (suc (suc (suc (suc (suc (suc (suc p))))))))) b = nine b

pub step_found : (b : Box) → AsFound b (step b)
unfolding step
step_found b = either b (sound b) (rule_of b.collector.phase b) (reply b 9) (rule_found b.collector.phase b) (nine b)
