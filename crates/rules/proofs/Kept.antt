-- What every step keeps, of any box: the sizes M and H, the lengths of the columns, the request that the hold names, and that the
-- phase is 0 to 8. So a sound box stays sound. By the cases of each rule: its setters touch none of these, and a column that is
-- written keeps its length. Assumes nothing.
use Prim.Native.Nat.{ℕ, zero, suc, ◌+◌, ◌≤◌}
use mathlib.Core.Bool.{Bool, true, false, not, cond, ◌&&◌, ◌||◌}
use mathlib.Core.Path.{◌≡◌, refl, ◌∙◌, ap, ap₂}
use native.Mathlib.Omega.{arith}
use borrow.Author.Tests.{le-leb, leb-true}
use lib.Dec.{leb, ltb, eqb}
use lib.ListN.{length, length-set}
use Rattle.rules.specs.Limits.{register_count, in_range}
use Rattle.rules.specs.Parts.{Word, Box, with_live, with_next, with_dest, with_size, with_top, with_free, with_index, with_phase, with_current, with_begun, with_tuple}
use Rattle.rules.specs.Box.{Reply, reply, data_word, put, control_word, word_at, handle_of, names_tuple, size_of, marked, deep, set_address, set_size, set_link, set_mark, set_deep, is_entry, lengths_are, right_sizes, sound}
use Rattle.rules.specs.Place.{Place, copy_place, at, can_shade, list_next, mark_live, shade, write}
use Rattle.rules.specs.Request.{is_register, no_room, collecting, can_make, new_entry, take_room, new_tuple, shades, shaded_first, deepened, store_word}
use Rattle.rules.specs.Collector.{to_phase, after, at_rest, unheld, granted, try_held, settle, end_cycle, note_begun, rest, scan, Found, unmarked, damaged, nothing, look_from, begin_sweep, end_marking, mark_root, scan_next, mark_next, scan_word, scan_current, mark_scan, mark_add, go_on, keep_in_place, start_move, free_tuple, start_zero, release, sweep_tuple, sweep_scan, leave_tuple, settle_move, finish_move, copy_word, sweep_read, sweep_clear, write_copy, sweep_write, zero_word, sweep_zero, rule_of, step}
use Rattle.rules.proofs.Sizes.{and_left, and_right}

-- the sizes, the lengths of the columns, and the request that the hold names
pub record Outline : Type 0 where
  pub m : ℕ
  pub h : ℕ
  pub register : ℕ
  pub size : ℕ
  pub tag : ℕ
  pub words : ℕ
  pub flags : ℕ
  pub addresses : ℕ
  pub sizes : ℕ
  pub links : ℕ
  pub marks : ℕ
  pub deeps : ℕ

abbrev pub outline : Box → Outline
outline b = record { m = b.m; h = b.h; register = b.hold.register; size = b.hold.size; tag = b.hold.tag; words = length b.memory.words; flags = length b.memory.flags; addresses = length b.directory.addresses; sizes = length b.directory.sizes; links = length b.directory.links; marks = length b.directory.marks; deeps = length b.directory.deeps }

-- c has what b has, and a phase of 0 to 8 if b has one
pub record Keeps (b c : Box) : Type 0 where
  pub outline_same : outline c ≡ outline b
  pub phase_low : b.collector.phase ≤ 8 → c.collector.phase ≤ 8

pub same : (b : Box) → Keeps b b
same b = record { outline_same = refl; phase_low = λ p. p }

-- ---- tests choose

pub either : (t : Bool) (b : Box) (r s : Reply) → Keeps b r.box → Keeps b s.box → Keeps b (cond t r s).box
either true b r s k l = k
either false b r s k l = l

chosen : (t : Bool) (b c d : Box) → Keeps b c → Keeps b d → Keeps b (cond t c d)
chosen true b c d k l = k
chosen false b c d k l = l

-- ---- a word or an entry is written

module _ (b c : Box) (k : Keeps b c) where
  put_keeps : (a : ℕ) (w : Word) → Keeps b (put a w c)
  put_keeps a w = record { outline_same = simp length-set k.outline_same; phase_low = k.phase_low }

  address_keeps : (h a : ℕ) → Keeps b (set_address h a c)
  address_keeps h a = record { outline_same = simp length-set k.outline_same; phase_low = k.phase_low }

  size_keeps : (h n : ℕ) → Keeps b (set_size h n c)
  size_keeps h n = record { outline_same = simp length-set k.outline_same; phase_low = k.phase_low }

  link_keeps : (h l : ℕ) → Keeps b (set_link h l c)
  link_keeps h l = record { outline_same = simp length-set k.outline_same; phase_low = k.phase_low }

  mark_keeps : (h : ℕ) (t : Bool) → Keeps b (set_mark h t c)
  mark_keeps h t = record { outline_same = simp length-set k.outline_same; phase_low = k.phase_low }

  deep_keeps : (h : ℕ) (t : Bool) → Keeps b (set_deep h t c)
  deep_keeps h t = record { outline_same = simp length-set k.outline_same; phase_low = k.phase_low }

-- ---- shading

module _ (b c : Box) (k : Keeps b c) where
  live_keeps : (h : ℕ) → Keeps b (mark_live h c)
  unfolding mark_live
  live_keeps h = mark_keeps b (with_live (c.collector.live + size_of h c + 1) c) (record { outline_same = k.outline_same; phase_low = k.phase_low }) h true

  next_keeps : (h : ℕ) → Keeps b (list_next h c)
  unfolding list_next
  next_keeps h = link_keeps b (with_next h c) (record { outline_same = k.outline_same; phase_low = k.phase_low }) h c.collector.next

pub shade_keeps : (h : ℕ) (b : Box) → Keeps b (shade h b)
unfolding shade
shade_keeps h b =
    let k = live_keeps b b (same b) h in
    chosen (marked h b) b b (cond (deep h b) (list_next h (mark_live h b)) (mark_live h b)) (same b)
    (chosen (deep h b) b (list_next h (mark_live h b)) (mark_live h b) (next_keeps b (mark_live h b) k h) k)

-- ---- a new tuple

pub tuple_keeps : (r n tag : ℕ) (b c : Box) → Keeps b c → Keeps b (new_tuple r n tag c)
unfolding new_tuple take_room new_entry
tuple_keeps r n tag b c k =
    record {
      outline_same = (put_keeps b (set_address c.free c.top (set_size c.free n (set_mark c.free (collecting c) (set_deep c.free false c))))
          (address_keeps b (set_size c.free n (set_mark c.free (collecting c) (set_deep c.free false c)))
          (size_keeps b (set_mark c.free (collecting c) (set_deep c.free false c))
          (mark_keeps b (set_deep c.free false c) (deep_keeps b c k c.free false) c.free (collecting c))
          c.free n)
          c.free c.top)
          c.top (control_word c.free tag)).outline_same;
      phase_low = (put_keeps b (set_address c.free c.top (set_size c.free n (set_mark c.free (collecting c) (set_deep c.free false c))))
          (address_keeps b (set_size c.free n (set_mark c.free (collecting c) (set_deep c.free false c)))
          (size_keeps b (set_mark c.free (collecting c) (set_deep c.free false c))
          (mark_keeps b (set_deep c.free false c) (deep_keeps b c k c.free false) c.free (collecting c))
          c.free n)
          c.free c.top)
          c.top (control_word c.free tag)).phase_low;
    }

pub granted_keeps : (b c : Box) → Keeps b c → Keeps b (granted c)
unfolding granted unheld
granted_keeps b c k = record { outline_same = (tuple_keeps c.hold.register c.hold.size c.hold.tag b c k).outline_same; phase_low = (tuple_keeps c.hold.register c.hold.size c.hold.tag b c k).phase_low }

-- ---- STORE

write_keeps : (p : Place) (w : Word) (b c : Box) → Keeps b c → Keeps b (write p w c)
unfolding write
write_keeps copy_place w b c k = record { outline_same = k.outline_same; phase_low = k.phase_low }
write_keeps (at a) w b c k = put_keeps b c k a w

pub first_keeps : (w : Word) (b : Box) → Keeps b (shaded_first w b)
unfolding shaded_first
first_keeps w b = chosen (shades w b) b (shade (handle_of w) b) b (shade_keeps (handle_of w) b) (same b)

pub deepened_keeps : (w : Word) (h : ℕ) (b c : Box) → Keeps b c → Keeps b (deepened w h c)
unfolding deepened
deepened_keeps w h b c k = chosen (names_tuple w) b (set_deep h true c) c (deep_keeps b c k h true) k

pub store_keeps : (w : Word) (h : ℕ) (p : Place) (b : Box) → Keeps b (store_word w h p b).box
unfolding store_word
store_keeps w h p b =
    either (not (shades w b) || can_shade (handle_of w) b) b (reply (write p w (deepened w h (shaded_first w b))) 0) (reply b 9)
    (write_keeps p w b (deepened w h (shaded_first w b)) (deepened_keeps w h b (shaded_first w b) (first_keeps w b))) (same b)

-- ---- the end of a cycle: b is the box before the step, c the box as its rule leaves it

end_keeps : (b c : Box) → Keeps b c → Keeps b (end_cycle b c).box
unfolding end_cycle settle at_rest try_held unheld
end_keeps b c k = go (at_rest c) (record { outline_same = k.outline_same; phase_low = λ p. omega arith })
  where
    dropped : (d : Box) → Keeps b d → Keeps b (unheld d)
    dropped d l = record { outline_same = l.outline_same; phase_low = l.phase_low }

    tried : (d : Box) → Keeps b d → Keeps b (try_held b d).box
    tried d l =
        either (no_room d.hold.size d) b (cond d.hold.begun (reply (unheld d) 8) (reply d 33)) (cond (is_register d.hold.register && can_make d.hold.size d) (reply (granted d) 32) (reply b 9))
        (either d.hold.begun b (reply (unheld d) 8) (reply d 33) (dropped d l) l)
        (either (is_register d.hold.register && can_make d.hold.size d) b (reply (granted d) 32) (reply b 9) (granted_keeps b d l) (same b))

    go : (d : Box) → Keeps b d → Keeps b (settle b d).box
    go d l = either d.hold.held b (try_held b d) (reply d 31) (tried d l) l

-- ---- the rules

module _ (b : Box) where
  pub rest_keeps : Keeps b (rest b).box
  unfolding rest note_begun
  rest_keeps =
      let c : Box = with_live 0 (with_current 0 (with_next 0 (with_phase 1 b))) in
      let k : Keeps b c = record { outline_same = refl; phase_low = λ p. omega arith } in
      chosen b.hold.held b (with_begun true c) c (record { outline_same = refl; phase_low = λ p. omega arith }) k

  scan_keeps : (h : ℕ) (c : Box) → Keeps b c → Keeps b (scan h c)
  unfolding scan
  scan_keeps h c k = record { outline_same = k.outline_same; phase_low = λ p. omega arith }

  marking_keeps : Keeps b (end_marking b).box
  unfolding end_marking begin_sweep
  marking_keeps =
      either (eqb b.top 0) b (end_cycle b b) (reply (begin_sweep b) 30) (end_keeps b b (same b)) (record { outline_same = refl; phase_low = λ p. omega arith })

  root_keeps : (f : Found) → Keeps b (mark_root f b).box
  unfolding mark_root
  root_keeps (unmarked h) = either (can_shade h b) b (reply (shade h b) 30) (reply b 9) (shade_keeps h b) (same b)
  root_keeps damaged = same b
  root_keeps nothing = marking_keeps

  pub next_rule_keeps : Keeps b (mark_next b).box
  unfolding mark_next scan_next
  next_rule_keeps =
      let n = b.collector.next in
      either (eqb n 0) b (mark_root (look_from register_count b) b) (cond (is_entry n b) (reply (scan n (with_next 0 b)) 30) (reply b 9))
      (root_keeps (look_from register_count b))
      (either (is_entry n b) b (reply (scan n (with_next 0 b)) 30) (reply b 9) (scan_keeps n (with_next 0 b) (record { outline_same = refl; phase_low = λ p. p })) (same b))

  word_keeps : Keeps b (scan_word b)
  unfolding scan_word
  word_keeps =
      let w = word_at (b.collector.src + b.collector.index) b in
      chosen (names_tuple w) b (with_index (b.collector.index + 1) (with_tuple (handle_of w) (with_phase 3 b))) (with_index (b.collector.index + 1) b)
      (record { outline_same = refl; phase_low = λ p. omega arith })
      (record { outline_same = refl; phase_low = λ p. p })

  current_keeps : Keeps b (scan_current b).box
  unfolding scan_current
  current_keeps =
      let n = b.collector.current in
      either (eqb n 0) b (reply (to_phase 1 b) 30) (cond (is_entry n b) (reply (scan n b) 30) (reply b 9))
      (record { outline_same = refl; phase_low = λ p. omega arith })
      (either (is_entry n b) b (reply (scan n b) 30) (reply b 9) (scan_keeps n b (same b)) (same b))

  pub scan_rule_keeps : Keeps b (mark_scan b).box
  unfolding mark_scan
  scan_rule_keeps =
      let t = ltb (b.collector.src + b.collector.index) b.m in
      either (leb b.collector.index b.collector.size) b (cond t (reply (scan_word b) 30) (reply b 9)) (scan_current b)
      (either t b (reply (scan_word b) 30) (reply b 9) word_keeps (same b))
      current_keeps

  pub add_rule_keeps : Keeps b (mark_add b).box
  unfolding mark_add
  add_rule_keeps =
      let h = b.collector.tuple in
      either (can_shade h b) b (reply (to_phase 2 (shade h b)) 30) (reply b 9)
      (record { outline_same = (shade_keeps h b).outline_same; phase_low = λ p. omega arith })
      (same b)

  -- ---- the sweep. c is b with the tuple's size, or what becomes of it
  on_keeps : (a : ℕ) (c : Box) → Keeps b c → Keeps b (go_on a c)
  unfolding go_on
  on_keeps a c k = record { outline_same = k.outline_same; phase_low = λ p. omega arith }

  place_keeps : (c : Box) → Keeps b c → Keeps b (keep_in_place b c).box
  unfolding keep_in_place
  place_keeps c k =
      let h = c.collector.tuple in
      let d = with_dest (after c) c in
      let on = reply (go_on (after c) (set_mark h false d)) 30 in
      either (eqb (after c) c.top) b (end_cycle b (set_mark h false c)) (cond (ltb (after c) c.m) on (reply b 9))
      (end_keeps b (set_mark h false c) (mark_keeps b c k h false))
      (either (ltb (after c) c.m) b on (reply b 9) (on_keeps (after c) (set_mark h false d) (mark_keeps b d (record { outline_same = k.outline_same; phase_low = k.phase_low }) h false)) (same b))

  free_keeps : (c : Box) → Keeps b c → Keeps b (free_tuple c)
  unfolding free_tuple
  free_keeps c k = link_keeps b (with_free c.collector.tuple c) (record { outline_same = k.outline_same; phase_low = k.phase_low }) c.collector.tuple c.free

  zero_keeps : (c : Box) → Keeps b c → Keeps b (start_zero c)
  unfolding start_zero
  zero_keeps c k = record { outline_same = k.outline_same; phase_low = λ p. omega arith }

  release_keeps : (c : Box) → Keeps b c → Keeps b (release b c).box
  unfolding release
  release_keeps c k =
      let on = reply (go_on (after c) (free_tuple c)) 30 in
      either (ltb (c.collector.src + c.collector.size) c.collector.live) b (cond (ltb (after c) c.m) on (reply b 9)) (reply (start_zero (free_tuple c)) 30)
      (either (ltb (after c) c.m) b on (reply b 9) (on_keeps (after c) (free_tuple c) (free_keeps c k)) (same b))
      (zero_keeps (free_tuple c) (free_keeps c k))

  move_keeps : (c : Box) → Keeps b c → Keeps b (start_move c)
  unfolding start_move
  move_keeps c k = mark_keeps b (with_index 0 (with_phase 5 c)) (record { outline_same = k.outline_same; phase_low = λ p. omega arith }) c.collector.tuple false

  tuple_rule_keeps : (c : Box) → Keeps b c → Keeps b (sweep_tuple b c).box
  unfolding sweep_tuple
  tuple_rule_keeps c k =
      let t = marked c.collector.tuple c in
      let e = eqb c.collector.src c.collector.dest in
      let move = reply (start_move c) 30 in
      either (leb (after c) c.m) b (cond t (cond e (keep_in_place b c) move) (release b c)) (reply b 9)
      (either t b (cond e (keep_in_place b c) move) (release b c) (either e b (keep_in_place b c) move (place_keeps c k) (move_keeps c k)) (release_keeps c k))
      (same b)

  pub sweep_rule_keeps : Keeps b (sweep_scan b).box
  unfolding sweep_scan
  sweep_rule_keeps =
      let c = with_size (size_of b.collector.tuple b) b in
      either (is_entry b.collector.tuple b) b (sweep_tuple b c) (reply b 9) (tuple_rule_keeps c (record { outline_same = refl; phase_low = λ p. p })) (same b)

  leave_keeps : (c : Box) → Keeps b c → Keeps b (leave_tuple b c).box
  unfolding leave_tuple
  leave_keeps c k =
      let d = with_top c.collector.dest c in
      let on = reply (go_on (after c) c) 30 in
      let rest_of = cond (ltb (after c) c.m) on (reply b 9) in
      either (leb (after c) c.m) b (cond (eqb (after c) c.top) (end_cycle b d) rest_of) (reply b 9)
      (either (eqb (after c) c.top) b (end_cycle b d) rest_of (end_keeps b d (record { outline_same = k.outline_same; phase_low = k.phase_low })) (either (ltb (after c) c.m) b on (reply b 9) (on_keeps (after c) c k) (same b)))
      (same b)

  finish_keeps : Keeps b (finish_move b).box
  unfolding finish_move settle_move
  finish_keeps =
      either (is_entry b.collector.tuple b && leb (b.collector.dest + b.collector.size + 1) b.m) b (leave_tuple b (settle_move b)) (reply b 9)
      (leave_keeps (settle_move b) (address_keeps b (with_dest (b.collector.dest + b.collector.size + 1) b) (record { outline_same = refl; phase_low = λ p. p }) b.collector.tuple b.collector.dest))
      (same b)

  copied_keeps : (a : ℕ) → Keeps b (copy_word a b)
  unfolding copy_word
  copied_keeps a = record { outline_same = refl; phase_low = λ p. (six_seven (ltb a b.collector.live)) }
    where
      six_seven : (t : Bool) → cond t 7 6 ≤ 8
      six_seven true = omega arith
      six_seven false = omega arith

  pub read_rule_keeps : Keeps b (sweep_read b).box
  unfolding sweep_read
  read_rule_keeps =
      let a = b.collector.src + b.collector.index in
      either (leb b.collector.index b.collector.size) b (cond (ltb a b.m) (reply (copy_word a b) 30) (reply b 9)) (finish_move b)
      (either (ltb a b.m) b (reply (copy_word a b) 30) (reply b 9) (copied_keeps a) (same b))
      finish_keeps

  pub clear_rule_keeps : Keeps b (sweep_clear b).box
  unfolding sweep_clear
  clear_rule_keeps =
      let a = b.collector.src + b.collector.index in
      either (ltb a b.m) b (reply (to_phase 7 (put a (data_word 0) b)) 30) (reply b 9)
      (record { outline_same = (put_keeps b b (same b) a (data_word 0)).outline_same; phase_low = λ p. omega arith })
      (same b)

  pub write_rule_keeps : Keeps b (sweep_write b).box
  unfolding sweep_write write_copy
  write_rule_keeps =
      let a = b.collector.dest + b.collector.index in
      let d = with_index (b.collector.index + 1) (with_phase 5 b) in
      either (ltb a b.m) b (reply (put a b.collector.copy d) 30) (reply b 9) (put_keeps b d (record { outline_same = refl; phase_low = λ p. omega arith }) a b.collector.copy) (same b)

  pub zero_rule_keeps : Keeps b (sweep_zero b).box
  unfolding sweep_zero zero_word
  zero_rule_keeps =
      let a = b.collector.src + b.collector.index in
      let d = with_index (b.collector.index + 1) b in
      either (leb b.collector.index b.collector.size) b (cond (ltb a b.m) (reply (put a (data_word 0) d) 30) (reply b 9)) (leave_tuple b b)
      (either (ltb a b.m) b (reply (put a (data_word 0) d) 30) (reply b 9) (put_keeps b d (record { outline_same = refl; phase_low = λ p. p }) a (data_word 0)) (same b))
      (leave_keeps b (same b))

  pub rule_keeps : (p : ℕ) → Keeps b (rule_of p b).box
  unfolding rule_of
  rule_keeps zero = rest_keeps
  rule_keeps (suc zero) = next_rule_keeps
  rule_keeps (suc (suc zero)) = scan_rule_keeps
  rule_keeps (suc (suc (suc zero))) = add_rule_keeps
  rule_keeps (suc (suc (suc (suc zero)))) = sweep_rule_keeps
  rule_keeps (suc (suc (suc (suc (suc zero))))) = read_rule_keeps
  rule_keeps (suc (suc (suc (suc (suc (suc zero)))))) = clear_rule_keeps
  rule_keeps (suc (suc (suc (suc (suc (suc (suc zero))))))) = write_rule_keeps
  rule_keeps (suc (suc (suc (suc (suc (suc (suc (suc zero)))))))) = zero_rule_keeps
  rule_keeps (suc (suc (suc (suc (suc (suc (suc (suc (suc p))))))))) = same b

  pub step_keeps : Keeps b (step b).box
  unfolding step
  step_keeps = either (sound b) b (rule_of b.collector.phase b) (reply b 9) (rule_keeps b.collector.phase) (same b)

-- ---- a sound box stays sound

lengths_in : Outline → Bool
lengths_in o = in_range o.m o.h && (eqb o.words o.m && eqb o.flags o.m && eqb o.addresses o.h && eqb o.sizes o.h && eqb o.links o.h && eqb o.marks o.h && eqb o.deeps o.h)

pub keeps_sound : (b c : Box) → Keeps b c → sound b ≡ true → sound c ≡ true
unfolding sound right_sizes lengths_are lengths_in
keeps_sound b c k e =
    let r : lengths_in (outline b) ≡ true = and_left (right_sizes b.m b.h b) _ e in
    let p : b.collector.phase ≤ 8 = leb-true _ _ (and_right (right_sizes b.m b.h b) _ e) in
    ap₂ (λ (x y : Bool). x && y) (ap lengths_in k.outline_same ∙ r) (le-leb c.collector.phase 8 (k.phase_low p))

pub step_sound : (b : Box) → sound b ≡ true → sound (step b).box ≡ true
step_sound b e = keeps_sound b (step b).box (step_keeps b) e
