-- Whether sizes, lengths and phase are right does not change, whatever is asked of a box or done by its collector: so one who lends it to
-- nobody else need not test them again. A request writes registers, the hold, words and entries, and none of these is tested. Assumes
-- nothing.
use Prim.Native.Nat.{ℕ, ◌+◌}
use mathlib.Core.Bool.{Bool, true, false, cond}
use mathlib.Core.Path.{◌≡◌, refl, sym, ◌∙◌}
use lib.Dec.{leb, ltb}
use Rattle.rules.specs.declared.kinds.Request.{Request}
use Rattle.rules.specs.declared.kinds.Request.TheVariants.{Setd, Nil, Move, Advance, Getm, Load, Store, Size, Tag, Same}
use Rattle.rules.specs.Limits.{half_word}
use Rattle.rules.specs.Parts.{Word, Box}
use Rattle.rules.specs.Box.{Reply, reply, pointer, data_word, handle_of, offset_of, tag_of, is_nil, register, put_register, size_of, is_entry, lengths_are, right_sizes, sound}
use Rattle.rules.specs.Place.{Place, place, in_memory, read}
use Rattle.rules.specs.Request.{no_room, can_make, new_tuple, put_on_hold, at_tuple, word_number, at_word, advance, getm, load, store_word, store, size, tag_at, tag, same_word, same, registers_right, carry_out, request}
use Rattle.rules.specs.Collector.{step}
use Rattle.rules.proofs.Kept.{same as kept, tuple_keeps, store_keeps, keeps_sound, step_sound}

-- a reply whose box is sound where b is
abbrev Stays : Box → Reply → Type 0
Stays b r = sound b ≡ true → sound r.box ≡ true

either : (b : Box) (t : Bool) (r s : Reply) → Stays b r → Stays b s → Stays b (cond t r s)
either b true r s x y = x
either b false r s x y = y

found : (b : Box) (a : ℕ) → Stays b (reply b a)
found b a e = e

registered : (b : Box) (r : ℕ) (w : Word) → Stays b (reply (put_register r w b) 0)
unfolding sound right_sizes lengths_are
registered b r w e = e

held : (b : Box) (r n t : ℕ) → Stays b (reply (put_on_hold r n t b) 7)
unfolding sound right_sizes lengths_are put_on_hold
held b r n t e = e

tuple_stays : (w : Word) (b : Box) (z : Reply) (f : ℕ → Reply) → Stays b z → ((h : ℕ) → Stays b (f h)) → Stays b (at_tuple w b z f)
unfolding at_tuple
tuple_stays w b z f x y = either b w.flag _ _ (either b (is_nil w) _ _ x (either b (is_entry (handle_of w) b) _ _ (y (handle_of w)) (found b 9))) (found b 2)

word_stays : (h n : ℕ) (b : Box) (f : Place → Reply) → ((p : Place) → Stays b (f p)) → Stays b (at_word h n b f)
unfolding at_word
word_stays h n b f x = either b (ltb n (size_of h b)) _ _ (either b (in_memory (place h (n + 1) b) b) _ _ (x (place h (n + 1) b)) (found b 9)) (found b 3)

advance_stays : (r n : ℕ) (b : Box) → Stays b (advance r n b)
unfolding advance
advance_stays r n b = either b (register r b).flag _ _ (either b (ltb (offset_of (register r b) + n) half_word) _ _ (registered b r (pointer (handle_of (register r b)) (offset_of (register r b) + n))) (found b 4)) (found b 2)

getm_stays : (r n t : ℕ) (b : Box) → Stays b (getm r n t b)
unfolding getm
getm_stays r n t b = either b (leb (n + 1) b.m) _ _ (either b (no_room n b) _ _ (held b r n t) (either b (can_make n b) _ _ (keeps_sound b (new_tuple r n t b) (tuple_keeps r n t b b (kept b))) (found b 9))) (found b 5)

load_stays : (r s k : ℕ) (b : Box) → Stays b (load r s k b)
unfolding load
load_stays r s k b = tuple_stays (register s b) b _ _ (found b 3) (λ h. word_stays h (word_number (register s b) k) b _ (λ p. registered b r (read p b)))

store_stays : (r s k : ℕ) (b : Box) → Stays b (store r s k b)
unfolding store
store_stays r s k b = tuple_stays (register s b) b _ _ (found b 3) (λ h. word_stays h (word_number (register s b) k) b _ (λ p. keeps_sound b (store_word (register r b) h p b).box (store_keeps (register r b) h p b)))

size_stays : (r s : ℕ) (b : Box) → Stays b (size r s b)
unfolding size
size_stays r s b = tuple_stays (register s b) b _ _ (registered b r (data_word 0)) (λ h. registered b r (data_word (size_of h b)))

tag_stays : (r s : ℕ) (b : Box) → Stays b (tag r s b)
unfolding tag tag_at
tag_stays r s b = tuple_stays (register s b) b _ _ (registered b r (data_word 0)) (λ h. either b (in_memory (place h 0 b) b) _ _ (registered b r (data_word (tag_of (read (place h 0 b) b)))) (found b 9))

carry_out_stays : (q : Request) (b : Box) → Stays b (carry_out q b)
unfolding carry_out same
carry_out_stays (Setd r v) b = registered b r (data_word v)
carry_out_stays (Nil r) b = registered b r (pointer 0 0)
carry_out_stays (Move r s) b = registered b r (register s b)
carry_out_stays (Advance r n) b = advance_stays r n b
carry_out_stays (Getm r n t) b = getm_stays r n t b
carry_out_stays (Load r s k) b = load_stays r s k b
carry_out_stays (Store r s k) b = store_stays r s k b
carry_out_stays (Size r s) b = size_stays r s b
carry_out_stays (Tag r s) b = tag_stays r s b
carry_out_stays (Same r s t) b = registered b r (data_word (cond (same_word (register s b) (register t b)) 1 0))

-- ---- any request, and any step

pub request_sound : (q : Request) (b : Box) → sound (request q b).box ≡ sound b
unfolding request
request_sound q b = by (sound b) refl
  where
    by : (t : Bool) → sound b ≡ t → sound (request q b).box ≡ sound b
    by true e = either b (sound b) _ _ (either b (registers_right q) _ _ (either b b.hold.held _ _ (found b 6) (carry_out_stays q b)) (found b 1)) (found b 9) e ∙ sym e
    by false e = rw e e

pub step_same_sound : (b : Box) → sound (step b).box ≡ sound b
unfolding step
step_same_sound b = by (sound b) refl
  where
    by : (t : Bool) → sound b ≡ t → sound (step b).box ≡ sound b
    by true e = step_sound b e ∙ sym e
    by false e = rw e e
