-- The view of a request: for any request and any box, whether it is refused, put on hold or carried out, with the facts that led
-- there and the equation for the reply. The tests are decided in the order of document 01; each leaf is the rule rewritten by the
-- answers. Assumes nothing.
use Prim.Native.Nat.{ℕ, ◌+◌, ◌≤◌, ◌<◌}
use mathlib.Core.Bool.{true, false, not, cond, ◌&&◌, true≢false}
use mathlib.Core.Logic.{◌≢◌, ◌⊎◌, inl, inr}
use mathlib.Core.Path.{◌≡◌, refl, sym, ◌∙◌}
use native.Mathlib.Omega.{arith}
use borrow.Author.Tests.{ltb-true, ltb-false, eqb-false, not-true, lt-ltb, le-ltb, le-leb, lt-leb, eq-eqb, ne_eqb}
use Rattle.rules.specs.declared.kinds.Request.{Request}
use Rattle.rules.specs.declared.kinds.Request.TheVariants.{Setd, Nil, Move, Advance, Getm, Load, Store, Size, Tag, Same}
use Rattle.rules.specs.Limits.{half_word, register_count}
use Rattle.rules.specs.Parts.{Word, Box}
use Rattle.rules.specs.Box.{Reply, reply, data_word, pointer, handle_of, offset_of, tag_of, is_nil, names_tuple, register, put_register, size_of, marked, set_deep, sound}
use Rattle.rules.specs.Place.{Place, place, in_memory, read, write, can_shade, shade}
use Rattle.rules.specs.Answers.{holds as row_holds, passed, Entry, NoRoom, named, number, NoRegister, WrongRegister, NoWord, KindGives, RequestGives}
use Rattle.rules.specs.Request.{new_tuple, put_on_hold, at_tuple, word_number, at_word, done, advance, getm, load, shades, shaded_first, deepened, store_word, store, size as size_rule, tag_at, tag as tag_rule, same_word, same, is_register, registers_right, carry_out, request}
use Rattle.rules.proofs.Sizes.{and_left, and_right, sound_right}
use Rattle.rules.proofs.View.Places.{out_of_memory}
use Rattle.rules.proofs.View.Tests.{le?, lt?, eq?, true?, entry?, entry_true, entry_false, Shading, shading, shaded, unshaded, shade_lost, shade_total, can_shade_marked, can_shade_unmarked, can_shade_lost, can_shade_total, shade_marked, Room, room?, no_room_true, no_room_false, can_make_rest, can_make_counted, can_make_lost, can_make_total}

-- where the word is that a register's offset and k name
abbrev pub place_of : ℕ → ℕ → Box → Place
place_of s k b = place (named s b) (number s k b + 1) b

-- the ways in which a request to a sound box that holds none answers 9
pub data Loss (b : Box) : Type 0 where
  free_lost : (n : ℕ) → n + 1 ≤ b.m → Room n b → ¬ Entry b.free b → Loss b
  free_total : (n : ℕ) → n + 1 ≤ b.m → Room n b → Entry b.free b → b.collector.phase ≢ 0
      → b.m < b.collector.live + n + 1 → Loss b
  handle_lost : (s : ℕ) → s < register_count → names_tuple (register s b) ≡ true → ¬ Entry (named s b) b → Loss b
  place_past : (s : ℕ) → s < register_count → names_tuple (register s b) ≡ true → Entry (named s b) b
      → (i : ℕ) → i ≤ size_of (named s b) b → in_memory (place (named s b) i b) b ≡ false → Loss b
  stored_total : (r : ℕ) → r < register_count → names_tuple (register r b) ≡ true → 1 ≤ b.collector.phase → b.collector.phase ≤ 3
      → Entry (named r b) b → marked (named r b) b ≡ false → b.m < b.collector.live + size_of (named r b) b + 1 → Loss b

-- a register's tuple can be looked up and its word lies in memory
pub record There (s k : ℕ) (b : Box) : Type 0 where
  pub is_pointer : names_tuple (register s b) ≡ true
  pub entry : Entry (named s b) b
  pub inside : number s k b < size_of (named s b) b
  pub somewhere : in_memory (place_of s k b) b ≡ true

pub data Asked (b : Box) : Request → Type 0 where
  refuses_unsound : {q : Request} → sound b ≡ false → request q b ≡ reply b 9 → Asked b q
  refuses : {q : Request} (a : ℕ) → a ≢ 0 → a ≢ 7 → a ≢ 9 → RequestGives q b a → request q b ≡ reply b a → Asked b q
  refuses_lost : {q : Request} → sound b ≡ true → b.hold.held ≡ false → Loss b → RequestGives q b 9 → request q b ≡ reply b 9 → Asked b q
  -- 5, put on hold
  holds : {r n t : ℕ} → sound b ≡ true → b.hold.held ≡ false → r < register_count → n + 1 ≤ b.m → NoRoom n b
      → request (Getm r n t) b ≡ reply (put_on_hold r n t b) 7 → Asked b (Getm r n t)
  -- 1 to 4
  sets_data : {r v : ℕ} → sound b ≡ true → b.hold.held ≡ false → r < register_count
      → request (Setd r v) b ≡ done (put_register r (data_word v) b) → Asked b (Setd r v)
  sets_nil : {r : ℕ} → sound b ≡ true → b.hold.held ≡ false → r < register_count
      → request (Nil r) b ≡ done (put_register r (pointer 0 0) b) → Asked b (Nil r)
  moves : {r s : ℕ} → sound b ≡ true → b.hold.held ≡ false → r < register_count → s < register_count
      → request (Move r s) b ≡ done (put_register r (register s b) b) → Asked b (Move r s)
  advances : {r n : ℕ} → sound b ≡ true → b.hold.held ≡ false → r < register_count → (register r b).flag ≡ true
      → offset_of (register r b) + n < half_word
      → request (Advance r n) b ≡ done (put_register r (pointer (named r b) (offset_of (register r b) + n)) b) → Asked b (Advance r n)
  -- 5, carried out
  makes : {r n t : ℕ} → sound b ≡ true → b.hold.held ≡ false → r < register_count → n + 1 ≤ b.m → b.free ≢ 0
      → b.top + n + 1 ≤ b.m → Entry b.free b → (b.collector.phase ≡ 0) ⊎ (b.collector.live + n + 1 ≤ b.m)
      → request (Getm r n t) b ≡ done (new_tuple r n t b) → Asked b (Getm r n t)
  -- 6
  loads : {r s k : ℕ} → sound b ≡ true → b.hold.held ≡ false → r < register_count → s < register_count → There s k b
      → request (Load r s k) b ≡ done (put_register r (read (place_of s k b) b) b) → Asked b (Load r s k)
  -- 7: data or nil; a pointer outside marking; a pointer while marking, its tuple marked already or shaded now
  stores_data : {r s k : ℕ} → sound b ≡ true → b.hold.held ≡ false → r < register_count → s < register_count → There s k b
      → names_tuple (register r b) ≡ false
      → request (Store r s k) b ≡ done (write (place_of s k b) (register r b) b) → Asked b (Store r s k)
  stores_late : {r s k : ℕ} → sound b ≡ true → b.hold.held ≡ false → r < register_count → s < register_count → There s k b
      → names_tuple (register r b) ≡ true → (b.collector.phase ≡ 0) ⊎ (3 < b.collector.phase)
      → request (Store r s k) b ≡ done (write (place_of s k b) (register r b) (set_deep (named s b) true b)) → Asked b (Store r s k)
  stores_marked : {r s k : ℕ} → sound b ≡ true → b.hold.held ≡ false → r < register_count → s < register_count → There s k b
      → names_tuple (register r b) ≡ true → 1 ≤ b.collector.phase → b.collector.phase ≤ 3 → Entry (named r b) b → marked (named r b) b ≡ true
      → request (Store r s k) b ≡ done (write (place_of s k b) (register r b) (set_deep (named s b) true b)) → Asked b (Store r s k)
  stores_unmarked : {r s k : ℕ} → sound b ≡ true → b.hold.held ≡ false → r < register_count → s < register_count → There s k b
      → names_tuple (register r b) ≡ true → 1 ≤ b.collector.phase → b.collector.phase ≤ 3 → Entry (named r b) b → marked (named r b) b ≡ false
      → b.collector.live + size_of (named r b) b + 1 ≤ b.m
      → request (Store r s k) b ≡ done (write (place_of s k b) (register r b) (set_deep (named s b) true (shade (named r b) b))) → Asked b (Store r s k)
  -- 8
  gives_size : {r s : ℕ} → sound b ≡ true → b.hold.held ≡ false → r < register_count → s < register_count
      → names_tuple (register s b) ≡ true → Entry (named s b) b
      → request (Size r s) b ≡ done (put_register r (data_word (size_of (named s b) b)) b) → Asked b (Size r s)
  gives_nil_size : {r s : ℕ} → sound b ≡ true → b.hold.held ≡ false → r < register_count → s < register_count
      → (register s b).flag ≡ true → named s b ≡ 0
      → request (Size r s) b ≡ done (put_register r (data_word 0) b) → Asked b (Size r s)
  -- 9
  gives_tag : {r s : ℕ} → sound b ≡ true → b.hold.held ≡ false → r < register_count → s < register_count
      → names_tuple (register s b) ≡ true → Entry (named s b) b → in_memory (place (named s b) 0 b) b ≡ true
      → request (Tag r s) b ≡ done (put_register r (data_word (tag_of (read (place (named s b) 0 b) b))) b) → Asked b (Tag r s)
  gives_nil_tag : {r s : ℕ} → sound b ≡ true → b.hold.held ≡ false → r < register_count → s < register_count
      → (register s b).flag ≡ true → named s b ≡ 0
      → request (Tag r s) b ≡ done (put_register r (data_word 0) b) → Asked b (Tag r s)
  -- 10
  compares : {r s t : ℕ} → sound b ≡ true → b.hold.held ≡ false → r < register_count → s < register_count → t < register_count
      → request (Same r s t) b ≡ done (put_register r (data_word (cond (same_word (register s b) (register t b)) 1 0)) b) → Asked b (Same r s t)

-- ---- a pointer's tuple and word

data Points (w : Word) (b : Box) : Type 0 where
  to_data : w.flag ≡ false → Points w b
  to_nil : w.flag ≡ true → handle_of w ≡ 0 → Points w b
  to_lost : names_tuple w ≡ true → ¬ Entry (handle_of w) b → Points w b
  to_tuple : names_tuple w ≡ true → Entry (handle_of w) b → Points w b

names : (w : Word) → w.flag ≡ true → handle_of w ≢ 0 → names_tuple w ≡ true
names w f n = simp (f, ne_eqb (handle_of w) 0 n)

points : (w : Word) (b : Box) → Points w b
points w b = by_flag (true? w.flag)
  where
    by_entry : names_tuple w ≡ true → Entry (handle_of w) b ⊎ (¬ Entry (handle_of w) b) → Points w b
    by_entry n (inl e) = to_tuple n e
    by_entry n (inr e) = to_lost n e

    by_handle : w.flag ≡ true → (handle_of w ≡ 0) ⊎ (handle_of w ≢ 0) → Points w b
    by_handle f (inl z) = to_nil f z
    by_handle f (inr n) = by_entry (names w f n) (entry? (handle_of w) b)

    by_flag : (w.flag ≡ true) ⊎ (w.flag ≡ false) → Points w b
    by_flag (inl f) = by_handle f (eq? (handle_of w) 0)
    by_flag (inr f) = to_data f

at_data : (w : Word) (b : Box) → w.flag ≡ false → (n : Reply) (f : ℕ → Reply) → at_tuple w b n f ≡ reply b 2
unfolding at_tuple
at_data w b d n f = simp d

at_nil : (w : Word) (b : Box) → w.flag ≡ true → handle_of w ≡ 0 → (n : Reply) (f : ℕ → Reply) → at_tuple w b n f ≡ n
unfolding at_tuple
at_nil w b p z n f = simp (p, eq-eqb (handle_of w) 0 z)

at_lost : (w : Word) (b : Box) → names_tuple w ≡ true → ¬ Entry (handle_of w) b → (n : Reply) (f : ℕ → Reply) → at_tuple w b n f ≡ reply b 9
unfolding at_tuple
at_lost w b p e n f = simp (and_left w.flag (not (is_nil w)) p, not-true (is_nil w) (and_right w.flag (not (is_nil w)) p), entry_false (handle_of w) b e)

at_entry : (w : Word) (b : Box) → names_tuple w ≡ true → Entry (handle_of w) b → (n : Reply) (f : ℕ → Reply) → at_tuple w b n f ≡ f (handle_of w)
unfolding at_tuple
at_entry w b p e n f = simp (and_left w.flag (not (is_nil w)) p, not-true (is_nil w) (and_right w.flag (not (is_nil w)) p), entry_true (handle_of w) b e)

word_there : (h n : ℕ) (b : Box) → n < size_of h b → in_memory (place h (n + 1) b) b ≡ true → (f : Place → Reply) → at_word h n b f ≡ f (place h (n + 1) b)
unfolding at_word
word_there h n b l i f = simp (lt-ltb n (size_of h b) l, i)

word_past : (h n : ℕ) (b : Box) → n < size_of h b → in_memory (place h (n + 1) b) b ≡ false → (f : Place → Reply) → at_word h n b f ≡ reply b 9
unfolding at_word
word_past h n b l i f = simp (lt-ltb n (size_of h b) l, i)

word_beyond : (h n : ℕ) (b : Box) → size_of h b ≤ n → (f : Place → Reply) → at_word h n b f ≡ reply b 3
unfolding at_word
word_beyond h n b l f = simp (le-ltb n (size_of h b) l)

-- ---- a word stored

data Stored (w : Word) (b : Box) : Type 0 where
  as_data : names_tuple w ≡ false → Stored w b
  as_late : names_tuple w ≡ true → (b.collector.phase ≡ 0) ⊎ (3 < b.collector.phase) → Stored w b
  as_early : names_tuple w ≡ true → 1 ≤ b.collector.phase → b.collector.phase ≤ 3 → Shading (handle_of w) b → Stored w b

stored : (w : Word) (b : Box) → Stored w b
stored w b = by_name (true? (names_tuple w))
  where
    by_phase : names_tuple w ≡ true → (1 ≤ b.collector.phase) ⊎ (b.collector.phase < 1) → (b.collector.phase ≤ 3) ⊎ (3 < b.collector.phase) → Stored w b
    by_phase n (inl l) (inl u) = as_early n l u (shading (handle_of w) b)
    by_phase n (inl l) (inr u) = as_late n (inr u)
    by_phase n (inr l) u = as_late n (inl (omega arith))

    by_name : (names_tuple w ≡ true) ⊎ (names_tuple w ≡ false) → Stored w b
    by_name (inl n) = by_phase n (le? 1 b.collector.phase) (le? b.collector.phase 3)
    by_name (inr n) = as_data n

shades_late : (w : Word) (b : Box) → names_tuple w ≡ true → (b.collector.phase ≡ 0) ⊎ (3 < b.collector.phase) → shades w b ≡ false
unfolding shades
shades_late w b n (inl z) = simp (n, lt-leb 1 b.collector.phase (omega arith))
shades_late w b n (inr l) = simp (n, le-leb 1 b.collector.phase (omega arith), lt-leb b.collector.phase 3 l)

shades_early : (w : Word) (b : Box) → names_tuple w ≡ true → 1 ≤ b.collector.phase → b.collector.phase ≤ 3 → shades w b ≡ true
unfolding shades
shades_early w b n l u = simp (n, le-leb 1 b.collector.phase l, le-leb b.collector.phase 3 u)

store_data : (w : Word) (h : ℕ) (p : Place) (b : Box) → names_tuple w ≡ false → store_word w h p b ≡ done (write p w b)
unfolding store_word shades shaded_first deepened
store_data w h p b n = simp n

store_late : (w : Word) (h : ℕ) (p : Place) (b : Box) → names_tuple w ≡ true → shades w b ≡ false → store_word w h p b ≡ done (write p w (set_deep h true b))
unfolding store_word shaded_first deepened
store_late w h p b n l = simp (n, l)

store_early : (w : Word) (h : ℕ) (p : Place) (b : Box) → names_tuple w ≡ true → shades w b ≡ true → can_shade (handle_of w) b ≡ true
    → store_word w h p b ≡ done (write p w (set_deep h true (shade (handle_of w) b)))
unfolding store_word shaded_first deepened
store_early w h p b n l c = simp (n, l, c)

store_nine : (w : Word) (h : ℕ) (p : Place) (b : Box) → shades w b ≡ true → can_shade (handle_of w) b ≡ false → store_word w h p b ≡ reply b 9
unfolding store_word
store_nine w h p b l c = simp (l, c)

-- ---- the conditions of the table of answers

-- a pointer is no data, and one that names a tuple is not nil
pub no_data : (w : Word) → w.flag ≡ true → ¬ (w.flag ≡ false)
no_data w f d = true≢false (sym f ∙ d)

pub tuple_flag : (w : Word) → names_tuple w ≡ true → w.flag ≡ true
tuple_flag w n = and_left w.flag (not (is_nil w)) n

pub tuple_handle : (w : Word) → names_tuple w ≡ true → handle_of w ≢ 0
tuple_handle w n = eqb-false (handle_of w) 0 (not-true (is_nil w) (and_right w.flag (not (is_nil w)) n))

-- a word that is there, and a tuple that can't be looked up, are not outside their tuple
pub word_inside : (s k : ℕ) (b : Box) → names_tuple (register s b) ≡ true → number s k b < size_of (named s b) b → ¬ NoWord s k b
word_inside s k b n l (inl z) = tuple_handle (register s b) n z
word_inside s k b n l (inr x) = omega (arith, x.1)

word_lost : (s k : ℕ) (b : Box) → names_tuple (register s b) ≡ true → ¬ Entry (named s b) b → ¬ NoWord s k b
word_lost s k b n e (inl z) = tuple_handle (register s b) n z
word_lost s k b n e (inr x) = e x.0

pub has_room : (n : ℕ) (b : Box) → Room n b → ¬ NoRoom n b
has_room n b m (inl z) = m.0 z
has_room n b m (inr l) = omega (arith, m.1)

-- ---- the kinds

-- what every kind is given: the request comes to its rule
record Reached (q : Request) (b : Box) : Type 0 where
  sound_is : sound b ≡ true
  free_is : b.hold.held ≡ false
  rule : request q b ≡ carry_out q b
  rows : (a : ℕ) → KindGives q b a → RequestGives q b a

advance_view : (r n : ℕ) (b : Box) → Reached (Advance r n) b → r < register_count → Asked b (Advance r n)
unfolding carry_out advance
advance_view r n b q l = by_flag (true? (register r b).flag)
  where
    by_offset : (register r b).flag ≡ true → (offset_of (register r b) + n < half_word) ⊎ (half_word ≤ offset_of (register r b) + n) → Asked b (Advance r n)
    by_offset f (inl o) = advances q.sound_is q.free_is l f o (q.rule ∙ simp (f, lt-ltb (offset_of (register r b) + n) half_word o))
    by_offset f (inr o) = refuses 4 (omega arith) (omega arith) (omega arith) (q.rows 4 (passed (no_data (register r b) f) (row_holds o refl))) (q.rule ∙ simp (f, le-ltb (offset_of (register r b) + n) half_word o))

    by_flag : ((register r b).flag ≡ true) ⊎ ((register r b).flag ≡ false) → Asked b (Advance r n)
    by_flag (inl f) = by_offset f (lt? (offset_of (register r b) + n) half_word)
    by_flag (inr f) = refuses 2 (omega arith) (omega arith) (omega arith) (q.rows 2 (row_holds f refl)) (q.rule ∙ simp f)

getm_view : (r n t : ℕ) (b : Box) → Reached (Getm r n t) b → r < register_count → Asked b (Getm r n t)
unfolding carry_out getm
getm_view r n t b q l = by_size (le? (n + 1) b.m)
  where
    by_total : n + 1 ≤ b.m → Room n b → Entry b.free b → b.collector.phase ≢ 0
        → (b.collector.live + n + 1 ≤ b.m) ⊎ (b.m < b.collector.live + n + 1) → Asked b (Getm r n t)
    by_total z m e p (inl v) =
        makes q.sound_is q.free_is l z m.0 m.1 e (inr v)
        (q.rule ∙ simp (le-leb (n + 1) b.m z, no_room_false n b m, can_make_counted n b e p v))
    by_total z m e p (inr v) =
        refuses_lost q.sound_is q.free_is (free_total n z m e p v)
        (q.rows 9 (passed (λ x. omega arith) (passed (has_room n b m) (row_holds (inr (p, v)) refl))))
        (q.rule ∙ simp (le-leb (n + 1) b.m z, no_room_false n b m, can_make_total n b e p v))

    by_phase : n + 1 ≤ b.m → Room n b → Entry b.free b → (b.collector.phase ≡ 0) ⊎ (b.collector.phase ≢ 0) → Asked b (Getm r n t)
    by_phase z m e (inl p) =
        makes q.sound_is q.free_is l z m.0 m.1 e (inl p)
        (q.rule ∙ simp (le-leb (n + 1) b.m z, no_room_false n b m, can_make_rest n b e p))
    by_phase z m e (inr p) = by_total z m e p (le? (b.collector.live + n + 1) b.m)

    by_entry : n + 1 ≤ b.m → Room n b → Entry b.free b ⊎ (¬ Entry b.free b) → Asked b (Getm r n t)
    by_entry z m (inl e) = by_phase z m e (eq? b.collector.phase 0)
    by_entry z m (inr e) =
        refuses_lost q.sound_is q.free_is (free_lost n z m e)
        (q.rows 9 (passed (λ x. omega arith) (passed (has_room n b m) (row_holds (inl e) refl))))
        (q.rule ∙ simp (le-leb (n + 1) b.m z, no_room_false n b m, can_make_lost n b e))

    by_room : n + 1 ≤ b.m → NoRoom n b ⊎ Room n b → Asked b (Getm r n t)
    by_room z (inl m) = holds q.sound_is q.free_is l z m (q.rule ∙ simp (le-leb (n + 1) b.m z, no_room_true n b m))
    by_room z (inr m) = by_entry z m (entry? b.free b)

    by_size : (n + 1 ≤ b.m) ⊎ (b.m < n + 1) → Asked b (Getm r n t)
    by_size (inl z) = by_room z (room? n b)
    by_size (inr z) = refuses 5 (omega arith) (omega arith) (omega arith) (q.rows 5 (row_holds z refl)) (q.rule ∙ simp (lt-leb (n + 1) b.m z))

load_view : (r s k : ℕ) (b : Box) → Reached (Load r s k) b → r < register_count → s < register_count → Asked b (Load r s k)
unfolding carry_out load word_number
load_view r s k b q l m = by_pointer (points (register s b) b)
  where
    by_place : names_tuple (register s b) ≡ true → Entry (named s b) b → number s k b < size_of (named s b) b
        → (in_memory (place_of s k b) b ≡ true) ⊎ (in_memory (place_of s k b) b ≡ false) → Asked b (Load r s k)
    by_place n e i (inl p) =
        loads q.sound_is q.free_is l m (record { is_pointer = n; entry = e; inside = i; somewhere = p })
        (q.rule ∙ simp (at_entry (register s b) b n e, word_there (named s b) (number s k b) b i p))
    by_place n e i (inr p) =
        refuses_lost q.sound_is q.free_is (place_past s m n e (number s k b + 1) (omega arith) p)
        (q.rows 9 (passed (no_data (register s b) (tuple_flag (register s b) n)) (passed (word_inside s k b n i) (row_holds (inr (out_of_memory (named s b) (number s k b + 1) b p)) refl))))
        (q.rule ∙ simp (at_entry (register s b) b n e, word_past (named s b) (number s k b) b i p))

    by_number : names_tuple (register s b) ≡ true → Entry (named s b) b
        → (number s k b < size_of (named s b) b) ⊎ (size_of (named s b) b ≤ number s k b) → Asked b (Load r s k)
    by_number n e (inl i) = by_place n e i (true? (in_memory (place_of s k b) b))
    by_number n e (inr i) =
        refuses 3 (omega arith) (omega arith) (omega arith)
        (q.rows 3 (passed (no_data (register s b) (tuple_flag (register s b) n)) (row_holds (inr (e, i)) refl)))
        (q.rule ∙ simp (at_entry (register s b) b n e, word_beyond (named s b) (number s k b) b i))

    by_pointer : Points (register s b) b → Asked b (Load r s k)
    by_pointer (to_data d) = refuses 2 (omega arith) (omega arith) (omega arith) (q.rows 2 (row_holds d refl)) (q.rule ∙ simp (at_data (register s b) b d))
    by_pointer (to_nil f z) = refuses 3 (omega arith) (omega arith) (omega arith) (q.rows 3 (passed (no_data (register s b) f) (row_holds (inl z) refl))) (q.rule ∙ simp (at_nil (register s b) b f z))
    by_pointer (to_lost n e) = refuses_lost q.sound_is q.free_is (handle_lost s m n e) (q.rows 9 (passed (no_data (register s b) (tuple_flag (register s b) n)) (passed (word_lost s k b n e) (row_holds (inl e) refl)))) (q.rule ∙ simp (at_lost (register s b) b n e))
    by_pointer (to_tuple n e) = by_number n e (lt? (number s k b) (size_of (named s b) b))

-- the word stored is settled last, once its place is known
store_view : (r s k : ℕ) (b : Box) → Reached (Store r s k) b → r < register_count → s < register_count → Asked b (Store r s k)
unfolding carry_out store word_number
store_view r s k b q l m = by_pointer (points (register s b) b)
  where
    by_stored : There s k b → carry_out (Store r s k) b ≡ store_word (register r b) (named s b) (place_of s k b) b → Stored (register r b) b → Asked b (Store r s k)
    by_stored p f (as_data n) = stores_data q.sound_is q.free_is l m p n (q.rule ∙ (f ∙ store_data (register r b) (named s b) (place_of s k b) b n))
    by_stored p f (as_late n v) =
        stores_late q.sound_is q.free_is l m p n v
        (q.rule ∙ (f ∙ store_late (register r b) (named s b) (place_of s k b) b n (shades_late (register r b) b n v)))
    by_stored p f (as_early n a z (shaded e t)) =
        stores_marked q.sound_is q.free_is l m p n a z e t
        (q.rule ∙ (f ∙ (store_early (register r b) (named s b) (place_of s k b) b n (shades_early (register r b) b n a z) (can_shade_marked (named r b) b e t) ∙ simp (shade_marked (named r b) b t))))
    by_stored p f (as_early n a z (unshaded e t v)) =
        stores_unmarked q.sound_is q.free_is l m p n a z e t v
        (q.rule ∙ (f ∙ store_early (register r b) (named s b) (place_of s k b) b n (shades_early (register r b) b n a z) (can_shade_unmarked (named r b) b e t v)))
    by_stored p f (as_early n a z (shade_lost e)) =
        refuses_lost q.sound_is q.free_is (handle_lost r l n e)
        (q.rows 9 (passed (no_data (register s b) (tuple_flag (register s b) p.is_pointer)) (passed (word_inside s k b p.is_pointer p.inside) (row_holds (inr (n, a, z, inl e)) refl))))
        (q.rule ∙ (f ∙ store_nine (register r b) (named s b) (place_of s k b) b (shades_early (register r b) b n a z) (can_shade_lost (named r b) b e)))
    by_stored p f (as_early n a z (shade_total e t v)) =
        refuses_lost q.sound_is q.free_is (stored_total r l n a z e t v)
        (q.rows 9 (passed (no_data (register s b) (tuple_flag (register s b) p.is_pointer)) (passed (word_inside s k b p.is_pointer p.inside) (row_holds (inr (n, a, z, inr (t, v))) refl))))
        (q.rule ∙ (f ∙ store_nine (register r b) (named s b) (place_of s k b) b (shades_early (register r b) b n a z) (can_shade_total (named r b) b e t v)))

    by_place : names_tuple (register s b) ≡ true → Entry (named s b) b → number s k b < size_of (named s b) b
        → (in_memory (place_of s k b) b ≡ true) ⊎ (in_memory (place_of s k b) b ≡ false) → Asked b (Store r s k)
    by_place n e i (inl p) = by_stored (record {
      is_pointer = n;
      entry = e;
      inside = i;
      somewhere = p;
    }) (simp (at_entry (register s b) b n e, word_there (named s b) (number s k b) b i p)) (stored (register r b) b)
    by_place n e i (inr p) =
        refuses_lost q.sound_is q.free_is (place_past s m n e (number s k b + 1) (omega arith) p)
        (q.rows 9 (passed (no_data (register s b) (tuple_flag (register s b) n)) (passed (word_inside s k b n i) (row_holds (inl (inr (out_of_memory (named s b) (number s k b + 1) b p))) refl))))
        (q.rule ∙ simp (at_entry (register s b) b n e, word_past (named s b) (number s k b) b i p))

    by_number : names_tuple (register s b) ≡ true → Entry (named s b) b
        → (number s k b < size_of (named s b) b) ⊎ (size_of (named s b) b ≤ number s k b) → Asked b (Store r s k)
    by_number n e (inl i) = by_place n e i (true? (in_memory (place_of s k b) b))
    by_number n e (inr i) =
        refuses 3 (omega arith) (omega arith) (omega arith)
        (q.rows 3 (passed (no_data (register s b) (tuple_flag (register s b) n)) (row_holds (inr (e, i)) refl)))
        (q.rule ∙ simp (at_entry (register s b) b n e, word_beyond (named s b) (number s k b) b i))

    by_pointer : Points (register s b) b → Asked b (Store r s k)
    by_pointer (to_data d) = refuses 2 (omega arith) (omega arith) (omega arith) (q.rows 2 (row_holds d refl)) (q.rule ∙ simp (at_data (register s b) b d))
    by_pointer (to_nil f z) = refuses 3 (omega arith) (omega arith) (omega arith) (q.rows 3 (passed (no_data (register s b) f) (row_holds (inl z) refl))) (q.rule ∙ simp (at_nil (register s b) b f z))
    by_pointer (to_lost n e) = refuses_lost q.sound_is q.free_is (handle_lost s m n e) (q.rows 9 (passed (no_data (register s b) (tuple_flag (register s b) n)) (passed (word_lost s k b n e) (row_holds (inl (inl e)) refl)))) (q.rule ∙ simp (at_lost (register s b) b n e))
    by_pointer (to_tuple n e) = by_number n e (lt? (number s k b) (size_of (named s b) b))

size_view : (r s : ℕ) (b : Box) → Reached (Size r s) b → r < register_count → s < register_count → Asked b (Size r s)
unfolding carry_out size_rule
size_view r s b q l m = go (points (register s b) b)
  where
    go : Points (register s b) b → Asked b (Size r s)
    go (to_data d) = refuses 2 (omega arith) (omega arith) (omega arith) (q.rows 2 (row_holds d refl)) (q.rule ∙ simp (at_data (register s b) b d))
    go (to_nil f z) = gives_nil_size q.sound_is q.free_is l m f z (q.rule ∙ simp (at_nil (register s b) b f z))
    go (to_lost n e) = refuses_lost q.sound_is q.free_is (handle_lost s m n e) (q.rows 9 (passed (no_data (register s b) (tuple_flag (register s b) n)) (row_holds (tuple_handle (register s b) n, e) refl))) (q.rule ∙ simp (at_lost (register s b) b n e))
    go (to_tuple n e) = gives_size q.sound_is q.free_is l m n e (q.rule ∙ simp (at_entry (register s b) b n e))

tag_view : (r s : ℕ) (b : Box) → Reached (Tag r s) b → r < register_count → s < register_count → Asked b (Tag r s)
unfolding carry_out tag_rule tag_at
tag_view r s b q l m = go (points (register s b) b)
  where
    by_place : names_tuple (register s b) ≡ true → Entry (named s b) b
        → (in_memory (place (named s b) 0 b) b ≡ true) ⊎ (in_memory (place (named s b) 0 b) b ≡ false) → Asked b (Tag r s)
    by_place n e (inl p) = gives_tag q.sound_is q.free_is l m n e p (q.rule ∙ simp (at_entry (register s b) b n e, p))
    by_place n e (inr p) = refuses_lost q.sound_is q.free_is (place_past s m n e 0 (omega arith) p) (q.rows 9 (passed (no_data (register s b) (tuple_flag (register s b) n)) (row_holds (tuple_handle (register s b) n, inr (out_of_memory (named s b) 0 b p)) refl))) (q.rule ∙ simp (at_entry (register s b) b n e, p))

    go : Points (register s b) b → Asked b (Tag r s)
    go (to_data d) = refuses 2 (omega arith) (omega arith) (omega arith) (q.rows 2 (row_holds d refl)) (q.rule ∙ simp (at_data (register s b) b d))
    go (to_nil f z) = gives_nil_tag q.sound_is q.free_is l m f z (q.rule ∙ simp (at_nil (register s b) b f z))
    go (to_lost n e) = refuses_lost q.sound_is q.free_is (handle_lost s m n e) (q.rows 9 (passed (no_data (register s b) (tuple_flag (register s b) n)) (row_holds (tuple_handle (register s b) n, inl e) refl))) (q.rule ∙ simp (at_lost (register s b) b n e))
    go (to_tuple n e) = by_place n e (true? (in_memory (place (named s b) 0 b) b))

-- ---- any request

one : (r : ℕ) → is_register r ≡ true → ¬ NoRegister r
one r e x =
    let l : r < register_count = ltb-true r register_count e in
    omega arith

first_right : (r s : ℕ) → is_register r && is_register s ≡ true → r < register_count
first_right r s e = ltb-true r register_count (and_left (is_register r) (is_register s) e)

second_right : (r s : ℕ) → is_register r && is_register s ≡ true → s < register_count
second_right r s e = ltb-true s register_count (and_right (is_register r) (is_register s) e)

-- one of two tests fails
one_wrong : (r s : ℕ) → is_register r && is_register s ≡ false → NoRegister r ⊎ NoRegister s
one_wrong r s e = go (lt? r register_count) (lt? s register_count)
  where
    go : (r < register_count) ⊎ NoRegister r → (s < register_count) ⊎ NoRegister s → NoRegister r ⊎ NoRegister s
    go (inr x) y = inl x
    go (inl x) (inr y) = inr y
    go (inl x) (inl y) = absurd (true≢false (sym both ∙ e))
      where
        both : is_register r && is_register s ≡ true
        both = simp (lt-ltb r register_count x, lt-ltb s register_count y)

pub both_registers : (r s : ℕ) → r < register_count → s < register_count → ¬ (NoRegister r ⊎ NoRegister s)
both_registers r s l m (inl x) = omega arith
both_registers r s l m (inr x) = omega arith

wrong_register : (q : Request) → registers_right q ≡ false → WrongRegister q
unfolding registers_right
wrong_register (Setd r v) e = ltb-false r register_count e
wrong_register (Nil r) e = ltb-false r register_count e
wrong_register (Move r s) e = one_wrong r s e
wrong_register (Advance r n) e = ltb-false r register_count e
wrong_register (Getm r n t) e = ltb-false r register_count e
wrong_register (Load r s k) e = one_wrong r s e
wrong_register (Store r s k) e = one_wrong r s e
wrong_register (Size r s) e = one_wrong r s e
wrong_register (Tag r s) e = one_wrong r s e
wrong_register (Same r s t) e = go (true? (is_register r && is_register s)) (lt? t register_count)
  where
    go : (is_register r && is_register s ≡ true) ⊎ (is_register r && is_register s ≡ false) → (t < register_count) ⊎ NoRegister t → (NoRegister r ⊎ NoRegister s) ⊎ NoRegister t
    go (inr x) y = inl (one_wrong r s x)
    go (inl x) (inr y) = inr y
    go (inl x) (inl y) = absurd (true≢false (sym all ∙ e))
      where
        all : is_register r && is_register s && is_register t ≡ true
        all = simp (x, lt-ltb t register_count y)

right_register : (q : Request) → registers_right q ≡ true → ¬ WrongRegister q
unfolding registers_right
right_register (Setd r v) e x = one r e x
right_register (Nil r) e x = one r e x
right_register (Move r s) e x = both_registers r s (first_right r s e) (second_right r s e) x
right_register (Advance r n) e x = one r e x
right_register (Getm r n t) e x = one r e x
right_register (Load r s k) e x = both_registers r s (first_right r s e) (second_right r s e) x
right_register (Store r s k) e x = both_registers r s (first_right r s e) (second_right r s e) x
right_register (Size r s) e x = both_registers r s (first_right r s e) (second_right r s e) x
right_register (Tag r s) e x = both_registers r s (first_right r s e) (second_right r s e) x
right_register (Same r s t) e (inl x) =
    let u : is_register r && is_register s ≡ true = and_left (is_register r && is_register s) (is_register t) e in
    both_registers r s (first_right r s u) (second_right r s u) x
right_register (Same r s t) e (inr x) = one t (and_right (is_register r && is_register s) (is_register t) e) x

kind_view : (q : Request) (b : Box) → registers_right q ≡ true → Reached q b → Asked b q
unfolding registers_right carry_out same
kind_view (Setd r v) b g q = sets_data q.sound_is q.free_is (ltb-true r register_count g) q.rule
kind_view (Nil r) b g q = sets_nil q.sound_is q.free_is (ltb-true r register_count g) q.rule
kind_view (Move r s) b g q = moves q.sound_is q.free_is (first_right r s g) (second_right r s g) q.rule
kind_view (Advance r n) b g q = advance_view r n b q (ltb-true r register_count g)
kind_view (Getm r n t) b g q = getm_view r n t b q (ltb-true r register_count g)
kind_view (Load r s k) b g q = load_view r s k b q (first_right r s g) (second_right r s g)
kind_view (Store r s k) b g q = store_view r s k b q (first_right r s g) (second_right r s g)
kind_view (Size r s) b g q = size_view r s b q (first_right r s g) (second_right r s g)
kind_view (Tag r s) b g q = tag_view r s b q (first_right r s g) (second_right r s g)
kind_view (Same r s t) b g q =
    compares q.sound_is q.free_is (first_right r s (and_left (is_register r && is_register s) (is_register t) g))
    (second_right r s (and_left (is_register r && is_register s) (is_register t) g))
    (ltb-true t register_count (and_right (is_register r && is_register s) (is_register t) g)) q.rule

pub asked : (q : Request) (b : Box) → Asked b q
unfolding request
asked q b = by_sound (true? (sound b))
  where
    by_held : sound b ≡ true → registers_right q ≡ true → (b.hold.held ≡ true) ⊎ (b.hold.held ≡ false) → Asked b q
    by_held s g (inl h) = refuses {q = q} 6 (omega arith) (omega arith) (omega arith) (passed (λ n. n (sound_right b s)) (passed (right_register q g) (row_holds h refl))) (simp (s, g, h))
    by_held s g (inr f) = kind_view q b g (record { sound_is = s; free_is = f; rule = simp (s, g, f); rows = λ a k. passed (λ n. n (sound_right b s)) (passed (right_register q g) (passed (λ h. true≢false (sym h ∙ f)) k)) })

    by_registers : sound b ≡ true → (registers_right q ≡ true) ⊎ (registers_right q ≡ false) → Asked b q
    by_registers s (inl g) = by_held s g (true? b.hold.held)
    by_registers s (inr g) = refuses {q = q} 1 (omega arith) (omega arith) (omega arith) (passed (λ n. n (sound_right b s)) (row_holds (wrong_register q g) refl)) (simp (s, g))

    by_sound : (sound b ≡ true) ⊎ (sound b ≡ false) → Asked b q
    by_sound (inl s) = by_registers s (true? (registers_right q))
    by_sound (inr s) = refuses_unsound {q = q} s (simp s)
