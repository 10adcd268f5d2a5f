-- Document 01, "Requests": the order of refusals, the ten kinds, the new tuple and the hold.
use Rattle.std.specs.Prelude.{ℕ, ◌+◌, Bool, true, false, not, cond, ◌&&◌, ◌||◌, leb, ltb, eqb}
use Rattle.std.specs.Bool.{beq}
use Rattle.rules.specs.declared.kinds.Request.{Request}
use Rattle.rules.specs.declared.kinds.Request.TheVariants.{Setd, Nil, Move, Advance, Getm, Load, Store, Size, Tag, Same}
use Rattle.rules.specs.Limits.{half_word, register_count}
use Rattle.rules.specs.Parts.{Word, Box, with_begun, with_free, with_held, with_hold_register, with_hold_size, with_hold_tag, with_live, with_top}
use Rattle.rules.specs.Box.{Reply, reply, data_word, pointer, control_word, handle_of, offset_of, tag_of, is_nil, names_tuple, put, register, put_register, size_of, link, set_address, set_size, set_mark, set_deep, is_entry, sound}
use Rattle.rules.specs.Place.{Place, place, in_memory, read, write, can_shade, shade}

-- ---- a new tuple and the hold

-- no free handle, or top + n + 1 above M
unfoldable pub no_room : ℕ → Box → Bool
no_room n b = eqb b.free 0 || ltb b.m (b.top + n + 1)

-- in any phase but Rest a new tuple is marked and counted in live
unfoldable pub collecting : Box → Bool
collecting b = not (eqb b.collector.phase 0)

-- the free handle can be looked up, and the total of a cycle stays within M
unfoldable pub can_make : ℕ → Box → Bool
can_make n b = is_entry b.free b && (not (collecting b) || leb (b.collector.live + n + 1) b.m)

-- its entry: at top, of size n, not deep; unmarked in Rest, otherwise marked
unfoldable pub new_entry : ℕ → ℕ → Box → Box
new_entry h n b = set_address h b.top (set_size h n (set_mark h (collecting b) (set_deep h false b)))

-- the numbers: the first free handle is taken, top grows by n + 1, and outside Rest live does
unfoldable pub take_room : ℕ → Box → Box
take_room n b =
    with_free (link b.free b)
    (with_top (b.top + n + 1)
    (with_live (cond (collecting b) (b.collector.live + n + 1) b.collector.live) b))

-- the first free handle, a control word at top and nothing else, and r points to it
unfoldable pub new_tuple : ℕ → ℕ → ℕ → Box → Box
new_tuple r n tag b =
    put_register r (pointer b.free 0)
    (take_room n (put b.top (control_word b.free tag) (new_entry b.free n b)))

-- put on hold: no cycle has begun under it yet
unfoldable pub put_on_hold : ℕ → ℕ → ℕ → Box → Box
put_on_hold r n tag b =
    with_held true
    (with_begun false (with_hold_register r (with_hold_size n (with_hold_tag tag b))))

-- ---- a pointer's tuple and word

-- s of SIZE, TAG, LOAD and STORE: data answers 2, nil as its kind says, and a handle outside 1 to H-1 answers 9
unfoldable pub at_tuple : Word → Box → Reply → (ℕ → Reply) → Reply
at_tuple w b at_nil found =
    cond w.flag
    (cond (is_nil w) at_nil (cond (is_entry (handle_of w) b) (found (handle_of w)) (reply b 9)))
    (reply b 2)

-- the word number that an offset and k name
unfoldable pub word_number : Word → ℕ → ℕ
word_number w k = offset_of w + k

-- a word of tuple h: beyond its size 3, where its place is no address of memory 9
unfoldable pub at_word : ℕ → ℕ → Box → (Place → Reply) → Reply
at_word h n b found =
    cond (ltb n (size_of h b))
    (cond (in_memory (place h (n + 1) b) b) (found (place h (n + 1) b)) (reply b 9))
    (reply b 3)

-- ---- the ten kinds

abbrev pub done : Box → Reply
done b = reply b 0

-- offset + n past 65,535 answers 4
unfoldable pub advance : ℕ → ℕ → Box → Reply
advance r n b =
    cond (register r b).flag
    (cond (ltb (offset_of (register r b) + n) half_word)
    (done (put_register r (pointer (handle_of (register r b)) (offset_of (register r b) + n)) b))
    (reply b 4))
    (reply b 2)

-- n + 1 above M answers 5; no room puts it on hold
unfoldable pub getm : ℕ → ℕ → ℕ → Box → Reply
getm r n tag b =
    cond (leb (n + 1) b.m)
    (cond (no_room n b) (reply (put_on_hold r n tag b) 7) (cond (can_make n b) (done (new_tuple r n tag b)) (reply b 9)))
    (reply b 5)

unfoldable pub load : ℕ → ℕ → ℕ → Box → Reply
load r s k b =
    at_tuple (register s b) b (reply b 3)
    (λ h. at_word h (word_number (register s b) k) b (λ p. done (put_register r (read p b) b)))

-- a non-nil pointer is first shaded, in phase 1, 2 or 3
unfoldable pub shades : Word → Box → Bool
shades w b = names_tuple w && leb 1 b.collector.phase && leb b.collector.phase 3

unfoldable pub shaded_first : Word → Box → Box
shaded_first w b = cond (shades w b) (shade (handle_of w) b) b

-- and then sets the deep flag of the tuple written; nil and data do neither
unfoldable pub deepened : Word → ℕ → Box → Box
deepened w h b = cond (names_tuple w) (set_deep h true b) b

unfoldable pub store_word : Word → ℕ → Place → Box → Reply
store_word w h p b =
    cond (not (shades w b) || can_shade (handle_of w) b)
    (done (write p w (deepened w h (shaded_first w b))))
    (reply b 9)

unfoldable pub store : ℕ → ℕ → ℕ → Box → Reply
store r s k b =
    at_tuple (register s b) b (reply b 3)
    (λ h. at_word h (word_number (register s b) k) b (λ p. store_word (register r b) h p b))

unfoldable pub size : ℕ → ℕ → Box → Reply
size r s b =
    at_tuple (register s b) b (done (put_register r (data_word 0) b))
    (λ h. done (put_register r (data_word (size_of h b)) b))

-- the tag is in the control word, index 0
unfoldable pub tag_at : ℕ → ℕ → Box → Reply
tag_at r h b =
    cond (in_memory (place h 0 b) b) (done (put_register r (data_word (tag_of (read (place h 0 b) b))) b)) (reply b 9)

unfoldable pub tag : ℕ → ℕ → Box → Reply
tag r s b = at_tuple (register s b) b (done (put_register r (data_word 0) b)) (λ h. tag_at r h b)

-- word and flag are equal
unfoldable pub same_word : Word → Word → Bool
same_word v w = eqb v.bits w.bits && beq v.flag w.flag

unfoldable pub same : ℕ → ℕ → ℕ → Box → Reply
same r s t b = done (put_register r (data_word (cond (same_word (register s b) (register t b)) 1 0)) b)

-- ---- any request

abbrev pub is_register : ℕ → Bool
is_register r = ltb r register_count

-- every register that the request names is 0 to 7
unfoldable pub registers_right : Request → Bool
registers_right (Setd r v) = is_register r
registers_right (Nil r) = is_register r
registers_right (Move r s) = is_register r && is_register s
registers_right (Advance r n) = is_register r
registers_right (Getm r n t) = is_register r
registers_right (Load r s k) = is_register r && is_register s
registers_right (Store r s k) = is_register r && is_register s
registers_right (Size r s) = is_register r && is_register s
registers_right (Tag r s) = is_register r && is_register s
registers_right (Same r s t) = is_register r && is_register s && is_register t

unfoldable pub carry_out : Request → Box → Reply
carry_out (Setd r v) b = done (put_register r (data_word v) b)
carry_out (Nil r) b = done (put_register r (pointer 0 0) b)
carry_out (Move r s) b = done (put_register r (register s b) b)
carry_out (Advance r n) b = advance r n b
carry_out (Getm r n t) b = getm r n t b
carry_out (Load r s k) b = load r s k b
carry_out (Store r s k) b = store r s k b
carry_out (Size r s) b = size r s b
carry_out (Tag r s) b = tag r s b
carry_out (Same r s t) b = same r s t b

-- the order of refusals: 9 for sizes, lengths and phase, then 1, then 6, then what the kind says
unfoldable pub request : Request → Box → Reply
request q b =
    cond (sound b)
    (cond (registers_right q) (cond b.hold.held (reply b 6) (carry_out q b)) (reply b 1))
    (reply b 9)
