-- What playing a piece leaves alone: M, H and the columns' lengths, whether a box was opened, and that the start is behind. By the moves, and then turn by turn.
-- Assumes nothing.
use Prim.Native.Nat.{ℕ, zero, suc, ◌+◌, ◌<◌}
use mathlib.Core.Bool.{Bool, true, false, cond}
use mathlib.Core.List.{List}
use mathlib.Core.Path.{◌≡◌, refl, ◌∙◌, ap, subst}
use native.Mathlib.Omega.{arith}
use lib.Dec.{leb, ltb, eqb}
use borrow.Author.Tests.{ltb-true, ltb-false}
use lib.ListN.{length, get_or}
use Rattle.rules.specs.declared.kinds.Request.{Request}
use Rattle.rules.specs.declared.kinds.Request.TheVariants.{Setd, Nil, Move as MoveTo, Advance, Getm, Load, Store, Size, Tag, Same}
use Rattle.rules.specs.Parts.{Box}
use Rattle.rules.specs.Box.{Reply, register, handle_of, offset_of, is_nil, size_of, is_entry, sound}
use Rattle.rules.specs.Limits.{half_word}
use Rattle.rules.specs.Place.{place, in_memory}
use Rattle.record.specs.Fields.{Item, whole, fault, kinds, entry}
use Rattle.record.specs.Reading.{is_end, nothing_behind}
use Rattle.rules.specs.Request.{advance, getm, load, store, store_word, size, tag, tag_at, same, at_tuple, at_word, word_number, no_room, can_make, new_tuple, put_on_hold, registers_right, carry_out as carry_request, request}
use Rattle.rules.specs.Collector.{step}
use Rattle.rules.proofs.Kept.{Outline, outline, Keeps, same as Keeps_same, tuple_keeps, store_keeps, step_keeps}
use Rattle.pieces.specs.declared.place.Deed.{Deed}
use Rattle.pieces.specs.declared.place.Deed.TheVariants.{Say, Step, Ask, Silent}
use Rattle.pieces.specs.declared.place.Place.{Place}
use Rattle.pieces.specs.Pieces.{playing, at_end, Move, go, wait, may_come, refuse, finish, play_now, take_record, next_record, go_on, look_behind, next, carry_out, printed, Piece, room_behind, play_in, play_piece}
use Rattle.pieces.proofs.Turns.{either, in_full, in_waits, in_goes}
use Rattle.turns.proofs.Parts.{SameShape}

-- M, H and the lengths of all columns: the outline of a box without the request that the hold names
abbrev pub without_request : Outline → Outline
without_request o = record o { register = 0; size = 0; tag = 0 }

-- those of b are those of x
abbrev pub Sized : Box → Box → Type 0
Sized b x = without_request (outline x) ≡ without_request (outline b)

kept_sized : (b c : Box) → Keeps b c → Sized b c
kept_sized b c k = ap without_request k.outline_same

module _ (b x : Box) (s : Sized b x) where
  pub sized_m : x.m ≡ b.m
  sized_m = ap (λ (o : Outline). o.m) s

  pub sized_h : x.h ≡ b.h
  sized_h = ap (λ (o : Outline). o.h) s

  pub sized_shape : SameShape x b
  sized_shape = record { words = ap (λ (o : Outline). o.words) s; flags = ap (λ (o : Outline). o.flags) s; addresses = ap (λ (o : Outline). o.addresses) s; sizes = ap (λ (o : Outline). o.sizes) s; links = ap (λ (o : Outline). o.links) s; marks = ap (λ (o : Outline). o.marks) s; deeps = ap (λ (o : Outline). o.deeps) s }

pick : (t : Bool) (b : Box) (r s : Reply) → Sized b r.box → Sized b s.box → Sized b (cond t r s).box
pick true b r s k l = k
pick false b r s k l = l

-- a tuple or a word that is looked up
tuple_sized : (w : _) (b : Box) (at_nil : Reply) (found : ℕ → Reply) → Sized b at_nil.box → ((h : ℕ) → Sized b (found h).box) → Sized b (at_tuple w b at_nil found).box
unfolding at_tuple
tuple_sized w b at_nil found n f = pick w.flag b _ _ (pick (is_nil w) b _ _ n (pick (is_entry (handle_of w) b) b _ _ (f (handle_of w)) refl)) refl

word_sized : (h n : ℕ) (b : Box) (found : _ → Reply) → ((p : _) → Sized b (found p).box) → Sized b (at_word h n b found).box
unfolding at_word
word_sized h n b found f = pick (ltb n (size_of h b)) b _ _ (pick (in_memory (place h (n + 1) b) b) b _ _ (f (place h (n + 1) b)) refl) refl

kind_sized : (q : Request) (b : Box) → Sized b (carry_request q b).box
unfolding carry_request advance getm load store size tag tag_at same put_on_hold
kind_sized (Setd r v) b = refl
kind_sized (Nil r) b = refl
kind_sized (MoveTo r s) b = refl
kind_sized (Advance r n) b = pick (register r b).flag b _ _ (pick (ltb (offset_of (register r b) + n) half_word) b _ _ refl refl) refl
kind_sized (Getm r n t) b = pick (leb (n + 1) b.m) b _ _ (pick (no_room n b) b _ _ refl (pick (can_make n b) b _ _ (kept_sized b (new_tuple r n t b) (tuple_keeps r n t b b (Keeps_same b))) refl)) refl
kind_sized (Load r s k) b = tuple_sized (register s b) b _ _ refl (λ h. word_sized h (word_number (register s b) k) b _ (λ p. refl))
kind_sized (Store r s k) b = tuple_sized (register s b) b _ _ refl (λ h. word_sized h (word_number (register s b) k) b _ (λ p. kept_sized b (store_word (register r b) h p b).box (store_keeps (register r b) h p b)))
kind_sized (Size r s) b = tuple_sized (register s b) b _ _ refl (λ h. refl)
kind_sized (Tag r s) b = tuple_sized (register s b) b _ _ refl (λ h. pick (in_memory (place h 0 b) b) b _ _ refl refl)
kind_sized (Same r s t) b = refl

request_sized : (q : Request) (b : Box) → Sized b (request q b).box
unfolding request
request_sized q b = pick (sound b) b _ _ (pick (registers_right q) b _ _ (pick b.hold.held b _ _ refl (kind_sized q b)) refl) refl

step_sized : (b : Box) → Sized b (step b).box
step_sized b = kept_sized b (step b).box (step_keeps b)

deed_sized : (d : Deed) (b : Box) → Sized b (carry_out d b).box
unfolding carry_out
deed_sized (Say a) b = refl
deed_sized Step b = step_sized b
deed_sized (Ask q) b = request_sized q b
deed_sized Silent b = refl

-- ---- moves

-- the place after a move: whether a box was opened is as it was, and the start is behind
abbrev After : Place → Place → Type 0
After p q = (q.opened ≡ p.opened) × (0 < q.stage)

abbrev Stays : Place → Move → Type 0
Stays p (go d q rest) = After p q
Stays p wait = Unit {0}

take_stays : (p : Place) (ns rest : List ℕ) → 0 < p.stage → Stays p (take_record p ns rest)
unfolding take_record finish play_now
take_stays p ns rest h = either (Stays p) (is_end ns) _ _ (λ z. either (Stays p) (eqb (get_or ns 1 0) p.count) _ _ (λ c. (refl, omega arith)) (λ c. (refl, omega arith))) (λ z. either (Stays p) (eqb p.stage playing) _ _ (λ s. either (Stays p) (eqb (get_or ns 0 0) 11) _ _ (λ k. (refl, h)) (λ k. (refl, h))) (λ s. (refl, h)))

record_stays : (last : Bool) (p : Place) (bs : List ℕ) → 0 < p.stage → Stays p (next_record last p bs)
unfolding next_record refuse
record_stays last p bs h = of (entry kinds bs) refl
  where
    of : (x : Item) → entry kinds bs ≡ x → Stays p (next_record last p bs)
    of (whole ns rest) e = rw (e, next_record, Stays) (take_stays p ns rest h)
    of (fault a) e = rw (e, next_record, Stays) (either (Stays p) (may_come last a) _ _ (λ m. tt) (λ m. (refl, omega arith)))

next_stays : (last : Bool) (p : Place) (bs : List ℕ) → 0 < p.stage → Stays p (next last p bs)
unfolding next go_on look_behind
next_stays last p bs h = either (Stays p) (ltb p.stage at_end) _ _ (λ e. either (Stays p) (eqb p.left 0) _ _ (λ l. record_stays last p bs h) (λ l. (refl, h))) (λ e. either (Stays p) (eqb p.stage at_end) _ _ (λ a. either (Stays p) (nothing_behind bs) _ _ (λ n. tt) (λ n. (refl, omega arith))) (λ a. tt))

-- ---- a piece

abbrev Kept : Place → Box → Piece → Type 0
Kept p b r = After p r.place × Sized b r.box

turns_keep : (turns : ℕ) (last : Bool) (room : ℕ) (p : Place) (bs : List ℕ) (b : Box) → 0 < p.stage → Kept p b (play_in turns last room p bs b)
unfolding play_in
turns_keep zero last room p bs b h = ((refl, h), refl)
turns_keep (suc turns) last room p bs b h = by (ltb room 3) refl (next last p bs) refl (turns_keep turns)
  where
    by : (s : Bool) → ltb room 3 ≡ s → (m : Move) → next last p bs ≡ m → ((last : Bool) (room : ℕ) (p : Place) (bs : List ℕ) (b : Box) → 0 < p.stage → Kept p b (play_in turns last room p bs b)) → Kept p b (play_in (suc turns) last room p bs b)
    by true s m e ih = rw (in_full (suc turns) last room p bs b (ltb-true room 3 s)) ((refl, h), refl)
    by false s wait e ih = rw (in_waits turns last room p bs b (ltb-false room 3 s) e) ((refl, h), refl)
    by false s (go d q rest) e ih =
        let a : After p q = subst (Stays p) e (next_stays last p bs h) in
        let z : Sized b (carry_out d b).box = deed_sized d b in
        let k = ih last (room_behind (printed d (carry_out d b).answer) room) q rest (carry_out d b).box a.1 in
        rw (in_goes turns last room p bs b d q rest (ltb-false room 3 s) e) ((k.0.0 ∙ a.0, k.0.1), k.1 ∙ z)

pub piece_keeps : (last : Bool) (room : ℕ) (p : Place) (bs : List ℕ) (b : Box) → 0 < p.stage → Kept p b (play_piece last room p bs b)
unfolding play_piece
piece_keeps last room p bs b h = turns_keep (length bs + room) last room p bs b h
