-- The laws of `play_piece`, which speak of no turns. Each move takes a byte or prints a line, and a line has a character or more, so as
-- many turns as there are bytes and room never run out. Assumes nothing.
use Prim.Native.Nat.{ℕ, zero, suc, ◌+◌, ◌<◌, ◌≤◌}
use mathlib.Core.Bool.{Bool, true, false, cond}
use mathlib.Core.List.{List, []}
use mathlib.Core.Path.{◌≡◌, refl, sym, ◌∙◌, ap, subst}
use native.Mathlib.Omega.{arith}
use borrow.Author.Tests.{lt-ltb, le-ltb, ltb-true, ltb-false}
use lib.Dec.{ltb, eqb}
use lib.ListN.{length, get_or, length-append}
use Rattle.rules.specs.Parts.{Box}
use Rattle.record.specs.Number.{too_large, bytes_after}
use Rattle.record.specs.Fields.{Item, whole, fault, kinds, entry}
use Rattle.record.specs.Reading.{is_end, nothing_behind}
use Rattle.record.specs.Requests.{request_of}
use Rattle.pieces.specs.declared.place.Place.{Place}
use Rattle.pieces.specs.declared.place.Deed.{Deed}
use Rattle.pieces.specs.declared.place.Deed.TheVariants.{Say, Step, Ask, Silent}
use Rattle.pieces.specs.Text.{line}
use Rattle.pieces.specs.Pieces.{playing, at_end, Move, go, wait, may_come, refuse, finish, asked, play_now, take_record, next_record, go_on, look_behind, next, carry_out, printed, piece, lines_before, room_behind, play_in, play_piece}
use Rattle.record.proofs.Laws.{entry_behind}

-- what is true of either of two moves
pub either : (P : Move → Type 0) (t : Bool) (x y : Move) → (t ≡ true → P x) → (t ≡ false → P y) → P (cond t x y)
either P true x y h k = h refl
either P false x y h k = k refl

-- ---- what a move takes

-- from n bytes, this deed leaves less of bytes and room together
abbrev Leaves : ℕ → Deed → List ℕ → Type 0
Leaves n d rest = (a room : ℕ) → 1 ≤ room → length rest + room_behind (printed d a) room < n + room

abbrev Spends : ℕ → Move → Type 0
Spends n (go d q rest) = Leaves n d rest
Spends n wait = Unit {0}

pub line_length : (a : ℕ) → 1 ≤ length (line a)
unfolding line
line_length a = simp length-append (omega arith)

-- a deed whose bytes are fewer
by_byte : (n : ℕ) (d : Deed) (rest : List ℕ) → length rest < n → Leaves n d rest
unfolding printed room_behind
by_byte n (Say m) rest h a room r = omega arith
by_byte n Step rest h a room r = omega arith
by_byte n (Ask c) rest h a room r = omega arith
by_byte n Silent rest h a room r = omega arith

-- a deed that prints a line
by_say : (n m : ℕ) (rest : List ℕ) → length rest ≤ n → Leaves n (Say m) rest
unfolding printed room_behind
by_say n m rest h a room r = omega (arith, line_length a)

by_step : (n : ℕ) (rest : List ℕ) → length rest ≤ n → Leaves n Step rest
unfolding printed room_behind
by_step n rest h a room r = omega (arith, line_length a)

take_spends : (n : ℕ) (p : Place) (ns rest : List ℕ) → length rest < n → Spends n (take_record p ns rest)
unfolding take_record finish play_now
take_spends n p ns rest h = either (Spends n) (is_end ns) _ _ (λ z. either (Spends n) (eqb (get_or ns 1 0) p.count) _ _ (λ c. by_byte n Silent rest h) (λ c. by_byte n (Say too_large) rest h)) (λ z. either (Spends n) (eqb p.stage playing) _ _ (λ s. either (Spends n) (eqb (get_or ns 0 0) 11) _ _ (λ k. by_byte n Silent rest h) (λ k. by_byte n (asked (request_of (get_or ns 0 0) (get_or ns 1 0) (get_or ns 2 0) (get_or ns 3 0))) rest h)) (λ s. by_byte n Silent rest h))

record_spends : (last : Bool) (p : Place) (bs : List ℕ) → Spends (length bs) (next_record last p bs)
unfolding next_record refuse
record_spends last p bs = of (entry kinds bs) refl
  where
    of : (x : Item) → entry kinds bs ≡ x → Spends (length bs) (next_record last p bs)
    of (whole ns rest) e = rw (e, next_record, Spends) (take_spends (length bs) p ns rest (entry_behind kinds bs ns rest e).shorter)
    of (fault a) e = rw (e, next_record, Spends) (either (Spends (length bs)) (may_come last a) _ _ (λ m. tt) (λ m. by_say (length bs) a bs (omega arith)))

next_spends : (last : Bool) (p : Place) (bs : List ℕ) → Spends (length bs) (next last p bs)
unfolding next go_on look_behind
next_spends last p bs = either (Spends (length bs)) (ltb p.stage at_end) _ _ (λ e. either (Spends (length bs)) (eqb p.left 0) _ _ (λ l. record_spends last p bs) (λ l. by_step (length bs) bs (omega arith))) (λ e. either (Spends (length bs)) (eqb p.stage at_end) _ _ (λ a. either (Spends (length bs)) (nothing_behind bs) _ _ (λ n. tt) (λ n. by_say (length bs) bytes_after bs (omega arith))) (λ a. tt))

-- so a move leaves less of bytes and room together
pub goes_less : (last : Bool) (p : Place) (bs : List ℕ) (d : Deed) (q : Place) (rest : List ℕ) → next last p bs ≡ go d q rest → (a room : ℕ) → 1 ≤ room → length rest + room_behind (printed d a) room < length bs + room
goes_less last p bs d q rest e = subst (Spends (length bs)) e (next_spends last p bs)

-- ---- any number of turns

pub in_full : (turns : ℕ) (last : Bool) (room : ℕ) (p : Place) (bs : List ℕ) (b : Box) → room < 3 → play_in turns last room p bs b ≡ piece [] b p bs false
unfolding play_in
in_full zero last room p bs b h = refl
in_full (suc turns) last room p bs b h = rw (lt-ltb room 3)

pub in_waits : (turns : ℕ) (last : Bool) (room : ℕ) (p : Place) (bs : List ℕ) (b : Box) → 3 ≤ room → next last p bs ≡ wait → play_in (suc turns) last room p bs b ≡ piece [] b p bs true
unfolding play_in
in_waits turns last room p bs b h e = rw (le-ltb room 3, e)

pub in_goes : (turns : ℕ) (last : Bool) (room : ℕ) (p : Place) (bs : List ℕ) (b : Box) (d : Deed) (q : Place) (rest : List ℕ) → 3 ≤ room → next last p bs ≡ go d q rest → play_in (suc turns) last room p bs b ≡ lines_before (printed d (carry_out d b).answer) (play_in turns last (room_behind (printed d (carry_out d b).answer) room) q rest (carry_out d b).box)
unfolding play_in
in_goes turns last room p bs b d q rest h e = rw (le-ltb room 3, e)

-- as many turns as there are bytes and room are as good as more
enough : (t u : ℕ) (last : Bool) (room : ℕ) (p : Place) (bs : List ℕ) (b : Box) → length bs + room ≤ t → length bs + room ≤ u → play_in t last room p bs b ≡ play_in u last room p bs b
enough zero u last room p bs b h k = in_full zero last room p bs b (omega arith) ∙ sym (in_full u last room p bs b (omega arith))
enough (suc t) zero last room p bs b h k = in_full (suc t) last room p bs b (omega arith) ∙ sym (in_full zero last room p bs b (omega arith))
enough (suc t) (suc u) last room p bs b h k = by (ltb room 3) refl (next last p bs) refl (enough t u)
  where
    by : (s : Bool) → ltb room 3 ≡ s → (m : Move) → next last p bs ≡ m → ((last : Bool) (room : ℕ) (p : Place) (bs : List ℕ) (b : Box) → length bs + room ≤ t → length bs + room ≤ u → play_in t last room p bs b ≡ play_in u last room p bs b) → play_in (suc t) last room p bs b ≡ play_in (suc u) last room p bs b
    by true l m e same = in_full (suc t) last room p bs b (ltb-true room 3 l) ∙ sym (in_full (suc u) last room p bs b (ltb-true room 3 l))
    by false l wait e same = in_waits t last room p bs b (ltb-false room 3 l) e ∙ sym (in_waits u last room p bs b (ltb-false room 3 l) e)
    by false l (go d q rest) e same =
        let r : 3 ≤ room = ltb-false room 3 l in
        let less : length rest + room_behind (printed d (carry_out d b).answer) room < length bs + room = goes_less last p bs d q rest e (carry_out d b).answer room (omega arith) in
        in_goes t last room p bs b d q rest r e ∙ ap (lines_before (printed d (carry_out d b).answer)) (same last (room_behind (printed d (carry_out d b).answer) room) q rest (carry_out d b).box (omega arith) (omega arith)) ∙ sym (in_goes u last room p bs b d q rest r e)

-- ---- the laws

module _ (last : Bool) (room : ℕ) (p : Place) (bs : List ℕ) (b : Box) where
  pub piece_full : room < 3 → play_piece last room p bs b ≡ piece [] b p bs false
  unfolding play_piece
  piece_full h = in_full (length bs + room) last room p bs b h

  -- where there is room for a line there is a turn
  one_turn : 3 ≤ room → play_piece last room p bs b ≡ play_in (suc (length bs + room)) last room p bs b
  unfolding play_piece
  one_turn h = enough (length bs + room) (suc (length bs + room)) last room p bs b (omega arith) (omega arith)

  pub piece_waits : 3 ≤ room → next last p bs ≡ wait → play_piece last room p bs b ≡ piece [] b p bs true
  piece_waits h e = one_turn h ∙ in_waits (length bs + room) last room p bs b h e

  pub piece_goes : {d : Deed} {q : Place} {rest : List ℕ} → 3 ≤ room → next last p bs ≡ go d q rest → play_piece last room p bs b ≡ lines_before (printed d (carry_out d b).answer) (play_piece last (room_behind (printed d (carry_out d b).answer) room) q rest (carry_out d b).box)
  unfolding play_piece
  piece_goes {d} {q} {rest} h e =
      let less : length rest + room_behind (printed d (carry_out d b).answer) room < length bs + room = goes_less last p bs d q rest e (carry_out d b).answer room (omega arith) in
      one_turn h ∙ in_goes (length bs + room) last room p bs b d q rest h e ∙ ap (lines_before (printed d (carry_out d b).answer)) (enough (length bs + room) (length rest + room_behind (printed d (carry_out d b).answer) room) last (room_behind (printed d (carry_out d b).answer) room) q rest (carry_out d b).box (omega arith) (omega arith))
