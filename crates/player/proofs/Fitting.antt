-- The text of a call fits the room that the call has: by turns, each of which prints at most three characters and only where there is room
-- for three, and at the start by the answer or the refusal that is the one line. Assumes nothing.
use Prim.Native.Nat.{ℕ, zero, suc, ◌+◌, ◌<◌, ◌≤◌}
use mathlib.Core.Bool.{Bool, true, false}
use mathlib.Core.List.{List, [], ◌∷◌, append-nil}
use mathlib.Core.Path.{◌≡◌, refl, subst}
use native.Mathlib.Omega.{arith}
use borrow.Author.Tests.{ltb-true, ltb-false}
use lib.Dec.{ltb, eqb}
use lib.ListN.{length, get_or, length-append}
use Rattle.rules.specs.Parts.{Box}
use Rattle.record.specs.Fields.{Item, whole, fault, editions, entry}
use Rattle.record.proofs.Refusals.{either_way}
use Rattle.pieces.specs.declared.place.Place.{Place}
use Rattle.pieces.specs.Text.{text}
use Rattle.pieces.specs.Pieces.{at_start, Move, go, wait, may_come, next, carry_out, printed, Piece, room_behind, play_in, play_piece, begun, not_begun, begin, begin_piece, play_call}
use Rattle.pieces.proofs.Lines.{line_short}
use Rattle.pieces.proofs.Turns.{in_full, in_waits, in_goes}
use Rattle.turns.proofs.Turning.{Fair, next_fair, answer_small, text_append, room_behind_text, printed_short}
use Rattle.player.proofs.Starting.{fault_small, open_small}

abbrev Fits : ℕ → Piece → Type 0
Fits room r = length (text r.lines) ≤ room

-- ---- moves

fits_in : (turns : ℕ) (last : Bool) (room : ℕ) (p : Place) (bs : List ℕ) (b : Box) → Fits room (play_in turns last room p bs b)
unfolding play_in text
fits_in zero last room p bs b = omega arith
fits_in (suc turns) last room p bs b = by (ltb room 3) refl (next last p bs) refl (fits_in turns last)
  where
    by : (s : Bool) → ltb room 3 ≡ s → (m : Move) → next last p bs ≡ m → ((room : ℕ) (p : Place) (bs : List ℕ) (b : Box) → Fits room (play_in turns last room p bs b)) → Fits room (play_in (suc turns) last room p bs b)
    by true s m e ih = rw (in_full (suc turns) last room p bs b (ltb-true room 3 s)) (omega arith)
    by false s wait e ih = rw (in_waits turns last room p bs b (ltb-false room 3 s) e) (omega arith)
    by false s (go d q rest) e ih =
        let r : 3 ≤ room = ltb-false room 3 s in
        let small : (carry_out d b).answer < 100 = answer_small d b (subst (Fair bs) e (next_fair last p bs)).1 in
        rw (in_goes turns last room p bs b d q rest r e, text_append, length-append)
        (omega (arith, printed_short d (carry_out d b).answer small, room_behind_text (printed d (carry_out d b).answer) room, ih (room_behind (printed d (carry_out d b).answer) room) q rest (carry_out d b).box))

-- ---- the start

-- one line, of a number below 100
one_fits : (room a : ℕ) → 3 ≤ room → a < 100 → length (text (a ∷ [])) ≤ room
unfolding text
one_fits room a h k = rw append-nil (omega (arith, line_short a k))

begin_fits : (last : Bool) (room : ℕ) (p : Place) (bs : List ℕ) (b : Box) → Fits room (begin_piece last room p bs b)
unfolding begin_piece begin begun not_begun text
begin_fits last room p bs b = by (ltb room 3) refl (entry editions bs) refl
  where
    by : (t : Bool) → ltb room 3 ≡ t → (x : Item) → entry editions bs ≡ x → Fits room (begin_piece last room p bs b)
    by true t x e = rw t (omega arith)
    by false t (whole ns rest) e = rw (t, e, begin) (one_fits room _ (ltb-false room 3 t) (open_small (get_or ns 1 0) (get_or ns 2 0) b))
    by false t (fault a) e = rw (t, e, begin) (either_way (Fits room) (may_come last a) _ _ (omega arith) (one_fits room a (ltb-false room 3 t) (fault_small bs a e)))

-- ---- any call

pub call_fits : (last : Bool) (room : ℕ) (p : Place) (bs : List ℕ) (b : Box) → length (text (play_call last room p bs b).lines) ≤ room
unfolding play_call play_piece
call_fits last room p bs b = either_way (Fits room) (eqb p.stage at_start) _ _ (begin_fits last room p bs b) (fits_in (length bs + room) last room p bs b)
