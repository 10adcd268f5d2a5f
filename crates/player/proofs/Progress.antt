-- A call with room for a line gets on. A move that prints nothing takes a byte, as each takes a byte or room, and what is done behind a move
-- gives no byte back: by turns. At the start, all but waiting prints a line. A call of the code comes to such a piece.
-- Assumes nothing.
use Prim.Native.Nat.{ℕ, zero, suc, ◌+◌, ◌<◌, ◌≤◌}
use mathlib.Core.Bool.{Bool, true, false}
use mathlib.Core.List.{List, [], ◌∷◌}
use mathlib.Core.Logic.{◌⊎◌, inl, inr}
use mathlib.Core.Path.{◌≡◌, refl, ◌∙◌, ap, subst}
use native.Mathlib.Omega.{arith}
use borrow.Author.Tests.{ltb-true, ltb-false, le-ltb}
use lib.Dec.{ltb, eqb}
use lib.ListN.{length, drop, length-append, length-drop}
use Rattle.rules.specs.Parts.{Box}
use Rattle.record.specs.Fields.{Item, whole, fault, editions, entry}
use Rattle.record.proofs.Refusals.{either_way}
use Rattle.pieces.specs.declared.place.Place.{Place}
use Rattle.pieces.specs.declared.place.Deed.{Deed}
use Rattle.pieces.specs.declared.place.Deed.TheVariants.{Say, Step, Ask, Silent}
use Rattle.pieces.specs.Text.{text}
use Rattle.pieces.specs.Pieces.{at_start, Move, go, wait, may_come, next, carry_out, printed, Piece, lines_before, room_behind, play_in, play_piece, begun, not_begun, begin, begin_piece, play_call}
use Rattle.turns.specs.Outcome.{Outcome, leaves, outcome}
use Rattle.player.specs.Promises.{played_at}
use Rattle.pieces.specs.Claims.{Advances, GetsOn}
use Rattle.player.specs.Claims.{CallGetsOn}
use Rattle.pieces.proofs.Turns.{line_length, goes_less, in_full, in_waits, in_goes, piece_waits, piece_goes}
use Rattle.turns.proofs.Turning.{Fair, next_fair}

-- ---- moves

-- no turn gives a byte back
no_more : (turns : ℕ) (last : Bool) (room : ℕ) (p : Place) (bs : List ℕ) (b : Box) → length (play_in turns last room p bs b).bytes ≤ length bs
unfolding play_in
no_more zero last room p bs b = omega arith
no_more (suc turns) last room p bs b = by (ltb room 3) refl (next last p bs) refl (no_more turns last)
  where
    by : (s : Bool) → ltb room 3 ≡ s → (m : Move) → next last p bs ≡ m → ((room : ℕ) (p : Place) (bs : List ℕ) (b : Box) → length (play_in turns last room p bs b).bytes ≤ length bs) → length (play_in (suc turns) last room p bs b).bytes ≤ length bs
    by true s m e ih = rw (in_full (suc turns) last room p bs b (ltb-true room 3 s)) (omega arith)
    by false s wait e ih = rw (in_waits turns last room p bs b (ltb-false room 3 s) e) (omega arith)
    by false s (go d q rest) e ih =
        let f : Fair bs (go d q rest) = subst (Fair bs) e (next_fair last p bs) in
        rw (in_goes turns last room p bs b d q rest (ltb-false room 3 s) e) (omega (arith, f.0.no_longer, ih (room_behind (printed d (carry_out d b).answer) room) q rest (carry_out d b).box))

-- a move and what is done behind it: it prints a line, or the bytes behind it are fewer
moved : (bs rest : List ℕ) (d : Deed) (a : ℕ) (r : Piece) → length rest + room_behind (printed d a) 3 < length bs + 3 → length r.bytes ≤ length rest → Advances bs (lines_before (printed d a) r)
unfolding printed room_behind
moved bs rest (Say n) a r l h = inr (inl (omega arith))
moved bs rest Step a r l h = inr (inl (omega arith))
moved bs rest (Ask q) a r l h = inr (inl (omega arith))
moved bs rest Silent a r l h = inr (inr (omega arith))

module _ (last : Bool) (room : ℕ) (p : Place) (bs : List ℕ) (b : Box) (h : 3 ≤ room) where
  piece_on : Advances bs (play_piece last room p bs b)
  unfolding play_piece
  piece_on = of (next last p bs) refl
    where
      of : (m : Move) → next last p bs ≡ m → Advances bs (play_piece last room p bs b)
      of wait e = rw (piece_waits last room p bs b h e) (inl refl)
      of (go d q rest) e =
          let a : ℕ = (carry_out d b).answer in
          let k : ℕ = room_behind (printed d a) room in
          rw (piece_goes last room p bs b h e) (moved bs rest d a (play_piece last k q rest (carry_out d b).box) (goes_less last p bs d q rest e a 3 (omega arith)) (no_more (length rest + k) last k q rest (carry_out d b).box))

  -- ---- the start

  begin_on : Advances bs (begin_piece last room p bs b)
  unfolding begin_piece begin begun not_begun
  begin_on = of (entry editions bs) refl
    where
      of : (x : Item) → entry editions bs ≡ x → Advances bs (begin_piece last room p bs b)
      of (whole ns rest) e = rw (le-ltb room 3 h, e, begin) (inr (inl (omega arith)))
      of (fault a) e = rw (le-ltb room 3 h, e, begin) (either_way (Advances bs) (may_come last a) _ _ (inl refl) (inr (inl (omega arith))))

pub gets_on : GetsOn
unfolding play_call
gets_on last room p bs b h = either_way (Advances bs) (eqb p.stage at_start) _ _ (begin_on last room p bs b h) (piece_on last room p bs b h)

-- ---- a call of the code

text_some : (xs : List ℕ) → 0 < length xs → 0 < length (text xs)
unfolding text
text_some [] h = h
text_some (x ∷ xs) h = rw length-append (omega (arith, line_length x))

pub call_gets_on : CallGetsOn
call_gets_on last p p1 bs o o1 b b1 used n w h c = of (play_call last (length o) p bs (played_at p b)) c.comes_to (gets_on last (length o) p bs (played_at p b) h)
  where
    of : (r : Piece) → leaves o1 n (played_at p1 b1) p1 (drop used bs) w ≡ outcome o 0 r → Advances bs r → (w ≡ true) ⊎ ((0 < n) ⊎ (0 < used))
    of r e (inl k) = inl (ap (λ (x : Outcome). x.waits) e ∙ k)
    of r e (inr (inl k)) = inr (inl (omega (arith, ap (λ (x : Outcome). x.written) e, text_some r.lines k)))
    of r e (inr (inr k)) = inr (inr (omega (arith, ap (λ (x : Outcome). length x.bytes) e, length-drop used bs)))
