-- The calls of the code print the text of the lines of the whole string. What a call promises is that it comes to a piece: as its text fits
-- the output, the bytes written are that text, and the box that is played, the place and the bytes are those of the piece. So calls of the
-- code are calls of the definitions, of which this is known. Assumes nothing.
use Prim.Native.Nat.{ℕ, ◌+◌, ◌≤◌}
use mathlib.Core.Bool.{Bool, true, false}
use mathlib.Core.List.{List, [], ◌++◌}
use mathlib.Core.Path.{◌≡◌, refl, sym, ◌∙◌, ap}
use native.Mathlib.Omega.{arith}
use lib.ListN.{length, take, drop}
use lib.Seq.{sets, sets-eq, take_at}
use Rattle.rules.specs.Parts.{Box}
use Rattle.pieces.specs.declared.place.Place.{Place}
use Rattle.pieces.specs.Text.{text}
use Rattle.pieces.specs.Pieces.{start, Piece, play_call}
use Rattle.turns.specs.Outcome.{Outcome, leaves, outcome}
use Rattle.player.specs.Promises.{played_at, Plays}
use Rattle.pieces.specs.Calls.{Runs, call, read, last_call, done}
use Rattle.player.specs.Printed.{Printed, plays, reads, plays_last, ends}
use Rattle.player.specs.Claims.{PrintedClaim}
use Rattle.turns.proofs.Turning.{text_append}
use Rattle.player.proofs.Starting.{at_the_start}
use Rattle.player.proofs.Fitting.{call_fits}
use Rattle.pieces.proofs.Theorem.{pieces}

-- what is written at the front of an output
take_sets : (o xs : List ℕ) → length xs ≤ length o → take (0 + length xs) (sets o 0 xs) ≡ xs
take_sets o xs h = rw (sets-eq xs o 0 (omega arith)) (take_at xs (drop (0 + length xs) o) (0 + length xs) (omega arith))

-- what was left is what this piece leaves
module _ (o o1 : List ℕ) (n : ℕ) (b : Box) (p : Place) (bs : List ℕ) (w : Bool) (r : Piece) (e : leaves o1 n b p bs w ≡ outcome o 0 r) where
  written : length (text r.lines) ≤ length o → take n o1 ≡ text r.lines
  written h = rw (ap (λ (x : Outcome). x.written) e, ap (λ (x : Outcome). x.out) e) (take_sets o (text r.lines) h)

  left : {more ls : List ℕ} → Runs p b bs more ls → Runs r.place r.box r.bytes more ls
  left k = rw (← ap (λ (x : Outcome). x.place) e, ← ap (λ (x : Outcome). x.box) e, ← ap (λ (x : Outcome). x.bytes) e) k

  waited : w ≡ true → r.waits ≡ true
  waited h = sym (ap (λ (x : Outcome). x.waits) e) ∙ h

-- calls of the definitions that print the same
record Ran (p : Place) (b : Box) (bs more out : List ℕ) : Type 0 where
  ls : List ℕ
  runs : Runs p (played_at p b) bs more ls
  prints : out ≡ text ls

-- a call, and those after it
call_ran : (last : Bool) (p p1 : Place) (b b1 : Box) (bs o o1 more out : List ℕ) (used n : ℕ) (w : Bool) → Plays last p bs o o1 b b1 p1 used n w → ((r : Piece) (ls : List ℕ) → r ≡ play_call last (length o) p bs (played_at p b) → Runs r.place r.box r.bytes more ls → Runs p (played_at p b) bs more (r.lines ++ ls)) → Ran p1 b1 (drop used bs) more out → Ran p b bs more (take n o1 ++ out)
call_ran last p p1 b b1 bs o o1 more out used n w c f k =
    let r : Piece = play_call last (length o) p bs (played_at p b) in
    let t : take n o1 ≡ text r.lines = written o o1 n _ _ _ w r c.comes_to (call_fits last (length o) p bs (played_at p b)) in
    record { ls = r.lines ++ k.ls; runs = f r k.ls refl (left o o1 n _ _ _ w r c.comes_to k.runs); prints = rw (t, k.prints, text_append) }

ran : {p : Place} {b : Box} {bs more out : List ℕ} → Printed p b bs more out → Ran p b bs more out
ran (plays {p} {b} {bs} {more} {out} o o1 b1 p1 used n w c k) = call_ran false p p1 b b1 bs o o1 more out used n w c (λ r ls e g. call (length o) r e g) (ran k)
ran (reads cs k) = let g = ran k in record { ls = g.ls; runs = read cs g.runs; prints = g.prints }
ran (plays_last {p} {b} {bs} {out} o o1 b1 p1 used n w c k) = call_ran true p p1 b b1 bs o o1 [] out used n w c (λ r ls e g. last_call (length o) r e g) (ran k)
ran (ends {p} {b} {bs} o o1 b1 p1 used n w c h) =
    let r : Piece = play_call true (length o) p bs (played_at p b) in
    record { ls = r.lines; runs = done (length o) r refl (waited o o1 n _ _ _ w r c.comes_to h); prints = written o o1 n _ _ _ w r c.comes_to (call_fits true (length o) p bs (played_at p b)) }

pub printed : PrintedClaim
printed b a bs out k =
    let g : Ran start b [] bs out = ran k in
    let t : Runs start b [] bs g.ls = rw (at_the_start start b refl) at g.runs in
    g.prints ∙ ap text (pieces b a bs g.ls t)
