-- So many single steps in a row come to what as many turns come to: by induction on their number. Assumes nothing.
use Prim.Native.Nat.{ℕ, zero, suc, ◌+◌, ◌*◌, ◌-◌, ◌≤◌, ◌<◌}
use mathlib.Core.Bool.{Bool}
use mathlib.Core.List.{List, [], ◌∷◌, ◌++◌}
use mathlib.Core.Path.{◌≡◌, ◌∙◌, ap}
use native.Mathlib.Omega.{arith}
use borrow.Author.Tests.{lt-ltb, ne_eqb}
use lib.ListN.{length, drop, length-append}
use lib.Seq.{length-sets}
use Rattle.rules.specs.Parts.{Box}
use Rattle.rules.specs.Box.{sound}
use Rattle.rules.specs.Collector.{step}
use Rattle.pieces.specs.declared.place.Place.{Place}
use Rattle.pieces.specs.declared.place.Deed.TheVariants.{Step}
use Rattle.pieces.specs.Text.{line, text}
use Rattle.pieces.specs.Lines.{play_steps}
use Rattle.pieces.specs.Pieces.{at, go, go_on, next, carry_out, printed, lines_before, room_behind, play_piece}
use Rattle.pieces.proofs.Lines.{line_short}
use Rattle.pieces.proofs.Turns.{piece_goes}
use Rattle.trace.specs.Stepped.{Stepped}
use Rattle.trace.proofs.StepLines.{step_small, steps_short, steps_long, steps_sound}
use Rattle.turns.specs.Outcome.{Turned}
use Rattle.turns.proofs.Turning.{outcome_then}

step_next : (last : Bool) (p : Place) (bs : List ℕ) → p.stage < 3 → 0 < p.left → next last p bs ≡ go Step (at p.stage p.count (p.left - 1) p.opened) bs
unfolding next go_on
step_next last p bs h l = rw (lt-ltb p.stage 3 h, ne_eqb p.left 0 (omega arith))

steps_piece : (n : ℕ) (last : Bool) (room : ℕ) (p : Place) (bs : List ℕ) (b : Box) → p.stage < 3 → n ≤ p.left → 3 * n ≤ room → play_piece last room p bs b ≡ lines_before (play_steps n b).lines (play_piece last (room - length (text (play_steps n b).lines)) (at p.stage p.count (p.left - n) p.opened) bs (play_steps n b).box)
unfolding play_steps text carry_out printed room_behind
steps_piece zero last room p bs b s l r = let e : room - 0 ≡ room = omega arith in let f : p.left - 0 ≡ p.left = omega arith in rw (e, f)
steps_piece (suc n) last room p bs b s l r =
    let a : ℕ = (step b).answer in
    let xs : List ℕ = (play_steps n (step b).box).lines in
    let p1 : Place = at p.stage p.count (p.left - 1) p.opened in
    let first : play_piece last room p bs b ≡ lines_before (a ∷ []) (play_piece last (room - length (line a)) p1 bs (step b).box) = piece_goes last room p bs b (omega arith) (step_next last p bs s (omega arith)) in
    let short : length (line a) ≤ 3 = line_short a (step_small b) in
    let rest = steps_piece n last (room - length (line a)) p1 bs (step b).box s (omega arith) (omega arith) in
    let e : room - length (line a) - length (text xs) ≡ room - length (line a ++ text xs) = omega (arith, length-append (line a) (text xs)) in
    let f : p.left - 1 - n ≡ p.left - suc n = omega arith in
    first ∙ ap (lines_before (a ∷ [])) rest ∙ rw (e, f)

pub turn_steps : (many : ℕ) (last : Bool) (bs o o1 : List ℕ) (b b1 : Box) (p : Place) (k n n1 : ℕ) → k ≤ length bs → n + 3 * many ≤ length o → p.stage < 3 → 0 < many → many ≤ p.left → Stepped many o o1 b b1 n n1 → Turned last bs o o1 b b1 p (at p.stage p.count (p.left - many) p.opened) k k n n1
turn_steps many last bs o o1 b b1 p k n n1 h r s m l w =
    let xs : List ℕ = (play_steps many b).lines in
    let q : Place = at p.stage p.count (p.left - many) p.opened in
    let same : length o1 ≡ length o = ap length w.out_is ∙ length-sets o n (text xs) in
    let short : length (text xs) ≤ 3 * many = steps_short many b in
    let long : many ≤ length (text xs) = steps_long many b in
    let room : length o1 - n1 ≡ length o - n - length (text xs) = omega (arith, w.end_is) in
    let whole : play_piece last (length o - n) p (drop k bs) b ≡ lines_before xs (play_piece last (length o1 - n1) q (drop k bs) b1) = rw (room, w.box_is) (steps_piece many last (length o - n) p (drop k bs) b s l (omega arith)) in
    record { comes_to = outcome_then o o1 n n1 xs (play_piece last (length o1 - n1) q (drop k bs) b1) (play_piece last (length o - n) p (drop k bs) b) w.out_is w.end_is whole; bytes_in = h; room_in = omega (arith, w.end_is); falls = omega (arith, w.end_is); sound_same = ap sound w.box_is ∙ steps_sound many b }
