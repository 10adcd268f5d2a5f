-- One turn of a piece, as the code takes it: what a move leaves of the bytes, that answers are below 100, and that a turn and those after it
-- come to what all turns come to. Assumes nothing.
use Prim.Native.Nat.{ℕ, ◌+◌, ◌-◌, ◌≤◌, ◌<◌}
use mathlib.Core.Bool.{Bool, true, false}
use mathlib.Core.List.{List, [], ◌∷◌, ◌++◌, append-nil, append_assoc}
use mathlib.Core.Logic.{⊎_elim}
use mathlib.Core.Option.{Option, none, some}
use mathlib.Core.Path.{◌≡◌, refl, sym, ◌∙◌, ap, subst}
use native.Mathlib.Omega.{arith}
use lib.Dec.{leb, ltb, eqb}
use lib.ListN.{length, get_or, drop, length-append, length-drop}
use lib.Seq.{sets, length-sets, drop-drop}
use Rattle.rules.specs.declared.kinds.Request.{Request}
use Rattle.rules.specs.Parts.{Box}
use Rattle.rules.specs.Box.{Reply, reply, sound}
use Rattle.rules.specs.Request as rules_request
use Rattle.rules.proofs.Demand1.{demand1}
use Rattle.rules.proofs.Sound.{request_sound, step_same_sound}
use Rattle.record.specs.Number.{bytes_after}
use Rattle.record.specs.Fields.{Item, whole, fault, kinds, entry}
use Rattle.record.specs.Reading.{is_end, nothing_behind}
use Rattle.record.specs.Requests.{request_of}
use Rattle.record.specs.Found.{place_of}
use Rattle.record.proofs.Laws.{AtEnd, at_end, at_end_all, entry_behind}
use Rattle.record.proofs.Refusals.{entry_fault_named}
use Rattle.pieces.specs.declared.place.Place.{Place}
use Rattle.pieces.specs.declared.place.Deed.{Deed}
use Rattle.pieces.specs.declared.place.Deed.TheVariants.{Say, Step, Ask, Silent}
use Rattle.std.specs.Prelude as code
use Rattle.pieces.specs.declared.moves.Move.{Move as Moved}
use Rattle.pieces.specs.Text.{line, text}
use Rattle.pieces.specs.Pieces.{playing, ended, Move, go, wait, may_come, refuse, finish, asked, play_now, take_record, next_record, go_on, look_behind, next, carry_out, printed, at_end as end_stage, Piece, piece, lines_before, room_behind, play_piece}
use Rattle.pieces.specs.Moves.{moved, as_move}
use Rattle.trace.proofs.StepLines.{step_small}
use Rattle.turns.specs.Outcome.{Outcome, leaves, outcome, Turned, Rests}
use borrow.Author.Tests.{le-ltb, le-leb, lt-leb, eqb-true, eqb-false}
use Rattle.pieces.proofs.Lines.{line_short, sets_more}
use Rattle.pieces.proofs.Choices.{something_behind, none_behind}
use Rattle.pieces.proofs.Turns.{either, goes_less, piece_full, piece_waits, piece_goes}

-- ---- a deed that is done and printed

pub carried_say : (d : Deed) (a : ℕ) (b : Box) → d ≡ Say a → reply b a ≡ carry_out d b
unfolding carry_out
carried_say d a b e = rw e

pub carried_ask : (d : Deed) (q : Request) (b : Box) (r : Reply) → d ≡ Ask q → r ≡ rules_request.request q b → r ≡ carry_out d b
unfolding carry_out
carried_ask d q b r e h = rw e h

pub carried_silent : (d : Deed) (b : Box) → d ≡ Silent → reply b 0 ≡ carry_out d b
unfolding carry_out
carried_silent d b e = rw e

-- no deed makes a box sound or unsound
pub carried_sound : (d : Deed) (b : Box) → sound (carry_out d b).box ≡ sound b
unfolding carry_out
carried_sound (Say a) b = refl
carried_sound Step b = step_same_sound b
carried_sound (Ask q) b = request_sound q b
carried_sound Silent b = refl

text_one : (a : ℕ) → text (a ∷ []) ≡ line a
unfolding text
text_one a = append-nil (line a)

-- every deed but a silent one prints its answer
printed_one : (d : Deed) (a : ℕ) → (d ≡ Silent → ⊥) → printed d a ≡ a ∷ []
unfolding printed
printed_one (Say n) a h = refl
printed_one Step a h = refl
printed_one (Ask q) a h = refl
printed_one Silent a h = absurd (h refl)

pub printed_line : (o o1 : List ℕ) (k r a : ℕ) → (o1 ≡ sets o k (line a)) × (r ≡ k + length (line a)) → (d : Deed) → (d ≡ Silent → ⊥) → (o1 ≡ sets o k (text (printed d a))) × (r ≡ k + length (text (printed d a)))
printed_line o o1 k r a put d h = rw (printed_one d a h, text_one a) put

pub printed_silent : (o : List ℕ) (k a : ℕ) (d : Deed) → d ≡ Silent → (o ≡ sets o k (text (printed d a))) × (k ≡ k + length (text (printed d a)))
unfolding printed text
printed_silent o k a d e = rw e (refl, omega arith)

-- ---- what a move leaves of the bytes, and what it may say

abbrev pub Small : Deed → Type 0
Small (Say a) = a < 100
Small Step = Unit {0}
Small (Ask q) = Unit {0}
Small Silent = Unit {0}

abbrev pub Fair : List ℕ → Move → Type 0
Fair bs (go d q rest) = AtEnd bs rest × Small d
Fair bs wait = Unit {0}

asked_small : (o : Option Request) → Small (asked o)
unfolding asked
asked_small none = tt
asked_small (some q) = tt

take_fair : (bs : List ℕ) (p : Place) (ns rest : List ℕ) → AtEnd bs rest → Fair bs (take_record p ns rest)
unfolding take_record finish play_now
take_fair bs p ns rest h = either (Fair bs) (is_end ns) _ _ (λ z. either (Fair bs) (eqb (get_or ns 1 0) p.count) _ _ (λ c. (h, tt)) (λ c. (h, omega arith))) (λ z. either (Fair bs) (eqb p.stage playing) _ _ (λ s. either (Fair bs) (eqb (get_or ns 0 0) 11) _ _ (λ k. (h, tt)) (λ k. (h, asked_small (request_of (get_or ns 0 0) (get_or ns 1 0) (get_or ns 2 0) (get_or ns 3 0))))) (λ s. (h, tt)))

record_fair : (last : Bool) (p : Place) (bs : List ℕ) → Fair bs (next_record last p bs)
unfolding next_record refuse
record_fair last p bs = of (entry kinds bs) refl
  where
    of : (x : Item) → entry kinds bs ≡ x → Fair bs (next_record last p bs)
    of (whole ns rest) e = rw (e, next_record, Fair) (take_fair bs p ns rest (at_end bs rest (entry_behind kinds bs ns rest e)))
    of (fault a) e = rw (e, next_record, Fair) (either (Fair bs) (may_come last a) _ _ (λ m. tt) (λ m. (at_end_all bs, omega (arith, entry_fault_named kinds bs a e))))

pub next_fair : (last : Bool) (p : Place) (bs : List ℕ) → Fair bs (next last p bs)
unfolding next go_on look_behind
next_fair last p bs = either (Fair bs) (ltb p.stage end_stage) _ _ (λ e. either (Fair bs) (eqb p.left 0) _ _ (λ l. record_fair last p bs) (λ l. (at_end_all bs, tt))) (λ e. either (Fair bs) (eqb p.stage end_stage) _ _ (λ a. either (Fair bs) (nothing_behind bs) _ _ (λ n. tt) (λ n. (at_end_all bs, omega arith))) (λ a. tt))

-- ---- with no steps left, none is done

abbrev NoStep : Move → Type 0
NoStep (go d q rest) = d ≡ Step → ⊥
NoStep wait = Unit {0}

say_no_step : (a : ℕ) → Say a ≡ Step → ⊥
say_no_step a e = let w : ◌≡◌ {A = ℕ} 0 1 = cc in omega arith

silent_no_step : Silent ≡ Step → ⊥
silent_no_step e = let w : ◌≡◌ {A = ℕ} 0 1 = cc in omega arith

asked_no_step : (o : Option Request) → asked o ≡ Step → ⊥
unfolding asked
asked_no_step none e = silent_no_step e
asked_no_step (some q) e = let w : ◌≡◌ {A = ℕ} 0 1 = cc in omega arith

take_no_step : (p : Place) (ns rest : List ℕ) → NoStep (take_record p ns rest)
unfolding take_record finish play_now
take_no_step p ns rest = either NoStep (is_end ns) _ _ (λ z. either NoStep (eqb (get_or ns 1 0) p.count) _ _ (λ c. silent_no_step) (λ c. say_no_step _)) (λ z. either NoStep (eqb p.stage playing) _ _ (λ s. either NoStep (eqb (get_or ns 0 0) 11) _ _ (λ k. silent_no_step) (λ k. asked_no_step (request_of (get_or ns 0 0) (get_or ns 1 0) (get_or ns 2 0) (get_or ns 3 0)))) (λ s. silent_no_step))

record_no_step : (last : Bool) (p : Place) (bs : List ℕ) → NoStep (next_record last p bs)
unfolding next_record refuse
record_no_step last p bs = of (entry kinds bs) refl
  where
    of : (x : Item) → entry kinds bs ≡ x → NoStep (next_record last p bs)
    of (whole ns rest) e = rw (e, next_record, NoStep) (take_no_step p ns rest)
    of (fault a) e = rw (e, next_record, NoStep) (either NoStep (may_come last a) _ _ (λ m. tt) (λ m. say_no_step a))

next_no_step : (last : Bool) (p : Place) (bs : List ℕ) → p.left ≡ 0 → NoStep (next last p bs)
unfolding next go_on look_behind
next_no_step last p bs h =
    either NoStep (ltb p.stage end_stage) _ _
    (λ e. either NoStep (eqb p.left 0) _ _ (λ l. record_no_step last p bs) (λ l. absurd (eqb-false p.left 0 l h)))
    (λ e. either NoStep (eqb p.stage end_stage) _ _ (λ a. either NoStep (nothing_behind bs) _ _ (λ n. tt) (λ n. say_no_step _)) (λ a. tt))

pub no_step : (last : Bool) (p : Place) (bs : List ℕ) → p.left ≡ 0 → (d : Deed) (q : Place) (rest : List ℕ) → next last p bs ≡ go d q rest → d ≡ Step → ⊥
no_step last p bs h d q rest e = subst NoStep e (next_no_step last p bs h)

-- every answer is below 100
pub answer_small : (d : Deed) (b : Box) → Small d → (carry_out d b).answer < 100
unfolding carry_out
answer_small (Say a) b h = h
answer_small Step b h = step_small b
answer_small (Ask q) b h = ⊎_elim (λ e. omega arith) (λ e. omega arith) ((demand1 b).request_answers q).numbered
answer_small Silent b h = omega arith

-- an answer that the code got
pub carried_small : (d : Deed) (b b1 : Box) (a : ℕ) → reply b1 a ≡ carry_out d b → Small d → a < 100
carried_small d b b1 a e h = let f : a ≡ (carry_out d b).answer = ap (λ (r : Reply). r.answer) e in omega (arith, answer_small d b h)

-- ---- the move that the code found

pub record MoveAt (last : Bool) (p : Place) (bs : List ℕ) (k : ℕ) (d : Deed) (q : Place) (k1 : ℕ) : Type 0 where
  pub is : next last p (drop k bs) ≡ go d q (drop k1 bs)
  pub inside : k1 ≤ length bs
  pub small : Small d

end_of_end : (bs : List ℕ) (k : ℕ) (rest : List ℕ) → k ≤ length bs → AtEnd (drop k bs) rest → rest ≡ drop (place_of (length bs) rest) bs
end_of_end bs k rest h e =
    let s : k + (length (drop k bs) - length rest) ≡ length bs - length rest = omega (arith, length-drop k bs, e.no_longer) in
    e.is_drop ∙ drop-drop (length (drop k bs) - length rest) k bs ∙ ap (λ (n : ℕ). drop n bs) s

pub move_goes : (last : Bool) (p : Place) (bs : List ℕ) (k : ℕ) → k ≤ length bs → (x : Move) → next last p (drop k bs) ≡ x → (o : code.Option Moved) → o ≡ as_move (length bs) x → (m : Moved) → o ≡ code.Some m → MoveAt last p bs k m.deed m.place m.next
move_goes last p bs k h wait i o e m u = let z : code.None ≡ code.Some m = sym e ∙ u in absurd (cc)
move_goes last p bs k h (go d q rest) i o e m u =
    let z : code.Some (moved d q (place_of (length bs) rest)) ≡ code.Some m = sym e ∙ u in
    let y : moved d q (place_of (length bs) rest) ≡ m = cc in
    let f : Fair (drop k bs) (go d q rest) = subst (Fair (drop k bs)) i (next_fair last p (drop k bs)) in
    let r : rest ≡ drop (place_of (length bs) rest) bs = end_of_end bs k rest h f.0 in
    rw (← y) record { is = i ∙ ap (go d q) r; inside = omega arith; small = f.1 }

pub move_waits : (last : Bool) (p : Place) (n : ℕ) (bs : List ℕ) (x : Move) → next last p bs ≡ x → (o : code.Option Moved) → o ≡ as_move n x → o ≡ code.None → next last p bs ≡ wait
move_waits last p n bs wait i o e u = i
move_waits last p n bs (go d q rest) i o e u = let z : code.Some (moved d q (place_of n rest)) ≡ code.None = sym e ∙ u in absurd (cc)

-- ---- turns

-- no turn is left: the output is full, or bytes are missing
pub rests_full : (last : Bool) (bs o : List ℕ) (b : Box) (p : Place) (k n : ℕ) → length o - n < 3 → Rests last bs o b p k n
rests_full last bs o b p k n j = rw (lt-leb 3 (length o - n) j) (piece_full last (length o - n) p (drop k bs) b j)

pub rests_waiting : (last : Bool) (bs o : List ℕ) (b : Box) (p : Place) (k n : ℕ) → 3 ≤ length o - n → next last p (drop k bs) ≡ wait → Rests last bs o b p k n
rests_waiting last bs o b p k n j e = rw (le-leb 3 (length o - n) j) (piece_waits last (length o - n) p (drop k bs) b j e)

pub text_append : (xs ys : List ℕ) → text (xs ++ ys) ≡ text xs ++ text ys
unfolding text
text_append [] ys = refl
text_append (x ∷ xs) ys = rw (text_append xs ys, append_assoc)

pub room_behind_text : (xs : List ℕ) (room : ℕ) → room_behind xs room ≡ room - length (text xs)
unfolding room_behind text
room_behind_text [] room = omega arith
room_behind_text (x ∷ xs) room = room_behind_text xs (room - length (line x)) ∙ omega (arith, length-append (line x) (text xs))

-- lines that are out already, and those that follow
outcome_more : (o : List ℕ) (n : ℕ) (xs : List ℕ) (r : Piece) → outcome (sets o n (text xs)) (n + length (text xs)) r ≡ outcome o n (lines_before xs r)
outcome_more o n xs r =
    let e : sets (sets o n (text xs)) (n + length (text xs)) (text r.lines) ≡ sets o n (text (xs ++ r.lines)) = sets_more o n (text xs) (text r.lines) ∙ ap (sets o n) (sym (text_append xs r.lines)) in
    let f : n + length (text xs) + length (text r.lines) ≡ n + length (text (xs ++ r.lines)) = omega (arith, ap length (text_append xs r.lines), length-append (text xs) (text r.lines)) in
    rw (e, f)

pub outcome_then : (o o1 : List ℕ) (n n1 : ℕ) (xs : List ℕ) (r x : Piece) → o1 ≡ sets o n (text xs) → n1 ≡ n + length (text xs) → x ≡ lines_before xs r → outcome o1 n1 r ≡ outcome o n x
outcome_then o o1 n n1 xs r x e f g = rw (e, f, g) (outcome_more o n xs r)

pub printed_short : (d : Deed) (a : ℕ) → a < 100 → length (text (printed d a)) ≤ 3
unfolding printed text
printed_short (Say m) a h = rw append-nil (line_short a h)
printed_short Step a h = rw append-nil (line_short a h)
printed_short (Ask q) a h = rw append-nil (line_short a h)
printed_short Silent a h = omega arith

pub turn_goes : (last : Bool) (bs o o1 : List ℕ) (b b1 : Box) (p q : Place) (k k1 n n1 : ℕ) (d : Deed) (a : ℕ) → k ≤ length bs → 3 ≤ length o - n → MoveAt last p bs k d q k1 → reply b1 a ≡ carry_out d b → (o1 ≡ sets o n (text (printed d a))) × (n1 ≡ n + length (text (printed d a))) → Turned last bs o o1 b b1 p q k k1 n n1
turn_goes last bs o o1 b b1 p q k k1 n n1 d a h j m c w =
    let ans : a ≡ (carry_out d b).answer = ap (λ (r : Reply). r.answer) c in
    let left : b1 ≡ (carry_out d b).box = ap (λ (r : Reply). r.box) c in
    let small : a < 100 = carried_small d b b1 a c m.small in
    let same : length o1 ≡ length o = ap length w.0 ∙ length-sets o n (text (printed d a)) in
    let short : length (text (printed d a)) ≤ 3 = printed_short d a small in
    let room : length o1 - n1 ≡ room_behind (printed d a) (length o - n) = omega (arith, room_behind_text (printed d a) (length o - n), w.1) in
    let less : length (drop k1 bs) + room_behind (printed d a) (length o - n) < length (drop k bs) + (length o - n) = goes_less last p (drop k bs) d q (drop k1 bs) m.is a (length o - n) (omega arith) in
    let whole : play_piece last (length o - n) p (drop k bs) b ≡ lines_before (printed d a) (play_piece last (length o1 - n1) q (drop k1 bs) b1) = rw (room, ans, left) (piece_goes last (length o - n) p (drop k bs) b j m.is) in
    record {
      comes_to = outcome_then o o1 n n1 (printed d a) (play_piece last (length o1 - n1) q (drop k1 bs) b1) (play_piece last (length o - n) p (drop k bs) b) w.0 w.1 whole;
      bytes_in = m.inside;
      room_in = omega (arith, w.1);
      falls = omega (arith, length-drop k1 bs, length-drop k bs, m.inside);
      sound_same = ap sound left ∙ carried_sound d b;
    }

-- ---- after the end, and after a refusal

module _ (last : Bool) (bs o : List ℕ) (b : Box) (p : Place) (k n : ℕ) (h : k ≤ length bs) (r : n + 3 ≤ length o) where
  pub turn_behind : (o1 : List ℕ) (n1 : ℕ) → p.stage ≡ 3 → k < length bs → (o1 ≡ sets o n (line bytes_after)) × (n1 ≡ n + length (line bytes_after)) → Turned last bs o o1 b b p (ended p) k k n n1
  unfolding next look_behind
  turn_behind o1 n1 s f w =
      turn_goes last bs o o1 b b p (ended p) k k n n1 (Say bytes_after) bytes_after h (omega arith)
      (record { is = is; inside = h; small = omega arith }) (carried_say (Say bytes_after) bytes_after b refl) (printed_line o o1 n n1 bytes_after w (Say bytes_after) (λ e. let z : ◌≡◌ {A = ℕ} 0 1 = cc in omega arith))
    where
      is : next last p (drop k bs) ≡ go (Say bytes_after) (ended p) (drop k bs)
      is = simp (s, something_behind bs k f)

  pub rests_over : 3 ≤ p.stage → (p.stage ≡ 3 → length bs ≤ k) → Rests last bs o b p k n
  unfolding next look_behind
  rests_over s f = rests_waiting last bs o b p k n (omega arith) (by (eqb p.stage 3) refl)
    where
      by : (t : Bool) → eqb p.stage 3 ≡ t → next last p (drop k bs) ≡ wait
      by true e = simp (le-ltb p.stage 3 s, e, none_behind bs k (f (eqb-true p.stage 3 e)))
      by false e = simp (le-ltb p.stage 3 s, e)

-- ---- all turns

-- before the first turn everything is to be played
pub begins : (o : List ℕ) (last : Bool) (p : Place) (bs : List ℕ) (b : Box) → outcome o 0 (play_piece last (length o - 0) p bs b) ≡ outcome o 0 (play_piece last (length o) p bs b)
begins o last p bs b = let e : length o - 0 ≡ length o = omega arith in rw e

-- and after the last, which changed nothing, nothing is
ends : (o : List ℕ) (n : ℕ) (b : Box) (p : Place) (bs : List ℕ) (w : Bool) → leaves o n b p bs w ≡ outcome o n (piece [] b p bs w)
unfolding text
ends o n b p bs w = let z : n + 0 ≡ n = omega arith in rw z

pub rested : (last : Bool) (bs o o1 : List ℕ) (b b1 : Box) (p : Place) (k n : ℕ) (x : Outcome) → Rests last bs o b p k n → o1 ≡ o → b1 ≡ b → outcome o n (play_piece last (length o - n) p (drop k bs) b) ≡ x → leaves o1 n b1 p (drop k bs) (leb 3 (length o1 - n)) ≡ x
rested last bs o o1 b b1 p k n x r e f g = rw (e, f) (ends o n b p (drop k bs) (leb 3 (length o - n)) ∙ ap (outcome o n) (sym r) ∙ g)
