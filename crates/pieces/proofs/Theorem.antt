-- Playing in pieces prints the lines of the whole string. From each place, the lines still to be printed, read off all bytes, are what a
-- call prints and then what is still to be printed behind it: for moves by proofs/Still, for the opening by proofs/Opened. So it is
-- through any calls. Assumes nothing.
use Prim.Native.Nat.{ℕ, zero, suc, ◌+◌, ◌<◌}
use mathlib.Core.Bool.{Bool, true, false, cond, true≢false, false≢true}
use mathlib.Core.List.{List, [], ◌∷◌, ◌++◌, append_assoc, append-nil}
use mathlib.Core.Logic.{◌≢◌}
use mathlib.Core.Path.{◌≡◌, refl, sym, ◌∙◌, ap, subst}
use native.Mathlib.Omega.{arith}
use borrow.Author.Tests.{ltb-true, ltb-false, eqb-true, eqb-false, ne_eqb}
use lib.Dec.{ltb, eqb}
use lib.ListN.{length, get_or}
use Rattle.rules.specs.Limits.{in_range}
use Rattle.rules.specs.Parts.{Box}
use Rattle.rules.specs.Open.{opened}
use Rattle.record.specs.Fields.{Item, whole, fault, editions, entry}
use Rattle.record.specs.Reading.{item_before, records, read}
use Rattle.record.proofs.Laws.{entry_more}
use Rattle.pieces.specs.declared.place.Place.{Place}
use Rattle.pieces.specs.declared.place.Deed.{Deed}
use Rattle.pieces.specs.Lines.{play_steps, play_opened, play_items, lines_of, lines}
use Rattle.pieces.specs.Pieces.{at_start, playing, only_reading, at, Move, go, wait, may_come, next, carry_out, printed, Piece, piece, lines_before, room_behind, play_in, play_piece, open_first, begun, not_begun, begin, begin_piece, play_call}
use Rattle.pieces.specs.Calls as calls
use Rattle.pieces.specs.Calls.{Runs}
use Rattle.pieces.specs.Claims.{Ample, PiecesClaim}
use Rattle.record.proofs.Refusals.{entry_fault_some}
use Rattle.pieces.proofs.Turns.{in_full, in_waits, in_goes}
use Rattle.pieces.proofs.Still.{lines_behind, still, Ends, a_refusal, fault_stays, none_may_come, Follows, next_follows, Begun, next_begun}
use Rattle.pieces.proofs.Opened.{opens, refuses}

-- ---- a piece

-- of what is left after some moves from a place behind the opening
record Played (last : Bool) (p : Place) (b : Box) (bs more : List ℕ) (r : Piece) : Type 0 where
  prints : still p b (bs ++ more) ≡ r.lines ++ still r.place r.box (r.bytes ++ more)
  no_more : last ≡ true → r.waits ≡ true → still r.place r.box (r.bytes ++ more) ≡ []
  begun : 0 < r.place.stage

-- there is no room, or no turn
stays : (last : Bool) (p : Place) (b : Box) (bs more : List ℕ) → 0 < p.stage → Played last p b bs more (piece [] b p bs false)
stays last p b bs more h = record { prints = refl; no_more = λ l w. absurd (false≢true w); begun = h }

module _ (last : Bool) (p : Place) (b : Box) (bs more : List ℕ) (f : Ends last more) (h : 0 < p.stage) where
  waits : next last p bs ≡ wait → Played last p b bs more (piece [] b p bs true)
  waits e = record { prints = refl; no_more = λ l w. subst (Follows last p b bs more) e (next_follows last p b bs more f) l; begun = h }

  goes : (d : Deed) (q : Place) (rest : List ℕ) (r : Piece) → next last p bs ≡ go d q rest → Played last q (carry_out d b).box rest more r → Played last p b bs more (lines_before (printed d (carry_out d b).answer) r)
  goes d q rest r e k = record { prints = subst (Follows last p b bs more) e (next_follows last p b bs more f) ∙ ap (◌++◌ (printed d (carry_out d b).answer)) k.prints ∙ sym (append_assoc (printed d (carry_out d b).answer) r.lines (still r.place r.box (r.bytes ++ more))); no_more = k.no_more; begun = k.begun }

played_in : (turns : ℕ) (last : Bool) (room : ℕ) (p : Place) (b : Box) (bs more : List ℕ) → Ends last more → 0 < p.stage → Played last p b bs more (play_in turns last room p bs b)
unfolding play_in
played_in zero last room p b bs more f h = stays last p b bs more h
played_in (suc turns) last room p b bs more f h = by (ltb room 3) refl (next last p bs) refl (played_in turns last)
  where
    by : (s : Bool) → ltb room 3 ≡ s → (m : Move) → next last p bs ≡ m → ((room : ℕ) (p : Place) (b : Box) (bs more : List ℕ) → Ends last more → 0 < p.stage → Played last p b bs more (play_in turns last room p bs b)) → Played last p b bs more (play_in (suc turns) last room p bs b)
    by true s m e k = subst (Played last p b bs more) (sym (in_full (suc turns) last room p bs b (ltb-true room 3 s))) (stays last p b bs more h)
    by false s wait e k = subst (Played last p b bs more) (sym (in_waits turns last room p bs b (ltb-false room 3 s) e)) (waits last p b bs more f h e)
    by false s (go d q rest) e k = subst (Played last p b bs more) (sym (in_goes turns last room p bs b d q rest (ltb-false room 3 s) e)) (goes last p b bs more f h d q rest _ e (k (room_behind (printed d (carry_out d b).answer) room) q (carry_out d b).box rest more f (subst Begun e (next_begun last p bs h))))

-- ---- the start

-- the lines still to be printed from any place
rest_lines : Place → Box → List ℕ → List ℕ
rest_lines p b bs = cond (eqb p.stage at_start) (lines bs) (still p b bs)

-- of what is left after a call
record Went (last : Bool) (p : Place) (b : Box) (bs more : List ℕ) (r : Piece) : Type 0 where
  prints : rest_lines p b (bs ++ more) ≡ r.lines ++ rest_lines r.place r.box (r.bytes ++ more)
  no_more : last ≡ true → r.waits ≡ true → rest_lines r.place r.box (r.bytes ++ more) ≡ []
  ample : r.place.stage ≡ at_start → Ample r.box

-- the lines of a string that begins with M and H, and of one that does not
lines_opened : (bs ns rest : List ℕ) → entry editions bs ≡ whole ns rest → lines bs ≡ lines_of (item_before ns (records 0 rest))
unfolding lines read
lines_opened bs ns rest e = rw (e, read)

lines_refused : (bs : List ℕ) (a : ℕ) → entry editions bs ≡ fault a → lines bs ≡ a ∷ []
unfolding lines read lines_of play_items
lines_refused bs a e = rw (e, read) (a_refusal a (entry_fault_some editions bs a e))

-- what was read is opened and played, or it is only read
opened_lines : (ns bs : List ℕ) → in_range (get_or ns 1 0) (get_or ns 2 0) ≡ true → lines_of (item_before ns (records 0 bs)) ≡ 0 ∷ rest_lines (at playing 0 0 true) (opened (get_or ns 1 0) (get_or ns 2 0)) bs
unfolding lines_of play_items play_opened rest_lines still lines_behind play_steps
opened_lines ns bs t = rw t

unopened_lines : (ns : List ℕ) (b : Box) (bs : List ℕ) → in_range (get_or ns 1 0) (get_or ns 2 0) ≡ false → lines_of (item_before ns (records 0 bs)) ≡ 10 ∷ rest_lines (at only_reading 0 0 false) b bs
unfolding lines_of play_items play_opened rest_lines still lines_behind play_steps
unopened_lines ns b bs t = rw t

module _ (last : Bool) (p : Place) (b : Box) (bs more : List ℕ) (f : Ends last more) (s : p.stage ≡ at_start) (a : Ample b) where
  at_first : (xs : List ℕ) → rest_lines p b xs ≡ lines xs
  unfolding rest_lines
  at_first xs = rw s

  begun_went : (ns rest : List ℕ) → entry editions bs ≡ whole ns rest → Went last p b bs more (begun (open_first (get_or ns 1 0) (get_or ns 2 0) b) rest)
  unfolding begun
  begun_went ns rest e = by (in_range (get_or ns 1 0) (get_or ns 2 0)) refl
    where
      all : rest_lines p b (bs ++ more) ≡ lines_of (item_before ns (records 0 (rest ++ more)))
      all = at_first (bs ++ more) ∙ lines_opened (bs ++ more) ns (rest ++ more) (entry_more editions bs more ns rest e)

      by : (t : Bool) → in_range (get_or ns 1 0) (get_or ns 2 0) ≡ t → Went last p b bs more (begun (open_first (get_or ns 1 0) (get_or ns 2 0) b) rest)
      by true t = rw (opens (get_or ns 1 0) (get_or ns 2 0) b a t) (record { prints = all ∙ opened_lines ns (rest ++ more) t; no_more = λ l w. absurd (false≢true w); ample = λ z. absurd (omega arith) })
      by false t = rw (refuses (get_or ns 1 0) (get_or ns 2 0) b t) (record { prints = all ∙ unopened_lines ns b (rest ++ more) t; no_more = λ l w. absurd (false≢true w); ample = λ z. absurd (omega arith) })

  not_begun_went : (x : ℕ) → entry editions bs ≡ fault x → Went last p b bs more (not_begun last x p bs b)
  unfolding not_begun rest_lines still
  not_begun_went x e = by (may_come last x) refl
    where
      by : (t : Bool) → may_come last x ≡ t → Went last p b bs more (not_begun last x p bs b)
      by true t = rw t (record { prints = refl; no_more = λ l w. absurd (true≢false (cc (none_may_come x))); ample = λ z. a })
      by false t = rw t (record { prints = at_first (bs ++ more) ∙ lines_refused (bs ++ more) x (fault_stays editions last bs more x f t e); no_more = λ l w. absurd (false≢true w); ample = λ z. absurd (omega arith) })

  begin_went : (room : ℕ) → Went last p b bs more (begin_piece last room p bs b)
  unfolding begin_piece begin
  begin_went room = by (ltb room 3) refl (entry editions bs) refl
    where
      by : (t : Bool) → ltb room 3 ≡ t → (x : Item) → entry editions bs ≡ x → Went last p b bs more (begin_piece last room p bs b)
      by true t x e = rw t (record { prints = refl; no_more = λ l w. absurd (false≢true w); ample = λ z. a })
      by false t (whole ns rest) e = rw (t, e, begin) (begun_went ns rest e)
      by false t (fault x) e = rw (t, e, begin) (not_begun_went x e)

-- ---- any call

behind_start : (p : Place) (b : Box) (bs : List ℕ) → 0 < p.stage → rest_lines p b bs ≡ still p b bs
unfolding rest_lines
behind_start p b bs h = rw (ne_eqb p.stage 0 (λ e. omega arith))

piece_went : (last : Bool) (p : Place) (b : Box) (bs more : List ℕ) (r : Piece) → 0 < p.stage → Played last p b bs more r → Went last p b bs more r
piece_went last p b bs more r h k = record { prints = behind_start p b (bs ++ more) h ∙ k.prints ∙ ap (◌++◌ r.lines) (sym then); no_more = λ l w. then ∙ k.no_more l w; ample = λ z. absurd (omega (arith, k.begun)) }
  where
    then : rest_lines r.place r.box (r.bytes ++ more) ≡ still r.place r.box (r.bytes ++ more)
    then = behind_start r.place r.box (r.bytes ++ more) k.begun

call_went : (last : Bool) (room : ℕ) (p : Place) (b : Box) (bs more : List ℕ) → Ends last more → (p.stage ≡ at_start → Ample b) → Went last p b bs more (play_call last room p bs b)
unfolding play_call play_piece
call_went last room p b bs more f a = by (eqb p.stage at_start) refl
  where
    by : (t : Bool) → eqb p.stage at_start ≡ t → Went last p b bs more (play_call last room p bs b)
    by true t = let s : p.stage ≡ at_start = eqb-true p.stage at_start t in rw t (begin_went last p b bs more f s (a s) room)
    by false t =
        let n : p.stage ≢ 0 = eqb-false p.stage at_start t in
        let h : 0 < p.stage = omega arith in
        rw t (piece_went last p b bs more _ h (played_in (length bs + room) last room p b bs more f h))

-- ---- any calls

-- nothing comes behind the last bytes
none_to_come : Ends true []
none_to_come e = refl

some_may_come : (more : List ℕ) → Ends false more
some_may_come more e = absurd (false≢true e)

-- a call, and the lines of those after it
call_then : (last : Bool) (room : ℕ) (p : Place) (b : Box) (bs more out : List ℕ) (r : Piece) → Ends last more → (p.stage ≡ at_start → Ample b) → r ≡ play_call last room p bs b → ((r.place.stage ≡ at_start → Ample r.box) → out ≡ rest_lines r.place r.box (r.bytes ++ more)) → r.lines ++ out ≡ rest_lines p b (bs ++ more)
call_then last room p b bs more out r f a e k =
    let g : Went last p b bs more r = subst (Went last p b bs more) (sym e) (call_went last room p b bs more f a) in
    ap (◌++◌ r.lines) (k g.ample) ∙ sym g.prints

plays : {p : Place} {b : Box} {bs more out : List ℕ} → (p.stage ≡ at_start → Ample b) → Runs p b bs more out → out ≡ rest_lines p b (bs ++ more)
plays a (calls.call {p} {b} {bs} {more} {out} room r e k) = call_then false room p b bs more out r (some_may_come more) a e (λ c. plays c k)
plays a (calls.read {p} {b} {bs} {more} cs k) = plays a k ∙ ap (rest_lines p b) (append_assoc bs cs more)
plays a (calls.last_call {p} {b} {bs} {out} room r e k) = call_then true room p b bs [] out r none_to_come a e (λ c. plays c k)
plays a (calls.done {p} {b} {bs} room r e w) =
    let g : Went true p b bs [] r = subst (Went true p b bs []) (sym e) (call_went true room p b bs [] none_to_come a) in
    sym (append-nil r.lines) ∙ ap (◌++◌ r.lines) (sym (g.no_more refl w)) ∙ sym g.prints

pub pieces : PiecesClaim
unfolding rest_lines
pieces b a bs out k = plays (λ s. a) k
