-- The start of a string, and any call: what each case comes to. Assumes nothing.
use Prim.Native.Nat.{ℕ, ◌+◌, ◌≤◌, ◌<◌}
use mathlib.Core.Bool.{Bool, true, false, cond}
use mathlib.Core.List.{List, [], ◌∷◌, append-nil}
use mathlib.Core.Logic.{⊎_elim}
use mathlib.Core.Path.{◌≡◌, refl, sym, ◌∙◌, ap, subst}
use native.Mathlib.Omega.{arith}
use lib.Dec.{eqb}
use lib.ListN.{length, get_or, drop}
use lib.Seq.{sets}
use borrow.Author.Tests.{lt-ltb, le-ltb, eq-eqb, ne_eqb}
use Rattle.rules.specs.Parts.{Box}
use Rattle.rules.specs.Box.{Reply, reply}
use Rattle.rules.specs.Open.{opening}
use Rattle.rules.proofs.Demand1.{demand1}
use Rattle.std.specs.declared.result.Result.{Result}
use Rattle.std.specs.declared.result.Result.TheVariants.{Ok}
use Rattle.record.specs.declared.number.Fault.{Fault}
use Rattle.lent.specs.declared.unit.MemoryUnit.{MemoryUnit}
use Rattle.lent.specs.Lent.{state_in, box_of}
use Rattle.record.specs.declared.entry.Entry.{Entry}
use Rattle.record.specs.Fields.{whole, fault, editions, entry}
use Rattle.record.specs.Found.{place_of, told, as_entry}
use Rattle.record.proofs.Entries.{is_whole}
use Rattle.record.proofs.Laws.{at_end, entry_behind}
use Rattle.record.proofs.Refusals.{either_way, entry_fault_named}
use Rattle.pieces.specs.declared.place.Place.{Place}
use Rattle.pieces.specs.Text.{line, text}
use Rattle.pieces.specs.Pieces.{at, over, begun_at, may_come, piece, first_of, open_first, begun, not_begun, begin, begin_piece, play_piece, play_call}
use Rattle.turns.specs.Outcome.{Outcome, leaves, outcome}
use Rattle.turns.specs.Parts.{part_of, put_back, Opens}
use Rattle.player.specs.Promises.{played_at, Says, Refuses, PlaysPart, ComesTo, Plays}
use Rattle.turns.proofs.Parts.{SameShape, Parted, same_shape, first_back, back_all, first_m, first_h, back_m, back_h}
use Rattle.player.proofs.Staying.{Sized, sized_m, sized_h, sized_shape, piece_keeps}

-- ---- what is played at a place

pub at_the_start : (p : Place) (b : Box) → p.stage ≡ 0 → played_at p b ≡ b
unfolding played_at part_of
at_the_start p b e = rw e

pub when_opened : (p : Place) (b : Box) → 0 < p.stage → p.opened ≡ true → played_at p b ≡ first_of b.m b.h b
unfolding played_at part_of
when_opened p b h o = rw (ne_eqb p.stage 0 (λ e. omega arith), o)

pub when_not_opened : (p : Place) (b : Box) → 0 < p.stage → p.opened ≡ false → played_at p b ≡ b
unfolding played_at part_of
when_not_opened p b h o = rw (ne_eqb p.stage 0 (λ e. omega arith), o)

after_opening : (a : ℕ) (b : Box) → played_at (begun_at a) b ≡ part_of (eqb a 0) b
unfolding played_at part_of
after_opening a b = by (eqb a 0)
  where
    by : (t : Bool) → played_at (at (cond t 1 2) 0 0 t) b ≡ part_of t b
    by true = refl
    by false = refl

-- nothing changed
all_kept : (b : Box) → b ≡ put_back b b
all_kept b = sym (back_all b b (same_shape b))

-- ---- lines

-- no line, and one
no_lines : (o : List ℕ) (b : Box) (p : Place) (bs : List ℕ) (w : Bool) → leaves o 0 b p bs w ≡ outcome o 0 (piece [] b p bs w)
unfolding text
no_lines o b p bs w = refl

one_line : (o o1 : List ℕ) (a n : ℕ) → (o1 ≡ sets o 0 (line a)) × (n ≡ 0 + length (line a)) → (b : Box) (p : Place) (bs : List ℕ) (w : Bool) → leaves o1 n b p bs w ≡ outcome o 0 (piece (a ∷ []) b p bs w)
unfolding text
one_line o o1 a n e b p bs w = rw (e.0, e.1, append-nil (line a))

-- ---- the start is refused

pub says : (a : ℕ) (o o1 : List ℕ) (p : Place) (n : ℕ) → (o1 ≡ sets o 0 (line a)) × (n ≡ 0 + length (line a)) → Says a o o1 p (at over p.count 0 false) 0 n false
says a o o1 p n e = record { none_used = refl; comes_to = λ bs b. one_line o o1 a n e b (at over p.count 0 false) bs false; place_is = refl }

module _ (last : Bool) (a : ℕ) (o o1 : List ℕ) (p p1 : Place) (used n : ℕ) (w : Bool) (s : Says a o o1 p p1 used n w) where
  refuses : ((bs : List ℕ) (b : Box) → not_begun last a p bs b ≡ piece (a ∷ []) b (at over p.count 0 false) bs false) → Refuses last a o o1 p p1 used n w
  unfolding played_at part_of
  refuses f = record { none_used = s.none_used; comes_to = λ bs b. s.comes_to bs b ∙ ap (outcome o 0) (sym (f bs b)); all_lent = λ b. rw s.place_is }

  pub refuses_now : may_come last a ≡ false → Refuses last a o o1 p p1 used n w
  unfolding not_begun
  refuses_now h = refuses (λ bs b. rw h)

pub refuses_later : (last : Bool) (a : ℕ) (o : List ℕ) (p : Place) → p.stage ≡ 0 → may_come last a ≡ true → Refuses last a o o p p 0 0 true
unfolding not_begun
refuses_later last a o p s h = record { none_used = refl; comes_to = λ bs b. rw h (no_lines o b p bs true); all_lent = λ b. at_the_start p b s }

-- ---- the start

pub starts_full : (last : Bool) (bs o : List ℕ) (b : Box) (p : Place) → p.stage ≡ 0 → length o < 3 → ComesTo bs o o b b p 0 0 false (begin_piece last (length o) p bs b)
unfolding begin_piece
starts_full last bs o b p s h =
    record { used_in = omega arith; comes_to = rw (at_the_start p b s, lt-ltb (length o) 3 h) (no_lines o b p bs false); kept = rw (at_the_start p b s) (all_kept b) }

starts_fault : (last : Bool) (bs o : List ℕ) (b : Box) (p : Place) (a : ℕ) → 3 ≤ length o → entry editions bs ≡ fault a → begin_piece last (length o) p bs b ≡ not_begun last a p bs b
unfolding begin_piece begin
starts_fault last bs o b p a h e = rw (le-ltb (length o) 3 h, e, begin)

starts_whole : (last : Bool) (bs o : List ℕ) (b : Box) (p : Place) (ns rest : List ℕ) → 3 ≤ length o → entry editions bs ≡ whole ns rest → begin_piece last (length o) p bs b ≡ begun (open_first (get_or ns 1 0) (get_or ns 2 0) b) rest
unfolding begin_piece begin
starts_whole last bs o b p ns rest h e = rw (le-ltb (length o) 3 h, e, begin)

pub fault_small : (bs : List ℕ) (a : ℕ) → entry editions bs ≡ fault a → a < 100
fault_small bs a e = omega (arith, entry_fault_named editions bs a e)

pub starts_refused : (last : Bool) (bs o o1 : List ℕ) (b : Box) (p p1 : Place) (a used n : ℕ) (w : Bool) → 3 ≤ length o → entry editions bs ≡ fault a → Refuses last a o o1 p p1 used n w → ComesTo bs o o1 b b p1 used n w (begin_piece last (length o) p bs b)
starts_refused last bs o o1 b p p1 a used n w h e r =
    record { used_in = omega (arith, r.none_used); comes_to = rw (r.all_lent b, r.none_used, starts_fault last bs o b p a h e) (r.comes_to bs b); kept = rw (r.all_lent b) (all_kept b) }

-- the start that the code read whole
pub record StartAt (bs : List ℕ) (m h behind : ℕ) : Type 0 where
  pub ns : List ℕ
  pub is : entry editions bs ≡ whole ns (drop behind bs)
  pub m_is : get_or ns 1 0 ≡ m
  pub h_is : get_or ns 2 0 ≡ h
  pub inside : behind ≤ length bs

pub start_whole : (bs : List ℕ) (x : Result Entry Fault) → told x ≡ as_entry (length bs) (entry editions bs) → (e : Entry) → x ≡ Ok e → StartAt bs e.a e.b e.next
start_whole bs x i e u =
    let w = is_whole (length bs) (entry editions bs) x i e u in
    let d : w.rest ≡ drop (place_of (length bs) w.rest) bs = (at_end bs w.rest (entry_behind editions bs w.ns w.rest w.is)).is_drop in
    rw (← w.fields) record { ns = w.ns; is = w.is ∙ ap (whole w.ns) d; m_is = refl; h_is = refl; inside = omega arith }

-- the answer of an opening is 0 or 10
pub open_small : (m h : ℕ) (b : Box) → (open_first m h b).answer < 100
unfolding open_first
open_small m h b = either_way (λ (r : Reply). r.answer < 100) (eqb (opening m h (first_of m h b)).answer 0) (opening m h (first_of m h b)) (reply b (opening m h (first_of m h b)).answer) low low
  where
    low : (opening m h (first_of m h b)).answer < 100
    low = ⊎_elim (λ e. omega arith) (λ e. omega arith) ((demand1 (first_of m h b)).opening_answers m h)

pub opens_small : (m h : ℕ) (b b1 : Box) (a : ℕ) → Opens m h b b1 a → a < 100
opens_small m h b b1 a o = omega (arith, ap (λ (r : Reply). r.answer) o.opens, open_small m h b)

pub starts_open : (last : Bool) (bs o o1 : List ℕ) (b b1 : Box) (p p1 : Place) (m h k a n : ℕ) → 3 ≤ length o → StartAt bs m h k → Opens m h b b1 a → (o1 ≡ sets o 0 (line a)) × (n ≡ 0 + length (line a)) → p1 ≡ begun_at a → ComesTo bs o o1 b b1 p1 k n false (begin_piece last (length o) p bs b)
unfolding begun
starts_open last bs o o1 b b1 p p1 m h k a n l s c e q =
    let w : open_first (get_or s.ns 1 0) (get_or s.ns 2 0) b ≡ reply (part_of (eqb a 0) b1) a = rw (s.m_is, s.h_is) (sym c.opens) in
    let g : begin_piece last (length o) p bs b ≡ piece (a ∷ []) (part_of (eqb a 0) b1) (begun_at a) (drop k bs) false = starts_whole last bs o b p s.ns (drop k bs) l s.is ∙ ap (λ (r : Reply). begun r (drop k bs)) w in
    record { used_in = s.inside; comes_to = rw (q, after_opening a b1, g) (one_line o o1 a n e (part_of (eqb a 0) b1) (begun_at a) (drop k bs) false); kept = rw (q, after_opening a b1) c.kept }

-- ---- a part of what is lent

part_played : (last : Bool) (bs o o1 : List ℕ) (p p1 : Place) (used n : ℕ) (w : Bool) (b x : Box) → SameShape x (first_of b.m b.h b) → 0 < p.stage → used ≤ length bs → leaves o1 n x p1 (drop used bs) w ≡ outcome o 0 (play_piece last (length o) p bs (first_of b.m b.h b)) → PlaysPart bs o o1 b (put_back x b) p1 used n w (play_piece last (length o) p bs (first_of b.m b.h b))
part_played last bs o o1 p p1 used n w b x s l u e =
    let k = piece_keeps last (length o) p bs (first_of b.m b.h b) l in
    let box : x ≡ (play_piece last (length o) p bs (first_of b.m b.h b)).box = ap (λ (r : Outcome). r.box) e in
    let xm : x.m ≡ b.m = ap (λ (y : Box). y.m) box ∙ sized_m (first_of b.m b.h b) (play_piece last (length o) p bs (first_of b.m b.h b)).box k.1 ∙ first_m b.m b.h b in
    let xh : x.h ≡ b.h = ap (λ (y : Box). y.h) box ∙ sized_h (first_of b.m b.h b) (play_piece last (length o) p bs (first_of b.m b.h b)).box k.1 ∙ first_h b.m b.h b in
    let f : first_of (put_back x b).m (put_back x b).h (put_back x b) ≡ x = ap (λ (i : ℕ). first_of i (put_back x b).h (put_back x b)) (back_m x b ∙ xm) ∙ ap (λ (j : ℕ). first_of b.m j (put_back x b)) (back_h x b ∙ xh) ∙ first_back b.m b.h x b s in
    record { used_in = u; comes_to = rw f e; kept = rw f }

pub plays_parts : (u : MemoryUnit) {part came joined : Box} → Parted u (state_in u).m (state_in u).h part came joined → (last : Bool) (bs o o1 : List ℕ) (p p1 : Place) (used n : ℕ) (w : Bool) → 0 < p.stage → (used ≤ length bs) × (leaves o1 n came p1 (drop used bs) w ≡ outcome o 0 (play_piece last (length o) p bs part)) → PlaysPart bs o o1 (box_of u) joined p1 used n w (play_piece last (length o) p bs (first_of (state_in u).m (state_in u).h (box_of u)))
plays_parts u {part} {came} {joined} t last bs o o1 p p1 used n w s c =
    subst (λ (b : Box). PlaysPart bs o o1 (box_of u) b p1 used n w (play_piece last (length o) p bs (first_of (state_in u).m (state_in u).h (box_of u)))) (sym t.joined_is)
    (part_played last bs o o1 p p1 used n w (box_of u) came t.shape s c.0 (c.1 ∙ ap (λ (b : Box). outcome o 0 (play_piece last (length o) p bs b)) t.part_is))

-- ---- any call

pub call_start : (last : Bool) (bs o o1 : List ℕ) (b b1 : Box) (p p1 : Place) (used n : ℕ) (w : Bool) → p.stage ≡ 0 → ComesTo bs o o1 b b1 p1 used n w (begin_piece last (length o) p bs b) → Plays last p bs o o1 b b1 p1 used n w
unfolding play_call
call_start last bs o o1 b b1 p p1 used n w s c = rw (at_the_start p b s, eq-eqb p.stage 0 s) c

-- the place that is left has the flag that it had, and is behind the start
place_kept : (last : Bool) (bs o o1 : List ℕ) (x b1 : Box) (p p1 : Place) (rest : List ℕ) (n : ℕ) (w : Bool) → 0 < p.stage → leaves o1 n b1 p1 rest w ≡ outcome o 0 (play_piece last (length o) p bs x) → (p1.opened ≡ p.opened) × (0 < p1.stage)
place_kept last bs o o1 x b1 p p1 rest n w l e =
    let k = piece_keeps last (length o) p bs x l in
    let q : p1 ≡ (play_piece last (length o) p bs x).place = ap (λ (r : Outcome). r.place) e in
    rw q k.0

pub call_part : (last : Bool) (bs o o1 : List ℕ) (b b1 : Box) (p p1 : Place) (used n : ℕ) (w : Bool) → 0 < p.stage → p.opened ≡ true → PlaysPart bs o o1 b b1 p1 used n w (play_piece last (length o) p bs (first_of b.m b.h b)) → Plays last p bs o o1 b b1 p1 used n w
unfolding play_call
call_part last bs o o1 b b1 p p1 used n w l t c =
    let k = place_kept last bs o o1 (first_of b.m b.h b) (first_of b1.m b1.h b1) p p1 (drop used bs) n w l c.comes_to in
    let f : played_at p1 b1 ≡ first_of b1.m b1.h b1 = when_opened p1 b1 k.1 (k.0 ∙ t) in
    rw (when_opened p b l t, ne_eqb p.stage 0 (λ e. omega arith)) (record { used_in = c.used_in; comes_to = rw f c.comes_to; kept = rw f c.kept })

pub call_whole : (last : Bool) (bs o o1 : List ℕ) (b b1 : Box) (p p1 : Place) (used n : ℕ) (w : Bool) → 0 < p.stage → p.opened ≡ false → (used ≤ length bs) × (leaves o1 n b1 p1 (drop used bs) w ≡ outcome o 0 (play_piece last (length o) p bs b)) → Plays last p bs o o1 b b1 p1 used n w
unfolding play_call
call_whole last bs o o1 b b1 p p1 used n w l t c =
    let s : Sized b b1 = subst (Sized b) (sym (ap (λ (r : Outcome). r.box) c.1)) (piece_keeps last (length o) p bs b l).1 in
    let k = place_kept last bs o o1 b b1 p p1 (drop used bs) n w l c.1 in
    let f : played_at p1 b1 ≡ b1 = when_not_opened p1 b1 k.1 (k.0 ∙ t) in
    rw (when_not_opened p b l t, ne_eqb p.stage 0 (λ e. omega arith)) (record { used_in = c.0; comes_to = rw f c.1; kept = rw f (sym (back_all b1 b (sized_shape b b1 s))) })
