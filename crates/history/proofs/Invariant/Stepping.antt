-- A step of a box with the invariant, in one result: the cycle goes on or ends, and never is the answer 9. By the view, each
-- transition meets its lemma: the invariant again, the steps left fall, the hold stays, and what is marked and kept is spared. A test
-- that would answer 9 contradicts the invariant. Assumes nothing.
use Prim.Native.Nat.{ℕ, ◌+◌, ◌≤◌, ◌<◌}
use mathlib.Core.Bool.{Bool, true, false, true≢false}
use mathlib.Core.List.{List, []}
use mathlib.Core.Logic.{◌≢◌, ◌⊎◌, inl}
use mathlib.Core.Path.{◌≡◌, refl, sym, ◌∙◌, ap, subst}
use native.Mathlib.Omega.{arith}
use Rattle.rules.specs.Limits.{register_count}
use Rattle.rules.specs.Parts.{Box, with_next}
use Rattle.rules.specs.Box.{Reply, reply, handle_of, names_tuple, word_at, register, marked, deep}
use Rattle.rules.specs.Place.{list_next, mark_live, shade}
use Rattle.rules.specs.Collector.{going, to_phase, after, at_rest, end_cycle, scan, begin_sweep, go_on, write_copy, zero_word, step}
use Rattle.history.specs.Machine.{History}
use Rattle.history.proofs.Invariant.Statement.{Plan, Ghosts, Inv, Kept, Unswept}
use Rattle.history.proofs.Invariant.Frame.{Next}
use Rattle.history.proofs.Invariant.Resting.{resting, none_kept}
use Rattle.history.proofs.Relation.Statement.{Related}
use Rattle.history.proofs.Spared.Tracked.{Spared, Tracked, root_spared}
use Rattle.history.proofs.Spared.Steps.{tracked_rests, tracked_marks, tracked_sweep, tracked_swept, ended_spared, shade_marked_only, scanned_spared}
use Rattle.rules.proofs.View.Step.{RootsMarked, Reason, Step, view}
use Rattle.history.proofs.Marking.Alike.{none_wait, Onward, onward_next}
use Rattle.history.proofs.Marking.Shade.{shade_numbers}
use Rattle.history.proofs.Marking.Start.{rests, takes_next, shades_root}
use Rattle.history.proofs.Marking.Scan.{scans_data, scans_pointer, scan_ends, takes_current, adds_marked, adds_unmarked}
use Rattle.history.proofs.Marking.Complete.{begins_sweep_onward, ends_empty_inv, ends_empty_calm}
use Rattle.history.proofs.Marking.InRange.{next_entry, current_entry, root_entry, tuple_entry, root_room, tuple_room, scan_room}
use Rattle.history.proofs.Asking.InRange.{sound_box}
use Rattle.history.proofs.Sweep.Ghosts.{ended_next}
use Rattle.history.proofs.Sweep.Keep.{keeps, keeps_last}
use Rattle.history.proofs.Sweep.MoveBegins.{starts_move}
use Rattle.history.proofs.Sweep.Release.{releases, starts_zero}
use Rattle.history.proofs.Sweep.Zeroing.{zeroes, zero_on, zero_ends}
use Rattle.history.proofs.Sweep.InRange.{sweep_entry, sweep_end_fits, sweep_more_fits, release_more_fits, zero_index_fits, zero_end_fits, zero_more_fits}
use Rattle.history.proofs.Moving.Copying.{copies_low, copies_high}
use Rattle.history.proofs.Moving.Clearing.{clears}
use Rattle.history.proofs.Moving.Writing.{writes}
use Rattle.history.proofs.Moving.Leaving.{moves_on}
use Rattle.history.proofs.Moving.Ending.{ends_move}
use Rattle.history.proofs.Moving.Tuple.{read_fits, Finishes, finish_fits, clear_fits, write_fits}
use Rattle.history.proofs.Left.Count.{left}
use Rattle.history.proofs.Left.Steps.{step_left}
use Rattle.history.proofs.Invariant.Stages.{unswept_of}
use Rattle.rules.proofs.View.Boxes.{rested_box, scanned_data_box, scanned_pointer_box, swept_size, swept_after, kept_last_box, kept_box, move_begun_box, released_box, zero_begun_box, copied_box, moved_last_box, moved_box, cleared_box, zeroed_last_box}

-- ---- the result

-- sizes and the request held stay; `begun` is told apart
pub record SameHold (b c : Box) : Type 0 where
  pub m_same : c.m ≡ b.m
  pub h_same : c.h ≡ b.h
  pub held_same : c.hold.held ≡ b.hold.held
  pub register_same : c.hold.register ≡ b.hold.register
  pub size_same : c.hold.size ≡ b.hold.size
  pub tag_same : c.hold.tag ≡ b.hold.tag

-- a step that starts a cycle has it tracked from here on, and one within a cycle keeps it tracked
pub data Track (b : Box) (g : Ghosts) (c : Box) (q : Plan) : Type 0 where
  starts : b.collector.phase ≡ 0 → c.collector.phase ≡ 1 → (b.hold.held ≡ true → c.hold.begun ≡ true)
      → ((m : History) (number : ℕ → ℕ) → Tracked c q m number m) → Track b g c q
  tracks : b.collector.phase ≢ 0 → c.collector.phase ≢ 0 → c.hold.begun ≡ b.hold.begun
      → ((m : History) (given : List ℕ) (number : ℕ → ℕ) (started : History) → Related b g.plan m given number → Tracked b g.plan m number started → Tracked c q m number started)
      → Track b g c q

-- every tuple kept as the cycle ends is one that it may keep
abbrev pub EndsSpared : Box → Ghosts → Box → Plan → Type 0
EndsSpared b g c q =
    (m : History) (given : List ℕ) (number : ℕ → ℕ) (started : History) → Related b g.plan m given number → Tracked b g.plan m number started
    → (h : ℕ) → Kept c q h → Spared started (number h)

pub data Stepped (b : Box) (g : Ghosts) : Type 0 where
  goes_on : (c : Box) → step b ≡ reply c 30 → (n : Next b g c) → left c n.ghosts < left b g → SameHold b c → Track b g c n.ghosts.plan → Stepped b g
  ends : (c : Box) → step b ≡ end_cycle b c → (n : Next b g (at_rest c)) → b.collector.phase ≢ 0 → SameHold b c → c.hold.begun ≡ b.hold.begun
      → EndsSpared b g (at_rest c) n.ghosts.plan → Stepped b g

-- ---- never 9

-- no rule looks up, touches or forms anything out of range
pub never_reason : (b : Box) (g : Ghosts) → Inv b g → Reason b → ⊥
never_reason b g v (Reason.next_lost p n e) = e (next_entry b g v n)
never_reason b g v (Reason.root_lost p z r l g' n e) = e (root_entry b g v (omega arith) r l n)
never_reason b g v (Reason.root_total p z r l g' n e t u) = omega (arith, root_room b g v (omega arith) r l n t)
never_reason b g v (Reason.scan_past p i a) = omega (arith, scan_room b g v p i)
never_reason b g v (Reason.current_lost p i n e) = e (current_entry b g v n)
never_reason b g v (Reason.add_lost p e) = e (tuple_entry b g v p)
never_reason b g v (Reason.add_total p e t u) = omega (arith, tuple_room b g v p t)
never_reason b g v (Reason.sweep_lost p e) = e (sweep_entry b g v p)
never_reason b g v (Reason.sweep_after p e u) = omega (arith, sweep_end_fits b g v p)
never_reason b g v (Reason.keep_past p e a t d n u) = omega (arith, sweep_more_fits b g v p n)
never_reason b g v (Reason.release_past p e a t d u) = omega (arith, release_more_fits b g v p t d)
never_reason b g v (Reason.read_past p i a) = omega (arith, read_fits b g v p i)
never_reason b g v (Reason.finish_lost p i e) = let f : Finishes b = finish_fits b g v p i in e (f.least, f.most)
never_reason b g v (Reason.finish_total p i e u) = let f : Finishes b = finish_fits b g v p i in omega arith
never_reason b g v (Reason.finish_after p i e a u) = let f : Finishes b = finish_fits b g v p i in omega arith
never_reason b g v (Reason.finish_past p i e a c n u) = let f : Finishes b = finish_fits b g v p i in omega (arith, f.after_inside n)
never_reason b g v (Reason.clear_past p a) = omega (arith, clear_fits b g v p)
never_reason b g v (Reason.write_past p a) = omega (arith, write_fits b g v p)
never_reason b g v (Reason.zero_past p i a) = omega (arith, zero_index_fits b g v p i)
never_reason b g v (Reason.zero_after p i a) = omega (arith, zero_end_fits b g v p)
never_reason b g v (Reason.zero_past_on p i a n u) = omega (arith, zero_more_fits b g v p n)

-- ---- what is tracked

-- a transition of the marking that adds nothing and marks only what is spared
marks_spared : (b : Box) (g : Ghosts) → Inv b g → (c : Box) (n : Next b g c) → 1 ≤ b.collector.phase → b.collector.phase ≤ 3 → 1 ≤ c.collector.phase → c.collector.phase ≤ 2
    → c.hold.begun ≡ b.hold.begun
    → ((m : History) (given : List ℕ) (number : ℕ → ℕ) (started : History) → Related b g.plan m given number → Tracked b g.plan m number started
    → (h : ℕ) → marked h c ≡ true → (marked h b ≡ true) ⊎ Spared started (number h))
    → Track b g c n.ghosts.plan
marks_spared b g v c n lb ub lc uc e k =
    tracks (omega arith) (omega arith) e
    (λ m given number started r t. tracked_marks b g v c n.ghosts.plan n.calm m number started t ub (omega arith) (k m given number started r t) (λ x. absurd (omega arith)))

-- one that marks nothing
marks_none : (b : Box) (g : Ghosts) → Inv b g → (c : Box) (n : Next b g c) → 1 ≤ b.collector.phase → b.collector.phase ≤ 3 → 1 ≤ c.collector.phase → c.collector.phase ≤ 2
    → c.hold.begun ≡ b.hold.begun → ((h : ℕ) → marked h c ≡ marked h b) → Track b g c n.ghosts.plan
marks_none b g v c n lb ub lc uc e k = marks_spared b g v c n lb ub lc uc e (λ m given number started r t h x. inl (sym (k h) ∙ x))

-- a transition of the sweep
sweeps_track : (b : Box) (g : Ghosts) → Inv b g → (c : Box) (n : Next b g c) → 4 ≤ b.collector.phase → 4 ≤ c.collector.phase
    → c.hold.begun ≡ b.hold.begun → Track b g c n.ghosts.plan
sweeps_track b g v c n lb lc e =
    tracks (omega arith) (omega arith) e
    (λ m given number started r t. tracked_swept b g v c n.ghosts.plan n.calm m number started t lb lc)

-- the end of a sweep
sweep_spared : (b : Box) (g : Ghosts) → Inv b g → (c : Box) (n : Next b g c) → 4 ≤ b.collector.phase → EndsSpared b g c n.ghosts.plan
sweep_spared b g v c n l m given number started r t = ended_spared b g v c n.ghosts.plan n.calm m number started t l

-- the cycle goes on: the steps left fall by the view
goes : (b : Box) (g : Ghosts) → Inv b g → (c : Box) → step b ≡ reply c 30 → (n : Next b g c) → SameHold b c → Track b g c n.ghosts.plan → Stepped b g
goes b g v c s n =
    let same : (step b).box ≡ c = ap (λ (r : Reply). r.box) s in
    let fall : left (step b).box n.ghosts < left b g = step_left b g v (ap (λ (r : Reply). r.answer) s) n.ghosts (subst (λ (x : Box). Inv x n.ghosts) (sym same) n.inv) in
    goes_on c s n (subst (λ (x : Box). left x n.ghosts < left b g) same fall)

-- ---- 0

step_rests : (b : Box) (g : Ghosts) → Inv b g → b.collector.phase ≡ 0 → step b ≡ going (rested_box b) → Stepped b g
step_rests b g v p s =
    let c : Box = rested_box b in
    let n : Next b g c = onward_next b g c none_wait (rests b g v p) in
    goes b g v c s n (search)
    (starts p refl (λ h. simp h) (λ m number. tracked_rests b g v c n.ghosts.plan n.calm m number p refl (λ h. refl)))

-- ---- 1

step_takes_next : (b : Box) (g : Ghosts) → Inv b g → b.collector.phase ≡ 1 → b.collector.next ≢ 0
    → step b ≡ going (scan b.collector.next (with_next 0 b)) → Stepped b g
unfolding scan
step_takes_next b g v p z s =
    let c : Box = scan b.collector.next (with_next 0 b) in
    let n : Next b g c = takes_next b g v p z in
    goes b g v c s n (search) (marks_none b g v c n (omega arith) (omega arith) (omega arith) (omega arith) refl (λ h. refl))

shade_hold : (h : ℕ) (b : Box) → SameHold b (shade h b) × ((shade h b).hold.begun ≡ b.hold.begun)
unfolding shade list_next mark_live
shade_hold h b = go (marked h b) refl (deep h b) refl
  where
    go : (s : Bool) → marked h b ≡ s → (t : Bool) → deep h b ≡ t → SameHold b (shade h b) × ((shade h b).hold.begun ≡ b.hold.begun)
    go true f t e = (record { m_same = simp f; h_same = simp f; held_same = simp f; register_same = simp f; size_same = simp f; tag_same = simp f }, simp f)
    go false f true e = (
      record {
        m_same = simp (f, e);
        h_same = simp (f, e);
        held_same = simp (f, e);
        register_same = simp (f, e);
        size_same = simp (f, e);
        tag_same = simp (f, e);
      },
      simp (f, e),
    )
    go false f false e = (
      record {
        m_same = simp (f, e);
        h_same = simp (f, e);
        held_same = simp (f, e);
        register_same = simp (f, e);
        size_same = simp (f, e);
        tag_same = simp (f, e);
      },
      simp (f, e),
    )

step_shades_root : (b : Box) (g : Ghosts) → Inv b g → b.collector.phase ≡ 1 → (r : ℕ) → r < register_count → names_tuple (register r b) ≡ true
    → marked (handle_of (register r b)) b ≡ false → step b ≡ going (shade (handle_of (register r b)) b) → Stepped b g
step_shades_root b g v p r l x f s =
    let h : ℕ = handle_of (register r b) in
    let c : Box = shade h b in
    let n : Next b g c = shades_root b g v p r l x in
    let e : c.collector.phase ≡ 1 = (shade_numbers h b).phase_is ∙ p in
    goes b g v c s n (shade_hold h b).0
    (marks_spared b g v c n (omega arith) (omega arith) (omega arith) (omega arith) (shade_hold h b).1
    (λ m given number started q t. shade_marked_only h b (λ (y : ℕ). Spared started (number y)) (root_spared b g.plan m given number q v.contents started t r l x)))

step_begins_sweep : (b : Box) (g : Ghosts) → Inv b g → b.collector.phase ≡ 1 → b.collector.next ≡ 0 → RootsMarked b → b.top ≢ 0
    → step b ≡ going (begin_sweep b) → Stepped b g
unfolding begin_sweep
step_begins_sweep b g v p z roots t s =
    let c : Box = begin_sweep b in
    let o : Onward b g c g.scans = begins_sweep_onward b g v p z roots t in
    let u : Unswept g = unswept_of b g v.stage (omega arith) in
    goes b g v c s (record { ghosts = g; inv = o.inv; calm = o.calm }) (search)
    (tracks (omega arith) (omega arith) refl (λ m given number started r x. tracked_sweep b g v c g.plan o.calm m number started x (omega arith) refl (λ h. refl) u.no_done u.no_mid))

step_ends_empty : (b : Box) (g : Ghosts) → Inv b g → b.collector.phase ≡ 1 → b.collector.next ≡ 0 → b.top ≡ 0 → step b ≡ end_cycle b b → Stepped b g
step_ends_empty b g v p z t s =
    ends b s (record { ghosts = resting [] g.free; inv = ends_empty_inv b g v p z t; calm = ends_empty_calm b g.plan }) (omega arith) (search) refl
    (λ m given number started r x h k. absurd (none_kept (at_rest b) h k))

-- ---- 2

step_scans_data : (b : Box) (g : Ghosts) → Inv b g → b.collector.phase ≡ 2 → b.collector.index ≤ b.collector.size
    → names_tuple (word_at (b.collector.src + b.collector.index) b) ≡ false → step b ≡ going (scanned_data_box b) → Stepped b g
step_scans_data b g v p i f s =
    let c : Box = scanned_data_box b in
    let n : Next b g c = scans_data b g v p i f in
    goes b g v c s n (search)
    (marks_none b g v c n (omega arith) (omega arith) (omega arith) (omega arith) refl (λ h. refl))

step_scans_pointer : (b : Box) (g : Ghosts) → Inv b g → b.collector.phase ≡ 2 → b.collector.index ≤ b.collector.size
    → names_tuple (word_at (b.collector.src + b.collector.index) b) ≡ true → step b ≡ going (scanned_pointer_box b) → Stepped b g
step_scans_pointer b g v p i f s =
    let c : Box = scanned_pointer_box b in
    let n : Next b g c = scans_pointer b g v p i f in
    goes b g v c s n (search)
    (tracks (omega arith) (omega arith) refl
    (λ m given number started r t. tracked_marks b g v c n.ghosts.plan n.calm m number started t (omega arith) (omega arith) (λ h x. inl x) (λ e. scanned_spared b g m given number started v r t p i f)))

step_scan_ends : (b : Box) (g : Ghosts) → Inv b g → b.collector.phase ≡ 2 → b.collector.size < b.collector.index → b.collector.current ≡ 0
    → step b ≡ going (to_phase 1 b) → Stepped b g
step_scan_ends b g v p i z s =
    let c : Box = to_phase 1 b in
    let n : Next b g c = scan_ends b g v p i z in
    goes b g v c s n (search) (marks_none b g v c n (omega arith) (omega arith) (omega arith) (omega arith) refl (λ h. refl))

step_takes_current : (b : Box) (g : Ghosts) → Inv b g → b.collector.phase ≡ 2 → b.collector.size < b.collector.index → b.collector.current ≢ 0
    → step b ≡ going (scan b.collector.current b) → Stepped b g
unfolding scan
step_takes_current b g v p i z s =
    let c : Box = scan b.collector.current b in
    let n : Next b g c = takes_current b g v p i z in
    goes b g v c s n (search) (marks_none b g v c n (omega arith) (omega arith) (omega arith) (omega arith) refl (λ h. refl))

-- ---- 3

step_adds_marked : (b : Box) (g : Ghosts) → Inv b g → b.collector.phase ≡ 3 → marked b.collector.tuple b ≡ true → step b ≡ going (to_phase 2 b) → Stepped b g
step_adds_marked b g v p t s =
    let c : Box = to_phase 2 b in
    let n : Next b g c = adds_marked b g v p t in
    goes b g v c s n (search) (marks_none b g v c n (omega arith) (omega arith) (omega arith) (omega arith) refl (λ h. refl))

step_adds_unmarked : (b : Box) (g : Ghosts) → Inv b g → b.collector.phase ≡ 3 → marked b.collector.tuple b ≡ false
    → step b ≡ going (to_phase 2 (shade b.collector.tuple b)) → Stepped b g
step_adds_unmarked b g v p f s =
    let h : ℕ = b.collector.tuple in
    let c : Box = to_phase 2 (shade h b) in
    let n : Next b g c = adds_unmarked b g v p f in
    let e : SameHold b (shade h b) = (shade_hold h b).0 in
    goes b g v c s n
    (record { m_same = e.m_same; h_same = e.h_same; held_same = e.held_same; register_same = e.register_same; size_same = e.size_same; tag_same = e.tag_same })
    (marks_spared b g v c n (omega arith) (omega arith) (omega arith) (omega arith) (shade_hold h b).1
    (λ m given number started q t. shade_marked_only h b (λ (y : ℕ). Spared started (number y)) (t.adding_spared p)))

-- ---- 4

step_keeps_last : (b : Box) (g : Ghosts) → Inv b g → b.collector.phase ≡ 4 → marked b.collector.tuple b ≡ true
    → b.collector.src ≡ b.collector.dest → swept_after b ≡ b.top
    → step b ≡ end_cycle b (kept_last_box b) → Stepped b g
step_keeps_last b g v p t d e s =
    let n : Next b g (at_rest (kept_last_box b)) = ended_next b g (kept_last_box b) (keeps_last b g v p t d e) in
    ends (kept_last_box b) s n (omega arith) (search) refl (sweep_spared b g v (at_rest (kept_last_box b)) n (omega arith))

step_keeps : (b : Box) (g : Ghosts) → Inv b g → b.collector.phase ≡ 4 → marked b.collector.tuple b ≡ true → b.collector.src ≡ b.collector.dest → swept_after b ≢ b.top
    → step b ≡ going (kept_box b) → Stepped b g
step_keeps b g v p t d e s =
    let c : Box = kept_box b in
    let n : Next b g c = keeps b g v p t d e in
    goes b g v c s n (search) (sweeps_track b g v c n (omega arith) (omega arith) refl)

step_starts_move : (b : Box) (g : Ghosts) → Inv b g → b.collector.phase ≡ 4 → marked b.collector.tuple b ≡ true
    → b.collector.src ≢ b.collector.dest → step b ≡ going (move_begun_box b) → Stepped b g
step_starts_move b g v p t d s =
    let c : Box = move_begun_box b in
    let n : Next b g c = starts_move b g v p t d in
    goes b g v c s n (search) (sweeps_track b g v c n (omega arith) (omega arith) refl)

step_releases : (b : Box) (g : Ghosts) → Inv b g → b.collector.phase ≡ 4 → marked b.collector.tuple b ≡ false
    → b.collector.src + swept_size b < b.collector.live → step b ≡ going (released_box b) → Stepped b g
step_releases b g v p t l s =
    let c : Box = released_box b in
    let n : Next b g c = releases b g v p t l in
    goes b g v c s n (search) (sweeps_track b g v c n (omega arith) (omega arith) refl)

step_starts_zero : (b : Box) (g : Ghosts) → Inv b g → b.collector.phase ≡ 4 → marked b.collector.tuple b ≡ false
    → b.collector.live ≤ b.collector.src + swept_size b → step b ≡ going (zero_begun_box b) → Stepped b g
step_starts_zero b g v p t l s =
    let c : Box = zero_begun_box b in
    let n : Next b g c = starts_zero b g v p t l in
    goes b g v c s n (search) (sweeps_track b g v c n (omega arith) (omega arith) refl)

-- ---- 5

step_copies_low : (b : Box) (g : Ghosts) → Inv b g → b.collector.phase ≡ 5 → b.collector.index ≤ b.collector.size
    → b.collector.src + b.collector.index < b.collector.live → step b ≡ going (copied_box 7 b) → Stepped b g
step_copies_low b g v p i l s =
    let c : Box = copied_box 7 b in
    let n : Next b g c = copies_low b g v p i l in
    goes b g v c s n (search) (sweeps_track b g v c n (omega arith) (omega arith) refl)

step_copies_high : (b : Box) (g : Ghosts) → Inv b g → b.collector.phase ≡ 5 → b.collector.index ≤ b.collector.size
    → b.collector.live ≤ b.collector.src + b.collector.index → step b ≡ going (copied_box 6 b) → Stepped b g
step_copies_high b g v p i l s =
    let c : Box = copied_box 6 b in
    let n : Next b g c = copies_high b g v p i l in
    goes b g v c s n (search) (sweeps_track b g v c n (omega arith) (omega arith) refl)

step_moves_on : (b : Box) (g : Ghosts) → Inv b g → b.collector.phase ≡ 5 → b.collector.size < b.collector.index → after b ≢ b.top
    → step b ≡ going (moved_box b) → Stepped b g
step_moves_on b g v p i e s =
    let c : Box = moved_box b in
    let n : Next b g c = moves_on b g v p i e in
    goes b g v c s n (search) (sweeps_track b g v c n (omega arith) (omega arith) refl)

step_ends_move : (b : Box) (g : Ghosts) → Inv b g → b.collector.phase ≡ 5 → b.collector.size < b.collector.index → after b ≡ b.top
    → step b ≡ end_cycle b (moved_last_box b) → Stepped b g
step_ends_move b g v p i e s =
    let n : Next b g (at_rest (moved_last_box b)) = ends_move b g v p i e in
    ends (moved_last_box b) s n (omega arith) (search) refl (sweep_spared b g v (at_rest (moved_last_box b)) n (omega arith))

-- ---- 6 and 7

step_clears : (b : Box) (g : Ghosts) → Inv b g → b.collector.phase ≡ 6 → step b ≡ going (cleared_box b) → Stepped b g
step_clears b g v p s =
    let c : Box = cleared_box b in
    let n : Next b g c = clears b g v p in
    goes b g v c s n (search) (sweeps_track b g v c n (omega arith) (omega arith) refl)

step_writes : (b : Box) (g : Ghosts) → Inv b g → b.collector.phase ≡ 7 → step b ≡ going (write_copy b) → Stepped b g
unfolding write_copy
step_writes b g v p s =
    let c : Box = write_copy b in
    let n : Next b g c = writes b g v p in
    goes b g v c s n (search) (sweeps_track b g v c n (omega arith) (omega arith) refl)

-- ---- 8

step_zeroes : (b : Box) (g : Ghosts) → Inv b g → b.collector.phase ≡ 8 → b.collector.index ≤ b.collector.size → step b ≡ going (zero_word b) → Stepped b g
unfolding zero_word
step_zeroes b g v p i s =
    let c : Box = zero_word b in
    let n : Next b g c = zeroes b g v p i in
    goes b g v c s n (search) (sweeps_track b g v c n (omega arith) (omega arith) refl)

step_zero_on : (b : Box) (g : Ghosts) → Inv b g → b.collector.phase ≡ 8 → b.collector.size < b.collector.index → after b ≢ b.top
    → step b ≡ going (go_on (after b) b) → Stepped b g
unfolding go_on
step_zero_on b g v p i e s =
    let c : Box = go_on (after b) b in
    let n : Next b g c = zero_on b g v p i e in
    goes b g v c s n (search) (sweeps_track b g v c n (omega arith) (omega arith) refl)

step_zero_ends : (b : Box) (g : Ghosts) → Inv b g → b.collector.phase ≡ 8 → b.collector.size < b.collector.index → after b ≡ b.top
    → step b ≡ end_cycle b (zeroed_last_box b) → Stepped b g
step_zero_ends b g v p i e s =
    let n : Next b g (at_rest (zeroed_last_box b)) = ended_next b g (zeroed_last_box b) (zero_ends b g v p i e) in
    ends (zeroed_last_box b) s n (omega arith) (search) refl (sweep_spared b g v (at_rest (zeroed_last_box b)) n (omega arith))

-- ---- any step

pub stepped : (b : Box) (g : Ghosts) → Inv b g → Stepped b g
stepped b g v = go (view b)
  where
    go : Step b → Stepped b g
    go (Step.unsound f s) = absurd (true≢false (sym (sound_box b g v) ∙ f))
    go (Step.nine f r s) = absurd (never_reason b g v r)
    go (Step.rests f p s) = step_rests b g v p s
    go (Step.takes_next f p z e s) = step_takes_next b g v p z s
    go (Step.shades_root f p z r l g' n e t u s) = step_shades_root b g v p r l n t s
    go (Step.ends_empty f p z m t s) = step_ends_empty b g v p z t s
    go (Step.begins_sweep f p z m t s) = step_begins_sweep b g v p z m t s
    go (Step.scans_data f p i a n s) = step_scans_data b g v p i n s
    go (Step.scans_pointer f p i a n s) = step_scans_pointer b g v p i n s
    go (Step.scan_ends f p i z s) = step_scan_ends b g v p i z s
    go (Step.takes_current f p i z e s) = step_takes_current b g v p i z s
    go (Step.adds_marked f p e t s) = step_adds_marked b g v p t s
    go (Step.adds_unmarked f p e t u s) = step_adds_unmarked b g v p t s
    go (Step.keeps_last f p e a t d l s) = step_keeps_last b g v p t d l s
    go (Step.keeps f p e a t d l u s) = step_keeps b g v p t d l s
    go (Step.starts_move f p e a t d s) = step_starts_move b g v p t d s
    go (Step.releases f p e a t l u s) = step_releases b g v p t l s
    go (Step.starts_zero f p e a t l s) = step_starts_zero b g v p t l s
    go (Step.copies_low f p i a l s) = step_copies_low b g v p i l s
    go (Step.copies_high f p i a l s) = step_copies_high b g v p i l s
    go (Step.ends_move f p i e a c l s) = step_ends_move b g v p i l s
    go (Step.moves_on f p i e a l u s) = step_moves_on b g v p i l s
    go (Step.clears f p a s) = step_clears b g v p s
    go (Step.writes f p a s) = step_writes b g v p s
    go (Step.zeroes f p i a s) = step_zeroes b g v p i s
    go (Step.zero_ends f p i a l s) = step_zero_ends b g v p i l s
    go (Step.zero_on f p i l u s) = step_zero_on b g v p i l s
