-- The invariant in the phases that settle, release and zero tuples, 4 and 8: its ghosts in full form, read off the stage, and what
-- the transitions of those phases share. Each is read off the clauses of the invariant. Assumes nothing.
use Prim.Native.Nat.{ℕ, ◌+◌, ◌≤◌}
use mathlib.Core.Bool.{true, false}
use mathlib.Core.List.{List, [], ◌∷◌}
use mathlib.Core.Logic.{◌≢◌, ◌⊎◌, inl, inr}
use mathlib.Core.Path.{◌≡◌, refl, sym, ◌∙◌, ap, subst}
use native.Mathlib.Omega.{arith}
use Rattle.rules.specs.Parts.{Box}
use Rattle.rules.specs.Box.{handle_of, word_at, register, address, size_of, marked, deep}
use Rattle.rules.specs.Collector.{at_rest}
use Rattle.history.specs.Agreement.{Member}
use Rattle.history.proofs.Invariant.Statement.{Plan, Scans, Ghosts, Inv, word, Laid, rooms, marked_rooms, Kept, settled, moving, unswept, surviving, Marks, Unlisted}
use Rattle.history.proofs.Lists.Laid.{Front, laid_front}
use Rattle.history.proofs.Invariant.Frame.{Quiet, Calm, Next}
use Rattle.history.proofs.Invariant.Resting.{Finished, resting_plan, resting, finished}
use Rattle.history.proofs.Invariant.Stages.{Sweeps, sweeps_of, Zeroes, zeroes_of}

-- ---- the ghosts in full form

abbrev pub no_scans : Scans
no_scans = record { nexts = []; currents = []; gray = [] }

abbrev pub sweep_plan : ℕ → ℕ → List ℕ → List ℕ → Plan
sweep_plan low base ds hs = record { done = ds; mid = []; ahead = hs; low = low; base = base }

abbrev pub sweep_ghosts : ℕ → ℕ → ℕ → List ℕ → List ℕ → List ℕ → Ghosts
sweep_ghosts low base zeroed ds hs free = record { plan = sweep_plan low base ds hs; free = free; scans = no_scans; zeroed = zeroed }

-- no tuple waits for a scan
abbrev pub unlisted : (low base zeroed : ℕ) (ds hs free : List ℕ) → Unlisted (sweep_ghosts low base zeroed ds hs free)
unlisted low base z ds hs free = record { no_nexts = refl; no_currents = refl; no_gray = refl }

ghosts_are : (g : Ghosts) (low base zeroed : ℕ) (hs : List ℕ) → Unlisted g → g.plan.mid ≡ [] → g.plan.low ≡ low → g.plan.base ≡ base
    → g.zeroed ≡ zeroed → g.plan.ahead ≡ hs
    → g ≡ sweep_ghosts low base zeroed g.plan.done hs g.free
ghosts_are g low base y hs u m l s z a = λ i. record { plan = record { done = g.plan.done; mid = m i; ahead = a i; low = l i; base = s i }; free = g.free; scans = record { nexts = u.no_nexts i; currents = u.no_currents i; gray = u.no_gray i }; zeroed = z i }

-- ---- phase 4: the tuple under the sweep is the first ahead, at src

abbrev pub scan_ghosts : Box → List ℕ → List ℕ → List ℕ → Ghosts
scan_ghosts b ds hs free = sweep_ghosts b.collector.dest b.collector.src b.collector.src ds (b.collector.tuple ∷ hs) free

pub record Scanned (b : Box) (g : Ghosts) : Type 0 where
  pub settled_tuples : List ℕ
  pub behind_it : List ℕ
  pub free_handles : List ℕ
  pub are : g ≡ scan_ghosts b settled_tuples behind_it free_handles
  pub inv : Inv b (scan_ghosts b settled_tuples behind_it free_handles)

pub scanned : (b : Box) (g : Ghosts) → Inv b g → b.collector.phase ≡ 4 → Scanned b g
scanned b g v p =
    let s : Sweeps b g = sweeps_of b g v.stage p in
    let e : g ≡ scan_ghosts b g.plan.done s.behind g.free = ghosts_are g b.collector.dest b.collector.src b.collector.src (b.collector.tuple ∷ s.behind) s.unlisted s.no_mid s.low_is s.base_is s.zeroed_is s.ahead_is in
    record { settled_tuples = g.plan.done; behind_it = s.behind; free_handles = g.free; are = e; inv = subst (λ (x : Ghosts). Inv b x) e v }

-- ---- phase 8: the tuple under the sweep is freed already, and those ahead lie behind it

abbrev pub zero_ghosts : Box → List ℕ → List ℕ → List ℕ → Ghosts
zero_ghosts b ds hs free = sweep_ghosts b.collector.dest (b.collector.src + b.collector.size + 1) (b.collector.src + b.collector.index) ds hs free

pub record Zeroed (b : Box) (g : Ghosts) : Type 0 where
  pub settled_tuples : List ℕ
  pub behind_it : List ℕ
  pub free_handles : List ℕ
  pub are : g ≡ zero_ghosts b settled_tuples behind_it free_handles
  pub inv : Inv b (zero_ghosts b settled_tuples behind_it free_handles)
  pub dest_src : b.collector.dest ≤ b.collector.src
  pub index_most : b.collector.index ≤ b.collector.size + 1

pub zeroed_view : (b : Box) (g : Ghosts) → Inv b g → b.collector.phase ≡ 8 → Zeroed b g
zeroed_view b g v p =
    let s : Zeroes b g = zeroes_of b g v.stage p in
    let e : g ≡ zero_ghosts b g.plan.done g.plan.ahead g.free = ghosts_are g b.collector.dest (b.collector.src + b.collector.size + 1) (b.collector.src + b.collector.index) g.plan.ahead s.unlisted s.no_mid s.low_is s.base_is s.zeroed_is refl in
    record {
      settled_tuples = g.plan.done;
      behind_it = g.plan.ahead;
      free_handles = g.free;
      are = e;
      inv = subst (λ (x : Ghosts). Inv b x) e v;
      dest_src = s.dest_src;
      index_most = s.index_most;
    }

-- what is shown at the ghosts in full form holds at the ghosts
pub next_at : (b : Box) (g g' : Ghosts) (c : Box) → g ≡ g' → Next b g' c → Next b g c
next_at b g g' c e n = subst (λ (x : Ghosts). Next b x c) (sym e) n

-- ---- what ends a cycle

-- what is shown of a transition that ends the cycle, from b with ghosts g: its rule leaves the box c, with the tuples left
pub record Ended (b : Box) (g : Ghosts) (c : Box) : Type 0 where
  pub left : List ℕ
  pub free_handles : List ℕ
  pub finish : Finished c left free_handles
  pub calm : Calm b g.plan (at_rest c) (resting_plan left)

pub ended_at : (b : Box) (g g' : Ghosts) (c : Box) → g ≡ g' → Ended b g' c → Ended b g c
ended_at b g g' c e n = subst (λ (x : Ghosts). Ended b x c) (sym e) n

pub ended_next : (b : Box) (g : Ghosts) (c : Box) → Ended b g c → Next b g (at_rest c)
ended_next b g c e = record { ghosts = resting e.left e.free_handles; inv = finished c e.left e.free_handles e.finish; calm = e.calm }

-- ---- what the transitions share

-- a list of none
pub rooms_none : (b : Box) → rooms b [] ≡ 0
unfolding rooms
rooms_none b = refl

pub marked_rooms_nil : (b : Box) → marked_rooms b [] ≡ 0
unfolding marked_rooms
marked_rooms_nil b = refl

-- live, with no tuple being moved
pub live_swept : (b : Box) (low base : ℕ) (ds hs free : List ℕ) → Marks b (sweep_plan low base ds hs) free no_scans → b.collector.live ≡ low + marked_rooms b hs
live_swept b low base ds hs free m = omega (arith, m.live_is, rooms_none b)

-- the marks while no tuple waits for a scan
pub swept_marks : (c : Box) (q : Plan) (free : List ℕ) → 4 ≤ c.collector.phase
    → ((h : ℕ) → Member h free → marked h c ≡ false) → ((h : ℕ) → Member h q.done → marked h c ≡ false) → ((h : ℕ) → Member h q.mid → marked h c ≡ false)
    → c.collector.live ≡ q.low + (rooms c q.mid + marked_rooms c q.ahead) → c.collector.next ≡ 0 → c.collector.current ≡ 0 → Marks c q free no_scans
swept_marks c q free l f d m e n k =
    record {
      free_unmarked = f;
      done_unmarked = d;
      mid_unmarked = m;
      live_is = e;
      nexts_chain = n;
      currents_chain = k;
      listed_distinct = tt;
      listed_ahead = λ h x. absurd x;
      listed_marked = λ h x. absurd x;
      listed_deep = λ h x. absurd x;
      black = λ u. absurd (omega arith);
    }

-- a kept tuple, with none being moved: it is settled, or lies ahead and is marked
pub kept_swept : (b : Box) (low base : ℕ) (ds hs : List ℕ) → 4 ≤ b.collector.phase → (h : ℕ) → Kept b (sweep_plan low base ds hs) h
    → Member h ds ⊎ (Member h hs × (marked h b ≡ true))
kept_swept b low base ds hs l h (settled x) = inl x
kept_swept b low base ds hs l h (moving x) = absurd x
kept_swept b low base ds hs l h (unswept x u) = absurd (omega arith)
kept_swept b low base ds hs l h (surviving x m) = inr (x, m)

-- every word of every tuple is at its address
abbrev pub Plain : Box → Type 0
Plain b = (h i : ℕ) → word h i b ≡ word_at (address h b + i) b

-- a transition that leaves addresses, sizes, memory and registers alone
pub plain_quiet : (b : Box) (p : Plan) (c : Box) (q : Plan) → Plain b → Plain c → ((h : ℕ) → address h c ≡ address h b)
    → ((h : ℕ) → size_of h c ≡ size_of h b) → ((a : ℕ) → word_at a c ≡ word_at a b) → ((h : ℕ) → deep h c ≡ deep h b)
    → ((r : ℕ) → register r c ≡ register r b) → ((h : ℕ) → Kept c q h → Kept b p h) → ((h : ℕ) → Kept b p h → Kept c q h) → Quiet b p c q
plain_quiet b p c q pb pc ad sz wd dp rg to from =
    record {
      kept_to = to;
      kept_from = from;
      roots_same = rg;
      sizes_same = λ h k. sz h;
      words_same = λ h k i l. pc h i ∙ ap (λ (a : ℕ). word_at (a + i) c) (ad h) ∙ wd (address h b + i) ∙ sym (pb h i);
      deeps_same = λ h k. dp h;
    }

-- the tuple behind, named by the word at its beginning
pub next_tuple : (b : Box) (a : ℕ) (hs : List ℕ) (e : ℕ) → Laid b a hs e → a ≢ e → (ks : List ℕ) × (hs ≡ handle_of (word_at a b) ∷ ks)
next_tuple b a hs e l n =
    let f : Front b a hs e = laid_front b a hs e l n in
    (f.rest, f.is_cons ∙ ap (λ (h : ℕ). h ∷ f.rest) f.named)
