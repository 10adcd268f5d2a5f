-- An unmarked tuple is released: the transitions of phase 4 that put its handle at the head of the free list, and go on behind
-- it or begin to zero its words. It was not kept, so no kept tuple changes, and every group is read off the invariant before.
-- Assumes nothing.
use Prim.Native.Nat.{ℕ, ◌+◌, ◌-◌, ◌≤◌, ◌<◌}
use mathlib.Core.Bool.{false, false≢true}
use mathlib.Core.List.{List, ◌∷◌}
use mathlib.Core.Logic.{◌≢◌, inl, inr}
use mathlib.Core.Path.{◌≡◌, refl, sym, ◌∙◌, subst}
use native.Mathlib.Omega.{arith}
use lib.ListN.{set, length-set}
use Rattle.rules.specs.Parts.{Box, with_free, with_index, with_phase, with_size, with_src, with_tuple}
use Rattle.rules.specs.Box.{handle_of, word_at, size_of, marked, set_link}
use Rattle.history.specs.Agreement.{Member}
use Rattle.history.proofs.Invariant.Statement.{Plan, Ghosts, Inv, Chain, marked_rooms, Kept, settled, moving, unswept, surviving, Layout, Marks, Stage}
use Rattle.history.proofs.Invariant.Words.{word_early, word_late}
use Rattle.history.proofs.Lists.Handles.{perm_ahead_free}
use Rattle.history.proofs.Lists.Chain.{chain_push}
use Rattle.history.proofs.Lists.Laid.{laid_frame, marked_rooms_frame}
use Rattle.history.proofs.Invariant.Frame.{SameShape, shape_same, handles_moved, Quiet, quiet_contents, quiet_calm, Next}
use Rattle.history.proofs.Sweep.Ghosts.{no_scans, sweep_plan, sweep_ghosts, unlisted, scan_ghosts, Scanned, scanned, next_at, rooms_none, swept_marks, Plain, plain_quiet, next_tuple}
use Rattle.history.proofs.Sweep.Tuple.{in_links, not_free, behind_laid, dest_below_src, live_if_unmarked, more_behind}
use Rattle.rules.proofs.View.Boxes.{released_box, zero_begun_box, swept_after}

-- ---- what the two boxes share: the tuple is freed, and those behind it lie ahead

abbrev freed_box : ℕ → ℕ → ℕ → ℕ → Box → Box
freed_box src tuple index phase b =
    set_link b.collector.tuple b.free
    (with_free b.collector.tuple
    (with_src src (with_tuple tuple (with_index index (with_size (size_of b.collector.tuple b) (with_phase phase b))))))

abbrev freed_plan : Box → List ℕ → List ℕ → Plan
freed_plan b ds hs = sweep_plan b.collector.dest (swept_after b) ds hs

module _ (b : Box) (ds hs free : List ℕ) (v : Inv b (scan_ghosts b ds hs free)) (ph : b.collector.phase ≡ 4) (mk : marked b.collector.tuple b ≡ false) (s t n p : ℕ) (later : 4 ≤ p) (plain : Plain (freed_box s t n p b)) where
  freed_chain : Chain (set b.directory.links b.collector.tuple b.free) b.collector.tuple (b.collector.tuple ∷ free)
  freed_chain = chain_push b.directory.links b.free free b.collector.tuple v.handles.free_chain (not_free b ds hs free v) (in_links b ds hs free v)

  freed_unmarked : (h : ℕ) → Member h (b.collector.tuple ∷ free) → marked h b ≡ false
  freed_unmarked h (inl e) = subst (λ (x : ℕ). marked x b ≡ false) (sym e) mk
  freed_unmarked h (inr x) = v.marks.free_unmarked h x

  freed_shape : SameShape b (freed_box s t n p b)
  freed_shape = search length-set

  freed_layout : Layout (freed_box s t n p b) (freed_plan b ds hs)
  freed_layout =
      record {
        done_laid = laid_frame b (freed_box s t n p b) 0 ds b.collector.dest (λ h x. refl) (λ h x. refl) (λ h x. refl) v.layout.done_laid;
        ahead_laid = laid_frame b (freed_box s t n p b) (swept_after b) hs b.top (λ h x. refl) (λ h x. refl) (λ h x. refl) (behind_laid b ds hs free v);
        low_base = omega (arith, rooms_none (freed_box s t n p b), dest_below_src b ds hs free v);
        top_fits = v.layout.top_fits;
      }

  freed_rooms : marked_rooms (freed_box s t n p b) hs ≡ marked_rooms b hs
  freed_rooms = marked_rooms_frame b (freed_box s t n p b) hs (λ h x. refl) (λ h x. refl)

  freed_marks : Marks (freed_box s t n p b) (freed_plan b ds hs) (b.collector.tuple ∷ free) no_scans
  freed_marks = swept_marks (freed_box s t n p b) (freed_plan b ds hs) (b.collector.tuple ∷ free) later freed_unmarked v.marks.done_unmarked (λ h x. absurd x) (omega (arith, live_if_unmarked b ds hs free v mk, freed_rooms, rooms_none (freed_box s t n p b))) v.marks.nexts_chain v.marks.currents_chain

  freed_from : (h : ℕ) → Kept b (scan_ghosts b ds hs free).plan h → Kept (freed_box s t n p b) (freed_plan b ds hs) h
  freed_from h (settled x) = settled x
  freed_from h (moving x) = absurd x
  freed_from h (unswept x l) = absurd (omega arith)
  freed_from h (surviving (inl e) m) = absurd (false≢true (sym (subst (λ (x : ℕ). marked x b ≡ false) (sym e) mk) ∙ m))
  freed_from h (surviving (inr x) m) = surviving x m

  freed_to : (h : ℕ) → Kept (freed_box s t n p b) (freed_plan b ds hs) h → Kept b (scan_ghosts b ds hs free).plan h
  freed_to h (settled x) = settled x
  freed_to h (moving x) = absurd x
  freed_to h (unswept x l) = absurd (omega arith)
  freed_to h (surviving x m) = surviving (inr x) m

  freed_quiet : Quiet b (scan_ghosts b ds hs free).plan (freed_box s t n p b) (freed_plan b ds hs)
  freed_quiet = plain_quiet b (scan_ghosts b ds hs free).plan (freed_box s t n p b) (freed_plan b ds hs) (λ h i. word_early h i b (omega arith)) plain (λ h. refl) (λ h. refl) (λ a. refl) (λ h. refl) (λ r. refl) freed_to freed_from

  -- what is left to each: which words are data 0, and the stage
  freed_next : (z : ℕ) → ((a : ℕ) → b.collector.live ≤ a → a < z → a < b.collector.src)
      → Stage (freed_box s t n p b) (sweep_ghosts b.collector.dest (swept_after b) z ds hs (b.collector.tuple ∷ free))
      → Next b (scan_ghosts b ds hs free) (freed_box s t n p b)
  freed_next z below stage =
      record {
        ghosts = sweep_ghosts b.collector.dest (swept_after b) z ds hs (b.collector.tuple ∷ free);
        inv = record {
          shape = shape_same b (freed_box s t n p b) freed_shape v.shape;
          handles = handles_moved b (freed_box s t n p b) (scan_ghosts b ds hs free).plan (freed_plan b ds hs) free (b.collector.tuple ∷ free) (perm_ahead_free b.collector.tuple ds hs free) refl freed_chain v.handles;
          layout = freed_layout;
          contents = quiet_contents b (scan_ghosts b ds hs free).plan (freed_box s t n p b) (freed_plan b ds hs) freed_quiet v.contents;
          zero_words = record { above_top = v.zero_words.above_top; behind = λ a l u. v.zero_words.behind a l (below a l u) };
          marks = freed_marks;
          stage = stage;
        };
        calm = quiet_calm b (scan_ghosts b ds hs free).plan (freed_box s t n p b) (freed_plan b ds hs) freed_quiet;
      }

-- ---- below live: the sweep goes on behind the tuple

module _ (b : Box) (ds hs free : List ℕ) (v : Inv b (scan_ghosts b ds hs free)) (ph : b.collector.phase ≡ 4) (mk : marked b.collector.tuple b ≡ false) (below : b.collector.src + size_of b.collector.tuple b < b.collector.live) where
  released_stage : Stage (released_box b) (sweep_ghosts b.collector.dest (swept_after b) (swept_after b) ds hs (b.collector.tuple ∷ free))
  released_stage =
      let more : swept_after b ≢ b.top = omega (arith, more_behind b ds hs free v mk below) in
      let n : (ks : List ℕ) × (hs ≡ handle_of (word_at (swept_after b) b) ∷ ks) = next_tuple b (swept_after b) hs b.top (behind_laid b ds hs free v) more in
      Stage.sweeping refl (unlisted b.collector.dest (swept_after b) (swept_after b) ds hs (b.collector.tuple ∷ free)) refl refl refl refl n.0 n.1

  releases_at : Next b (scan_ghosts b ds hs free) (released_box b)
  releases_at =
      freed_next b ds hs free v ph mk (swept_after b) (handle_of (word_at (swept_after b) b)) b.collector.index 4 (omega arith)
      (λ h i. word_early h i (released_box b) (omega arith)) (swept_after b) (λ a l u. omega arith) released_stage

pub releases : (b : Box) (g : Ghosts) → Inv b g → b.collector.phase ≡ 4 → marked b.collector.tuple b ≡ false
    → b.collector.src + size_of b.collector.tuple b < b.collector.live → Next b g (released_box b)
releases b g v ph mk below =
    let s : Scanned b g = scanned b g v ph in
    next_at b g (scan_ghosts b s.settled_tuples s.behind_it s.free_handles) (released_box b) s.are (releases_at b s.settled_tuples s.behind_it s.free_handles s.inv ph mk below)

-- ---- at or past live: its words from live on are to be data 0

module _ (b : Box) (ds hs free : List ℕ) (v : Inv b (scan_ghosts b ds hs free)) (ph : b.collector.phase ≡ 4) (mk : marked b.collector.tuple b ≡ false) (reached : b.collector.live ≤ b.collector.src + size_of b.collector.tuple b) where
  zero_begun_stage : Stage (zero_begun_box b) (sweep_ghosts b.collector.dest (swept_after b) (b.collector.src + (b.collector.live - b.collector.src)) ds hs (b.collector.tuple ∷ free))
  zero_begun_stage =
      Stage.zeroing refl (unlisted b.collector.dest (swept_after b) (b.collector.src + (b.collector.live - b.collector.src)) ds hs (b.collector.tuple ∷ free)) refl refl refl (dest_below_src b ds hs free v) (omega arith) refl

  starts_zero_at : Next b (scan_ghosts b ds hs free) (zero_begun_box b)
  starts_zero_at =
      freed_next b ds hs free v ph mk b.collector.src b.collector.tuple (b.collector.live - b.collector.src) 8 (omega arith)
      (λ h i. word_late h i (zero_begun_box b) (omega arith)) (b.collector.src + (b.collector.live - b.collector.src)) (λ a l u. omega arith) zero_begun_stage

pub starts_zero : (b : Box) (g : Ghosts) → Inv b g → b.collector.phase ≡ 4 → marked b.collector.tuple b ≡ false
    → b.collector.live ≤ b.collector.src + size_of b.collector.tuple b → Next b g (zero_begun_box b)
starts_zero b g v ph mk reached =
    let s : Scanned b g = scanned b g v ph in
    next_at b g (scan_ghosts b s.settled_tuples s.behind_it s.free_handles) (zero_begun_box b) s.are (starts_zero_at b s.settled_tuples s.behind_it s.free_handles s.inv ph mk reached)
