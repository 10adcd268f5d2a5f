-- Phases 0 and 1: the step from rest, the one that takes the next list to scan, and the one that shades a register's tuple keep the
-- invariant. At rest nothing is marked, so live is 0 and no tuple waits; the next list moves whole to the tuple under the scan
-- and the current list. Assumes nothing.
use Prim.Native.Nat.{ℕ, ◌<◌}
use mathlib.Core.Bool.{true}
use mathlib.Core.List.{List, [], ◌∷◌, append-nil}
use mathlib.Core.Logic.{◌≢◌}
use mathlib.Core.Path.{◌≡◌, refl, sym, ap, subst}
use native.Mathlib.Omega.{arith}
use lib.ListN.{get_or}
use Rattle.rules.specs.Limits.{register_count}
use Rattle.rules.specs.Parts.{Box, with_next}
use Rattle.rules.specs.Box.{handle_of, names_tuple, register}
use Rattle.rules.specs.Place.{shade}
use Rattle.rules.specs.Collector.{scan}
use Rattle.history.specs.Agreement.{Member, Distinct}
use Rattle.history.proofs.Invariant.Statement.{Scans, Ghosts, Inv, listed, Chain, rooms, Unlisted, finding, scanning}
use Rattle.history.proofs.Lists.Chain.{chain_head}
use Rattle.history.proofs.Lists.Laid.{marked_rooms_none}
use Rattle.history.proofs.Invariant.Frame.{Next}
use Rattle.history.proofs.Invariant.Stages.{Rests, rests_of, Finds, finds_of, kept_ahead}
use Rattle.history.proofs.Marking.Alike.{alike_collector, none_wait, unswept_scans, Onward, onward_next, onward_alike, relists}
use Rattle.history.proofs.Marking.Shade.{shade_alike, shade_numbers, shade_scans, shade_inv}
use Rattle.rules.proofs.View.Boxes.{rested_box}

-- ---- 0 Rest

pub listed_none : (g : Ghosts) → Unlisted g → listed g.scans ≡ []
listed_none g u = rw (u.no_gray, u.no_nexts, u.no_currents)

-- nothing is settled, moved or marked
rest_live : (b : Box) (g : Ghosts) → Inv b g → Rests b g → b.collector.live ≡ 0
unfolding rooms
rest_live b g i r =
    let e : rooms b g.plan.mid ≡ 0 = ap (λ (hs : List ℕ). rooms b hs) r.unswept_yet.no_mid in
    omega (arith, i.marks.live_is, r.unswept_yet.low_zero, e, marked_rooms_none b g.plan.ahead r.unmarked)

pub rests : (b : Box) (g : Ghosts) → Inv b g → b.collector.phase ≡ 0 → Onward b g (rested_box b) none_wait
rests b g i e =
    let r : Rests b g = rests_of b g i.stage e in
    relists b g (rested_box b) none_wait i (alike_collector b (rested_box b).collector (rested_box b).hold refl refl) (omega arith) (omega arith)
    (record {
      links_are = refl;
      marks_are = refl;
      live_is = sym (rest_live b g i r);
      nexts_chain = refl;
      currents_chain = refl;
      distinct = tt;
      none_added = λ h x. absurd x;
      out_black = λ h x o. absurd (subst (λ (hs : List ℕ). Member h hs) (listed_none g r.unlisted) x);
    })
    (finding refl (unswept_scans g none_wait r.unswept_yet) refl refl)

-- ---- 1 Mark next

-- the next list goes to the scan
abbrev pub from_next : ℕ → List ℕ → Scans
from_next h hs = record { nexts = []; currents = hs; gray = h ∷ [] }

listed_next : (g : Ghosts) (h : ℕ) (hs : List ℕ) → g.scans.nexts ≡ h ∷ hs → g.scans.currents ≡ [] → g.scans.gray ≡ [] → listed g.scans ≡ h ∷ hs
listed_next g h hs n c y = rw (y, n, c) (ap (λ (ks : List ℕ). h ∷ ks) (append-nil hs))

abbrev pub next_taken : Box → Box
next_taken b = scan b.collector.next (with_next 0 b)

pub takes_next_onward : (b : Box) (g : Ghosts) → Inv b g → b.collector.phase ≡ 1 → b.collector.next ≢ 0
    → (tl : List ℕ) × (g.scans.nexts ≡ b.collector.next ∷ tl) × Onward b g (next_taken b) (from_next b.collector.next tl)
unfolding scan
takes_next_onward b g i e n = go (chain_head b.directory.links b.collector.next g.scans.nexts i.marks.nexts_chain n)
  where
    f : Finds b g
    f = finds_of b g i.stage e

    go : (tl : List ℕ) × (g.scans.nexts ≡ b.collector.next ∷ tl) × Chain b.directory.links (get_or b.directory.links b.collector.next 0) tl
        → (tl : List ℕ) × (g.scans.nexts ≡ b.collector.next ∷ tl) × Onward b g (next_taken b) (from_next b.collector.next tl)
    go c =
        let tl : List ℕ = c.0 in
        let same : listed g.scans ≡ b.collector.next ∷ tl = listed_next g b.collector.next tl c.1 f.no_currents f.no_gray in (
          tl,
          c.1,
          relists b g (next_taken b) (from_next b.collector.next tl) i (alike_collector b (next_taken b).collector (next_taken b).hold refl refl) (omega arith) (omega arith)
              (record {
                links_are = refl;
                marks_are = refl;
                live_is = refl;
                nexts_chain = refl;
                currents_chain = c.2;
                distinct = subst (λ (hs : List ℕ). Distinct hs) same i.marks.listed_distinct;
                none_added = λ h x. subst (λ (hs : List ℕ). Member h hs) (sym same) x;
                out_black = λ h x o. absurd (o (subst (λ (hs : List ℕ). Member h hs) same x));
              })
              (scanning refl (unswept_scans g (from_next b.collector.next tl) f.unswept_yet) b.collector.next (record {
                gray_is = refl;
                src_is = refl;
                size_is = refl;
                index_least = omega arith;
                index_most = omega arith;
              }) (λ k l w. absurd (omega arith))),
        )

pub takes_next : (b : Box) (g : Ghosts) → Inv b g → b.collector.phase ≡ 1 → b.collector.next ≢ 0 → Next b g (next_taken b)
takes_next b g i e n = let o = takes_next_onward b g i e n in onward_next b g (next_taken b) (from_next b.collector.next o.0) o.2

pub shades_root_onward : (b : Box) (g : Ghosts) → Inv b g → b.collector.phase ≡ 1 → (r : ℕ) → r < register_count
    → names_tuple (register r b) ≡ true
    → Onward b g (shade (handle_of (register r b)) b) (shade_scans (handle_of (register r b)) b g.scans)
shades_root_onward b g i e r l n =
    let h : ℕ = handle_of (register r b) in
    onward_alike b g (shade h b) (shade_scans h b g.scans) (shade_alike h b) (omega arith) (omega (arith, (shade_numbers h b).phase_is))
    (shade_inv h b g i (kept_ahead b g h (finds_of b g i.stage e).unswept_yet (i.contents.roots_kept r l n)) (omega arith) (omega arith))

pub shades_root : (b : Box) (g : Ghosts) → Inv b g → b.collector.phase ≡ 1 → (r : ℕ) → r < register_count → names_tuple (register r b) ≡ true
    → Next b g (shade (handle_of (register r b)) b)
shades_root b g i e r l n = onward_next b g (shade (handle_of (register r b)) b) (shade_scans (handle_of (register r b)) b g.scans) (shades_root_onward b g i e r l n)
