-- What a request looks up, touches and forms is in range, so that none answers 9: handles that registers name are entries, words of kept
-- tuples are in memory, the free handle is an entry, and the totals stay within M. From the invariant's handles and layout, by
-- where each word is. Assumes nothing.
use Prim.Native.Nat.{ℕ, ◌+◌, ◌≤◌, ◌<◌}
use mathlib.Core.Bool.{true}
use mathlib.Core.List.{List}
use mathlib.Core.Logic.{◌≢◌, inl}
use mathlib.Core.Path.{◌≡◌, refl, sym, ap, ◌∙◌, subst}
use borrow.Author.Tests.{eq-eqb, le-leb, lt-ltb}
use native.Mathlib.Omega.{arith}
use lib.ListN.{length}
use Rattle.rules.specs.Limits.{register_count}
use Rattle.rules.specs.Parts.{Box}
use Rattle.rules.specs.Box.{handle_of, names_tuple, register, size_of, lengths_are, right_sizes, sound}
use Rattle.rules.specs.Place.{Place, place, in_memory}
use Rattle.history.specs.Agreement.{Member}
use Rattle.history.proofs.Invariant.Statement.{Ghosts, Inv, all, Kept, settled, moving, unswept, surviving, Shape, Stage, at_rest, finding, scanning, adding, sweeping, reading, clearing, writing, zeroing}
use Rattle.history.proofs.Lists.Handles.{among_done, among_mid, among_ahead, among_free, among_member}
use Rattle.history.proofs.Lists.Chain.{chain_head}
use Rattle.history.proofs.Asking.Places.{Found, in_copy, in_words, find, spot_top, live_top}

-- ---- entries

pub kept_listed : (b : Box) (g : Ghosts) (h : ℕ) → Kept b g.plan h → Member h (all g.plan g.free)
kept_listed b g h (settled x) = among_member h g.plan.done g.plan.mid g.plan.ahead g.free (among_done x)
kept_listed b g h (moving x) = among_member h g.plan.done g.plan.mid g.plan.ahead g.free (among_mid x)
kept_listed b g h (unswept x l) = among_member h g.plan.done g.plan.mid g.plan.ahead g.free (among_ahead x)
kept_listed b g h (surviving x t) = among_member h g.plan.done g.plan.mid g.plan.ahead g.free (among_ahead x)

pub kept_bounds : (b : Box) (g : Ghosts) → Inv b g → (h : ℕ) → Kept b g.plan h → (1 ≤ h) × (h < b.h)
kept_bounds b g v h k = v.handles.entries h (kept_listed b g h k)

-- a register that names a tuple names an entry
pub register_bounds : (b : Box) (g : Ghosts) → Inv b g → (r : ℕ) → r < register_count → names_tuple (register r b) ≡ true
    → (1 ≤ handle_of (register r b)) × (handle_of (register r b) < b.h)
register_bounds b g v r l n = kept_bounds b g v (handle_of (register r b)) (v.contents.roots_kept r l n)

-- ---- words

-- a kept tuple's words are in memory
pub place_in_memory : (b : Box) (g : Ghosts) → Inv b g → (h i : ℕ) → Kept b g.plan h → i ≤ size_of h b → in_memory (place h i b) b ≡ true
unfolding in_memory
place_in_memory b g v h i k l = cases (find b g v h i k l)
  where
    cases : Found b g h i → in_memory (place h i b) b ≡ true
    cases (in_copy e p q) = ap (λ (p : Place). in_memory p b) e
    cases (in_words a e s) =
        let t = spot_top b g v h i a s in
        let u = v.layout.top_fits in
        ap (λ (p : Place). in_memory p b) e ∙ lt-ltb a b.m (omega arith)

-- ---- the free handle and the totals

pub free_listed : (b : Box) (g : Ghosts) → Inv b g → b.free ≢ 0 → Member b.free g.free
free_listed b g v n =
    let t = chain_head b.directory.links b.free g.free v.handles.free_chain n in
    subst (λ (hs : List ℕ). Member b.free hs) (sym t.1) (inl refl)

pub free_bounds : (b : Box) (g : Ghosts) → Inv b g → b.free ≢ 0 → (1 ≤ b.free) × (b.free < b.h)
free_bounds b g v n = v.handles.entries b.free (among_member b.free g.plan.done g.plan.mid g.plan.ahead g.free (among_free (free_listed b g v n)))

pub live_fits : (b : Box) (g : Ghosts) → Inv b g → (n : ℕ) → b.top + n + 1 ≤ b.m → b.collector.live + n + 1 ≤ b.m
live_fits b g v n l = omega (arith, live_top b g v)

-- ---- what every call tests first

phase_bound : (b : Box) (g : Ghosts) → Stage b g → b.collector.phase ≤ 8
phase_bound b g (at_rest e u l m) = omega arith
phase_bound b g (finding e u c y) = omega arith
phase_bound b g (scanning e u s c w) = omega arith
phase_bound b g (adding e u s c m w) = omega arith
phase_bound b g (sweeping e u n l a z hs y) = omega arith
phase_bound b g (reading e m l z) = omega arith
phase_bound b g (clearing e m l z) = omega arith
phase_bound b g (writing e m l z) = omega arith
phase_bound b g (zeroing e u n l a d i z) = omega arith

-- sizes, lengths and phase are right
pub sound_box : (b : Box) (g : Ghosts) → Inv b g → sound b ≡ true
unfolding sound right_sizes lengths_are
sound_box b g v =
    let s : Shape b = v.shape in
    simp (
      s.range,
      eq-eqb (length b.memory.words) b.m s.words_length,
      eq-eqb (length b.memory.flags) b.m s.flags_length,
      eq-eqb (length b.directory.addresses) b.h s.addresses_length,
      eq-eqb (length b.directory.sizes) b.h s.sizes_length,
      eq-eqb (length b.directory.links) b.h s.links_length,
      eq-eqb (length b.directory.marks) b.h s.marks_length,
      eq-eqb (length b.directory.deeps) b.h s.deeps_length,
      le-leb b.collector.phase 8 (phase_bound b g v.stage),
    )
