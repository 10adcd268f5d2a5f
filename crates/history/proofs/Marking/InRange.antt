-- While a cycle marks, each handle looked up is an entry, each word looked at is in memory, and live stays within memory: so none of
-- those steps answers 9. What is looked up lies ahead, and an unmarked tuple ahead has left its room in live. Assumes nothing.
use Prim.Native.Nat.{ℕ, ◌+◌, ◌≤◌, ◌<◌}
use mathlib.Core.Bool.{true, false}
use mathlib.Core.List.{List, ◌++◌}
use mathlib.Core.Logic.{◌≢◌, inl}
use mathlib.Core.Path.{◌≡◌, refl, sym, ap, subst}
use native.Mathlib.Omega.{arith}
use Rattle.rules.specs.Limits.{register_count}
use Rattle.rules.specs.Parts.{Box}
use Rattle.rules.specs.Box.{handle_of, names_tuple, register, size_of, marked}
use Rattle.history.specs.Agreement.{Member}
use Rattle.history.proofs.Invariant.Statement.{Ghosts, Inv, rooms, Unswept}
use Rattle.history.proofs.Lists.Handles.{member_left, member_right}
use Rattle.history.proofs.Lists.Chain.{chain_head}
use Rattle.history.proofs.Lists.Laid.{laid_bounds, laid_rooms, unmarked_room}
use Rattle.history.proofs.Invariant.Stages.{unswept_of, kept_ahead, Scanning, scanning_of, adding_of, ahead_entry}
use Rattle.history.proofs.Marking.Scan.{scanned_ahead}

-- ---- entries

-- a tuple that waits for a scan
pub next_entry : (b : Box) (g : Ghosts) → Inv b g → b.collector.next ≢ 0 → (1 ≤ b.collector.next) × (b.collector.next < b.h)
next_entry b g i n =
    let y : ℕ = b.collector.next in
    let first : Member y g.scans.nexts = subst (λ (hs : List ℕ). Member y hs) (sym (chain_head b.directory.links y g.scans.nexts i.marks.nexts_chain n).1) (inl refl) in
    ahead_entry b g.plan g.free y i.handles (i.marks.listed_ahead y (member_right y g.scans.gray (g.scans.nexts ++ g.scans.currents) (member_left y g.scans.nexts g.scans.currents first)))

pub current_entry : (b : Box) (g : Ghosts) → Inv b g → b.collector.current ≢ 0 → (1 ≤ b.collector.current) × (b.collector.current < b.h)
current_entry b g i n =
    let y : ℕ = b.collector.current in
    let first : Member y g.scans.currents = subst (λ (hs : List ℕ). Member y hs) (sym (chain_head b.directory.links y g.scans.currents i.marks.currents_chain n).1) (inl refl) in
    ahead_entry b g.plan g.free y i.handles (i.marks.listed_ahead y (member_right y g.scans.gray (g.scans.nexts ++ g.scans.currents) (member_right y g.scans.nexts g.scans.currents first)))

-- a register's tuple lies ahead, before the sweep
pub root_ahead : (b : Box) (g : Ghosts) → Inv b g → b.collector.phase ≤ 3 → (r : ℕ) → r < register_count → names_tuple (register r b) ≡ true
    → Member (handle_of (register r b)) g.plan.ahead
root_ahead b g i l r u n = kept_ahead b g (handle_of (register r b)) (unswept_of b g i.stage l) (i.contents.roots_kept r u n)

pub root_entry : (b : Box) (g : Ghosts) → Inv b g → b.collector.phase ≤ 3 → (r : ℕ) → r < register_count → names_tuple (register r b) ≡ true
    → (1 ≤ handle_of (register r b)) × (handle_of (register r b) < b.h)
root_entry b g i l r u n = ahead_entry b g.plan g.free (handle_of (register r b)) i.handles (root_ahead b g i l r u n)

pub tuple_entry : (b : Box) (g : Ghosts) → Inv b g → b.collector.phase ≡ 3 → (1 ≤ b.collector.tuple) × (b.collector.tuple < b.h)
tuple_entry b g i e = ahead_entry b g.plan g.free b.collector.tuple i.handles (adding_of b g i.stage e).tuple_ahead

-- ---- live

-- before the sweep live leaves room for an unmarked tuple
pub live_room : (b : Box) (g : Ghosts) → Inv b g → b.collector.phase ≤ 3 → (h : ℕ) → Member h g.plan.ahead → marked h b ≡ false
    → b.collector.live + size_of h b + 1 ≤ b.m
unfolding rooms
live_room b g i l h x t =
    let u : Unswept g = unswept_of b g i.stage l in
    let e : rooms b g.plan.mid ≡ 0 = ap (λ (hs : List ℕ). rooms b hs) u.no_mid in
    omega (arith, i.marks.live_is, u.low_zero, e, unmarked_room b g.plan.ahead h x t, laid_rooms b g.plan.base g.plan.ahead b.top i.layout.ahead_laid, i.layout.top_fits)

pub root_room : (b : Box) (g : Ghosts) → Inv b g → b.collector.phase ≤ 3 → (r : ℕ) → r < register_count → names_tuple (register r b) ≡ true
    → marked (handle_of (register r b)) b ≡ false → b.collector.live + size_of (handle_of (register r b)) b + 1 ≤ b.m
root_room b g i l r u n t = live_room b g i l (handle_of (register r b)) (root_ahead b g i l r u n) t

pub tuple_room : (b : Box) (g : Ghosts) → Inv b g → b.collector.phase ≡ 3 → marked b.collector.tuple b ≡ false
    → b.collector.live + size_of b.collector.tuple b + 1 ≤ b.m
tuple_room b g i e t = live_room b g i (omega arith) b.collector.tuple (adding_of b g i.stage e).tuple_ahead t

-- ---- the word under the scan

pub scan_room : (b : Box) (g : Ghosts) → Inv b g → b.collector.phase ≡ 2 → b.collector.index ≤ b.collector.size → b.collector.src + b.collector.index < b.m
scan_room b g i e l =
    let f : Scanning b g = scanning_of b g i.stage e in
    let x : ℕ = f.scanned in
    omega (arith, f.scan_is.src_is, f.scan_is.size_is, laid_bounds b g.plan.base g.plan.ahead b.top i.layout.ahead_laid x (scanned_ahead b g x i f.scan_is), i.layout.top_fits)
