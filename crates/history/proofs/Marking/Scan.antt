-- Phases 2 and 3: looking at a word of the tuple under the scan, shading what it points to, and taking the next tuple to scan
-- keep the invariant. What the words before the index point to is marked, so that a tuple scanned to its end is black. Assumes
-- nothing.
use Prim.Native.Nat.{ℕ, ◌+◌, ◌-◌, ◌≤◌, ◌<◌}
use mathlib.Core.Bool.{true, false, false≢true}
use mathlib.Core.List.{List, [], ◌∷◌, ◌++◌}
use mathlib.Core.Logic.{◌≢◌, ◌⊎◌, inl, inr}
use mathlib.Core.Path.{◌≡◌, refl, sym, ◌∙◌, ap, subst}
use native.Mathlib.Omega.{arith}
use native.Mathlib.Decide.{ℕ_discrete}
use lib.ListN.{get_or}
use Rattle.rules.specs.Parts.{Word, Box}
use Rattle.rules.specs.Box.{handle_of, names_tuple, word_at, address, marked}
use Rattle.rules.specs.Place.{shade}
use Rattle.rules.specs.Collector.{to_phase, scan}
use Rattle.history.specs.Agreement.{Member, Distinct}
use Rattle.history.proofs.Invariant.Statement.{Scans, Ghosts, Inv, listed, word, Chain, Kept, unswept, Scan, finding, scanning, adding}
use Rattle.history.proofs.Invariant.Words.{word_early}
use Rattle.history.proofs.Lists.Handles.{member_left, member_right, perm_shift, perm_sym, perm_distinct, perm_member}
use Rattle.history.proofs.Lists.Chain.{chain_head, chain_empty}
use Rattle.history.proofs.Invariant.Frame.{Next}
use Rattle.history.proofs.Invariant.Stages.{Scanning, scanning_of, Adding, adding_of, kept_ahead, ahead_entry}
use Rattle.history.proofs.Marking.Alike.{Alike, alike_collector, word_alike, Black, Relisted, with_scans, unswept_scans, Onward, onward_next, onward_alike, relists}
use Rattle.history.proofs.Marking.Shade.{shade_alike, shade_numbers, shade_mark, shade_scans, shade_inv}
use Rattle.rules.proofs.View.Boxes.{scanned_data_box, scanned_pointer_box}

-- ---- the tuple under the scan

-- the word whose turn it is
pub scanned_word : (b : Box) (g : Ghosts) (x : ℕ) → Scan b g x → b.collector.phase ≤ 4 → (j : ℕ) → j ≡ b.collector.index
    → word x j b ≡ word_at (b.collector.src + b.collector.index) b
scanned_word b g x s l j e =
    let v : b.collector.phase < 5 = omega arith in
    let here : address x b + j ≡ b.collector.src + b.collector.index = omega (arith, s.src_is) in
    word_early x j b v ∙ ap (λ (a : ℕ). word_at a b) here

-- it waits for its scan, so it lies ahead
pub scanned_ahead : (b : Box) (g : Ghosts) (x : ℕ) → Inv b g → Scan b g x → Member x g.plan.ahead
scanned_ahead b g x i s =
    i.marks.listed_ahead x (member_left x g.scans.gray (g.scans.nexts ++ g.scans.currents) (subst (λ (hs : List ℕ). Member x hs) (sym s.gray_is) (inl refl)))

-- if a word names a tuple, that tuple has a property
abbrev Names : (ℕ → Type 0) → Word → Type 0
Names P w = names_tuple w ≡ true → P (handle_of w)

-- one word more has been looked at
seen_more : (b : Box) (g : Ghosts) (x : ℕ) (P : ℕ → Type 0) → Scan b g x → b.collector.phase ≤ 4
    → ((k : ℕ) → k + 1 < b.collector.index → Names P (word x (k + 1) b)) → Names P (word_at (b.collector.src + b.collector.index) b)
    → (k : ℕ) → k + 1 < b.collector.index + 1 → Names P (word x (k + 1) b)
seen_more b g x P s l f last k u = go (ℕ_discrete (k + 1) b.collector.index)
  where
    go : Dec (k + 1 ≡ b.collector.index) → Names P (word x (k + 1) b)
    go (yes e) = subst (λ (w : Word). Names P w) (sym (scanned_word b g x s l (k + 1) e)) last
    go (no n) = f k (omega arith)

-- a box of another phase
alike_phase : (b c : Box) (p : ℕ) → Alike b c → Alike b (to_phase p c)
alike_phase b c p a = search

-- the tuples that wait stay as they are, and the collector's place in the scan alone changes
relisted_same : (b : Box) (g : Ghosts) (c : Box) → Inv b g → c.directory.links ≡ b.directory.links → c.directory.marks ≡ b.directory.marks → c.collector.live ≡ b.collector.live
    → c.collector.next ≡ b.collector.next → c.collector.current ≡ b.collector.current → Relisted b c g.scans g.scans
relisted_same b g c i ln mk lv nx cr =
    record {
      links_are = ln;
      marks_are = mk;
      live_is = lv;
      nexts_chain = rw (ln, nx) i.marks.nexts_chain;
      currents_chain = rw (ln, cr) i.marks.currents_chain;
      distinct = i.marks.listed_distinct;
      none_added = λ h x. x;
      out_black = λ h x o. absurd (o x);
    }

-- ---- 2 Mark scan

pub scans_data_onward : (b : Box) (g : Ghosts) → Inv b g → b.collector.phase ≡ 2 → b.collector.index ≤ b.collector.size
    → names_tuple (word_at (b.collector.src + b.collector.index) b) ≡ false
    → Onward b g (scanned_data_box b) g.scans
scans_data_onward b g i e l n =
    relists b g c g.scans i alike (omega arith) (omega arith) (relisted_same b g c i refl refl refl refl refl)
    (scanning e (unswept_scans g g.scans f.unswept_yet) x (record {
      gray_is = s.gray_is;
      src_is = s.src_is;
      size_is = s.size_is;
      index_least = omega arith;
      index_most = omega arith;
    }) seen)
  where
    c : Box
    c = scanned_data_box b

    alike : Alike b c
    alike = alike_collector b c.collector c.hold refl refl

    f : Scanning b g
    f = scanning_of b g i.stage e

    x : ℕ
    x = f.scanned

    s : Scan b g x
    s = f.scan_is

    seen : (k : ℕ) → k + 1 < b.collector.index + 1 → names_tuple (word x (k + 1) c) ≡ true → marked (handle_of (word x (k + 1) c)) b ≡ true
    seen k u = subst (λ (w : Word). Names (λ y. marked y b ≡ true) w) (sym (word_alike b c alike (omega arith) (omega arith) x (k + 1))) (seen_more b g x (λ y. marked y b ≡ true) s (omega arith) f.seen (λ t. absurd (false≢true (sym n ∙ t))) k u)

pub scans_data : (b : Box) (g : Ghosts) → Inv b g → b.collector.phase ≡ 2 → b.collector.index ≤ b.collector.size
    → names_tuple (word_at (b.collector.src + b.collector.index) b) ≡ false → Next b g (scanned_data_box b)
scans_data b g i e l n = onward_next b g (scanned_data_box b) g.scans (scans_data_onward b g i e l n)

pub scans_pointer_onward : (b : Box) (g : Ghosts) → Inv b g → b.collector.phase ≡ 2 → b.collector.index ≤ b.collector.size
    → names_tuple (word_at (b.collector.src + b.collector.index) b) ≡ true
    → Onward b g (scanned_pointer_box b) g.scans
scans_pointer_onward b g i e l n =
    relists b g c g.scans i alike (omega arith) (omega arith) (relisted_same b g c i refl refl refl refl refl)
    (adding refl (unswept_scans g g.scans f.unswept_yet) x (record {
      gray_is = s.gray_is;
      src_is = s.src_is;
      size_is = s.size_is;
      index_least = omega arith;
      index_most = omega arith;
    }) there seen)
  where
    y : ℕ
    y = handle_of (word_at (b.collector.src + b.collector.index) b)

    c : Box
    c = scanned_pointer_box b

    alike : Alike b c
    alike = alike_collector b c.collector c.hold refl refl

    f : Scanning b g
    f = scanning_of b g i.stage e

    x : ℕ
    x = f.scanned

    s : Scan b g x
    s = f.scan_is

    -- the word before the one at the index is number index - 1
    turn : b.collector.index - 1 + 1 ≡ b.collector.index
    turn = omega (arith, s.index_least)

    w : word x (b.collector.index - 1 + 1) b ≡ word_at (b.collector.src + b.collector.index) b
    w = scanned_word b g x s (omega arith) (b.collector.index - 1 + 1) turn

    there : Member y g.plan.ahead
    there =
        kept_ahead b g y f.unswept_yet
        (subst (λ (v : Word). Kept b g.plan (handle_of v)) w
        (i.contents.words_kept x (unswept (scanned_ahead b g x i s) (omega arith)) (b.collector.index - 1) (omega (arith, s.index_least, s.size_is)) (subst (λ (v : Word). names_tuple v ≡ true) (sym w) n)).0)

    seen : (k : ℕ) → k + 1 < b.collector.index + 1 → names_tuple (word x (k + 1) c) ≡ true
        → (marked (handle_of (word x (k + 1) c)) b ≡ true) ⊎ (handle_of (word x (k + 1) c) ≡ y)
    seen k u = subst (λ (v : Word). Names (λ z. (marked z b ≡ true) ⊎ (z ≡ y)) v) (sym (word_alike b c alike (omega arith) (omega arith) x (k + 1))) (seen_more b g x (λ z. (marked z b ≡ true) ⊎ (z ≡ y)) s (omega arith) (λ j v t. inl (f.seen j v t)) (λ t. inr refl) k u)

pub scans_pointer : (b : Box) (g : Ghosts) → Inv b g → b.collector.phase ≡ 2 → b.collector.index ≤ b.collector.size
    → names_tuple (word_at (b.collector.src + b.collector.index) b) ≡ true → Next b g (scanned_pointer_box b)
scans_pointer b g i e l n = onward_next b g (scanned_pointer_box b) g.scans (scans_pointer_onward b g i e l n)

-- a tuple scanned to its end
scanned_black : (b : Box) (g : Ghosts) (f : Scanning b g) → b.collector.size < b.collector.index → Black b f.scanned
scanned_black b g f l k u = f.seen k (omega (arith, f.scan_is.size_is))

-- those that wait, behind the tuple under the scan
listed_scan : (b : Box) (g : Ghosts) (x : ℕ) (cs : List ℕ) → Scan b g x → g.scans.currents ≡ cs → listed g.scans ≡ x ∷ (g.scans.nexts ++ cs)
listed_scan b g x cs s e = rw (s.gray_is, e)

-- none but the next list waits
abbrev pub from_scan : Scans → Scans
from_scan s = record { nexts = s.nexts; currents = []; gray = [] }

pub scan_ends_onward : (b : Box) (g : Ghosts) → Inv b g → b.collector.phase ≡ 2 → b.collector.size < b.collector.index → b.collector.current ≡ 0
    → Onward b g (to_phase 1 b) (from_scan g.scans)
scan_ends_onward b g i e l z =
    relists b g (to_phase 1 b) left i (alike_collector b (to_phase 1 b).collector (to_phase 1 b).hold refl refl) (omega arith) (omega arith)
    (record {
      links_are = refl;
      marks_are = refl;
      live_is = refl;
      nexts_chain = i.marks.nexts_chain;
      currents_chain = z;
      distinct = (subst (λ (hs : List ℕ). Distinct hs) same i.marks.listed_distinct).1;
      none_added = λ h m. subst (λ (hs : List ℕ). Member h hs) (sym same) (inr m);
      out_black = λ h m o. dark h o (subst (λ (hs : List ℕ). Member h hs) same m);
    })
    (finding refl (unswept_scans g left f.unswept_yet) refl refl)
  where
    f : Scanning b g
    f = scanning_of b g i.stage e

    x : ℕ
    x = f.scanned

    left : Scans
    left = from_scan g.scans

    least : (h : ℕ) → Member h g.scans.currents → 1 ≤ h
    least h m = (ahead_entry b g.plan g.free h i.handles (i.marks.listed_ahead h (member_right h g.scans.gray (g.scans.nexts ++ g.scans.currents) (member_right h g.scans.nexts g.scans.currents m)))).0

    same : listed g.scans ≡ x ∷ listed left
    same = listed_scan b g x [] f.scan_is (chain_empty b.directory.links b.collector.current g.scans.currents i.marks.currents_chain least z)

    dark : (h : ℕ) → ¬ Member h (listed left) → Member h (x ∷ listed left) → Black b h
    dark h o (inl q) = subst (λ (y : ℕ). Black b y) (sym q) (scanned_black b g f l)
    dark h o (inr m) = absurd (o m)

pub scan_ends : (b : Box) (g : Ghosts) → Inv b g → b.collector.phase ≡ 2 → b.collector.size < b.collector.index → b.collector.current ≡ 0 → Next b g (to_phase 1 b)
scan_ends b g i e l z = onward_next b g (to_phase 1 b) (from_scan g.scans) (scan_ends_onward b g i e l z)

-- h, the head of the current list, goes to the scan
abbrev pub from_current : ℕ → List ℕ → Scans → Scans
from_current h hs s = record { nexts = s.nexts; currents = hs; gray = h ∷ [] }

pub takes_current_onward : (b : Box) (g : Ghosts) → Inv b g → b.collector.phase ≡ 2 → b.collector.size < b.collector.index → b.collector.current ≢ 0
    → (tl : List ℕ) × (g.scans.currents ≡ b.collector.current ∷ tl) × Onward b g (scan b.collector.current b) (from_current b.collector.current tl g.scans)
unfolding scan
takes_current_onward b g i e l n = go (chain_head b.directory.links b.collector.current g.scans.currents i.marks.currents_chain n)
  where
    y : ℕ
    y = b.collector.current

    f : Scanning b g
    f = scanning_of b g i.stage e

    x : ℕ
    x = f.scanned

    left : List ℕ → Scans
    left tl = from_current y tl g.scans

    same : (tl : List ℕ) → g.scans.currents ≡ y ∷ tl → listed g.scans ≡ x ∷ (g.scans.nexts ++ y ∷ tl)
    same tl q = listed_scan b g x (y ∷ tl) f.scan_is q

    dark : (tl : List ℕ) (h : ℕ) → ¬ Member h (listed (left tl)) → Member h (x ∷ (g.scans.nexts ++ y ∷ tl)) → Black b h
    dark tl h o (inl q) = subst (λ (z : ℕ). Black b z) (sym q) (scanned_black b g f l)
    dark tl h o (inr m) = absurd (o (perm_member (perm_shift y g.scans.nexts tl) h m))

    go : (tl : List ℕ) × (g.scans.currents ≡ y ∷ tl) × Chain b.directory.links (get_or b.directory.links y 0) tl
        → (tl : List ℕ) × (g.scans.currents ≡ y ∷ tl) × Onward b g (scan y b) (left tl)
    go c =
        let tl : List ℕ = c.0 in (
          tl,
          c.1,
          relists b g (scan y b) (left tl) i (alike_collector b (scan y b).collector (scan y b).hold refl refl) (omega arith) (omega arith)
              (record {
                links_are = refl;
                marks_are = refl;
                live_is = refl;
                nexts_chain = i.marks.nexts_chain;
                currents_chain = c.2;
                distinct = perm_distinct (perm_shift y g.scans.nexts tl) (subst (λ (hs : List ℕ). Distinct hs) (same tl c.1) i.marks.listed_distinct).1;
                none_added = λ h m. subst (λ (hs : List ℕ). Member h hs) (sym (same tl c.1)) (inr (perm_member (perm_sym (perm_shift y g.scans.nexts tl)) h m));
                out_black = λ h m o. dark tl h o (subst (λ (hs : List ℕ). Member h hs) (same tl c.1) m);
              })
              (scanning refl (unswept_scans g (left tl) f.unswept_yet) y (record {
                gray_is = refl;
                src_is = refl;
                size_is = refl;
                index_least = omega arith;
                index_most = omega arith;
              }) (λ k u t. absurd (omega arith))),
        )

pub takes_current : (b : Box) (g : Ghosts) → Inv b g → b.collector.phase ≡ 2 → b.collector.size < b.collector.index → b.collector.current ≢ 0
    → Next b g (scan b.collector.current b)
takes_current b g i e l n = let o = takes_current_onward b g i e l n in onward_next b g (scan b.collector.current b) (from_current b.collector.current o.0 g.scans) o.2

-- ---- 3 Mark add

pub adds_marked_onward : (b : Box) (g : Ghosts) → Inv b g → b.collector.phase ≡ 3 → marked b.collector.tuple b ≡ true → Onward b g (to_phase 2 b) g.scans
adds_marked_onward b g i e t =
    relists b g (to_phase 2 b) g.scans i alike (omega arith) (omega arith) (relisted_same b g (to_phase 2 b) i refl refl refl refl refl)
    (scanning refl (unswept_scans g g.scans f.unswept_yet) x (record {
      gray_is = s.gray_is;
      src_is = s.src_is;
      size_is = s.size_is;
      index_least = s.index_least;
      index_most = s.index_most;
    }) seen)
  where
    alike : Alike b (to_phase 2 b)
    alike = alike_collector b (to_phase 2 b).collector (to_phase 2 b).hold refl refl

    f : Adding b g
    f = adding_of b g i.stage e

    x : ℕ
    x = f.scanned

    s : Scan b g x
    s = f.scan_is

    both : (y : ℕ) → (marked y b ≡ true) ⊎ (y ≡ b.collector.tuple) → marked y b ≡ true
    both y (inl m) = m
    both y (inr q) = subst (λ (z : ℕ). marked z b ≡ true) (sym q) t

    seen : (k : ℕ) → k + 1 < b.collector.index → names_tuple (word x (k + 1) (to_phase 2 b)) ≡ true → marked (handle_of (word x (k + 1) (to_phase 2 b))) b ≡ true
    seen k u = subst (λ (v : Word). Names (λ z. marked z b ≡ true) v) (sym (word_alike b (to_phase 2 b) alike (omega arith) (omega arith) x (k + 1))) (λ q. both (handle_of (word x (k + 1) b)) (f.seen k u q))

pub adds_marked : (b : Box) (g : Ghosts) → Inv b g → b.collector.phase ≡ 3 → marked b.collector.tuple b ≡ true → Next b g (to_phase 2 b)
adds_marked b g i e t = onward_next b g (to_phase 2 b) g.scans (adds_marked_onward b g i e t)

-- marked or not, `tuple` is shaded first
pub adds_onward : (b : Box) (g : Ghosts) → Inv b g → b.collector.phase ≡ 3
    → Onward b g (to_phase 2 (shade b.collector.tuple b)) (shade_scans b.collector.tuple b g.scans)
adds_onward b g i e =
    let y : ℕ = b.collector.tuple in
    let s : Scans = shade_scans y b g.scans in
    let f : Adding b g = adding_of b g i.stage e in
    let t : marked y (shade y b) ≡ true = shade_mark y b i.shape (ahead_entry b g.plan g.free y i.handles f.tuple_ahead).1 in
    let o : Onward (shade y b) (with_scans s g) (to_phase 2 (shade y b)) s = adds_marked_onward (shade y b) (with_scans s g) (shade_inv y b g i f.tuple_ahead (omega arith) (omega arith)) ((shade_numbers y b).phase_is ∙ e) (subst (λ (z : ℕ). marked z (shade y b) ≡ true) (sym (shade_numbers y b).tuple_is) t) in
    onward_alike b g (to_phase 2 (shade y b)) s (alike_phase b (shade y b) 2 (shade_alike y b)) (omega arith) (omega arith) o.inv

pub adds_unmarked : (b : Box) (g : Ghosts) → Inv b g → b.collector.phase ≡ 3 → marked b.collector.tuple b ≡ false → Next b g (to_phase 2 (shade b.collector.tuple b))
adds_unmarked b g i e u = onward_next b g (to_phase 2 (shade b.collector.tuple b)) (shade_scans b.collector.tuple b g.scans) (adds_onward b g i e)
