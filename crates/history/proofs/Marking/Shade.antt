-- Shading a tuple that lies ahead keeps the invariant: it is marked and counted in live, and a deep one comes to the head of
-- the next list. A tuple that is not deep holds no pointer, so it is black at once. By the three cases of the rule. Assumes
-- nothing.
use Prim.Native.Nat.{ℕ, ◌+◌, ◌≤◌, ◌<◌}
use mathlib.Core.Bool.{Bool, true, false, cond, false≢true}
use mathlib.Core.List.{List, ◌∷◌, ◌++◌}
use mathlib.Core.Logic.{◌≢◌, ◌⊎◌, inl, inr}
use mathlib.Core.Path.{◌≡◌, refl, sym, ◌∙◌, subst}
use native.Mathlib.Omega.{arith}
use native.Mathlib.Decide.{ℕ_discrete}
use lib.ListN.{length, get_or, set, length-set}
use lib.Seq.{get_or-set_same, get_or-set_other}
use Rattle.rules.specs.Parts.{Word, Box}
use Rattle.rules.specs.Box.{handle_of, names_tuple, size_of, marked, deep}
use Rattle.rules.specs.Place.{list_next, mark_live, shade}
use Rattle.history.specs.Agreement.{Member, Distinct}
use Rattle.history.proofs.Invariant.Statement.{Plan, Scans, Ghosts, Inv, listed, word, marked_rooms, Chain, Kept, unswept, Shape, Handles, Contents, Marks, Scan, Stage, at_rest, finding, scanning, adding, sweeping, reading, clearing, writing, zeroing}
use Rattle.history.proofs.Lists.Handles.{member_left, member_right, perm_shift, perm_sym, perm_distinct, perm_member, Parts, parts}
use Rattle.history.proofs.Lists.Chain.{chain_push, chain_set_other}
use Rattle.history.proofs.Lists.Laid.{rooms_frame, marked_rooms_mark}
use Rattle.history.proofs.Invariant.Frame.{Quiet}
use Rattle.history.proofs.Marking.Alike.{Alike, address_alike, size_alike, deep_alike, word_alike, quiet_alike, Black, black_alike, with_scans, none_wait, unswept_scans, inv_alike}
use Rattle.history.proofs.Invariant.Stages.{ahead_entry}

-- ---- what shading does, by the three cases of its rule

-- h in front of those to be scanned next
abbrev pub push : ℕ → Scans → Scans
push h s = record { nexts = h ∷ s.nexts; currents = s.currents; gray = s.gray }

-- the tuples that wait for a scan, after h is shaded
unfoldable pub shade_scans : ℕ → Box → Scans → Scans
shade_scans h b s = cond (marked h b) s (cond (deep h b) (push h s) s)

data ShadeCase (h : ℕ) (b : Box) (s : Scans) : Box → Scans → Type 0 where
  already : marked h b ≡ true → ShadeCase h b s b s
  listing : marked h b ≡ false → deep h b ≡ true → ShadeCase h b s (list_next h (mark_live h b)) (push h s)
  counting : marked h b ≡ false → deep h b ≡ false → ShadeCase h b s (mark_live h b) s

shaded : (h : ℕ) (b : Box) (s : Scans) → ShadeCase h b s (shade h b) (shade_scans h b s)
unfolding shade shade_scans
shaded h b s = go (marked h b) (deep h b) refl refl
  where
    go : (t d : Bool) → marked h b ≡ t → deep h b ≡ d
        → ShadeCase h b s (cond (marked h b) b (cond (deep h b) (list_next h (mark_live h b)) (mark_live h b))) (cond (marked h b) s (cond (deep h b) (push h s) s))
    go true d e f = rw e (already e)
    go false true e f = rw (e, f) (listing e f)
    go false false e f = rw (e, f) (counting e f)

-- ---- what it leaves alone

shaded_alike : {h : ℕ} {b : Box} {s : Scans} {c : Box} {s' : Scans} → ShadeCase h b s c s' → Alike b c
unfolding list_next mark_live
shaded_alike (already e) = search
shaded_alike {h} {b} (listing e f) = search length-set
shaded_alike {h} {b} (counting e f) = search length-set

-- the collector's numbers, but for live and next
pub record SameNumbers (b c : Box) : Type 0 where
  pub phase_is : c.collector.phase ≡ b.collector.phase
  pub current_is : c.collector.current ≡ b.collector.current
  pub src_is : c.collector.src ≡ b.collector.src
  pub dest_is : c.collector.dest ≡ b.collector.dest
  pub tuple_is : c.collector.tuple ≡ b.collector.tuple
  pub size_is : c.collector.size ≡ b.collector.size
  pub index_is : c.collector.index ≡ b.collector.index

shaded_numbers : {h : ℕ} {b : Box} {s : Scans} {c : Box} {s' : Scans} → ShadeCase h b s c s' → SameNumbers b c
unfolding list_next mark_live
shaded_numbers (already e) = search
shaded_numbers (listing e f) = search
shaded_numbers (counting e f) = search

-- ---- the marks and the links

-- one more mark
set_mark_true : (b : Box) (h : ℕ) → h < length b.directory.marks → get_or (set b.directory.marks h true) h false ≡ true
set_mark_true b h l = get_or-set_same b.directory.marks h true false l

set_mark_keeps : (b : Box) (h k : ℕ) → h < length b.directory.marks → marked k b ≡ true → get_or (set b.directory.marks h true) k false ≡ true
set_mark_keeps b h k l t = go (ℕ_discrete k h)
  where
    go : Dec (k ≡ h) → get_or (set b.directory.marks h true) k false ≡ true
    go (yes e) = subst (λ (n : ℕ). get_or (set b.directory.marks h true) n false ≡ true) (sym e) (set_mark_true b h l)
    go (no n) = get_or-set_other b.directory.marks h k true false n ∙ t

shaded_mark : {h : ℕ} {b : Box} {s : Scans} {c : Box} {s' : Scans} → ShadeCase h b s c s' → h < length b.directory.marks → marked h c ≡ true
unfolding list_next mark_live
shaded_mark (already e) l = e
shaded_mark {h} {b} (listing e f) l = set_mark_true b h l
shaded_mark {h} {b} (counting e f) l = set_mark_true b h l

shaded_keeps : {h : ℕ} {b : Box} {s : Scans} {c : Box} {s' : Scans} → ShadeCase h b s c s' → h < length b.directory.marks → (k : ℕ) → marked k b ≡ true → marked k c ≡ true
unfolding list_next mark_live
shaded_keeps (already e) l k t = t
shaded_keeps {h} {b} (listing e f) l k t = set_mark_keeps b h k l t
shaded_keeps {h} {b} (counting e f) l k t = set_mark_keeps b h k l t

shaded_others : {h : ℕ} {b : Box} {s : Scans} {c : Box} {s' : Scans} → ShadeCase h b s c s' → (k : ℕ) → k ≢ h → marked k c ≡ marked k b
unfolding list_next mark_live
shaded_others (already e) k n = refl
shaded_others {h} {b} (listing e f) k n = get_or-set_other b.directory.marks h k true false n
shaded_others {h} {b} (counting e f) k n = get_or-set_other b.directory.marks h k true false n

-- a list that h is not on
shaded_chain : {h : ℕ} {b : Box} {s : Scans} {c : Box} {s' : Scans} → ShadeCase h b s c s' → (head : ℕ) (hs : List ℕ) → ¬ Member h hs
    → Chain b.directory.links head hs → Chain c.directory.links head hs
unfolding list_next mark_live
shaded_chain (already e) head hs n ch = ch
shaded_chain {h} {b} (listing e f) head hs n ch = chain_set_other b.directory.links head hs h b.collector.next n ch
shaded_chain (counting e f) head hs n ch = ch

-- the tuples that waited wait still
shaded_waits : {h : ℕ} {b : Box} {s : Scans} {c : Box} {s' : Scans} → ShadeCase h b s c s' → (k : ℕ) → Member k (listed s) → Member k (listed s')
shaded_waits (already e) k x = x
shaded_waits {h} {b} {s} (listing e f) k x = perm_member (perm_sym (perm_shift h s.gray (s.nexts ++ s.currents))) k (inr x)
shaded_waits (counting e f) k x = x

-- ---- the group of the marks

-- what the two cases of an unmarked tuple have in common
marks_shaded : (h : ℕ) (b : Box) (p : Plan) (free : List ℕ) (s : Scans) (c : Box) (s' : Scans)
    → Handles b p free → Member h p.ahead → h < length b.directory.marks → b.collector.phase ≤ 3 → c.collector.phase ≤ 3
    → ShadeCase h b s c s' → marked h b ≡ false → c.collector.live ≡ b.collector.live + size_of h b + 1
    → Chain c.directory.links c.collector.next s'.nexts → Chain c.directory.links c.collector.current s'.currents → Distinct (listed s')
    → ((k : ℕ) → Member k (listed s') → ((k ≡ h) × (deep h b ≡ true)) ⊎ Member k (listed s)) → (¬ Member h (listed s') → Black b h)
    → Marks b p free s → Marks c p free s'
marks_shaded h b p free s c s' hd x l lb lc sh u lv nx cr ds from bl i =
    record {
      free_unmarked = λ k y. others k (λ e. apart.ahead_free h x (subst (λ (n : ℕ). Member n free) e y)) ∙ i.free_unmarked k y;
      done_unmarked = λ k y. others k (λ e. apart.done_ahead h (subst (λ (n : ℕ). Member n p.done) e y) x) ∙ i.done_unmarked k y;
      mid_unmarked = λ k y. others k (λ e. apart.mid_ahead h (subst (λ (n : ℕ). Member n p.mid) e y) x) ∙ i.mid_unmarked k y;
      live_is = omega (arith, lv, i.live_is, rooms_frame b c p.mid (λ k y. size_alike b c a k), sums);
      nexts_chain = nx;
      currents_chain = cr;
      listed_distinct = ds;
      listed_ahead = λ k y. in_ahead k (from k y);
      listed_marked = λ k y. in_marked k (from k y);
      listed_deep = λ k y. deep_alike b c a k ∙ in_deep k (from k y);
      black = λ v k y t o. black_alike b c a (omega arith) (omega arith) (shaded_keeps sh l) k (dark k y t o (ℕ_discrete k h));
    }
  where
    a : Alike b c
    a = shaded_alike sh

    apart : Parts p.done p.mid p.ahead free
    apart = parts p.done p.mid p.ahead free hd.distinct

    others : (k : ℕ) → k ≢ h → marked k c ≡ marked k b
    others = shaded_others sh

    sums : marked_rooms c p.ahead ≡ marked_rooms b p.ahead + (size_of h b + 1)
    sums = marked_rooms_mark b c p.ahead h apart.ahead_distinct x u (shaded_mark sh l) (λ k y. size_alike b c a k) (λ k y n. others k n)

    in_ahead : (k : ℕ) → ((k ≡ h) × (deep h b ≡ true)) ⊎ Member k (listed s) → Member k p.ahead
    in_ahead k (inl e) = subst (λ (n : ℕ). Member n p.ahead) (sym e.0) x
    in_ahead k (inr y) = i.listed_ahead k y

    in_marked : (k : ℕ) → ((k ≡ h) × (deep h b ≡ true)) ⊎ Member k (listed s) → marked k c ≡ true
    in_marked k (inl e) = subst (λ (n : ℕ). marked n c ≡ true) (sym e.0) (shaded_mark sh l)
    in_marked k (inr y) = shaded_keeps sh l k (i.listed_marked k y)

    in_deep : (k : ℕ) → ((k ≡ h) × (deep h b ≡ true)) ⊎ Member k (listed s) → deep k b ≡ true
    in_deep k (inl e) = subst (λ (n : ℕ). deep n b ≡ true) (sym e.0) e.1
    in_deep k (inr y) = i.listed_deep k y

    dark : (k : ℕ) → Member k p.ahead → marked k c ≡ true → ¬ Member k (listed s') → Dec (k ≡ h) → Black b k
    dark k y t o (yes e) = subst (λ (n : ℕ). Black b n) (sym e) (bl (λ m. o (subst (λ (n : ℕ). Member n (listed s')) (sym e) m)))
    dark k y t o (no n) = i.black lb k y (sym (others k n) ∙ t) (λ m. o (shaded_waits sh k m))

-- an unmarked tuple waits for no scan
unlisted_yet : (h : ℕ) (b : Box) (p : Plan) (free : List ℕ) (s : Scans) → Marks b p free s → marked h b ≡ false → ¬ Member h (listed s)
unlisted_yet h b p free s i u m = false≢true (sym u ∙ i.listed_marked h m)

-- a tuple that is not deep holds no pointer
flat_black : (h : ℕ) (b : Box) (p : Plan) → Contents b p → Kept b p h → deep h b ≡ false → Black b h
flat_black h b p i x f k l n = absurd (false≢true (sym f ∙ (i.words_kept h x k l n).1))

shaded_marks : {h : ℕ} {b : Box} {s : Scans} {c : Box} {s' : Scans} (p : Plan) (free : List ℕ) → ShadeCase h b s c s'
    → Shape b → Handles b p free → Contents b p → Member h p.ahead → h < b.h → b.collector.phase ≤ 3 → Marks b p free s → Marks c p free s'
unfolding list_next mark_live
shaded_marks p free (already e) sp hd ct x l v i = i
shaded_marks {h} {b} {s} p free (listing e f) sp hd ct x l v i =
    let out : ¬ Member h (listed s) = unlisted_yet h b p free s i e in
    marks_shaded h b p free s (list_next h (mark_live h b)) (push h s) hd x (subst (λ (n : ℕ). h < n) (sym sp.marks_length) l) v v (listing e f) e refl
    (chain_push b.directory.links b.collector.next s.nexts h i.nexts_chain (λ m. out (member_right h s.gray (s.nexts ++ s.currents) (member_left h s.nexts s.currents m))) (subst (λ (n : ℕ). h < n) (sym sp.links_length) l))
    (chain_set_other b.directory.links b.collector.current s.currents h b.collector.next (λ m. out (member_right h s.gray (s.nexts ++ s.currents) (member_right h s.nexts s.currents m))) i.currents_chain)
    (perm_distinct (perm_sym (perm_shift h s.gray (s.nexts ++ s.currents))) (out, i.listed_distinct))
    from
    (λ o. absurd (o (perm_member (perm_sym (perm_shift h s.gray (s.nexts ++ s.currents))) h (inl refl))))
    i
  where
    cases : (k : ℕ) → Member k (h ∷ listed s) → ((k ≡ h) × (deep h b ≡ true)) ⊎ Member k (listed s)
    cases k (inl q) = inl (q, f)
    cases k (inr m) = inr m

    from : (k : ℕ) → Member k (listed (push h s)) → ((k ≡ h) × (deep h b ≡ true)) ⊎ Member k (listed s)
    from k m = cases k (perm_member (perm_shift h s.gray (s.nexts ++ s.currents)) k m)
shaded_marks {h} {b} {s} p free (counting e f) sp hd ct x l v i =
    marks_shaded h b p free s (mark_live h b) s hd x (subst (λ (n : ℕ). h < n) (sym sp.marks_length) l) v v (counting e f) e refl
    i.nexts_chain i.currents_chain i.listed_distinct (λ k m. inr m) (λ o. flat_black h b p ct (unswept x v) f) i

-- ---- the stage

shaded_gray : {h : ℕ} {b : Box} {s : Scans} {c : Box} {s' : Scans} → ShadeCase h b s c s' → s'.gray ≡ s.gray
shaded_gray (already e) = refl
shaded_gray (listing e f) = refl
shaded_gray (counting e f) = refl

shaded_currents : {h : ℕ} {b : Box} {s : Scans} {c : Box} {s' : Scans} → ShadeCase h b s c s' → s'.currents ≡ s.currents
shaded_currents (already e) = refl
shaded_currents (listing e f) = refl
shaded_currents (counting e f) = refl

-- what is said of the tuple under the scan, at any phase of the box after it
scan_numbers : (b : Box) (g : Ghosts) (c : Box) (s : Scans) (x : ℕ) → Alike b c → SameNumbers b c → s.gray ≡ g.scans.gray → Scan b g x → Scan c (with_scans s g) x
scan_numbers b g c s x a k e i =
    record {
      gray_is = e ∙ i.gray_is;
      src_is = address_alike b c a x ∙ i.src_is ∙ sym k.src_is;
      size_is = size_alike b c a x ∙ i.size_is ∙ sym k.size_is;
      index_least = rw k.index_is i.index_least;
      index_most = rw (k.index_is, k.size_is) i.index_most;
    }

shaded_stage : {h : ℕ} {b : Box} {c : Box} {s' : Scans} (g : Ghosts) → ShadeCase h b g.scans c s' → h < length b.directory.marks
    → 1 ≤ b.collector.phase → b.collector.phase ≤ 3 → Stage b g → Stage c (with_scans s' g)
shaded_stage {h} {b} {c} {s'} g sh l v w st = go st
  where
    a : Alike b c
    a = shaded_alike sh

    k : SameNumbers b c
    k = shaded_numbers sh

    same : (x i : ℕ) → word x i c ≡ word x i b
    same x i = word_alike b c a (omega arith) (omega (arith, k.phase_is)) x i

    seen : (x : ℕ) → ((k : ℕ) → k + 1 < b.collector.index → names_tuple (word x (k + 1) b) ≡ true → marked (handle_of (word x (k + 1) b)) b ≡ true)
        → (k : ℕ) → k + 1 < c.collector.index → names_tuple (word x (k + 1) c) ≡ true → marked (handle_of (word x (k + 1) c)) c ≡ true
    seen x f j u n = subst (λ (z : Word). marked (handle_of z) c ≡ true) (sym (same x (j + 1))) (shaded_keeps sh l (handle_of (word x (j + 1) b)) (f j (subst (λ (z : ℕ). j + 1 < z) k.index_is u) (subst (λ (z : Word). names_tuple z ≡ true) (same x (j + 1)) n)))

    kept : (y : ℕ) → (marked y b ≡ true) ⊎ (y ≡ b.collector.tuple) → (marked y c ≡ true) ⊎ (y ≡ c.collector.tuple)
    kept y (inl t) = inl (shaded_keeps sh l y t)
    kept y (inr e) = inr (e ∙ sym k.tuple_is)

    seen_yet : (x : ℕ)
        → ((k : ℕ) → k + 1 < b.collector.index → names_tuple (word x (k + 1) b) ≡ true → (marked (handle_of (word x (k + 1) b)) b ≡ true) ⊎ (handle_of (word x (k + 1) b) ≡ b.collector.tuple))
        → (k : ℕ) → k + 1 < c.collector.index → names_tuple (word x (k + 1) c) ≡ true
        → (marked (handle_of (word x (k + 1) c)) c ≡ true) ⊎ (handle_of (word x (k + 1) c) ≡ c.collector.tuple)
    seen_yet x f j u n = subst (λ (z : Word). (marked (handle_of z) c ≡ true) ⊎ (handle_of z ≡ c.collector.tuple)) (sym (same x (j + 1))) (kept (handle_of (word x (j + 1) b)) (f j (subst (λ (z : ℕ). j + 1 < z) k.index_is u) (subst (λ (z : Word). names_tuple z ≡ true) (same x (j + 1)) n)))

    go : Stage b g → Stage c (with_scans s' g)
    go (at_rest p u i m) = absurd (omega arith)
    go (finding p u i m) = finding (k.phase_is ∙ p) (unswept_scans g s' u) (shaded_currents sh ∙ i) (shaded_gray sh ∙ m)
    go (scanning p u x i f) = scanning (k.phase_is ∙ p) (unswept_scans g s' u) x (scan_numbers b g c s' x a k (shaded_gray sh) i) (seen x f)
    go (adding p u x i m f) = adding (k.phase_is ∙ p) (unswept_scans g s' u) x (scan_numbers b g c s' x a k (shaded_gray sh) i) (subst (λ (y : ℕ). Member y g.plan.ahead) (sym k.tuple_is) m) (seen_yet x f)
    go (sweeping p u m i x z hs f) = absurd (omega arith)
    go (reading p m i z) = absurd (omega arith)
    go (clearing p m i z) = absurd (omega arith)
    go (writing p m i z) = absurd (omega arith)
    go (zeroing p u m i x d y z) = absurd (omega arith)

-- ---- the laws of `shade h b`

pub shade_alike : (h : ℕ) (b : Box) → Alike b (shade h b)
shade_alike h b = shaded_alike (shaded h b none_wait)

pub shade_numbers : (h : ℕ) (b : Box) → SameNumbers b (shade h b)
shade_numbers h b = shaded_numbers (shaded h b none_wait)

-- h is marked, marks stay, and no other is set
pub shade_mark : (h : ℕ) (b : Box) → Shape b → h < b.h → marked h (shade h b) ≡ true
shade_mark h b sp l = shaded_mark (shaded h b none_wait) (subst (λ (n : ℕ). h < n) (sym sp.marks_length) l)

-- a free handle is no tuple ahead
pub shade_free : (h : ℕ) (b : Box) (p : Plan) (free : List ℕ) → Handles b p free → Member h p.ahead → Chain (shade h b).directory.links b.free free
shade_free h b p free i x = shaded_chain (shaded h b none_wait) b.free free ((parts p.done p.mid p.ahead free i.distinct).ahead_free h x) i.free_chain

pub shade_quiet : (h : ℕ) (b : Box) (p : Plan) → b.collector.phase ≤ 3 → Quiet b p (shade h b) p
shade_quiet h b p l = quiet_alike b (shade h b) p (shade_alike h b) l (rw (shade_numbers h b).phase_is l)

pub shade_marks : (h : ℕ) (b : Box) (p : Plan) (free : List ℕ) (s : Scans) → Shape b → Handles b p free → Contents b p → Member h p.ahead
    → b.collector.phase ≤ 3 → Marks b p free s → Marks (shade h b) p free (shade_scans h b s)
shade_marks h b p free s sp hd ct x l i = shaded_marks p free (shaded h b s) sp hd ct x (ahead_entry b p free h hd x).1 l i

pub shade_stage : (h : ℕ) (b : Box) (g : Ghosts) → Shape b → h < b.h → 1 ≤ b.collector.phase → b.collector.phase ≤ 3 → Stage b g
    → Stage (shade h b) (with_scans (shade_scans h b g.scans) g)
shade_stage h b g sp l = shaded_stage g (shaded h b g.scans) (subst (λ (n : ℕ). h < n) (sym sp.marks_length) l)

-- all of it, in phase 1, 2 or 3
pub shade_inv : (h : ℕ) (b : Box) (g : Ghosts) → Inv b g → Member h g.plan.ahead → 1 ≤ b.collector.phase → b.collector.phase ≤ 3
    → Inv (shade h b) (with_scans (shade_scans h b g.scans) g)
shade_inv h b g i x v w =
    inv_alike b g (shade h b) (shade_scans h b g.scans) i (shade_alike h b) w (rw (shade_numbers h b).phase_is w) (shade_free h b g.plan g.free i.handles x)
    (shade_marks h b g.plan g.free g.scans i.shape i.handles i.contents x w i.marks)
    (shade_stage h b g i.shape (ahead_entry b g.plan g.free h i.handles x).1 v w i.stage)
