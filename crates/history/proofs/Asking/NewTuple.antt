-- A new tuple keeps the invariant, in any phase: the first free handle comes to lie at the end of those ahead, with a control word at
-- top and words of data 0 behind it, since words from top on are data 0. What the new box has at each handle, address and register
-- is stated once (`New`), and every group of clauses follows from that. Assumes nothing.
use Prim.Native.Nat.{ℕ, ◌+◌, ◌≤◌, ◌<◌}
use mathlib.Core.Bool.{Bool, true, false, cond, true≢false, false≢true}
use mathlib.Core.List.{List, [], ◌∷◌, ◌++◌}
use mathlib.Core.Logic.{◌≢◌, ◌⊎◌, inl, inr}
use mathlib.Core.Path.{◌≡◌, refl, sym, ap, ◌∙◌, subst}
use borrow.Author.Tests.{eq-eqb, ne_eqb}
use native.Mathlib.Omega.{arith}
use native.Mathlib.Nat.{mul-add-div_right, mul-add-mod_self_right, div-eq_of_lt, mod-eq_of_lt}
use native.Mathlib.Decide.{ℕ_discrete, dec_le}
use lib.ListN.{get_or, length-set}
use lib.Seq.{get_or-set_same, get_or-set_other}
use Rattle.rules.specs.Limits.{half_word, register_count}
use Rattle.rules.specs.Parts.{Word, Box}
use Rattle.rules.specs.Box.{data_word, pointer, control_word, handle_of, tag_of, names_tuple, word_at, register, address, size_of, link, marked, deep}
use Rattle.rules.specs.Answers.{Moving}
use Rattle.rules.specs.Request.{collecting, new_entry, take_room, new_tuple}
use Rattle.history.specs.Agreement.{Member, Distinct}
use Rattle.history.specs.Calls.{In16}
use Rattle.history.proofs.Invariant.Statement.{Plan, Ghosts, Inv, listed, word, rooms, marked_rooms, Laid, Chain, Control, Kept, settled, moving, unswept, surviving, Shape, Handles, Layout, Contents, Zero, Marks, Unswept, Unlisted, Scan, Move, Stage, at_rest, finding, scanning, adding, sweeping, reading, clearing, writing, zeroing}
use Rattle.history.proofs.Lists.Handles.{member_left, member_right, member_cases, member_differs, perm_free_ahead}
use Rattle.history.proofs.Lists.Chain.{chain_head}
use Rattle.history.proofs.Lists.Laid.{laid_frame, laid_snoc, laid_to, laid_bounds, rooms_frame, marked_rooms_frame, marked_rooms_append, marked_rooms_marked, marked_rooms_unmarked}
use Rattle.history.proofs.Invariant.Frame.{shape_same, handles_moved}
use Rattle.history.proofs.Invariant.Words.{word_home}
use Rattle.history.proofs.Asking.Places.{spot_top, base_top, zeroed_base, place_by, word_by, not_moving, plan_parts}
use Rattle.history.proofs.Asking.InRange.{free_listed, free_bounds}

-- ---- the ghosts

-- the first free handle comes to lie at the end
abbrev pub made_plan : Plan → ℕ → Plan
made_plan p f = record { done = p.done; mid = p.mid; ahead = p.ahead ++ (f ∷ []); low = p.low; base = p.base }

unfoldable pub rest_of : List ℕ → List ℕ
rest_of [] = []
rest_of (h ∷ hs) = hs

abbrev pub made_ghosts : Ghosts → ℕ → Ghosts
made_ghosts g f = record { plan = made_plan g.plan f; free = rest_of g.free; scans = g.scans; zeroed = g.zeroed }

-- ---- what the new box has

pub record New (b c : Box) (r n tag : ℕ) : Type 0 where
  pub shape : Shape c
  pub address_new : address b.free c ≡ b.top
  pub address_other : (h : ℕ) → h ≢ b.free → address h c ≡ address h b
  pub size_new : size_of b.free c ≡ n
  pub size_other : (h : ℕ) → h ≢ b.free → size_of h c ≡ size_of h b
  pub mark_new : marked b.free c ≡ collecting b
  pub mark_other : (h : ℕ) → h ≢ b.free → marked h c ≡ marked h b
  pub deep_new : deep b.free c ≡ false
  pub deep_other : (h : ℕ) → h ≢ b.free → deep h c ≡ deep h b
  pub word_new : word_at b.top c ≡ control_word b.free tag
  pub word_other : (a : ℕ) → a ≢ b.top → word_at a c ≡ word_at a b
  pub register_new : register r c ≡ pointer b.free 0
  pub register_other : (s : ℕ) → s ≢ r → register s c ≡ register s b
  pub copy_same : c.collector.copy ≡ b.collector.copy
  pub links_same : c.directory.links ≡ b.directory.links
  pub m_same : c.m ≡ b.m
  pub h_same : c.h ≡ b.h
  pub top_new : c.top ≡ b.top + n + 1
  pub free_new : c.free ≡ link b.free b
  pub phase_same : c.collector.phase ≡ b.collector.phase
  pub live_new : c.collector.live ≡ cond (collecting b) (b.collector.live + n + 1) b.collector.live
  pub current_same : c.collector.current ≡ b.collector.current
  pub next_same : c.collector.next ≡ b.collector.next
  pub src_same : c.collector.src ≡ b.collector.src
  pub dest_same : c.collector.dest ≡ b.collector.dest
  pub tuple_same : c.collector.tuple ≡ b.collector.tuple
  pub entry_size_same : c.collector.size ≡ b.collector.size
  pub index_same : c.collector.index ≡ b.collector.index

new_shape : (b : Box) → Shape b → (r n tag : ℕ) → Shape (new_tuple r n tag b)
unfolding new_tuple take_room new_entry
new_shape b s r n tag =
    shape_same b (new_tuple r n tag b)
    (search length-set)
    s

pub new_box : (b : Box) → Shape b → (r n tag : ℕ) → r < register_count → b.free < b.h → b.top + n + 1 ≤ b.m
    → New b (new_tuple r n tag b) r n tag
unfolding new_tuple take_room new_entry collecting
new_box b s r n tag l u t =
    record {
      shape = new_shape b s r n tag;
      address_new = get_or-set_same b.directory.addresses b.free b.top 0 (omega (arith, s.addresses_length));
      address_other = λ h d. get_or-set_other b.directory.addresses b.free h b.top 0 d;
      size_new = get_or-set_same b.directory.sizes b.free n 0 (omega (arith, s.sizes_length));
      size_other = λ h d. get_or-set_other b.directory.sizes b.free h n 0 d;
      mark_new = get_or-set_same b.directory.marks b.free (collecting b) false (omega (arith, s.marks_length));
      mark_other = λ h d. get_or-set_other b.directory.marks b.free h (collecting b) false d;
      deep_new = get_or-set_same b.directory.deeps b.free false false (omega (arith, s.deeps_length));
      deep_other = λ h d. get_or-set_other b.directory.deeps b.free h false false d;
      word_new = λ i. record { bits = get_or-set_same b.memory.words b.top (control_word b.free tag).bits 0 (omega (arith, s.words_length)) i; flag = get_or-set_same b.memory.flags b.top false false (omega (arith, s.flags_length)) i };
      word_other = λ a d i. record {
        bits = get_or-set_other b.memory.words b.top a (control_word b.free tag).bits 0 d i;
        flag = get_or-set_other b.memory.flags b.top a false false d i;
      };
      register_new = λ i. record { bits = get_or-set_same b.registers.words r (pointer b.free 0).bits 0 (omega (arith, s.registers_length)) i; flag = get_or-set_same b.registers.flags r true false (omega (arith, s.register_flags_length)) i };
      register_other = λ x d i. record {
        bits = get_or-set_other b.registers.words r x (pointer b.free 0).bits 0 d i;
        flag = get_or-set_other b.registers.flags r x true false d i;
      };
      copy_same = refl;
      links_same = refl;
      m_same = refl;
      h_same = refl;
      top_new = refl;
      free_new = refl;
      phase_same = refl;
      live_new = refl;
      current_same = refl;
      next_same = refl;
      src_same = refl;
      dest_same = refl;
      tuple_same = refl;
      entry_size_same = refl;
      index_same = refl;
    }

-- ---- the free handle is new

collecting_rest : (b : Box) → b.collector.phase ≡ 0 → collecting b ≡ false
unfolding collecting
collecting_rest b e = simp (eq-eqb b.collector.phase 0 e)

collecting_on : (b : Box) → b.collector.phase ≢ 0 → collecting b ≡ true
unfolding collecting
collecting_on b d = simp (ne_eqb b.collector.phase 0 d)

-- the one more at the end
last_member : (h f : ℕ) (hs : List ℕ) → Member h (hs ++ (f ∷ [])) → Member h hs ⊎ (h ≡ f)
last_member h f hs m = cases (member_cases h hs (f ∷ []) m)
  where
    cases : Member h hs ⊎ Member h (f ∷ []) → Member h hs ⊎ (h ≡ f)
    cases (inl x) = inl x
    cases (inr (inl e)) = inr e
    cases (inr (inr x)) = absurd x

-- what changed for the kept tuples: one more, with words of data 0
pub record Made (b : Box) (p : Plan) (c : Box) (q : Plan) (r n tag : ℕ) : Type 0 where
  pub kept_to : (h : ℕ) → Kept c q h → Kept b p h ⊎ (h ≡ b.free)
  pub was_free : ¬ Kept b p b.free
  pub handle_not_nil : b.free ≢ 0
  pub handle_below : b.free < b.h
  pub h_same : c.h ≡ b.h
  pub made_size : size_of b.free c ≡ n
  pub made_tag : tag_of (word b.free 0 c) ≡ tag
  pub made_words : (k : ℕ) → k < n → word b.free (k + 1) c ≡ data_word 0
  pub register_made : register r c ≡ pointer b.free 0
  pub made_handle : handle_of (register r c) ≡ b.free
  pub registers_same : (s : ℕ) → s ≢ r → register s c ≡ register s b
  pub sizes_same : (h : ℕ) → Kept b p h → size_of h c ≡ size_of h b
  pub words_same : (h : ℕ) → Kept b p h → (i : ℕ) → i ≤ size_of h b → word h i c ≡ word h i b

control_handle : (h tag : ℕ) → In16 tag → handle_of (control_word h tag) ≡ h
control_handle h tag l = omega (arith, mul-add-div_right {m = half_word} (omega arith) h tag, div-eq_of_lt {n = tag} {m = half_word} l)

control_tag : (h tag : ℕ) → In16 tag → tag_of (control_word h tag) ≡ tag
control_tag h tag l = mul-add-mod_self_right h half_word tag ∙ mod-eq_of_lt {n = tag} {m = half_word} l

module _ (b : Box) (g : Ghosts) (c : Box) (r n tag : ℕ) (v : Inv b g) (d : b.free ≢ 0) (l : b.top + n + 1 ≤ b.m) (t : In16 tag) (u : New b c r n tag) where
  -- it is in no other list, and unmarked
  done_differs : (h : ℕ) → Member h g.plan.done → h ≢ b.free
  done_differs h x e = (plan_parts b g v).done_free h x (subst (λ (k : ℕ). Member k g.free) (sym e) (free_listed b g v d))

  mid_differs : (h : ℕ) → Member h g.plan.mid → h ≢ b.free
  mid_differs h x e = (plan_parts b g v).mid_free h x (subst (λ (k : ℕ). Member k g.free) (sym e) (free_listed b g v d))

  ahead_differs : (h : ℕ) → Member h g.plan.ahead → h ≢ b.free
  ahead_differs h x e = (plan_parts b g v).ahead_free h x (subst (λ (k : ℕ). Member k g.free) (sym e) (free_listed b g v d))

  kept_differs : (h : ℕ) → Kept b g.plan h → h ≢ b.free
  kept_differs h (settled x) = done_differs h x
  kept_differs h (moving x) = mid_differs h x
  kept_differs h (unswept x p) = ahead_differs h x
  kept_differs h (surviving x m) = ahead_differs h x

  marked_differs : (h : ℕ) → marked h b ≡ true → h ≢ b.free
  marked_differs h m e = true≢false (sym m ∙ ap (λ (k : ℕ). marked k b) e ∙ v.marks.free_unmarked b.free (free_listed b g v d))

  mark_stays : (h : ℕ) → marked h b ≡ true → marked h c ≡ true
  mark_stays h m = u.mark_other h (marked_differs h m) ∙ m

  -- ---- kept

  new_kept_from : (h : ℕ) → Kept b g.plan h → Kept c (made_plan g.plan b.free) h
  new_kept_from h (settled x) = settled x
  new_kept_from h (moving x) = moving x
  new_kept_from h (unswept x p) = unswept (member_left h g.plan.ahead (b.free ∷ []) x) (omega (arith, u.phase_same))
  new_kept_from h (surviving x m) = surviving (member_left h g.plan.ahead (b.free ∷ []) x) (mark_stays h m)

  new_kept_to : (h : ℕ) → Kept c (made_plan g.plan b.free) h → Kept b g.plan h ⊎ (h ≡ b.free)
  new_kept_to h (settled x) = inl (settled x)
  new_kept_to h (moving x) = inl (moving x)
  new_kept_to h (unswept x p) = cases (last_member h b.free g.plan.ahead x)
    where
      cases : Member h g.plan.ahead ⊎ (h ≡ b.free) → Kept b g.plan h ⊎ (h ≡ b.free)
      cases (inl y) = inl (unswept y (omega (arith, u.phase_same)))
      cases (inr e) = inr e
  new_kept_to h (surviving x m) = cases (last_member h b.free g.plan.ahead x)
    where
      cases : Member h g.plan.ahead ⊎ (h ≡ b.free) → Kept b g.plan h ⊎ (h ≡ b.free)
      cases (inl y) = inl (surviving y (sym (u.mark_other h (ahead_differs h y)) ∙ m))
      cases (inr e) = inr e

  new_last : Member b.free (made_plan g.plan b.free).ahead
  new_last = member_right b.free g.plan.ahead (b.free ∷ []) (inl refl)

  new_kept : Kept c (made_plan g.plan b.free) b.free
  new_kept = cases (dec_le c.collector.phase 3)
    where
      cases : Dec (c.collector.phase ≤ 3) → Kept c (made_plan g.plan b.free) b.free
      cases (yes p) = unswept new_last p
      cases (no p) = surviving new_last (u.mark_new ∙ collecting_on b (λ e. p (omega (arith, u.phase_same))))

  -- ---- words

  -- words of kept tuples lie below top
  new_word_same : (h : ℕ) → Kept b g.plan h → (i : ℕ) → i ≤ size_of h b → word h i c ≡ word h i b
  new_word_same h k i m =
      word_by b g c v h i k m (place_by h i b c u.phase_same u.tuple_same u.index_same u.dest_same (u.address_other h (kept_differs h k))) u.copy_same
      (λ a s. u.word_other a (λ e. let f = spot_top b g v h i a s in omega arith))

  -- the new tuple is not being moved
  new_unmoved : ¬ Moving b.free c
  new_unmoved x =
      not_moving b g v.stage b.free (λ y. mid_differs b.free y refl)
      (x.0 ∙ u.tuple_same, omega (arith, x.1, u.phase_same), omega (arith, x.2, u.phase_same))

  new_word : (i : ℕ) → word b.free i c ≡ word_at (b.top + i) c
  new_word i = word_home b.free i c (λ x. new_unmoved x.0) (λ x. new_unmoved x.0) ∙ ap (λ (a : ℕ). word_at (a + i) c) u.address_new

  new_control : word b.free 0 c ≡ control_word b.free tag
  new_control = new_word 0 ∙ ap (λ (a : ℕ). word_at a c) (omega arith) ∙ u.word_new

  new_data : (k : ℕ) → word b.free (k + 1) c ≡ data_word 0
  new_data k = new_word (k + 1) ∙ u.word_other (b.top + (k + 1)) (omega arith) ∙ v.zero_words.above_top (b.top + (k + 1)) (omega arith)

  -- what the new tuple holds names nothing
  new_nameless : (k : ℕ) → names_tuple (word b.free (k + 1) c) ≡ false
  new_nameless k = ap (λ (w : Word). names_tuple w) (new_data k)

  -- ---- the groups

  -- the free list without it
  new_free : (hs : List ℕ) × (g.free ≡ b.free ∷ hs) × Chain b.directory.links (get_or b.directory.links b.free 0) hs
  new_free = chain_head b.directory.links b.free g.free v.handles.free_chain d

  rest_is : rest_of g.free ≡ new_free.0
  unfolding rest_of
  rest_is = ap rest_of new_free.1

  rest_free : (h : ℕ) → Member h (rest_of g.free) → (h ≢ b.free) × Member h g.free
  rest_free h x =
      let y : Member h new_free.0 = subst (λ (hs : List ℕ). Member h hs) rest_is x in
      let o : Distinct (b.free ∷ new_free.0) = subst (λ (hs : List ℕ). Distinct hs) new_free.1 (plan_parts b g v).free_distinct in
      (member_differs h b.free new_free.0 y o.0, subst (λ (hs : List ℕ). Member h hs) (sym new_free.1) (inr y))

  new_handles : Handles c (made_plan g.plan b.free) (rest_of g.free)
  new_handles =
      subst (λ (hs : List ℕ). Handles c (made_plan g.plan b.free) hs) (sym rest_is)
      (handles_moved b c g.plan (made_plan g.plan b.free) (b.free ∷ new_free.0) new_free.0 (perm_free_ahead b.free g.plan.done g.plan.mid g.plan.ahead new_free.0) u.h_same (subst (λ (ls : List ℕ). Chain ls c.free new_free.0) (sym u.links_same) (subst (λ (k : ℕ). Chain b.directory.links k new_free.0) (sym u.free_new) new_free.2)) (subst (λ (hs : List ℕ). Handles b g.plan hs) new_free.1 v.handles))

  new_layout : Layout c (made_plan g.plan b.free)
  new_layout =
      record {
        done_laid = laid_frame b c 0 g.plan.done g.plan.low (λ h x. u.address_other h (done_differs h x)) (λ h x. u.size_other h (done_differs h x)) done_control v.layout.done_laid;
        ahead_laid = laid_to c g.plan.base (g.plan.ahead ++ (b.free ∷ [])) (b.top + size_of b.free c + 1) c.top (omega (arith, u.size_new, u.top_new)) (laid_snoc c g.plan.base g.plan.ahead b.top b.free ahead_before u.address_new control);
        low_base = rw (rooms_frame b c g.plan.mid (λ h x. u.size_other h (mid_differs h x))) v.layout.low_base;
        top_fits = omega (arith, u.top_new, u.m_same);
      }
    where
      done_control : (h : ℕ) → Member h g.plan.done → word_at (address h b) c ≡ word_at (address h b) b
      done_control h x =
          let y = laid_bounds b 0 g.plan.done g.plan.low v.layout.done_laid h x in
          u.word_other (address h b) (λ e. omega (arith, v.layout.low_base, base_top b g v))

      ahead_control : (h : ℕ) → Member h g.plan.ahead → word_at (address h b) c ≡ word_at (address h b) b
      ahead_control h x =
          let y = laid_bounds b g.plan.base g.plan.ahead b.top v.layout.ahead_laid h x in
          u.word_other (address h b) (λ e. omega arith)

      ahead_before : Laid c g.plan.base g.plan.ahead b.top
      ahead_before = laid_frame b c g.plan.base g.plan.ahead b.top (λ h x. u.address_other h (ahead_differs h x)) (λ h x. u.size_other h (ahead_differs h x)) ahead_control v.layout.ahead_laid

      control : Control (word_at b.top c) b.free
      control = subst (λ (w : Word). Control w b.free) (sym u.word_new) (refl, control_handle b.free tag t)

  new_contents : Contents c (made_plan g.plan b.free)
  new_contents = record { roots_kept = roots; words_kept = inside }
    where
      roots : (s : ℕ) → s < register_count → names_tuple (register s c) ≡ true → Kept c (made_plan g.plan b.free) (handle_of (register s c))
      roots s m x = cases (ℕ_discrete s r)
        where
          cases : Dec (s ≡ r) → Kept c (made_plan g.plan b.free) (handle_of (register s c))
          cases (yes e) =
              subst (λ (w : Word). Kept c (made_plan g.plan b.free) (handle_of w)) (sym (ap (λ (z : ℕ). register z c) e ∙ u.register_new))
              (subst (λ (h : ℕ). Kept c (made_plan g.plan b.free) h) (sym (control_handle b.free 0 (omega arith))) new_kept)
          cases (no y) =
              let f = u.register_other s y in
              subst (λ (w : Word). Kept c (made_plan g.plan b.free) (handle_of w)) (sym f) (new_kept_from (handle_of (register s b)) (v.contents.roots_kept s m (subst (λ (w : Word). names_tuple w ≡ true) f x)))

      inside : (h : ℕ) → Kept c (made_plan g.plan b.free) h → (k : ℕ) → k < size_of h c → names_tuple (word h (k + 1) c) ≡ true
          → Kept c (made_plan g.plan b.free) (handle_of (word h (k + 1) c)) × (deep h c ≡ true)
      inside h x k m y = cases (new_kept_to h x)
        where
          cases : Kept b g.plan h ⊎ (h ≡ b.free) → Kept c (made_plan g.plan b.free) (handle_of (word h (k + 1) c)) × (deep h c ≡ true)
          cases (inl z) =
              let s : size_of h c ≡ size_of h b = u.size_other h (kept_differs h z) in
              let e : word h (k + 1) c ≡ word h (k + 1) b = new_word_same h z (k + 1) (omega arith) in
              let f = v.contents.words_kept h z k (omega arith) (subst (λ (w : Word). names_tuple w ≡ true) e y) in
              (subst (λ (w : Word). Kept c (made_plan g.plan b.free) (handle_of w)) (sym e) (new_kept_from (handle_of (word h (k + 1) b)) f.0), u.deep_other h (kept_differs h z) ∙ f.1)
          cases (inr e) = absurd (false≢true (sym (new_nameless k) ∙ subst (λ (z : ℕ). names_tuple (word z (k + 1) c) ≡ true) e y))

  new_zero : Zero c g.zeroed
  new_zero = record { above_top = above; behind = cleared }
    where
      above : (a : ℕ) → c.top ≤ a → word_at a c ≡ data_word 0
      above a m = u.word_other a (omega (arith, u.top_new)) ∙ v.zero_words.above_top a (omega (arith, u.top_new))

      grown : (s : Bool) → collecting b ≡ s → b.collector.live ≤ c.collector.live
      grown true e = omega (arith, u.live_new ∙ ap (λ (s : Bool). cond s (b.collector.live + n + 1) b.collector.live) e)
      grown false e = omega (arith, u.live_new ∙ ap (λ (s : Bool). cond s (b.collector.live + n + 1) b.collector.live) e)

      cleared : (a : ℕ) → c.collector.live ≤ a → a < g.zeroed → word_at a c ≡ data_word 0
      cleared a m o = u.word_other a (omega (arith, zeroed_base b g v.stage, base_top b g v)) ∙ v.zero_words.behind a (omega (arith, grown (collecting b) refl)) o

  -- the new tuple counts in live where it is marked
  new_live : (s : Bool) → collecting b ≡ s → c.collector.live ≡ g.plan.low + (rooms c g.plan.mid + marked_rooms c (g.plan.ahead ++ (b.free ∷ [])))
  unfolding marked_rooms
  new_live true e =
      omega (
        arith,
        u.live_new ∙ ap (λ (s : Bool). cond s (b.collector.live + n + 1) b.collector.live) e,
        v.marks.live_is,
        rooms_frame b c g.plan.mid (λ h x. u.size_other h (mid_differs h x)),
        marked_rooms_frame b c g.plan.ahead (λ h x. u.size_other h (ahead_differs h x)) (λ h x. u.mark_other h (ahead_differs h x)),
        marked_rooms_append c g.plan.ahead (b.free ∷ []),
        marked_rooms_marked c b.free [] (u.mark_new ∙ e),
        u.size_new,
      )
  new_live false e =
      omega (
        arith,
        u.live_new ∙ ap (λ (s : Bool). cond s (b.collector.live + n + 1) b.collector.live) e,
        v.marks.live_is,
        rooms_frame b c g.plan.mid (λ h x. u.size_other h (mid_differs h x)),
        marked_rooms_frame b c g.plan.ahead (λ h x. u.size_other h (ahead_differs h x)) (λ h x. u.mark_other h (ahead_differs h x)),
        marked_rooms_append c g.plan.ahead (b.free ∷ []),
        marked_rooms_unmarked c b.free [] (u.mark_new ∙ e),
      )

  new_marks : Marks c (made_plan g.plan b.free) (rest_of g.free) g.scans
  new_marks =
      record {
        free_unmarked = λ h x. u.mark_other h (rest_free h x).0 ∙ v.marks.free_unmarked h (rest_free h x).1;
        done_unmarked = λ h x. u.mark_other h (done_differs h x) ∙ v.marks.done_unmarked h x;
        mid_unmarked = λ h x. u.mark_other h (mid_differs h x) ∙ v.marks.mid_unmarked h x;
        live_is = new_live (collecting b) refl;
        nexts_chain = rw (u.links_same, u.next_same) v.marks.nexts_chain;
        currents_chain = rw (u.links_same, u.current_same) v.marks.currents_chain;
        listed_distinct = v.marks.listed_distinct;
        listed_ahead = λ h x. member_left h g.plan.ahead (b.free ∷ []) (v.marks.listed_ahead h x);
        listed_marked = λ h x. mark_stays h (v.marks.listed_marked h x);
        listed_deep = λ h x. u.deep_other h (ahead_differs h (v.marks.listed_ahead h x)) ∙ v.marks.listed_deep h x;
        black = dark;
      }
    where
      dark : c.collector.phase ≤ 3 → (h : ℕ) → Member h (g.plan.ahead ++ (b.free ∷ [])) → marked h c ≡ true
          → ¬ Member h (listed g.scans) → (k : ℕ) → k < size_of h c → names_tuple (word h (k + 1) c) ≡ true
          → marked (handle_of (word h (k + 1) c)) c ≡ true
      dark p h x m o k y z = cases (last_member h b.free g.plan.ahead x)
        where
          pb : b.collector.phase ≤ 3
          pb = omega (arith, u.phase_same)

          cases : Member h g.plan.ahead ⊎ (h ≡ b.free) → marked (handle_of (word h (k + 1) c)) c ≡ true
          cases (inl a) =
              let s : size_of h c ≡ size_of h b = u.size_other h (ahead_differs h a) in
              let e : word h (k + 1) c ≡ word h (k + 1) b = new_word_same h (unswept a pb) (k + 1) (omega arith) in
              mark_stays (handle_of (word h (k + 1) c)) (subst (λ (w : Word). marked (handle_of w) b ≡ true) (sym e) (v.marks.black pb h a (sym (u.mark_other h (ahead_differs h a)) ∙ m) o k (omega arith) (subst (λ (w : Word). names_tuple w ≡ true) e z)))
          cases (inr e) = absurd (false≢true (sym (new_nameless k) ∙ subst (λ (a : ℕ). names_tuple (word a (k + 1) c) ≡ true) e z))

  -- ---- the stage

  new_unswept : Unswept g → Unswept (made_ghosts g b.free)
  new_unswept x = search

  new_unlisted : Unlisted g → Unlisted (made_ghosts g b.free)
  new_unlisted x = record { no_nexts = x.no_nexts; no_currents = x.no_currents; no_gray = x.no_gray }

  gray_ahead : (s : ℕ) → g.scans.gray ≡ s ∷ [] → Member s g.plan.ahead
  gray_ahead s e = v.marks.listed_ahead s (member_left s g.scans.gray (g.scans.nexts ++ g.scans.currents) (subst (λ (ks : List ℕ). Member s ks) (sym e) (inl refl)))

  new_scan : (s : ℕ) → Scan b g s → Scan c (made_ghosts g b.free) s
  new_scan s y =
      record {
        gray_is = y.gray_is;
        src_is = u.address_other s (ahead_differs s (gray_ahead s y.gray_is)) ∙ y.src_is ∙ sym u.src_same;
        size_is = u.size_other s (ahead_differs s (gray_ahead s y.gray_is)) ∙ y.size_is ∙ sym u.entry_size_same;
        index_least = omega (arith, u.index_same, y.index_least);
        index_most = omega (arith, u.index_same, u.entry_size_same, y.index_most);
      }

  new_scanned : b.collector.phase ≤ 3 → (s : ℕ) → Scan b g s → (k : ℕ) → k + 1 < c.collector.index → word s (k + 1) c ≡ word s (k + 1) b
  new_scanned p s y k m = new_word_same s (unswept (gray_ahead s y.gray_is) p) (k + 1) (omega (arith, u.index_same))

  new_move : Move b g → Move c (made_ghosts g b.free)
  new_move m =
      record {
        unlisted = new_unlisted m.unlisted;
        mid_is = m.mid_is ∙ ap (λ (k : ℕ). k ∷ []) (sym u.tuple_same);
        low_is = m.low_is ∙ sym u.dest_same;
        base_is = omega (arith, m.base_is, u.src_same, u.entry_size_same);
        downward = omega (arith, m.downward, u.src_same, u.dest_same);
        src_is = subst (λ (k : ℕ). address k c ≡ c.collector.src) (sym u.tuple_same) (u.address_other b.collector.tuple other ∙ m.src_is ∙ sym u.src_same);
        size_is = subst (λ (k : ℕ). size_of k c ≡ c.collector.size) (sym u.tuple_same) (u.size_other b.collector.tuple other ∙ m.size_is ∙ sym u.entry_size_same);
        control = subst (λ (k : ℕ). Control (word k 0 c) k) (sym u.tuple_same) (subst (λ (z : Word). Control z b.collector.tuple) (sym (new_word_same b.collector.tuple (moving inside) 0 (omega arith))) m.control);
      }
    where
      inside : Member b.collector.tuple g.plan.mid
      inside = subst (λ (ks : List ℕ). Member b.collector.tuple ks) (sym m.mid_is) (inl refl)

      other : b.collector.tuple ≢ b.free
      other = mid_differs b.collector.tuple inside

  new_stage : Stage b g → Stage c (made_ghosts g b.free)
  new_stage (at_rest e x y z) = at_rest (u.phase_same ∙ e) (new_unswept x) (new_unlisted y) unmarked
    where
      unmarked : (h : ℕ) → Member h (g.plan.ahead ++ (b.free ∷ [])) → marked h c ≡ false
      unmarked h m = cases (last_member h b.free g.plan.ahead m)
        where
          cases : Member h g.plan.ahead ⊎ (h ≡ b.free) → marked h c ≡ false
          cases (inl a) = u.mark_other h (ahead_differs h a) ∙ z h a
          cases (inr f) = ap (λ (k : ℕ). marked k c) f ∙ u.mark_new ∙ collecting_rest b e
  new_stage (finding e x y z) = finding (u.phase_same ∙ e) (new_unswept x) y z
  new_stage (scanning e x s y z) = scanning (u.phase_same ∙ e) (new_unswept x) s (new_scan s y) before
    where
      before : (k : ℕ) → k + 1 < c.collector.index → names_tuple (word s (k + 1) c) ≡ true → marked (handle_of (word s (k + 1) c)) c ≡ true
      before k m o =
          let q : word s (k + 1) c ≡ word s (k + 1) b = new_scanned (omega arith) s y k m in
          mark_stays (handle_of (word s (k + 1) c)) (subst (λ (w : Word). marked (handle_of w) b ≡ true) (sym q) (z k (omega (arith, u.index_same)) (subst (λ (w : Word). names_tuple w ≡ true) q o)))
  new_stage (adding e x s y m z) = adding (u.phase_same ∙ e) (new_unswept x) s (new_scan s y) (subst (λ (k : ℕ). Member k (g.plan.ahead ++ (b.free ∷ []))) (sym u.tuple_same) (member_left b.collector.tuple g.plan.ahead (b.free ∷ []) m)) before
    where
      as_before : (w : Word) → (marked (handle_of w) b ≡ true) ⊎ (handle_of w ≡ b.collector.tuple) → (marked (handle_of w) c ≡ true) ⊎ (handle_of w ≡ c.collector.tuple)
      as_before w (inl q) = inl (mark_stays (handle_of w) q)
      as_before w (inr q) = inr (q ∙ sym u.tuple_same)

      before : (k : ℕ) → k + 1 < c.collector.index → names_tuple (word s (k + 1) c) ≡ true
          → (marked (handle_of (word s (k + 1) c)) c ≡ true) ⊎ (handle_of (word s (k + 1) c) ≡ c.collector.tuple)
      before k n o =
          let q : word s (k + 1) c ≡ word s (k + 1) b = new_scanned (omega arith) s y k n in
          as_before (word s (k + 1) c) (subst (λ (w : Word). (marked (handle_of w) b ≡ true) ⊎ (handle_of w ≡ b.collector.tuple)) (sym q) (z k (omega (arith, u.index_same)) (subst (λ (w : Word). names_tuple w ≡ true) q o)))
  new_stage (sweeping e x m o a z hs y) =
      sweeping (u.phase_same ∙ e) (new_unlisted x) m (o ∙ sym u.dest_same) (a ∙ sym u.src_same) (z ∙ sym u.src_same) (hs ++ (b.free ∷ []))
      (ap (λ (ks : List ℕ). ks ++ (b.free ∷ [])) (y ∙ ap (λ (k : ℕ). k ∷ hs) (sym u.tuple_same)))
  new_stage (reading e m o z) = reading (u.phase_same ∙ e) (new_move m) (omega (arith, u.index_same, u.entry_size_same)) (omega (arith, u.index_same, u.src_same))
  new_stage (clearing e m o z) = clearing (u.phase_same ∙ e) (new_move m) (omega (arith, u.index_same, u.entry_size_same)) (omega (arith, u.index_same, u.src_same))
  new_stage (writing e m o z) = writing (u.phase_same ∙ e) (new_move m) (omega (arith, u.index_same, u.entry_size_same)) (omega (arith, u.index_same, u.src_same))
  new_stage (zeroing e x m o a f i z) =
      zeroing (u.phase_same ∙ e) (new_unlisted x) m (o ∙ sym u.dest_same) (omega (arith, u.src_same, u.entry_size_same)) (omega (arith, u.src_same, u.dest_same)) (omega (arith, u.index_same, u.entry_size_same)) (omega (arith, u.index_same, u.src_same))

  new_inv : Inv c (made_ghosts g b.free)
  new_inv =
      record {
        shape = u.shape;
        handles = new_handles;
        layout = new_layout;
        contents = new_contents;
        zero_words = new_zero;
        marks = new_marks;
        stage = new_stage v.stage;
      }

  new_made : Made b g.plan c (made_plan g.plan b.free) r n tag
  new_made =
      record {
        kept_to = new_kept_to;
        was_free = λ k. kept_differs b.free k refl;
        handle_not_nil = d;
        handle_below = (free_bounds b g v d).1;
        h_same = u.h_same;
        made_size = u.size_new;
        made_tag = ap (λ (w : Word). tag_of w) new_control ∙ control_tag b.free tag t;
        made_words = λ k x. new_data k;
        register_made = u.register_new;
        made_handle = ap (λ (w : Word). handle_of w) u.register_new ∙ control_handle b.free 0 (omega arith);
        registers_same = u.register_other;
        sizes_same = λ h k. u.size_other h (kept_differs h k);
        words_same = new_word_same;
      }

-- ---- GETM carried out, and a grant

pub invariant_new_tuple : (b : Box) (g : Ghosts) → Inv b g → (r n tag : ℕ) → r < register_count → b.free ≢ 0
    → b.top + n + 1 ≤ b.m → In16 tag → Inv (new_tuple r n tag b) (made_ghosts g b.free)
invariant_new_tuple b g v r n tag l d f t = new_inv b g (new_tuple r n tag b) r n tag v d f t (new_box b v.shape r n tag l (free_bounds b g v d).1 f)

pub new_tuple_made : (b : Box) (g : Ghosts) → Inv b g → (r n tag : ℕ) → r < register_count → b.free ≢ 0
    → b.top + n + 1 ≤ b.m → In16 tag → Made b g.plan (new_tuple r n tag b) (made_plan g.plan b.free) r n tag
new_tuple_made b g v r n tag l d f t = new_made b g (new_tuple r n tag b) r n tag v d f t (new_box b v.shape r n tag l (free_bounds b g v d).1 f)
