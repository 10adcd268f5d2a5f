-- The directory at rest, counted in the history machine: the tuples in it are those whose number their handle has; top is the room
-- that they take; every other tuple made is gone. So the sum in Rest, and whether a held request fits. Assumes nothing.
use Prim.Native.Nat.{ℕ, suc, ◌+◌, ◌≤◌, ◌<◌}
use mathlib.Core.List.{List, [], ◌∷◌, ◌++◌}
use mathlib.Core.Logic.{◌≢◌, ◌⊎◌, inl, inr}
use mathlib.Core.Path.{◌≡◌, refl, sym, ◌∙◌, ap, ap₂, subst}
use native.Mathlib.Omega.{arith}
use lib.ListN.{length, length-append}
use Rattle.rules.specs.Parts.{Box}
use Rattle.rules.specs.Box.{size_of}
use Rattle.history.specs.Machine.{History, size_at, made}
use Rattle.history.specs.Agreement.{Reachable, handle_at, Listed, Gone, in_free_list, given_later, Member, Distinct, Lists, room, Fits}
use Rattle.history.specs.Calls.{World}
use Rattle.history.specs.Demand3.{IsNumber, RestSum}
use Rattle.history.proofs.Invariant.Statement.{Ghosts, Inv, Kept, settled, moving, unswept, surviving, rooms, Unswept}
use Rattle.history.proofs.Lists.Handles.{Parts, parts, Among, among, among_done, among_mid, among_ahead, among_free, among_member}
use Rattle.history.proofs.Lists.Chain.{Headed, no_head, head_first, chain_headed, chain_empty}
use Rattle.history.proofs.Lists.Laid.{laid_rooms}
use Rattle.history.proofs.Lists.Numbers.{minus, Sublist, minus_distinct, minus_member, minus_out, minus_in, minus_room, sublist_room, sublist_length, upto, upto_bounds, upto_member, upto_distinct}
use Rattle.history.proofs.Relation.Statement.{Holds, Related, Keeps, reached}
use Rattle.history.proofs.Spared.Tracked.{free_listed, listed_free}
use Rattle.history.proofs.Invariant.Stages.{kept_ahead, unswept_of}

-- ---- the numbers of a list of handles

unfoldable pub numbers : (ℕ → ℕ) → List ℕ → List ℕ
numbers f [] = []
numbers f (h ∷ hs) = f h ∷ numbers f hs

pub numbers_in : (f : ℕ → ℕ) (hs : List ℕ) (h : ℕ) → Member h hs → Member (f h) (numbers f hs)
unfolding numbers
numbers_in f [] h m = elim m [ ]
numbers_in f (x ∷ hs) h (inl e) = inl (ap f e)
numbers_in f (x ∷ hs) h (inr m) = inr (numbers_in f hs h m)

-- the handle that has a number of the list
pub numbers_of : (f : ℕ → ℕ) (hs : List ℕ) (i : ℕ) → Member i (numbers f hs) → (h : ℕ) × Member h hs × (f h ≡ i)
unfolding numbers
numbers_of f [] i m = elim m [ ]
numbers_of f (x ∷ hs) i (inl e) = (x, inl refl, sym e)
numbers_of f (x ∷ hs) i (inr m) = let r = numbers_of f hs i m in (r.0, inr r.1, r.2)

-- handles can be told from their numbers
pub numbers_distinct : (f back : ℕ → ℕ) (hs : List ℕ) → ((h : ℕ) → Member h hs → back (f h) ≡ h) → Distinct hs → Distinct (numbers f hs)
unfolding numbers
numbers_distinct f back [] e d = tt
numbers_distinct f back (x ∷ hs) e d = (
  λ m. let r = numbers_of f hs (f x) m in d.0 (subst (λ (y : ℕ). Member y hs) (sym (e r.0 (inr r.1)) ∙ ap back r.2 ∙ e x (inl refl)) r.1),
  numbers_distinct f back hs (λ h m. e h (inr m)) d.1,
)

pub numbers_length : (f : ℕ → ℕ) (hs : List ℕ) → length (numbers f hs) ≡ length hs
unfolding numbers
numbers_length f [] = refl
numbers_length f (x ∷ hs) = ap suc (numbers_length f hs)

pub numbers_room : (f : ℕ → ℕ) (b : Box) (m : History) (hs : List ℕ) → ((h : ℕ) → Member h hs → size_of h b ≡ size_at (f h) m) → room (numbers f hs) m ≡ rooms b hs
unfolding numbers room rooms
numbers_room f b m [] e = refl
numbers_room f b m (x ∷ hs) e =
    let q : size_of x b ≡ size_at (f x) m = e x (inl refl) in
    let r : room (numbers f hs) m ≡ rooms b hs = numbers_room f b m hs (λ h y. e h (inr y)) in
    omega arith

-- ---- in any phase, what is kept is not gone

kept_not_free : (b : Box) (g : Ghosts) → Inv b g → (h : ℕ) → Kept b g.plan h → ¬ Member h g.free
kept_not_free b g v h = go
  where
    split : Parts g.plan.done g.plan.mid g.plan.ahead g.free
    split = parts g.plan.done g.plan.mid g.plan.ahead g.free v.handles.distinct

    go : Kept b g.plan h → ¬ Member h g.free
    go (settled x) = split.done_free h x
    go (moving x) = split.mid_free h x
    go (unswept x l) = split.ahead_free h x
    go (surviving x l) = split.ahead_free h x

module _ (b : Box) (g : Ghosts) (m : History) (given : List ℕ) (number : ℕ → ℕ) (v : Inv b g) (s : Related b g.plan m given number) where
  -- a kept handle is not free, and its number is the last tuple that it was given to
  pub kept_not_gone : (h : ℕ) → Kept b g.plan h → ¬ Gone b given (number h)
  kept_not_gone h k = go
    where
      o : Holds b m given number h
      o = s.kept_hold h k

      go : ¬ Gone b given (number h)
      go (in_free_list l) = kept_not_free b g v h k (listed_free b g v h (subst (λ (y : ℕ). Listed b y b.free) o.handle_given l))
      go (given_later j l u q) =
          let a : length given ≡ made m = s.all_given in
          let n : 1 ≤ number h = o.number_made.0 in
          let w : j ≤ number (handle_at j given) = s.number_latest j (omega arith) (omega arith) in
          let z : number (handle_at j given) ≡ number h = ap number (q ∙ o.handle_given) in
          omega arith

  pub reachable_not_gone : (i : ℕ) → Reachable m i → ¬ Gone b given i
  reachable_not_gone i x =
      let k : Keeps b g.plan number i = reached b g.plan m given number s v.contents i x in
      subst (λ (y : ℕ). ¬ Gone b given y) k.numbered (kept_not_gone k.handle k.kept)

-- ---- the directory at rest

-- what the invariant says at rest: every tuple lies ahead, from word 0 to top
pub record Directory (b : Box) (g : Ghosts) : Type 0 where
  pub no_done : g.plan.done ≡ []
  pub no_mid : g.plan.mid ≡ []
  pub top_is : rooms b g.plan.ahead ≡ b.top
  pub resting : b.collector.phase ≡ 0

pub directory : (b : Box) (g : Ghosts) → Inv b g → b.collector.phase ≡ 0 → Directory b g
directory b g v e =
    let u : Unswept g = unswept_of b g v.stage (omega arith) in
    let z : g.plan.base ≡ 0 = u.base_zero in
    let q : g.plan.base + rooms b g.plan.ahead ≡ b.top = laid_rooms b g.plan.base g.plan.ahead b.top v.layout.ahead_laid in
    record { no_done = u.no_done; no_mid = u.no_mid; top_is = omega arith; resting = e }

module _ (b : Box) (g : Ghosts) (m : History) (given : List ℕ) (number : ℕ → ℕ) (v : Inv b g) (s : Related b g.plan m given number) (e : b.collector.phase ≡ 0) where
  there : Directory b g
  there = directory b g v e

  split : Parts g.plan.done g.plan.mid g.plan.ahead g.free
  split = parts g.plan.done g.plan.mid g.plan.ahead g.free v.handles.distinct

  holds : (h : ℕ) → Member h g.plan.ahead → Holds b m given number h
  holds h x = s.kept_hold h (unswept x (omega arith))

  -- the numbers of the tuples in the directory
  unfoldable pub alive : List ℕ
  alive = numbers number g.plan.ahead

  alive_distinct : Distinct alive
  unfolding alive
  alive_distinct = numbers_distinct number (λ i. handle_at i given) g.plan.ahead (λ h x. (holds h x).handle_given) split.ahead_distinct

  alive_room : room alive m ≡ b.top
  unfolding alive
  alive_room = numbers_room number b m g.plan.ahead (λ h x. (holds h x).size_same) ∙ there.top_is

  alive_made : (i : ℕ) → Member i alive → IsNumber i m
  unfolding alive
  alive_made i x = let r = numbers_of number g.plan.ahead i x in subst (λ (y : ℕ). IsNumber y m) r.2 (holds r.0 r.1).number_made

  -- ---- the sum

  -- a tuple that is not in the directory is gone
  not_alive_gone : (i : ℕ) → IsNumber i m → ¬ Member i alive → Gone b given i
  unfolding alive
  not_alive_gone i l n = go (among h g.plan.done g.plan.mid g.plan.ahead g.free (v.handles.every h entry.0 entry.1))
    where
      h : ℕ
      h = handle_at i given

      entry : (1 ≤ h) × (h < b.h)
      entry = s.given_entry i l.0 l.1

      replaced : Member h g.plan.ahead → Gone b given i
      replaced x =
          let d : number h ≢ i = λ q. n (subst (λ (y : ℕ). Member y (numbers number g.plan.ahead)) q (numbers_in number g.plan.ahead h x)) in
          let w : i ≤ number h = s.number_latest i l.0 l.1 in
          let z : number h ≤ made m = (holds h x).number_made.1 in
          let a : length given ≡ made m = s.all_given in
          given_later (number h) (omega arith) (omega arith) (holds h x).handle_given

      go : Among h g.plan.done g.plan.mid g.plan.ahead g.free → Gone b given i
      go (among_done x) = absurd (subst (λ (y : List ℕ). Member h y) there.no_done x)
      go (among_mid x) = absurd (subst (λ (y : List ℕ). Member h y) there.no_mid x)
      go (among_ahead x) = replaced x
      go (among_free x) = in_free_list (free_listed b g v h x)

  -- and one that is in it is not
  alive_not_gone : (i : ℕ) → Member i alive → ¬ Gone b given i
  unfolding alive
  alive_not_gone i x =
      let r = numbers_of number g.plan.ahead i x in
      subst (λ (y : ℕ). ¬ Gone b given y) r.2 (kept_not_gone b g m given number v s r.0 (unswept r.1 (omega arith)))

  -- the tuples made and no longer in the directory
  unfoldable pub dead : List ℕ
  dead = minus (upto (made m)) alive

  alive_within : Sublist alive (upto (made m))
  alive_within i x = let l : IsNumber i m = alive_made i x in upto_member (made m) i l.0 l.1

  pub all_made_lists : Lists (λ i. IsNumber i m) (upto (made m))
  all_made_lists = record { distinct = upto_distinct (made m); sound = upto_bounds (made m); complete = λ i l. upto_member (made m) i l.0 l.1 }

  pub dead_lists : Lists (λ i. IsNumber i m × Gone b given i) dead
  unfolding dead
  dead_lists =
      record {
        distinct = minus_distinct (upto (made m)) alive (upto_distinct (made m));
        sound = λ i x. let l : IsNumber i m = upto_bounds (made m) i (minus_member (upto (made m)) alive i x) in (l, not_alive_gone i l (minus_out (upto (made m)) alive i (upto_distinct (made m)) x));
        complete = λ i y. minus_in (upto (made m)) alive i (upto_member (made m) i y.0.0 y.0.1) (λ x. alive_not_gone i x y.1);
      }

  pub top_sum : b.top + room dead m ≡ room (upto (made m)) m
  unfolding dead
  top_sum =
      let e : room (upto (made m)) m ≡ room alive m + room (minus (upto (made m)) alive) m = minus_room (upto (made m)) alive m alive_distinct alive_within in
      let q : room alive m ≡ b.top = alive_room in
      omega arith

  -- ---- the hold

  -- handles in use and handles free
  free_count : suc (length g.plan.ahead + length g.free) ≡ b.h
  free_count =
      ap suc (sym (length-append g.plan.ahead g.free))
      ∙ ap suc (ap length (ap₂ (λ (x y : List ℕ). x ++ (y ++ (g.plan.ahead ++ g.free))) (sym there.no_done) (sym there.no_mid)))
      ∙ v.handles.count

  -- the free list is empty exactly where its head is 0
  free_some : b.free ≢ 0 → 1 ≤ length g.free
  free_some f = go (chain_headed b.directory.links b.free g.free v.handles.free_chain)
    where
      go : Headed b.directory.links b.free g.free → 1 ≤ length g.free
      go (no_head z q) = absurd (f z)
      go (head_first tl q c) = rw q (omega arith)

  free_none : b.free ≡ 0 → length g.free ≡ 0
  free_none z = ap length (chain_empty b.directory.links b.free g.free v.handles.free_chain (λ h x. (v.handles.entries h (among_member h g.plan.done g.plan.mid g.plan.ahead g.free (among_free x))).0) z)

  -- the reachable tuples are in the directory
  reachable_alive : (i : ℕ) → Reachable m i → Member i alive
  unfolding alive
  reachable_alive i x =
      let k : Keeps b g.plan number i = reached b g.plan m given number s v.contents i x in
      subst (λ (y : ℕ). Member y (numbers number g.plan.ahead)) k.numbered (numbers_in number g.plan.ahead k.handle (kept_ahead b g k.handle (unswept_of b g v.stage (omega arith)) k.kept))

  -- a list of reachable tuples takes no more than the directory does, in words and in handles
  pub fits_if_room : (is : List ℕ) → Lists (Reachable m) is → (n : ℕ) → b.free ≢ 0 → b.top + n + 1 ≤ b.m → Fits b.m b.h is n m
  unfolding alive
  fits_if_room is l n f t =
      let w : Sublist is (numbers number g.plan.ahead) = λ i x. reachable_alive i (l.sound i x) in
      let r : room is m ≤ room (numbers number g.plan.ahead) m = sublist_room (numbers number g.plan.ahead) is m l.distinct w in
      let k : length is ≤ length (numbers number g.plan.ahead) = sublist_length (numbers number g.plan.ahead) is l.distinct w in
      let e₁ : room (numbers number g.plan.ahead) m ≡ b.top = alive_room in
      let e₂ : length (numbers number g.plan.ahead) ≡ length g.plan.ahead = numbers_length number g.plan.ahead in
      let c : suc (length g.plan.ahead + length g.free) ≡ b.h = free_count in
      let o : 1 ≤ length g.free = free_some f in
      record { words_fit = omega arith; handles_fit = omega arith }

  -- where the directory has the reachable tuples only, no room means that they don't fit
  pub no_fit : (is : List ℕ) → Lists (Reachable m) is → ((i : ℕ) → Member i alive → Reachable m i) → (n : ℕ)
      → (b.free ≡ 0) ⊎ (b.m < b.top + n + 1) → ¬ Fits b.m b.h is n m
  unfolding alive
  no_fit is l a n r f = go r
    where
      w : Sublist (numbers number g.plan.ahead) is
      w = λ i x. l.complete i (a i x)

      go : (b.free ≡ 0) ⊎ (b.m < b.top + n + 1) → ⊥
      go (inl z) =
          let k : length (numbers number g.plan.ahead) ≤ length is = sublist_length is (numbers number g.plan.ahead) alive_distinct w in
          let e₂ : length (numbers number g.plan.ahead) ≡ length g.plan.ahead = numbers_length number g.plan.ahead in
          let c : suc (length g.plan.ahead + length g.free) ≡ b.h = free_count in
          let o : length g.free ≡ 0 = free_none z in
          omega (arith, f.handles_fit)
      go (inr z) =
          let r : room (numbers number g.plan.ahead) m ≤ room is m = sublist_room is (numbers number g.plan.ahead) m alive_distinct w in
          let e₁ : room (numbers number g.plan.ahead) m ≡ b.top = alive_room in
          omega (arith, f.words_fit)

pub rest_sum : (w : World) (g : Ghosts) (number : ℕ → ℕ) → Inv w.box g → Related w.box g.plan w.history w.log.given number
    → w.box.collector.phase ≡ 0 → RestSum w
rest_sum w g number v s e =
    record {
      all_made = upto (made w.history);
      are_made = all_made_lists w.box g w.history w.log.given number v s e;
      gone = dead w.box g w.history w.log.given number v s e;
      are_gone = dead_lists w.box g w.history w.log.given number v s e;
      top_is = omega (arith, top_sum w.box g w.history w.log.given number v s e);
    }
