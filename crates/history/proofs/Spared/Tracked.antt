-- What was unreachable as a cycle started is gone as it ends. The tuples that the cycle may keep, those reachable as it started
-- and those made since, hold the registers' targets and are closed under pointers, as long as the cycle lasts; what the collector
-- marks, and then keeps, is among them. At its end every tuple of the directory was kept, so any other tuple has its handle in the
-- free list or given to a later one. Assumes nothing.
use Prim.Native.Nat.{ℕ, ◌+◌, ◌≤◌, ◌<◌}
use mathlib.Core.Bool.{true, false, false≢true}
use mathlib.Core.List.{List, [], ◌∷◌}
use mathlib.Core.Logic.{◌≢◌, inl, inr}
use mathlib.Core.Path.{◌≡◌, refl, sym, ◌∙◌, ap, subst}
use native.Mathlib.Omega.{arith}
use lib.ListN.{length, get_or-eq_default}
use Rattle.rules.specs.Limits.{register_count}
use Rattle.rules.specs.Parts.{Word, Box}
use Rattle.rules.specs.Box.{handle_of, names_tuple, register, size_of, link, marked}
use Rattle.history.specs.Machine.{HTuple, HWord, datum, pointer_to, History, register_of, nil_tuple, size_at, word_of, made}
use Rattle.history.specs.Agreement.{Reachable, by_register, by_word, handle_at, Listed, here, later, Gone, in_free_list, given_later, Member}
use Rattle.history.proofs.Invariant.Statement.{Plan, Ghosts, Inv, word, Chain, Kept, settled, moving, unswept, Contents}
use Rattle.history.proofs.Lists.Handles.{Among, among, among_done, among_mid, among_ahead, among_free, among_member}
use Rattle.history.proofs.Relation.Statement.{Match, Holds, Related}
use Rattle.history.proofs.Invariant.Words.{names_flag}

-- the tuples that a cycle may keep: those reachable as it started, and those made since
pub data Spared (started : History) (i : ℕ) : Type 0 where
  reachable_then : Reachable started i → Spared started i
  made_since : made started < i → Spared started i

pub record Tracked (b : Box) (p : Plan) (m : History) (number : ℕ → ℕ) (started : History) : Type 0 where
  pub not_fewer : made started ≤ made m
  pub roots_spared : (r i o : ℕ) → r < register_count → register_of r m ≡ pointer_to i o → i ≢ 0 → Spared started i
  pub words_spared : (i k j o : ℕ) → Spared started i → k < size_at i m → word_of i k m ≡ pointer_to j o → j ≢ 0 → Spared started j
  pub marked_spared : b.collector.phase ≤ 3 → (h : ℕ) → Member h p.ahead → marked h b ≡ true → Spared started (number h)
  -- in phase 3, so is the tuple to be added
  pub adding_spared : b.collector.phase ≡ 3 → Spared started (number b.collector.tuple)
  pub kept_spared : 4 ≤ b.collector.phase → (h : ℕ) → Kept b p h → Spared started (number h)

-- ---- the cycle starts

-- a number that no tuple has is empty
pub size_beyond : (i : ℕ) (m : History) → made m < i → size_at i m ≡ 0
size_beyond i m l = ap (λ (t : HTuple). length t.words) (get_or-eq_default (nil_tuple ∷ m.tuples) nil_tuple {n = i} (omega arith))

-- b is the box after its Rest step: phase 1, and nothing marked
pub tracked_start : (b : Box) (p : Plan) (m : History) (number : ℕ → ℕ) → b.collector.phase ≡ 1
    → ((h : ℕ) → Member h p.ahead → marked h b ≡ false) → Tracked b p m number m
tracked_start b p m number e f =
    record {
      not_fewer = omega arith;
      roots_spared = λ r i o l q z. reachable_then (by_register r i o l q z);
      words_spared = inside;
      marked_spared = λ l h x t. absurd (false≢true (sym (f h x) ∙ t));
      adding_spared = λ q. absurd (omega arith);
      kept_spared = λ l. absurd (omega arith);
    }
  where
    inside : (i k j o : ℕ) → Spared m i → k < size_at i m → word_of i k m ≡ pointer_to j o → j ≢ 0 → Spared m j
    inside i k j o (reachable_then x) l q z = reachable_then (by_word i k j o x l q z)
    inside i k j o (made_since u) l q z =
        let v : size_at i m ≡ 0 = size_beyond i m u in
        absurd (omega arith)

-- ---- the collector goes on: the history machine stays, and what is newly marked or kept is spared

pub tracked_on : (b c : Box) (p q : Plan) (m : History) (number : ℕ → ℕ) (started : History) → Tracked b p m number started
    → (c.collector.phase ≤ 3 → (h : ℕ) → Member h q.ahead → marked h c ≡ true → Spared started (number h))
    → (c.collector.phase ≡ 3 → Spared started (number c.collector.tuple))
    → (4 ≤ c.collector.phase → (h : ℕ) → Kept c q h → Spared started (number h))
    → Tracked c q m number started
tracked_on b c p q m number started i x y z =
    record {
      not_fewer = i.not_fewer;
      roots_spared = i.roots_spared;
      words_spared = i.words_spared;
      marked_spared = x;
      adding_spared = y;
      kept_spared = z;
    }

pub match_points : (number : ℕ → ℕ) (w : Word) (v : HWord) → w.flag ≡ true → Match number w v → (o : ℕ) × (v ≡ pointer_to (number (handle_of w)) o)
match_points number w (datum v) f e = absurd (false≢true (sym e.0 ∙ f))
match_points number w (pointer_to i o) f e = (o, ap (λ (x : ℕ). pointer_to x o) (sym e.2))

module _ (b : Box) (p : Plan) (m : History) (given : List ℕ) (number : ℕ → ℕ) (s : Related b p m given number) (i : Contents b p) (started : History) (t : Tracked b p m number started) where
  kept_number : (h : ℕ) → Kept b p h → number h ≢ 0
  kept_number h k e = let l : 1 ≤ number h = (s.kept_hold h k).number_made.0 in omega arith

  -- what a register names is spared
  pub root_spared : (r : ℕ) → r < register_count → names_tuple (register r b) ≡ true → Spared started (number (handle_of (register r b)))
  root_spared r l n =
      let q = match_points number (register r b) (register_of r m) (names_flag (register r b) n) (s.roots_match r l) in
      t.roots_spared r (number (handle_of (register r b))) q.0 l q.1 (kept_number (handle_of (register r b)) (i.roots_kept r l n))

  -- and so is what a word of a spared tuple names
  pub word_spared : (h : ℕ) → Kept b p h → Spared started (number h) → (k : ℕ) → k < size_of h b → names_tuple (word h (k + 1) b) ≡ true
      → Spared started (number (handle_of (word h (k + 1) b)))
  word_spared h x u k l n =
      let y : Holds b m given number h = s.kept_hold h x in
      let q = match_points number (word h (k + 1) b) (word_of (number h) k m) (names_flag (word h (k + 1) b) n) (y.words_match k l) in
      t.words_spared (number h) k (number (handle_of (word h (k + 1) b))) q.0 u (subst (λ (z : ℕ). k < z) y.size_same l) q.1 (kept_number (handle_of (word h (k + 1) b)) (i.words_kept h x k l n).0)

-- ---- the cycle's end

-- the members of a chain are listed along the links
pub chain_listed : (b : Box) (head : ℕ) (hs : List ℕ) (x : ℕ) → Chain b.directory.links head hs → ((h : ℕ) → Member h hs → 1 ≤ h) → Member x hs → Listed b x head
chain_listed b head [] x c f m = elim m [ ]
chain_listed b head (h ∷ hs) x c f (inl e) = subst (λ (y : ℕ). Listed b x y) (e ∙ sym c.0) (here (let l : 1 ≤ h = f h (inl refl) in omega arith))
chain_listed b head (h ∷ hs) x c f (inr m) = subst (λ (y : ℕ). Listed b x y) (sym c.0) (later h (let l : 1 ≤ h = f h (inl refl) in omega arith) (chain_listed b (link h b) hs x c.1 (λ y z. f y (inr z)) m))

-- so are the handles of the free list
pub free_listed : (b : Box) (g : Ghosts) → Inv b g → (x : ℕ) → Member x g.free → Listed b x b.free
free_listed b g v x m = chain_listed b b.free g.free x v.handles.free_chain (λ y z. (v.handles.entries y (among_member y g.plan.done g.plan.mid g.plan.ahead g.free (among_free z))).0) m

-- and what is listed is a member
listed_chain : (b : Box) (head : ℕ) (hs : List ℕ) (x : ℕ) → Listed b x head → Chain b.directory.links head hs → Member x hs
listed_chain b head [] x (here n) c = absurd (n c)
listed_chain b head (h ∷ hs) x (here n) c = inl c.0
listed_chain b head [] x (later y n l) c = absurd (n c)
listed_chain b head (h ∷ hs) x (later y n l) c = inr (listed_chain b (link h b) hs x (subst (λ (z : ℕ). Listed b x (link z b)) c.0 l) c.1)

pub listed_free : (b : Box) (g : Ghosts) → Inv b g → (x : ℕ) → Listed b x b.free → Member x g.free
listed_free b g v x l = listed_chain b b.free g.free x l v.handles.free_chain

-- a tuple made before the cycle started that was unreachable then is not spared
not_spared : (started : History) (i j : ℕ) → i ≤ made started → ¬ Reachable started i → Spared started j → j ≢ i
not_spared started i j l n (reachable_then x) e = n (subst (λ (y : ℕ). Reachable started y) e x)
not_spared started i j l n (made_since u) e = omega arith

-- at rest, with all that is kept spared, it is gone
pub gone_at_rest : (b : Box) (g : Ghosts) (m : History) (given : List ℕ) (number : ℕ → ℕ) (started : History) → Inv b g
    → Related b g.plan m given number → b.collector.phase ≡ 0 → made started ≤ made m
    → ((h : ℕ) → Kept b g.plan h → Spared started (number h))
    → (i : ℕ) → 1 ≤ i → i ≤ made started → ¬ Reachable started i → Gone b given i
gone_at_rest b g m given number started v s e u f i l r n =
    go (among h g.plan.done g.plan.mid g.plan.ahead g.free (v.handles.every h entry.0 entry.1))
  where
    h : ℕ
    h = handle_at i given

    known : i ≤ made m
    known = omega arith

    entry : (1 ≤ h) × (h < b.h)
    entry = s.given_entry i l known

    replaced : Kept b g.plan h → Gone b given i
    replaced k =
        let d : number h ≢ i = not_spared started i (number h) r n (f h k) in
        let w : i ≤ number h = s.number_latest i l known in
        let y : Holds b m given number h = s.kept_hold h k in
        let z : number h ≤ made m = y.number_made.1 in
        let a : length given ≡ made m = s.all_given in
        given_later (number h) (omega arith) (omega arith) y.handle_given

    go : Among h g.plan.done g.plan.mid g.plan.ahead g.free → Gone b given i
    go (among_done x) = replaced (settled x)
    go (among_mid x) = replaced (moving x)
    go (among_ahead x) = replaced (unswept x (omega arith))
    go (among_free x) = in_free_list (free_listed b g v h x)
