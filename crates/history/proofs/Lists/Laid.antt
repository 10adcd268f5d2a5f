-- Tuples that lie end to end, and the words they take: where each lies, that no two meet, what keeps the layout, and the sums of
-- sizes over a list of handles. Each by induction on the list. Assumes nothing.
use Prim.Native.Nat.{ℕ, ◌+◌, ◌≤◌, ◌<◌}
use mathlib.Core.Bool.{Bool, true, false, cond}
use mathlib.Core.List.{List, [], ◌∷◌, ◌++◌}
use mathlib.Core.Logic.{◌≢◌, ◌⊎◌, inl, inr}
use mathlib.Core.Path.{◌≡◌, refl, sym, ap, ◌∙◌, subst}
use native.Mathlib.Omega.{arith}
use Rattle.rules.specs.Parts.{Word, Box}
use Rattle.rules.specs.Box.{handle_of, word_at, address, size_of, marked}
use Rattle.history.specs.Agreement.{Member, Distinct}
use Rattle.history.proofs.Invariant.Statement.{Control, Laid, rooms, marked_rooms}
use Rattle.history.proofs.Lists.Handles.{member_differs}

-- ---- the ends

pub laid_le : (b : Box) (a : ℕ) (hs : List ℕ) (e : ℕ) → Laid b a hs e → a ≤ e
laid_le b a [] e l = omega arith
laid_le b a (h ∷ hs) e l = omega (arith, laid_le b (a + size_of h b + 1) hs e l.2)

pub laid_rooms : (b : Box) (a : ℕ) (hs : List ℕ) (e : ℕ) → Laid b a hs e → a + rooms b hs ≡ e
unfolding rooms
laid_rooms b a [] e l = omega arith
laid_rooms b a (h ∷ hs) e l = omega (arith, laid_rooms b (a + size_of h b + 1) hs e l.2)

pub laid_from : (b : Box) (a a' : ℕ) (hs : List ℕ) (e : ℕ) → a ≡ a' → Laid b a hs e → Laid b a' hs e
laid_from b a a' hs e p l = subst (λ (n : ℕ). Laid b n hs e) p l

pub laid_to : (b : Box) (a : ℕ) (hs : List ℕ) (e e' : ℕ) → e ≡ e' → Laid b a hs e → Laid b a hs e'
laid_to b a hs e e' p l = subst (λ (n : ℕ). Laid b a hs n) p l

-- ---- the members

pub laid_bounds : (b : Box) (a : ℕ) (hs : List ℕ) (e : ℕ) → Laid b a hs e → (h : ℕ) → Member h hs → (a ≤ address h b) × (address h b + size_of h b + 1 ≤ e)
laid_bounds b a [] e l h m = absurd m
laid_bounds b a (k ∷ hs) e l h (inl p) = subst (λ (n : ℕ). (a ≤ address n b) × (address n b + size_of n b + 1 ≤ e)) (sym p) (first, last)
  where
    first : a ≤ address k b
    first = omega (arith, l.0)

    last : address k b + size_of k b + 1 ≤ e
    last = omega (arith, l.0, laid_le b (a + size_of k b + 1) hs e l.2)
laid_bounds b a (k ∷ hs) e l h (inr m) = wider (laid_bounds b (a + size_of k b + 1) hs e l.2 h m)
  where
    wider : (a + size_of k b + 1 ≤ address h b) × (address h b + size_of h b + 1 ≤ e) → (a ≤ address h b) × (address h b + size_of h b + 1 ≤ e)
    wider w = (omega (arith, w.0), w.1)

-- no two meet
pub laid_apart : (b : Box) (a : ℕ) (hs : List ℕ) (e : ℕ) → Laid b a hs e → (h k : ℕ) → Member h hs → Member k hs → h ≢ k
    → (address h b + size_of h b + 1 ≤ address k b) ⊎ (address k b + size_of k b + 1 ≤ address h b)
laid_apart b a [] e l h k m n f = absurd m
laid_apart b a (x ∷ hs) e l h k (inl p) (inl q) f = absurd (f (p ∙ sym q))
laid_apart b a (x ∷ hs) e l h k (inl p) (inr n) f = inl (subst (λ (z : ℕ). address z b + size_of z b + 1 ≤ address k b) (sym p) below)
  where
    below : address x b + size_of x b + 1 ≤ address k b
    below = omega (arith, l.0, (laid_bounds b (a + size_of x b + 1) hs e l.2 k n).0)
laid_apart b a (x ∷ hs) e l h k (inr m) (inl q) f = inr (subst (λ (z : ℕ). address z b + size_of z b + 1 ≤ address h b) (sym q) below)
  where
    below : address x b + size_of x b + 1 ≤ address h b
    below = omega (arith, l.0, (laid_bounds b (a + size_of x b + 1) hs e l.2 h m).0)
laid_apart b a (x ∷ hs) e l h k (inr m) (inr n) f = laid_apart b (a + size_of x b + 1) hs e l.2 h k m n f

-- ---- what keeps the layout: the members' addresses, sizes and control words

pub laid_frame : (b c : Box) (a : ℕ) (hs : List ℕ) (e : ℕ) → ((h : ℕ) → Member h hs → address h c ≡ address h b) → ((h : ℕ) → Member h hs → size_of h c ≡ size_of h b)
    → ((h : ℕ) → Member h hs → word_at (address h b) c ≡ word_at (address h b) b) → Laid b a hs e → Laid c a hs e
laid_frame b c a [] e addresses sizes controls l = l
laid_frame b c a (h ∷ hs) e addresses sizes controls l =
    let w : word_at a c ≡ word_at a b = subst (λ (n : ℕ). word_at n c ≡ word_at n b) l.0 (controls h (inl refl)) in (
      addresses h (inl refl) ∙ l.0,
      subst (λ (v : Word). Control v h) (sym w) l.1,
      subst (λ (n : ℕ). Laid c (a + n + 1) hs e) (sym (sizes h (inl refl)))
          (laid_frame b c (a + size_of h b + 1) hs e (λ k m. addresses k (inr m)) (λ k m. sizes k (inr m)) (λ k m. controls k (inr m)) l.2),
    )

-- the same, from all words between the ends
pub laid_words : (b c : Box) (a : ℕ) (hs : List ℕ) (e : ℕ) → ((h : ℕ) → Member h hs → address h c ≡ address h b) → ((h : ℕ) → Member h hs → size_of h c ≡ size_of h b)
    → ((x : ℕ) → a ≤ x → x < e → word_at x c ≡ word_at x b) → Laid b a hs e → Laid c a hs e
laid_words b c a hs e addresses sizes words l = laid_frame b c a hs e addresses sizes control l
  where
    control : (h : ℕ) → Member h hs → word_at (address h b) c ≡ word_at (address h b) b
    control h m = let bounds : (a ≤ address h b) × (address h b + size_of h b + 1 ≤ e) = laid_bounds b a hs e l h m in words (address h b) bounds.0 (omega arith)

-- ---- parts of a layout

pub laid_join : (b : Box) (a : ℕ) (xs : List ℕ) (m : ℕ) (ys : List ℕ) (e : ℕ) → Laid b a xs m → Laid b m ys e → Laid b a (xs ++ ys) e
laid_join b a [] m ys e l k = laid_from b m a ys e (sym l) k
laid_join b a (x ∷ xs) m ys e l k = (l.0, l.1, laid_join b (a + size_of x b + 1) xs m ys e l.2 k)

-- one more tuple at the end
pub laid_snoc : (b : Box) (a : ℕ) (hs : List ℕ) (e h : ℕ) → Laid b a hs e → address h b ≡ e → Control (word_at e b) h → Laid b a (hs ++ (h ∷ [])) (e + size_of h b + 1)
laid_snoc b a hs e h l p w = laid_join b a hs e (h ∷ []) (e + size_of h b + 1) l (p, w, refl)

pub laid_none : (b : Box) (a : ℕ) (hs : List ℕ) (e : ℕ) → Laid b a hs e → a ≡ e → hs ≡ []
laid_none b a [] e l p = refl
laid_none b a (h ∷ hs) e l p = absurd (past (laid_le b (a + size_of h b + 1) hs e l.2))
  where
    past : a + size_of h b + 1 ≤ e → ⊥
    past q = omega arith

-- the first tuple of a layout, named by the word at its beginning
pub record Front (b : Box) (a : ℕ) (hs : List ℕ) (e : ℕ) : Type 0 where
  pub first : ℕ
  pub rest : List ℕ
  pub is_cons : hs ≡ first ∷ rest
  pub named : first ≡ handle_of (word_at a b)
  pub first_address : address first b ≡ a
  pub first_control : Control (word_at a b) first
  pub rest_laid : Laid b (a + size_of first b + 1) rest e

pub laid_front : (b : Box) (a : ℕ) (hs : List ℕ) (e : ℕ) → Laid b a hs e → a ≢ e → Front b a hs e
laid_front b a [] e l f = absurd (f l)
laid_front b a (h ∷ hs) e l f = record { first = h; rest = hs; is_cons = refl; named = sym l.1.1; first_address = l.0; first_control = l.1; rest_laid = l.2 }

-- ---- sums of sizes

pub rooms_frame : (b c : Box) (hs : List ℕ) → ((h : ℕ) → Member h hs → size_of h c ≡ size_of h b) → rooms c hs ≡ rooms b hs
unfolding rooms
rooms_frame b c [] sizes = refl
rooms_frame b c (h ∷ hs) sizes = omega (arith, sizes h (inl refl), rooms_frame b c hs (λ k m. sizes k (inr m)))

-- a list of one
pub rooms_one : (b : Box) (h : ℕ) → rooms b (h ∷ []) ≡ size_of h b + 1
unfolding rooms
rooms_one b h = omega arith

-- ---- sums of sizes over the marked

share_le : (t : Bool) (n : ℕ) → cond t n 0 ≤ n
share_le true n = omega arith
share_le false n = omega arith

share_true : (t : Bool) (n : ℕ) → t ≡ true → cond t n 0 ≡ n
share_true t n e = ap (λ (s : Bool). cond s n 0) e

share_false : (t : Bool) (n : ℕ) → t ≡ false → cond t n 0 ≡ 0
share_false t n e = ap (λ (s : Bool). cond s n 0) e

share_same : (s t : Bool) (m n : ℕ) → s ≡ t → m ≡ n → cond s (m + 1) 0 ≡ cond t (n + 1) 0
share_same s t m n p q = λ i. cond (p i) (q i + 1) 0

pub marked_rooms_marked : (b : Box) (h : ℕ) (hs : List ℕ) → marked h b ≡ true → marked_rooms b (h ∷ hs) ≡ size_of h b + 1 + marked_rooms b hs
unfolding marked_rooms
marked_rooms_marked b h hs e = omega (arith, share_true (marked h b) (size_of h b + 1) e)

pub marked_rooms_unmarked : (b : Box) (h : ℕ) (hs : List ℕ) → marked h b ≡ false → marked_rooms b (h ∷ hs) ≡ marked_rooms b hs
unfolding marked_rooms
marked_rooms_unmarked b h hs e = omega (arith, share_false (marked h b) (size_of h b + 1) e)

pub marked_rooms_append : (b : Box) (xs ys : List ℕ) → marked_rooms b (xs ++ ys) ≡ marked_rooms b xs + marked_rooms b ys
unfolding marked_rooms
marked_rooms_append b [] ys = omega arith
marked_rooms_append b (x ∷ xs) ys = omega (arith, marked_rooms_append b xs ys)

pub marked_rooms_frame : (b c : Box) (hs : List ℕ) → ((h : ℕ) → Member h hs → size_of h c ≡ size_of h b) → ((h : ℕ) → Member h hs → marked h c ≡ marked h b)
    → marked_rooms c hs ≡ marked_rooms b hs
unfolding marked_rooms
marked_rooms_frame b c [] sizes marks = refl
marked_rooms_frame b c (h ∷ hs) sizes marks =
    omega (
      arith,
      share_same (marked h c) (marked h b) (size_of h c) (size_of h b) (marks h (inl refl)) (sizes h (inl refl)),
      marked_rooms_frame b c hs (λ k m. sizes k (inr m)) (λ k m. marks k (inr m)),
    )

pub marked_rooms_le : (b : Box) (hs : List ℕ) → marked_rooms b hs ≤ rooms b hs
unfolding rooms marked_rooms
marked_rooms_le b [] = omega arith
marked_rooms_le b (h ∷ hs) = omega (arith, share_le (marked h b) (size_of h b + 1), marked_rooms_le b hs)

pub marked_rooms_none : (b : Box) (hs : List ℕ) → ((h : ℕ) → Member h hs → marked h b ≡ false) → marked_rooms b hs ≡ 0
unfolding marked_rooms
marked_rooms_none b [] unmarked = refl
marked_rooms_none b (h ∷ hs) unmarked = omega (arith, share_false (marked h b) (size_of h b + 1) (unmarked h (inl refl)), marked_rooms_none b hs (λ k m. unmarked k (inr m)))

pub unmarked_room : (b : Box) (hs : List ℕ) (h : ℕ) → Member h hs → marked h b ≡ false → marked_rooms b hs + (size_of h b + 1) ≤ rooms b hs
unfolding rooms marked_rooms
unmarked_room b [] h m t = absurd m
unmarked_room b (k ∷ hs) h (inl p) t =
    subst (λ (n : ℕ). cond (marked k b) (size_of k b + 1) 0 + marked_rooms b hs + (size_of n b + 1) ≤ size_of k b + 1 + rooms b hs) (sym p)
    (omega (arith, share_false (marked k b) (size_of k b + 1) (subst (λ (n : ℕ). marked n b ≡ false) p t), marked_rooms_le b hs))
unmarked_room b (k ∷ hs) h (inr m) t = omega (arith, share_le (marked k b) (size_of k b + 1), unmarked_room b hs h m t)

-- a mark is set
pub marked_rooms_mark : (b c : Box) (hs : List ℕ) (h : ℕ) → Distinct hs → Member h hs → marked h b ≡ false → marked h c ≡ true
    → ((k : ℕ) → Member k hs → size_of k c ≡ size_of k b) → ((k : ℕ) → Member k hs → k ≢ h → marked k c ≡ marked k b)
    → marked_rooms c hs ≡ marked_rooms b hs + (size_of h b + 1)
unfolding marked_rooms
marked_rooms_mark b c [] h d m f t sizes marks = absurd m
marked_rooms_mark b c (x ∷ hs) h d (inl p) f t sizes marks =
    subst (λ (n : ℕ). cond (marked x c) (size_of x c + 1) 0 + marked_rooms c hs ≡ cond (marked x b) (size_of x b + 1) 0 + marked_rooms b hs + (size_of n b + 1)) (sym p)
    (omega (
      arith,
      share_true (marked x c) (size_of x c + 1) (subst (λ (n : ℕ). marked n c ≡ true) p t),
      share_false (marked x b) (size_of x b + 1) (subst (λ (n : ℕ). marked n b ≡ false) p f),
      sizes x (inl refl),
      marked_rooms_frame b c hs (λ k m. sizes k (inr m)) (λ k m. marks k (inr m) (λ q. member_differs k x hs m d.0 (q ∙ p))),
    ))
marked_rooms_mark b c (x ∷ hs) h d (inr m) f t sizes marks =
    omega (
      arith,
      share_same (marked x c) (marked x b) (size_of x c) (size_of x b) (marks x (inl refl) (λ q. member_differs h x hs m d.0 (sym q))) (sizes x (inl refl)),
      marked_rooms_mark b c hs h d.1 m f t (λ k n. sizes k (inr n)) (λ k n. marks k (inr n)),
    )
