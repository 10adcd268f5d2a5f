-- What the views share: each test of the rules decided, with the fact about numbers that goes with the answer, and the tests
-- that have a name of their own. Every decision is a case of a sum, so that a clause names the fact. Assumes nothing.
use Prim.Native.Nat.{ℕ, ◌+◌, ◌≤◌, ◌<◌}
use mathlib.Core.Bool.{Bool, true, false}
use mathlib.Core.Logic.{◌≢◌, ◌⊎◌, inl, inr}
use mathlib.Core.Path.{◌≡◌, refl}
use native.Mathlib.Omega.{arith}
use borrow.Author.Tests.{leb-true, leb-false, ltb-true, ltb-false, eqb-true, eqb-false, lt-ltb, le-ltb, le-leb, lt-leb, eq-eqb, ne_eqb}
use lib.Dec.{leb, ltb, eqb}
use Rattle.rules.specs.Parts.{Box}
use Rattle.rules.specs.Box.{is_entry, size_of, marked}
use Rattle.rules.specs.Place.{can_shade, shade}
use Rattle.rules.specs.Answers.{Entry, NoRoom}
use Rattle.rules.specs.Request.{no_room, collecting, can_make}

-- ---- decisions

pub le? : (a b : ℕ) → (a ≤ b) ⊎ (b < a)
le? a b = go (leb a b) refl
  where
    go : (t : Bool) → leb a b ≡ t → (a ≤ b) ⊎ (b < a)
    go true e = inl (leb-true a b e)
    go false e = inr (leb-false a b e)

pub lt? : (a b : ℕ) → (a < b) ⊎ (b ≤ a)
lt? a b = go (ltb a b) refl
  where
    go : (t : Bool) → ltb a b ≡ t → (a < b) ⊎ (b ≤ a)
    go true e = inl (ltb-true a b e)
    go false e = inr (ltb-false a b e)

pub eq? : (a b : ℕ) → (a ≡ b) ⊎ (a ≢ b)
eq? a b = go (eqb a b) refl
  where
    go : (t : Bool) → eqb a b ≡ t → (a ≡ b) ⊎ (a ≢ b)
    go true e = inl (eqb-true a b e)
    go false e = inr (eqb-false a b e)

pub true? : (t : Bool) → (t ≡ true) ⊎ (t ≡ false)
true? true = inl refl
true? false = inr refl

-- ---- a handle that can be looked up: it is in 1 to H-1

pub entry? : (h : ℕ) (b : Box) → Entry h b ⊎ (¬ Entry h b)
entry? h b = go (le? 1 h) (lt? h b.h)
  where
    go : (1 ≤ h) ⊎ (h < 1) → (h < b.h) ⊎ (b.h ≤ h) → Entry h b ⊎ (¬ Entry h b)
    go (inl l) (inl u) = inl (l, u)
    go (inl l) (inr u) = inr (λ e. omega arith)
    go (inr l) (inl u) = inr (λ e. omega arith)
    go (inr l) (inr u) = inr (λ e. omega arith)

pub entry_true : (h : ℕ) (b : Box) → Entry h b → is_entry h b ≡ true
unfolding is_entry
entry_true h b e = simp (le-leb 1 h e.0, lt-ltb h b.h e.1)

pub entry_false : (h : ℕ) (b : Box) → ¬ Entry h b → is_entry h b ≡ false
unfolding is_entry
entry_false h b n = go (le? 1 h) (lt? h b.h)
  where
    go : (1 ≤ h) ⊎ (h < 1) → (h < b.h) ⊎ (b.h ≤ h) → is_entry h b ≡ false
    go (inl l) (inl u) = absurd (n (l, u))
    go (inl l) (inr u) = simp (le-leb 1 h l, le-ltb h b.h u)
    go (inr l) (inl u) = simp (lt-leb 1 h l)
    go (inr l) (inr u) = simp (lt-leb 1 h l)

-- ---- shading: a handle that can be looked up, marked already, or unmarked with its total within M

pub data Shading (h : ℕ) (b : Box) : Type 0 where
  shaded : Entry h b → marked h b ≡ true → Shading h b
  unshaded : Entry h b → marked h b ≡ false → b.collector.live + size_of h b + 1 ≤ b.m → Shading h b
  shade_lost : ¬ Entry h b → Shading h b
  shade_total : Entry h b → marked h b ≡ false → b.m < b.collector.live + size_of h b + 1 → Shading h b

pub shading : (h : ℕ) (b : Box) → Shading h b
shading h b = go (entry? h b) (true? (marked h b)) (le? (b.collector.live + size_of h b + 1) b.m)
  where
    go : Entry h b ⊎ (¬ Entry h b) → (marked h b ≡ true) ⊎ (marked h b ≡ false)
        → (b.collector.live + size_of h b + 1 ≤ b.m) ⊎ (b.m < b.collector.live + size_of h b + 1) → Shading h b
    go (inr n) t l = shade_lost n
    go (inl e) (inl t) l = shaded e t
    go (inl e) (inr t) (inl l) = unshaded e t l
    go (inl e) (inr t) (inr l) = shade_total e t l

pub can_shade_marked : (h : ℕ) (b : Box) → Entry h b → marked h b ≡ true → can_shade h b ≡ true
unfolding can_shade
can_shade_marked h b e t = simp (entry_true h b e, t)

pub can_shade_unmarked : (h : ℕ) (b : Box) → Entry h b → marked h b ≡ false → b.collector.live + size_of h b + 1 ≤ b.m → can_shade h b ≡ true
unfolding can_shade
can_shade_unmarked h b e t l = simp (entry_true h b e, t, le-leb (b.collector.live + size_of h b + 1) b.m l)

pub can_shade_lost : (h : ℕ) (b : Box) → ¬ Entry h b → can_shade h b ≡ false
unfolding can_shade
can_shade_lost h b n = simp (entry_false h b n)

pub can_shade_total : (h : ℕ) (b : Box) → Entry h b → marked h b ≡ false → b.m < b.collector.live + size_of h b + 1 → can_shade h b ≡ false
unfolding can_shade
can_shade_total h b e t l = simp (entry_true h b e, t, lt-leb (b.collector.live + size_of h b + 1) b.m l)

-- a marked tuple is left as it is
pub shade_marked : (h : ℕ) (b : Box) → marked h b ≡ true → shade h b ≡ b
unfolding shade
shade_marked h b t = simp t

-- ---- room for a new tuple of n words: a free handle, and top + n + 1 within M

abbrev pub Room : ℕ → Box → Type 0
Room n b = (b.free ≢ 0) × (b.top + n + 1 ≤ b.m)

pub room? : (n : ℕ) (b : Box) → NoRoom n b ⊎ Room n b
room? n b = go (eq? b.free 0) (le? (b.top + n + 1) b.m)
  where
    go : (b.free ≡ 0) ⊎ (b.free ≢ 0) → (b.top + n + 1 ≤ b.m) ⊎ (b.m < b.top + n + 1) → NoRoom n b ⊎ Room n b
    go (inl z) l = inl (inl z)
    go (inr f) (inl l) = inr (f, l)
    go (inr f) (inr l) = inl (inr l)

pub no_room_true : (n : ℕ) (b : Box) → NoRoom n b → no_room n b ≡ true
unfolding no_room
no_room_true n b (inl z) = simp (eq-eqb b.free 0 z)
no_room_true n b (inr l) = go (eq? b.free 0)
  where
    go : (b.free ≡ 0) ⊎ (b.free ≢ 0) → no_room n b ≡ true
    go (inl z) = simp (eq-eqb b.free 0 z)
    go (inr f) = simp (ne_eqb b.free 0 f, lt-ltb b.m (b.top + n + 1) l)

pub no_room_false : (n : ℕ) (b : Box) → Room n b → no_room n b ≡ false
unfolding no_room
no_room_false n b r = simp (ne_eqb b.free 0 r.0, le-ltb b.m (b.top + n + 1) r.1)

-- the free handle can be looked up, and outside Rest the total stays within M
pub can_make_rest : (n : ℕ) (b : Box) → Entry b.free b → b.collector.phase ≡ 0 → can_make n b ≡ true
unfolding can_make collecting
can_make_rest n b e p = simp (entry_true b.free b e, eq-eqb b.collector.phase 0 p)

pub can_make_counted : (n : ℕ) (b : Box) → Entry b.free b → b.collector.phase ≢ 0 → b.collector.live + n + 1 ≤ b.m → can_make n b ≡ true
unfolding can_make collecting
can_make_counted n b e p l = simp (entry_true b.free b e, ne_eqb b.collector.phase 0 p, le-leb (b.collector.live + n + 1) b.m l)

pub can_make_lost : (n : ℕ) (b : Box) → ¬ Entry b.free b → can_make n b ≡ false
unfolding can_make
can_make_lost n b e = simp (entry_false b.free b e)

pub can_make_total : (n : ℕ) (b : Box) → Entry b.free b → b.collector.phase ≢ 0 → b.m < b.collector.live + n + 1 → can_make n b ≡ false
unfolding can_make collecting
can_make_total n b e p l = simp (entry_true b.free b e, ne_eqb b.collector.phase 0 p, lt-leb (b.collector.live + n + 1) b.m l)
