-- The opened box has the invariant: no tuple is made, and the free list is every handle, in order. The links are the opened ones by
-- induction on the list of handles; every other clause is about data 0 or about no tuple. Assumes nothing.
use Prim.Native.Nat.{ℕ, zero, suc, ◌+◌, ◌-◌, ◌≤◌, ◌<◌}
use mathlib.Core.Bool.{true, false, ◌&&◌, false≢true}
use mathlib.Core.List.{List, [], ◌∷◌}
use mathlib.Core.Logic.{◌⊎◌, inl, inr}
use mathlib.Core.Path.{◌≡◌, refl, sym, ap, ◌∙◌, subst}
use borrow.Author.Tests.{leb-true, le-leb, lt-ltb, le-ltb}
use native.Mathlib.Omega.{arith}
use lib.Dec.{leb}
use lib.ListN.{length, get_or, replicate, length-replicate}
use Rattle.rules.specs.Limits.{in_range, register_count}
use Rattle.rules.specs.Parts.{Word}
use Rattle.rules.specs.Box.{data_word, names_tuple, word_at, register}
use Rattle.rules.specs.Open.{opened, opened_link, opened_links}
use Rattle.history.specs.Agreement.{Member, Distinct}
use Rattle.history.proofs.Invariant.Statement.{Chain, Inv, Shape, Handles, Layout, Contents, Zero, Marks, Stage, rooms, marked_rooms}
use Rattle.history.proofs.Invariant.Resting.{resting_plan, resting, none_kept}
use Rattle.rules.proofs.Sizes.{and_left, and_right}

-- ---- n handles from i on

unfoldable pub count_up : ℕ → ℕ → List ℕ
count_up i zero = []
count_up i (suc n) = i ∷ count_up (i + 1) n

-- the handles of the directory: 1, 2, up to h - 1
abbrev pub handles_below : ℕ → List ℕ
handles_below h = count_up 1 (h - 1)

pub count_up_bounds : (i n x : ℕ) → Member x (count_up i n) → (i ≤ x) × (x < i + n)
unfolding count_up
count_up_bounds i zero x m = absurd m
count_up_bounds i (suc n) x (inl e) = (omega arith, omega arith)
count_up_bounds i (suc n) x (inr m) = let t = count_up_bounds (i + 1) n x m in (omega arith, omega arith)

pub count_up_member : (i n x : ℕ) → i ≤ x → x < i + n → Member x (count_up i n)
unfolding count_up
count_up_member i zero x l u = absurd (omega arith)
count_up_member i (suc n) x l u = cases (order (x - i) refl) (λ p. count_up_member (i + 1) n x p (omega arith))
  where
    order : (d : ℕ) → x - i ≡ d → (x ≡ i) ⊎ (i + 1 ≤ x)
    order zero e = inl (omega arith)
    order (suc d) e = inr (omega arith)

    cases : (x ≡ i) ⊎ (i + 1 ≤ x) → (i + 1 ≤ x → Member x (count_up (i + 1) n)) → (x ≡ i) ⊎ Member x (count_up (i + 1) n)
    cases (inl e) f = inl e
    cases (inr p) f = inr (f p)

pub count_up_distinct : (i n : ℕ) → Distinct (count_up i n)
unfolding count_up
count_up_distinct i zero = tt
count_up_distinct i (suc n) = (λ m. let t = count_up_bounds (i + 1) n i m in omega arith, count_up_distinct (i + 1) n)

pub count_up_length : (i n : ℕ) → length (count_up i n) ≡ n
unfolding count_up
count_up_length i zero = refl
count_up_length i (suc n) = ap suc (count_up_length (i + 1) n)

-- ---- the opened links

link_at : (h i n k : ℕ) → k < n → get_or (opened_links h i n) k 0 ≡ opened_link h (i + k)
unfolding opened_links
link_at h i zero k l = absurd (omega arith)
link_at h i (suc n) zero l = ap (opened_link h) (omega arith)
link_at h i (suc n) (suc k) l = link_at h (i + 1) n k (omega arith) ∙ ap (opened_link h) (omega arith)

opened_links_length : (h i n : ℕ) → length (opened_links h i n) ≡ n
unfolding opened_links
opened_links_length h i zero = refl
opened_links_length h i (suc n) = ap suc (opened_links_length h (i + 1) n)

link_inner : (h i : ℕ) → 1 ≤ i → i + 1 < h → opened_link h i ≡ i + 1
unfolding opened_link
link_inner h i l u = simp (le-leb 1 i l, lt-ltb (i + 1) h u)

link_last : (h i : ℕ) → 1 ≤ i → i + 1 ≡ h → opened_link h i ≡ 0
unfolding opened_link
link_last h i l e = let u : h ≤ i + 1 = omega arith in simp (le-leb 1 i l, le-ltb (i + 1) h u)

opened_chain : (h i n : ℕ) → 1 ≤ i → i + suc n ≡ h → Chain (opened_links h 0 h) i (count_up i (suc n))
unfolding count_up
opened_chain h i zero l e = (refl, link_at h 0 h i (omega arith) ∙ ap (opened_link h) (omega arith) ∙ link_last h i l (omega arith))
opened_chain h i (suc n) l e =
    let f : get_or (opened_links h 0 h) i 0 ≡ i + 1 = link_at h 0 h i (omega arith) ∙ ap (opened_link h) (omega arith) ∙ link_inner h i l (omega arith) in
    (refl, subst (λ (k : ℕ). Chain (opened_links h 0 h) k (count_up (i + 1) (suc n))) (sym f) (opened_chain h (i + 1) n (omega arith) (omega arith)))

-- the whole free list, where there is a handle
free_list_chain : (h n : ℕ) → n ≡ h - 1 → 2 ≤ h → Chain (opened_links h 0 h) 1 (count_up 1 n)
free_list_chain h zero e l = absurd (omega arith)
free_list_chain h (suc n) e l = opened_chain h 1 n (omega arith) (omega arith)

-- ---- a list of one value holds that value

getD_all : {A : Type 0} (n i : ℕ) (a : A) → get_or (replicate n a) i a ≡ a
getD_all zero i a = refl
getD_all (suc n) zero a = refl
getD_all (suc n) (suc i) a = getD_all n i a

-- ---- the limits

pub record Limits (m h : ℕ) : Type 0 where
  pub least_m : 16 ≤ m
  pub most_m : m ≤ 8192
  pub least_h : 2 ≤ h
  pub most_h : h ≤ 1024

pub limits : (m h : ℕ) → in_range m h ≡ true → Limits m h
unfolding in_range
limits m h e =
    let first : (leb 16 m && leb m 8192 && leb 2 h) ≡ true = and_left (leb 16 m && leb m 8192 && leb 2 h) (leb h 1024) e in
    let second : (leb 16 m && leb m 8192) ≡ true = and_left (leb 16 m && leb m 8192) (leb 2 h) first in
    record {
      least_m = leb-true 16 m (and_left (leb 16 m) (leb m 8192) second);
      most_m = leb-true m 8192 (and_right (leb 16 m) (leb m 8192) second);
      least_h = leb-true 2 h (and_right (leb 16 m && leb m 8192) (leb 2 h) first);
      most_h = leb-true h 1024 (and_right (leb 16 m && leb m 8192 && leb 2 h) (leb h 1024) e);
    }

-- ---- the groups

open_shape : (m h : ℕ) → in_range m h ≡ true → Shape (opened m h)
unfolding opened
open_shape m h e =
    record {
      range = e;
      words_length = length-replicate m 0;
      flags_length = length-replicate m false;
      addresses_length = length-replicate h 0;
      sizes_length = length-replicate h 0;
      links_length = opened_links_length h 0 h;
      marks_length = length-replicate h false;
      deeps_length = length-replicate h false;
      registers_length = refl;
      register_flags_length = refl;
      held_register = λ f. absurd (false≢true f);
    }

open_handles : (m h : ℕ) → in_range m h ≡ true → Handles (opened m h) (resting_plan []) (handles_below h)
unfolding opened
open_handles m h e =
    record {
      distinct = count_up_distinct 1 (h - 1);
      entries = entry;
      every = each;
      count = ap suc (count_up_length 1 (h - 1)) ∙ total;
      free_chain = free_list_chain h (h - 1) refl least;
    }
  where
    least : 2 ≤ h
    least = (limits m h e).least_h

    total : suc (h - 1) ≡ h
    total = omega (arith, least)

    entry : (x : ℕ) → Member x (handles_below h) → (1 ≤ x) × (x < h)
    entry x y = let t = count_up_bounds 1 (h - 1) x y in (omega arith, omega (arith, least))

    each : (x : ℕ) → 1 ≤ x → x < h → Member x (handles_below h)
    each x l u = count_up_member 1 (h - 1) x l (omega (arith, least))

open_word : (m h a : ℕ) → word_at a (opened m h) ≡ data_word 0
unfolding opened
open_word m h a = λ i. record { bits = getD_all m a 0 i; flag = getD_all m a false i }

open_register : (m h r : ℕ) → register r (opened m h) ≡ data_word 0
unfolding opened
open_register m h r = λ i. record { bits = getD_all register_count r 0 i; flag = getD_all register_count r false i }

open_layout : (m h : ℕ) → Layout (opened m h) (resting_plan [])
unfolding opened rooms
open_layout m h = record { done_laid = refl; ahead_laid = refl; low_base = omega arith; top_fits = omega arith }

open_contents : (m h : ℕ) → Contents (opened m h) (resting_plan [])
open_contents m h =
    record {
      roots_kept = λ r l n. absurd (false≢true (subst (λ (w : Word). names_tuple w ≡ true) (open_register m h r) n));
      words_kept = λ x y. absurd (none_kept (opened m h) x y);
    }

open_zero : (m h : ℕ) → Zero (opened m h) 0
open_zero m h = record { above_top = λ a l. open_word m h a; behind = λ a l u. open_word m h a }

open_marks : (m h : ℕ) → Marks (opened m h) (resting_plan []) (handles_below h) (resting [] (handles_below h)).scans
unfolding opened rooms marked_rooms
open_marks m h =
    record {
      free_unmarked = λ x y. getD_all h x false;
      done_unmarked = λ x y. absurd y;
      mid_unmarked = λ x y. absurd y;
      live_is = refl;
      nexts_chain = refl;
      currents_chain = refl;
      listed_distinct = tt;
      listed_ahead = λ x y. absurd y;
      listed_marked = λ x y. absurd y;
      listed_deep = λ x y. absurd y;
      black = λ l x y. absurd y;
    }

pub opened_inv : (m h : ℕ) → in_range m h ≡ true → Inv (opened m h) (resting [] (handles_below h))
unfolding opened
opened_inv m h e =
    record {
      shape = open_shape m h e;
      handles = open_handles m h e;
      layout = open_layout m h;
      contents = open_contents m h;
      zero_words = open_zero m h;
      marks = open_marks m h;
      stage = Stage.at_rest refl (search) (record { no_nexts = refl; no_currents = refl; no_gray = refl }) (λ x y. absurd y);
    }
