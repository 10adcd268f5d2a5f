-- What the opening leaves: the free list, which is as it is to be where each index has its link; and the whole box. Index by index, and by
-- rewriting. Assumes nothing.
use Prim.Native.Nat.{ℕ, zero, suc, ◌+◌, ◌<◌, ◌≤◌}
use native.Mathlib.Omega.{arith}
use mathlib.Core.Bool.{Bool, true, false}
use mathlib.Core.List.{List}
use mathlib.Core.Path.{◌≡◌, refl, sym, ◌∙◌, ap}
use lib.ListN.{length, get_or, replicate}
use lib.Seq.{ext_get_or}
use Rattle.rules.specs.Parts.{Box}
use Rattle.rules.specs.Box.{reply, right_sizes}
use Rattle.rules.specs.Open.{opened_link, opened_links, opened, opening}
use Rattle.rules.proofs.Sizes.{sizes_lengths, sizes_ranges}
use Rattle.lent.specs.Lent.{state_of, registers_of, lent, opened_numbers, opened_switches, opened_hold}

-- ---- the free list

length_links : (h i n : ℕ) → length (opened_links h i n) ≡ n
unfolding opened_links
length_links h i zero = refl
length_links h i (suc n) = ap suc (length_links h (i + 1) n)

links_at : (h i n k : ℕ) → k < n → get_or (opened_links h i n) k 0 ≡ opened_link h (i + k)
unfolding opened_links
links_at h i zero k l = absurd (omega arith)
links_at h i (suc n) zero l = ap (opened_link h) (omega arith)
links_at h i (suc n) (suc k) l = links_at h (i + 1) n k (omega arith) ∙ ap (opened_link h) (omega arith)

pub links_all : (l l₀ : List ℕ) (i : ℕ) → length l ≡ length l₀ → length l ≤ i → ((k : ℕ) → k < i → get_or l k 0 ≡ opened_link (length l₀) k) → l ≡ opened_links (length l₀) 0 (length l₀)
links_all l l₀ i e o h =
    ext_get_or 0 l (opened_links (length l₀) 0 (length l₀)) (e ∙ sym (length_links (length l₀) 0 (length l₀)))
    (λ k b. h k (omega arith) ∙ ap (opened_link (length l₀)) (omega arith) ∙ sym (links_at (length l₀) 0 (length l₀) k (omega arith)))

-- ---- the opening

pub links_short : (m h : ℕ) (b : Box) → right_sizes m h b ≡ true → length b.directory.links ≤ 4096
links_short m h b r = omega (arith, (sizes_lengths m h b r).links, (sizes_ranges m h b r).entries)

-- each column as its call leaves it, from columns of the lengths m and h, and the arrays of a new box
pub open_done : (m h : ℕ) (b : Box) → right_sizes m h b ≡ true → (ns : List ℕ) (sw : List Bool) (hd : List ℕ) (ws : List ℕ) (fs : List Bool) (ads ss ls : List ℕ) (ms ds : List Bool) → ns ≡ opened_numbers m h → sw ≡ opened_switches → hd ≡ opened_hold → ws ≡ replicate (length b.memory.words) 0 → fs ≡ replicate (length b.memory.flags) false → ads ≡ replicate (length b.directory.addresses) 0 → ss ≡ replicate (length b.directory.sizes) 0 → ls ≡ opened_links (length b.directory.links) 0 (length b.directory.links) → ms ≡ replicate (length b.directory.marks) false → ds ≡ replicate (length b.directory.deeps) false → reply (lent ns sw hd ws fs ads ss ls ms ds) 0 ≡ opening m h b
unfolding opening opened state_of registers_of
open_done m h b r ns sw hd ws fs ads ss ls ms ds q1 q2 q3 p1 p2 p3 p4 p5 p6 p7 =
    let l = sizes_lengths m h b r in
    rw (r, q1, q2, q3, p1, p2, p3, p4, p5, p6, p7, l.words, l.flags, l.addresses, l.sizes, l.links, l.marks, l.deeps)
