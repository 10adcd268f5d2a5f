-- A part of the lent columns, and what is behind it. By lists, and then by boxes: what is put back is there again, and so is what was behind
-- it. Assumes nothing.
use Prim.Native.Nat.{ℕ, min}
use mathlib.Core.Bool.{Bool, true, false}
use mathlib.Core.List.{List, [], ◌++◌, append-nil}
use mathlib.Core.Path.{◌≡◌, refl, sym, ◌∙◌, ap, subst}
use native.Mathlib.Omega.{arith}
use lib.Dec.{leb}
use borrow.Author.Tests.{leb-true, leb-false}
use lib.ListN.{length, take, drop, length-take, take-append-drop, drop_of_length-le}
use lib.Seq.{take_all, take_at, drop-length}
use Rattle.rules.specs.Parts.{Box}
use Rattle.rules.specs.Box.{Reply, reply, right_sizes}
use Rattle.rules.specs.Open.{opened, opening}
use Rattle.lent.specs.declared.unit.MemoryUnit.{MemoryUnit}
use Rattle.lent.specs.Lent.{box_of, lent}
use Rattle.pieces.specs.Pieces.{first_of, open_first}
use Rattle.turns.specs.Parts.{part_of, behind, put_back, Opens}

-- ---- lists

module _ {A : Type 0} (n w : ℕ) (l : List A) (e : w ≡ min n (length l)) where
  pub part_count : w ≡ length (take w l)
  part_count = omega (arith, length-take w l)

  pub part_take : take w l ≡ take n l
  part_take = by (leb n (length l)) refl
    where
      by : (t : Bool) → leb n (length l) ≡ t → take w l ≡ take n l
      by true h = let f : w ≡ n = omega (arith, leb-true n (length l) h) in rw f
      by false h = take_all w l (omega (arith, leb-false n (length l) h)) ∙ sym (take_all n l (omega (arith, leb-false n (length l) h)))

-- what was put back before the rest
pub take_back : {A : Type 0} (n : ℕ) (x l : List A) → length x ≡ length (take n l) → take n (behind x l) ≡ x
take_back n x l e = by (leb n (length l)) refl
  where
    by : (t : Bool) → leb n (length l) ≡ t → take n (behind x l) ≡ x
    by true h = take_at x (drop (length x) l) n (omega (arith, length-take n l, leb-true n (length l) h))
    by false h =
        let f : length x ≡ length l = omega (arith, length-take n l, leb-false n (length l) h) in
        let g : drop (length x) l ≡ [] = drop_of_length-le l {i = length x} (omega arith) in
        rw (g, append-nil x) (take_all n x (omega (arith, leb-false n (length l) h)))

-- a part that is put back as it was, and a whole
pub back_same : {A : Type 0} (n : ℕ) (l : List A) → behind (take n l) l ≡ l
back_same n l = by (leb n (length l)) refl
  where
    by : (t : Bool) → leb n (length l) ≡ t → behind (take n l) l ≡ l
    by true h = let f : length (take n l) ≡ n = omega (arith, length-take n l, leb-true n (length l) h) in rw f (take-append-drop n l)
    by false h = let f : take n l ≡ l = take_all n l (omega (arith, leb-false n (length l) h)) in rw (f, drop-length l, append-nil l)

pub back_whole : {A : Type 0} (x l : List A) → length x ≡ length l → behind x l ≡ x
back_whole x l e = let f : drop (length x) l ≡ [] = drop_of_length-le l {i = length x} (omega arith) in rw (f, append-nil x)

-- ---- boxes

-- the columns of x have the lengths of the columns of b
pub record SameShape (x b : Box) : Type 0 where
  pub words : length x.memory.words ≡ length b.memory.words
  pub flags : length x.memory.flags ≡ length b.memory.flags
  pub addresses : length x.directory.addresses ≡ length b.directory.addresses
  pub sizes : length x.directory.sizes ≡ length b.directory.sizes
  pub links : length x.directory.links ≡ length b.directory.links
  pub marks : length x.directory.marks ≡ length b.directory.marks
  pub deeps : length x.directory.deeps ≡ length b.directory.deeps

pub first_back : (m h : ℕ) (x b : Box) → SameShape x (first_of m h b) → first_of m h (put_back x b) ≡ x
unfolding first_of put_back
first_back m h x b s =
    rw (take_back m x.memory.words b.memory.words s.words, take_back m x.memory.flags b.memory.flags s.flags, take_back h x.directory.addresses b.directory.addresses s.addresses, take_back h x.directory.sizes b.directory.sizes s.sizes, take_back h x.directory.links b.directory.links s.links, take_back h x.directory.marks b.directory.marks s.marks, take_back h x.directory.deeps b.directory.deeps s.deeps)

pub back_first : (m h : ℕ) (b : Box) → put_back (first_of m h b) b ≡ b
unfolding first_of put_back
back_first m h b =
    rw (back_same m b.memory.words, back_same m b.memory.flags, back_same h b.directory.addresses, back_same h b.directory.sizes, back_same h b.directory.links, back_same h b.directory.marks, back_same h b.directory.deeps)

pub back_all : (x b : Box) → SameShape x b → put_back x b ≡ x
unfolding put_back
back_all x b s =
    rw (back_whole x.memory.words b.memory.words s.words, back_whole x.memory.flags b.memory.flags s.flags, back_whole x.directory.addresses b.directory.addresses s.addresses, back_whole x.directory.sizes b.directory.sizes s.sizes, back_whole x.directory.links b.directory.links s.links, back_whole x.directory.marks b.directory.marks s.marks, back_whole x.directory.deeps b.directory.deeps s.deeps)

pub same_shape : (b : Box) → SameShape b b
same_shape b = record { words = refl; flags = refl; addresses = refl; sizes = refl; links = refl; marks = refl; deeps = refl }

-- M and H are no columns
pub first_m : (m h : ℕ) (b : Box) → (first_of m h b).m ≡ b.m
unfolding first_of
first_m m h b = refl

pub first_h : (m h : ℕ) (b : Box) → (first_of m h b).h ≡ b.h
unfolding first_of
first_h m h b = refl

pub back_m : (x b : Box) → (put_back x b).m ≡ x.m
unfolding put_back
back_m x b = refl

pub back_h : (x b : Box) → (put_back x b).h ≡ x.h
unfolding put_back
back_h x b = refl

-- ---- the opening of a part

opened_yes : (m h : ℕ) (b x : Box) → SameShape x (first_of m h b) → x.m ≡ m → x.h ≡ h → opening m h (first_of m h b) ≡ reply x 0 → Opens m h b (put_back x b) 0
unfolding part_of open_first put_back
opened_yes m h b x s mm hh o =
    let p : first_of x.m x.h (put_back x b) ≡ x = ap (λ (i : ℕ). first_of i x.h (put_back x b)) mm ∙ ap (λ (j : ℕ). first_of m j (put_back x b)) hh ∙ first_back m h x b s in
    record { opens = rw (p, o); kept = rw p }

opened_no : (m h : ℕ) (b x : Box) → x ≡ first_of m h b → opening m h (first_of m h b) ≡ reply (first_of m h b) 10 → Opens m h b (put_back x b) 10
unfolding part_of open_first
opened_no m h b x f o =
    let p : put_back x b ≡ b = rw f (back_first m h b) in
    record { opens = rw (p, o); kept = rw p (sym (back_all b b (same_shape b))) }

pub opened_part : (m h : ℕ) (b x : Box) (r : ℕ) → SameShape x (first_of m h b) → reply x r ≡ opening m h (first_of m h b) → Opens m h b (put_back x b) r
unfolding opening opened
opened_part m h b x r s e = by (right_sizes m h (first_of m h b)) refl
  where
    by : (t : Bool) → right_sizes m h (first_of m h b) ≡ t → Opens m h b (put_back x b) r
    by true t =
        let o : opening m h (first_of m h b) ≡ reply (opened m h) 0 = rw t in
        let q : reply x r ≡ reply (opened m h) 0 = e ∙ o in
        let f : x ≡ opened m h = ap (λ (y : Reply). y.box) q in
        let g : r ≡ 0 = ap (λ (y : Reply). y.answer) q in
        rw g (opened_yes m h b x s (ap (λ (y : Box). y.m) f) (ap (λ (y : Box). y.h) f) (o ∙ ap (λ (y : Box). reply y 0) (sym f)))
    by false t =
        let o : opening m h (first_of m h b) ≡ reply (first_of m h b) 10 = rw t in
        let q : reply x r ≡ reply (first_of m h b) 10 = e ∙ o in
        let g : r ≡ 10 = ap (λ (y : Reply). y.answer) q in
        rw g (opened_no m h b x (ap (λ (y : Reply). y.box) q) o)

-- ---- the lent columns

-- so many words and flags, and entries of each kind, are the first m words and h entries of what is lent
abbrev pub Counts : MemoryUnit → ℕ → ℕ → ℕ → ℕ → ℕ → ℕ → ℕ → ℕ → ℕ → Type 0
Counts u m h w f a z l k d = (w ≡ min m (length u.words.now)) × (f ≡ min m (length u.flags.now)) × (a ≡ min h (length u.addresses.now)) × (z ≡ min h (length u.sizes.now)) × (l ≡ min h (length u.links.now)) × (k ≡ min h (length u.marks.now)) × (d ≡ min h (length u.deeps.now))

-- a part that was lent on, and what came of it: what all columns are with that in place of the part
pub record Parted (u : MemoryUnit) (m h : ℕ) (part came joined : Box) : Type 0 where
  pub part_is : part ≡ first_of m h (box_of u)
  pub shape : SameShape came (first_of m h (box_of u))
  pub joined_is : joined ≡ put_back came (box_of u)

-- the columns in parts of these lengths, each as long when it comes back
module _ (u : MemoryUnit) (ns1 : List ℕ) (sw1 : List Bool) (hd1 ws1 : List ℕ) (fs1 : List Bool) (ads1 ss1 ls1 : List ℕ) (ms1 ds1 : List Bool) (m h w f a z l k d : ℕ) (n : Counts u m h w f a z l k d) where
  abbrev part : Box
  part = lent u.numbers.now u.switches.now u.hold.now (take w u.words.now) (take f u.flags.now) (take a u.addresses.now) (take z u.sizes.now) (take l u.links.now) (take k u.marks.now) (take d u.deeps.now)

  abbrev came : Box
  came = lent ns1 sw1 hd1 ws1 fs1 ads1 ss1 ls1 ms1 ds1

  part_first : part ≡ first_of m h (box_of u)
  unfolding first_of
  part_first =
      rw (part_take m w u.words.now n.0, part_take m f u.flags.now n.1, part_take h a u.addresses.now n.2, part_take h z u.sizes.now n.3, part_take h l u.links.now n.4, part_take h k u.marks.now n.5, part_take h d u.deeps.now n.6)

  pub parted : SameShape came part → Parted u m h part came (lent ns1 sw1 hd1 (ws1 ++ drop w u.words.now) (fs1 ++ drop f u.flags.now) (ads1 ++ drop a u.addresses.now) (ss1 ++ drop z u.sizes.now) (ls1 ++ drop l u.links.now) (ms1 ++ drop k u.marks.now) (ds1 ++ drop d u.deeps.now))
  unfolding put_back
  parted s = record {
    part_is = part_first;
    shape = rw part_first at s;
    joined_is = rw (s.words ∙ sym (part_count m w u.words.now n.0), s.flags ∙ sym (part_count m f u.flags.now n.1), s.addresses ∙ sym (part_count h a u.addresses.now n.2), s.sizes ∙ sym (part_count h z u.sizes.now n.3), s.links ∙ sym (part_count h l u.links.now n.4), s.marks ∙ sym (part_count h k u.marks.now n.5), s.deeps ∙ sym (part_count h d u.deeps.now n.6));
  }

pub opens_parts : (u : MemoryUnit) (m h : ℕ) {part came joined : Box} (r : ℕ) → Parted u m h part came joined → reply came r ≡ opening m h part → Opens m h (box_of u) joined r
opens_parts u m h {part} {came} {joined} r p e = subst (λ (b : Box). Opens m h (box_of u) b r) (sym p.joined_is) (opened_part m h (box_of u) came r p.shape (e ∙ ap (opening m h) p.part_is))
