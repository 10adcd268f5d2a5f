-- A string that reads well, cut off before its end. With more bytes behind it an entry that was read, or refused for another reason than the string's
-- end, stays so; so a front part of an entry can only be refused with 20. By induction on the records. Assumes nothing.
use Prim.Native.Nat.{ℕ, suc, ◌+◌, ◌-◌, ◌≤◌, ◌<◌}
use mathlib.Core.Bool.{Bool, true, false, cond}
use mathlib.Core.List.{List, [], ◌∷◌, ◌++◌}
use mathlib.Core.Option.{Option}
use mathlib.Core.Path.{◌≡◌, refl, sym, ◌∙◌, ap}
use native.Mathlib.Decide.{ℕ_discrete}
use native.Mathlib.Omega.{arith}
use lib.Dec.{leb}
use lib.ListN.{length, take, drop, length-append, length-drop, take-append-drop}
use lib.Seq.{take-append-le, take-append-add}
use borrow.Author.Tests.{leb-true, leb-false}
use Rattle.record.specs.Number.{cut}
use Rattle.record.specs.Fields.{Item, whole, fault, kinds, editions, entry}
use Rattle.record.specs.Reading.{reading, item_before, records, read}
use Rattle.record.specs.Claims.{item_bytes, fitting}
use Rattle.record.proofs.Laws.{fault_not_whole, entry_more, entry_fault_more, records_fault, records_item}
use Rattle.record.proofs.Rounds.{EntryFits, entry_read}
use Rattle.record.proofs.Strings.{Records, ended, recorded, String, string, end_fits, entry_alone, read_whole, read_fault}

-- ---- one entry

-- what is whole with nothing behind it has no bytes behind a front part that is whole
none_behind : (ns ms r more : List ℕ) → whole ms (r ++ more) ≡ whole ns [] → length more ≡ 0
none_behind ns ms r more e = let f : r ++ more ≡ [] = cc in omega (arith, simp length-append at (ap length f))

pub entry_cut : (table : ℕ → Option (List ℕ)) (ns : List ℕ) (n : ℕ) → EntryFits table ns → n < length (item_bytes ns) → entry table (take n (item_bytes ns)) ≡ fault cut
entry_cut table ns n f h = go (entry table front) refl
  where
    front : List ℕ
    front = take n (item_bytes ns)

    behind : List ℕ
    behind = drop n (item_bytes ns)

    all : entry table (front ++ behind) ≡ whole ns []
    all = rw (take-append-drop n (item_bytes ns)) (entry_alone table ns f)

    go : (x : Item) → entry table front ≡ x → entry table front ≡ fault cut
    go (whole ms r) e = absurd (omega (arith, none_behind ns ms r behind (sym (entry_more table front behind ms r e) ∙ all), length-drop n (item_bytes ns)))
    go (fault a) e = decide (ℕ_discrete a cut)
      where
        decide : Dec (a ≡ cut) → entry table front ≡ fault cut
        decide (yes c) = e ∙ ap fault c
        decide (no c) = absurd (fault_not_whole (sym (entry_fault_more table front behind a e c) ∙ all))

-- ---- a front part that ends inside the first of some bytes, or behind it

front_inside : (n : ℕ) (bs rest : List ℕ) → n < length bs → take n (bs ++ rest) ≡ take n bs
front_inside n bs rest h = take-append-le n bs rest (omega arith)

front_behind : (n : ℕ) (bs rest : List ℕ) → length bs ≤ n → take n (bs ++ rest) ≡ bs ++ take (n - length bs) rest
front_behind n bs rest h =
    let s : length bs + (n - length bs) ≡ n = omega arith in
    ap (λ (v : ℕ). take v (bs ++ rest)) (sym s) ∙ take-append-add bs rest (n - length bs)

-- ---- the records

pub records_cut : (n : ℕ) {count : ℕ} {is : List (List ℕ)} {bs : List ℕ} → Records count is bs → n < length bs → records count (take n bs) ≡ reading (fitting n is) cut
unfolding fitting
records_cut n (ended {count} c) h = records_fault count (take n (item_bytes (0 ∷ count ∷ []))) cut (entry_cut kinds (0 ∷ count ∷ []) n (end_fits count c) h)
records_cut n (recorded {count} {ns} {is} {bs} f z r) h = go (leb (length (item_bytes ns)) n) refl (λ l. records_cut (n - length (item_bytes ns)) r l)
  where
    go : (s : Bool) → leb (length (item_bytes ns)) n ≡ s
        → (n - length (item_bytes ns) < length bs → records (suc count) (take (n - length (item_bytes ns)) bs) ≡ reading (fitting (n - length (item_bytes ns)) is) cut)
        → records count (take n (item_bytes ns ++ bs)) ≡ reading (cond s (ns ∷ fitting (n - length (item_bytes ns)) is) []) cut
    go true q ih =
        let l : length (item_bytes ns) ≤ n = leb-true (length (item_bytes ns)) n q in
        ap (records count) (front_behind n (item_bytes ns) bs l)
        ∙ records_item count (item_bytes ns ++ take (n - length (item_bytes ns)) bs) ns (take (n - length (item_bytes ns)) bs) (entry_read kinds (take (n - length (item_bytes ns)) bs) f) z
        ∙ ap (item_before ns) (ih (omega (arith, length-append (item_bytes ns) bs)))
    go false q ih =
        let l : n < length (item_bytes ns) = leb-false (length (item_bytes ns)) n q in
        ap (records count) (front_inside n (item_bytes ns) bs l) ∙ records_fault count (take n (item_bytes ns)) cut (entry_cut kinds ns n f l)

pub string_cut : (n : ℕ) {is : List (List ℕ)} {bs : List ℕ} → String is bs → n < length bs → read (take n bs) ≡ reading (fitting n is) cut
unfolding fitting
string_cut n (string {ns} {is} {bs} f r) h = go (leb (length (item_bytes ns)) n) refl
  where
    go : (s : Bool) → leb (length (item_bytes ns)) n ≡ s → read (take n (item_bytes ns ++ bs)) ≡ reading (cond s (ns ∷ fitting (n - length (item_bytes ns)) is) []) cut
    go true q =
        let l : length (item_bytes ns) ≤ n = leb-true (length (item_bytes ns)) n q in
        ap read (front_behind n (item_bytes ns) bs l)
        ∙ read_whole (item_bytes ns ++ take (n - length (item_bytes ns)) bs) ns (take (n - length (item_bytes ns)) bs) (entry_read editions (take (n - length (item_bytes ns)) bs) f)
        ∙ ap (item_before ns) (records_cut (n - length (item_bytes ns)) r (omega (arith, length-append (item_bytes ns) bs)))
    go false q =
        let l : n < length (item_bytes ns) = leb-false (length (item_bytes ns)) n q in
        ap read (front_inside n (item_bytes ns) bs l) ∙ read_fault (take n (item_bytes ns)) cut (entry_cut editions ns n f l)
