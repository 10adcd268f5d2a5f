-- What playing needs of the reader beside its laws: a count of records above all numbers of 32 bits may stand still, since the count at
-- the end is such a number, and so none above. Assumes nothing.
use Prim.Native.Nat.{ℕ, zero, suc, ◌<◌, ◌≤◌}
use mathlib.Core.Bool.{Bool, true, false}
use mathlib.Core.List.{List, [], ◌∷◌}
use mathlib.Core.Option.{Option, none, some}
use mathlib.Core.Path.{◌≡◌, refl, sym, ◌∙◌, ap}
use native.Mathlib.Numerals.{add-one}
use native.Mathlib.Omega.{arith}
use borrow.Author.Tests.{ltb-false, eqb-true, ne_eqb}
use lib.Dec.{ltb}
use lib.ListN.{length, get_or}
use Rattle.record.specs.Number.{Number, found, refused, number}
use Rattle.record.specs.Fields.{most32, Item, whole, fault, row, kinds, joined, field, fields, named, entry}
use Rattle.record.specs.Reading.{reading, item_before, is_end, ending, records}
use Rattle.record.proofs.Laws.{fault_not_whole, field_bound, fields_found, fields_refused, entry_found, entry_refused, entry_behind, records_fault, records_end, records_item}
use Rattle.pieces.specs.Pieces.{one_more}

-- ---- the count at the end

-- kind 0 alone is the end
not_the_end : (o : Option (List ℕ)) (k : ℕ) (bs ns rest : List ℕ) → named o (suc k) bs ≡ whole ns rest → is_end ns ≡ true → ⊥
unfolding named joined
not_the_end none k bs ns rest e z = absurd (fault_not_whole e)
not_the_end (some ls) k bs ns rest e z = go (fields ls bs) e
  where
    go : (x : Item) → joined (suc k) x ≡ whole ns rest → ⊥
    go (whole ms r) w = let f : suc k ∷ ms ≡ ns = cc in omega (arith, ap (λ (l : List ℕ). get_or l 0 0) f, eqb-true (get_or ns 0 0) 0 z)
    go (fault a) w = absurd (fault_not_whole w)

kind_bound : (k : ℕ) (bs ns rest : List ℕ) → named (kinds k) k bs ≡ whole ns rest → is_end ns ≡ true → get_or ns 1 0 ≤ most32
unfolding row kinds named joined fields
kind_bound zero bs ns rest e z = go (field most32 bs) refl
  where
    go : (x : Number) → field most32 bs ≡ x → get_or ns 1 0 ≤ most32
    go (found n r) p =
        let f : whole (0 ∷ n ∷ []) r ≡ whole ns rest = sym (ap (joined 0) (fields_found most32 [] bs n r p)) ∙ e in
        let g : 0 ∷ n ∷ [] ≡ ns = cc in
        omega (arith, ap (λ (l : List ℕ). get_or l 1 0) g, field_bound most32 bs n r p)
    go (refused a) p = absurd (fault_not_whole (sym (ap (joined 0) (fields_refused most32 [] bs a p)) ∙ e))
kind_bound (suc k) bs ns rest e z = absurd (not_the_end (kinds (suc k)) k bs ns rest e z)

count_bound : (bs ns rest : List ℕ) → entry kinds bs ≡ whole ns rest → is_end ns ≡ true → get_or ns 1 0 ≤ most32
count_bound bs ns rest e z = go (number bs) refl
  where
    go : (x : Number) → number bs ≡ x → get_or ns 1 0 ≤ most32
    go (found k r) p = kind_bound k r ns rest (sym (entry_found kinds bs k r p) ∙ e) z
    go (refused a) p = absurd (fault_not_whole (sym (entry_refused kinds bs a p) ∙ e))

ending_high : (n : ℕ) (ns rest : List ℕ) → get_or ns 1 0 ≤ most32 → most32 < n → ending (suc n) ns rest ≡ ending n ns rest
unfolding ending
ending_high n ns rest b h = rw (ne_eqb (get_or ns 1 0) n (λ e. omega arith), ne_eqb (get_or ns 1 0) (suc n) (λ e. omega arith))

records_high : (t n : ℕ) (bs : List ℕ) → length bs < t → most32 < n → records (suc n) bs ≡ records n bs
records_high zero n bs l h = absurd (omega arith)
records_high (suc t) n bs l h = go (entry kinds bs) refl (λ rest. records_high t (suc n) rest)
  where
    item : (ns rest : List ℕ) → entry kinds bs ≡ whole ns rest → (z : Bool) → is_end ns ≡ z → records (suc (suc n)) rest ≡ records (suc n) rest → records (suc n) bs ≡ records n bs
    item ns rest e true z same = records_end (suc n) bs ns rest e z ∙ ap (reading []) (ending_high n ns rest (count_bound bs ns rest e z) h) ∙ sym (records_end n bs ns rest e z)
    item ns rest e false z same = records_item (suc n) bs ns rest e z ∙ ap (item_before ns) same ∙ sym (records_item n bs ns rest e z)

    go : (x : Item) → entry kinds bs ≡ x → ((rest : List ℕ) → length rest < t → most32 < suc n → records (suc (suc n)) rest ≡ records (suc n) rest) → records (suc n) bs ≡ records n bs
    go (whole ns rest) e same = let s : length rest < length bs = (entry_behind kinds bs ns rest e).shorter in item ns rest e (is_end ns) refl (same rest (omega arith) (omega arith))
    go (fault a) e same = records_fault (suc n) bs a e ∙ sym (records_fault n bs a e)

-- one record more, counted so far as it matters
pub records_one_more : (n : ℕ) (bs : List ℕ) → records (suc n) bs ≡ records (one_more n) bs
unfolding one_more
records_one_more n bs = go (ltb n 4294967296) refl
  where
    go : (t : Bool) → ltb n 4294967296 ≡ t → records (suc n) bs ≡ records (one_more n) bs
    go true e = rw (e, add-one)
    go false e = let h : 4294967296 ≤ n = ltb-false n 4294967296 e in rw e (records_high (suc (length bs)) n bs (omega arith) (omega arith))
