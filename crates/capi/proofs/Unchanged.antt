-- A call that gives back 4,294,967,295 has changed nothing: with numbers or bytes put the answer is at most 25, and the low byte of that number
-- is 255. Assumes nothing.
use Prim.Native.Nat.{ℕ, zero, suc, ◌≤◌}
use mathlib.Core.Bool.{Bool, true, false, cond}
use mathlib.Core.List.{List, []}
use mathlib.Core.Logic.{◌⊎◌, inl, inr, ⊎_elim}
use mathlib.Core.Path.{◌≡◌, refl, ◌∙◌}
use native.Mathlib.Omega.{arith}
use borrow.Author.Tests.{eqb-true, eqb-false}
use lib.Dec.{leb, eqb}
use lib.ListN.{length, get_or}
use Rattle.record.specs.Fields.{Item, whole, fault, kinds, editions, entry}
use Rattle.record.specs.Reading.{Reading, reading, item_before, is_end, nothing_behind, ending, records_in, records, read, read_into, all_numbers}
use Rattle.record.specs.Writing.{Writing, write_into}
use Rattle.record.proofs.Refusals.{either_way, entry_fault_named}
use Rattle.record.proofs.Theorems.{refused_writes_nothing}
use Rattle.capi.specs.Strings.{few, c_read, c_write, Gives, CReads, CWrites, Unchanged}

abbrev Told : List ℕ → ℕ → Type 0
Told xs a = (a ≤ 25) ⊎ (xs ≡ [])

told_same : (xs old new : List ℕ) (a : ℕ) → Told xs a → Gives xs old new a 4294967295 → new ≡ old
told_same xs old new a t g = ⊎_elim (λ h. absurd (omega (arith, g.told))) (λ e. g.put ∙ rw e) t

-- ---- reading

abbrev Answers : Reading → Type 0
Answers r = r.answer ≤ 25

ending_answers : (count : ℕ) (ns rest : List ℕ) → ending count ns rest ≤ 25
unfolding ending
ending_answers count ns rest =
    either_way (λ (a : ℕ). a ≤ 25) (eqb (get_or ns 1 0) count) _ _ (either_way (λ (a : ℕ). a ≤ 25) (nothing_behind rest) _ _ (omega arith) (omega arith)) (omega arith)

records_answer : (turns count : ℕ) (bs : List ℕ) → Answers (records_in turns count bs)
unfolding records_in
records_answer zero count bs = omega arith
records_answer (suc turns) count bs = go (entry kinds bs) refl (records_answer turns (suc count))
  where
    go : (x : Item) → entry kinds bs ≡ x → ((rest : List ℕ) → Answers (records_in turns (suc count) rest)) → Answers (elim x [ whole ns rest ↦ cond (is_end ns) (reading [] (ending count ns rest)) (item_before ns (records_in turns (suc count) rest)) | fault a ↦ reading [] a ])
    go (whole ns rest) e ih = either_way Answers (is_end ns) _ _ (ending_answers count ns rest) (ih rest)
    go (fault a) e ih = omega (arith, entry_fault_named kinds bs a e)

read_answers : (bs : List ℕ) → Answers (read bs)
unfolding read records
read_answers bs = go (entry editions bs) refl
  where
    go : (x : Item) → entry editions bs ≡ x → Answers (elim x [ whole ns rest ↦ item_before ns (records 0 rest) | fault a ↦ reading [] a ])
    go (whole ns rest) e = records_answer (length rest) 0 rest
    go (fault a) e = omega (arith, entry_fault_named editions bs a e)

pub read_unchanged : Unchanged CReads
unfolding c_read read_into all_numbers
read_unchanged bs old new g =
    told_same _ old new _
    (either_way (λ (r : Reading). Told (all_numbers r.items) r.answer) (few (length bs) (length old)) _ _
    (either_way (λ (r : Reading). Told (all_numbers r.items) r.answer) (leb (length bs) (length old)) _ _ (inl (read_answers bs)) (inr refl))
    (inr refl))
    g

-- ---- writing

write_told : (room : ℕ) (ns : List ℕ) (t : Bool) → eqb (write_into room ns).answer 0 ≡ t → Told (write_into room ns).bytes (write_into room ns).answer
write_told room ns true e = let z = eqb-true (write_into room ns).answer 0 e in inl (omega arith)
write_told room ns false e = inr (refused_writes_nothing room ns (eqb-false (write_into room ns).answer 0 e))

pub write_unchanged : Unchanged CWrites
unfolding c_write
write_unchanged ns old new g =
    told_same _ old new _
    (either_way (λ (w : Writing). Told w.bytes w.answer) (few (length ns) (length old)) _ _ (write_told (length old) ns _ refl) (inr refl))
    g
