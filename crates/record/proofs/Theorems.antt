-- The claims of specs/Claims.antt. Reading and writing undo one another because both go by the same description of a string, `String`; a front part
-- of a string is the theorem of Prefixes; and a writer that answers other than 0 has no bytes, turn by turn. Assumes nothing.
use Prim.Native.Nat.{ℕ, zero, suc}
use mathlib.Core.Bool.{Bool, true, false, cond}
use mathlib.Core.List.{List, [], ◌++◌}
use mathlib.Core.Path.{◌≡◌, refl, sym, ◌∙◌, ap, subst}
use lib.Dec.{leb, eqb}
use lib.ListN.{length}
use Rattle.record.specs.Number.{too_short, number_bytes, too_large}
use Rattle.record.specs.Fields.{most32, kinds, editions}
use Rattle.record.specs.Reading.{Reading, is_end, nothing_behind, all_numbers}
use Rattle.record.specs.Writing.{Taken, taken, turned_down, take_entry, Writing, writing, written_before, write_end, write_in, write_records, write, if_room, write_into}
use Rattle.record.specs.Claims.{WrittenReadsBack, ReadsWellIsWritten, PrefixOfWellRead, RefusedWritesNothing}
use Rattle.record.proofs.Strings.{string_read, string_written, read_string, wrote_string, write_whole, write_fault}
use Rattle.record.proofs.Prefixes.{string_cut}

-- ---- reading and writing

pub written_reads_back : WrittenReadsBack
written_reads_back ns bs e =
    let w = wrote_string ns bs e in
    let d = string_read w.are in
    (ap (λ (r : Reading). r.answer) d, ap (λ (r : Reading). all_numbers r.items) d ∙ w.numbers)

pub reads_well_is_written : ReadsWellIsWritten
reads_well_is_written bs all e = string_written (read_string bs all e)

pub prefix_of_well_read : PrefixOfWellRead
prefix_of_well_read bs all e n h = string_cut n (read_string bs all e) h

-- ---- a refused writer

abbrev Nothing : Writing → Type 0
Nothing w = (w.answer ≡ 0 → ⊥) → w.bytes ≡ []

either_nothing : (s : Bool) (v w : Writing) → Nothing v → Nothing w → Nothing (cond s v w)
either_nothing true v w p q = p
either_nothing false v w p q = q

before_nothing : (bs : List ℕ) (w : Writing) → Nothing w → Nothing (written_before bs w)
before_nothing bs w p = either_nothing (eqb w.answer 0) (writing (bs ++ w.bytes) 0) w (λ f. absurd (f refl)) p

end_nothing : (count : ℕ) → Nothing (write_end count)
unfolding write_end
end_nothing count = either_nothing (leb count most32) (writing (number_bytes 0 ++ number_bytes count) 0) (writing [] too_large) (λ f. absurd (f refl)) (λ f. refl)

turns_nothing : (turns count : ℕ) (ns : List ℕ) → Nothing (write_in turns count ns)
unfolding write_in
turns_nothing zero count ns = end_nothing count
turns_nothing (suc turns) count ns =
    either_nothing (nothing_behind ns) (write_end count) _ (end_nothing count) (either_nothing (is_end ns) _ _ (λ f. refl) (go (take_entry kinds ns) (turns_nothing turns (suc count))))
  where
    go : (x : Taken) → ((rest : List ℕ) → Nothing (write_in turns (suc count) rest))
        → Nothing (elim x [ taken bs rest ↦ written_before bs (write_in turns (suc count) rest) | turned_down a ↦ writing [] a ])
    go (taken bs rest) ih = before_nothing bs (write_in turns (suc count) rest) (ih rest)
    go (turned_down a) ih = λ f. refl

write_nothing : (ns : List ℕ) → Nothing (write ns)
unfolding write_records
write_nothing ns = go (take_entry editions ns) refl
  where
    go : (x : Taken) → take_entry editions ns ≡ x → Nothing (write ns)
    go (taken bs rest) e = subst Nothing (sym (write_whole ns bs rest e)) (before_nothing bs (write_records 0 rest) (turns_nothing (length rest) 0 rest))
    go (turned_down a) e = subst Nothing (sym (write_fault ns a e)) (λ f. refl)

pub refused_writes_nothing : RefusedWritesNothing
unfolding write_into if_room
refused_writes_nothing room ns = either_nothing (leb (length (write ns).bytes) room) (write ns) (writing [] too_short) (write_nothing ns) (λ f. refl)
