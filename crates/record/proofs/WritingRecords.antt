-- A record after the other, and the end: what is stored and what the records left give, stored from the next place on, are together what
-- all of them give. A turn takes one entry, by the laws of writing. Assumes nothing.
use Prim.Native.Nat.{ℕ, suc, ◌+◌, ◌*◌, ◌≤◌, ◌<◌}
use native.Mathlib.Numerals.{add-one}
use native.Mathlib.Omega.{arith}
use mathlib.Core.Bool.{Bool, true, false, cond}
use mathlib.Core.List.{List, [], ◌∷◌, ◌++◌}
use mathlib.Core.Option.{Option, none}
use mathlib.Core.Path.{◌≡◌, refl, sym, ◌∙◌, ap}
use borrow.Author.Tests.{le-leb, lt-leb}
use lib.Dec.{eqb}
use lib.ListN.{length, drop, get_or, drop_of_length-le}
use lib.Seq.{sets, drop-cons}
use Rattle.std.specs.Prelude.{Ok, Err}
use Rattle.record.specs.declared.writing.Took.{Took}
use Rattle.record.specs.declared.writing.WriteFault.{WriteFault}
use Rattle.record.specs.declared.writing.WriteFault.TheVariants.{Unknown, TooLarge, TooShort, NotUnderstood}
use Rattle.record.specs.Number.{number_bytes, too_large}
use Rattle.record.specs.Fields.{most32, kinds}
use Rattle.record.specs.Reading.{nothing_behind}
use Rattle.record.specs.Writing.{Taken, taken, turned_down, bytes_before, take_named, take_entry, Writing, writing, written_before, write_end, write_records}
use Rattle.record.specs.WritingSteps.{Puts, Takes, stored, not_stored, store, to_the_end, record_kinds, number_of}
use Rattle.record.proofs.Laws.{write_records_end, write_records_zero, write_records_fault, write_records_item}
use Rattle.record.proofs.WritingEntries.{store_before, put_before}

-- an entry before the records behind it
abbrev pub before_records : ℕ → Taken → Writing
before_records count t = elim t [ taken bs rest ↦ written_before bs (write_records count rest) | turned_down a ↦ writing [] a ]

-- ---- the end

pub end_too_many : (records : ℕ) (old : List ℕ) (to : ℕ) → most32 < records → not_stored too_large ≡ store old to (to_the_end (write_end records))
unfolding write_end
end_too_many records old to h = simp (lt-leb records most32 h)

pub end_fits : {records : ℕ} {old mid new : List ℕ} {to via end : ℕ} → records ≤ most32 → Puts 0 old mid to via → Puts records mid new via end → stored new end [] ≡ store old to (to_the_end (write_end records))
unfolding write_end bytes_before
end_fits {records} {old} {mid} {new} {to} {via} {end} h p q =
    ap (λ (l : List ℕ). stored l end []) q.put
    ∙ ap (λ (k : ℕ). stored (sets mid via (number_bytes records)) k []) q.ends
    ∙ put_before p (taken (number_bytes records) [])
    ∙ (simp (le-leb records most32 h))

-- ---- a turn

end_before : (bs : List ℕ) (w : Writing) → to_the_end (written_before bs w) ≡ bytes_before bs (to_the_end w)
unfolding bytes_before
end_before bs w = go (eqb w.answer 0) refl
  where
    go : (t : Bool) → eqb w.answer 0 ≡ t → to_the_end (cond t (writing (bs ++ w.bytes) 0) w) ≡ bytes_before bs (cond t (taken w.bytes []) (turned_down w.answer))
    go true e = refl
    go false e = rw e

-- no fault is 0, which is the answer of what is written
refused_end : (old : List ℕ) (to : ℕ) (f : WriteFault) → not_stored (number_of f) ≡ store old to (to_the_end (writing [] (number_of f)))
refused_end old to Unknown = refl
refused_end old to TooLarge = refl
refused_end old to TooShort = refl
refused_end old to NotUnderstood = refl

-- an entry was taken
pub went_on : (count : ℕ) (old : List ℕ) (to : ℕ) {new rest : List ℕ} {end : ℕ} (t : Taken) → stored new end rest ≡ store old to t → store new end (to_the_end (write_records count rest)) ≡ store old to (to_the_end (before_records count t))
went_on count old to {new} {rest} {end} (taken bs left) e =
    let same_bytes : new ≡ sets old to bs = cc in
    let same_place : end ≡ to + length bs = cc in
    let same_rest : rest ≡ left = cc in
    rw (same_bytes, same_place, same_rest) (sym (store_before old to bs (to_the_end (write_records count left))) ∙ ap (store old to) (sym (end_before bs (write_records count left))))
went_on count old to (turned_down a) e = let y : ◌≡◌ {A = ℕ} 0 1 = cc in absurd (omega arith)

-- an entry was refused
pub stopped : (count : ℕ) (old : List ℕ) (to : ℕ) (f : WriteFault) (t : Taken) → not_stored (number_of f) ≡ store old to t → not_stored (number_of f) ≡ store old to (to_the_end (before_records count t))
stopped count old to f (taken bs left) e = let y : ◌≡◌ {A = ℕ} 0 1 = cc in absurd (omega arith)
stopped count old to f (turned_down a) e =
    let same : number_of f ≡ a = cc in
    refused_end old to f ∙ ap (λ (x : ℕ). store old to (to_the_end (writing [] x))) same

record_first : (count k : ℕ) (ns : List ℕ) → write_records count (k ∷ ns) ≡ before_records (suc count) (take_named (record_kinds k) k ns)
unfolding nothing_behind take_entry take_named
record_first count k ns = go (eqb k 0) refl
  where
    other : (t : Taken) → eqb k 0 ≡ false → take_entry kinds (k ∷ ns) ≡ t → write_records count (k ∷ ns) ≡ before_records (suc count) t
    other (taken bs rest) z e = write_records_item count (k ∷ ns) bs rest refl z e
    other (turned_down a) z e = write_records_fault count (k ∷ ns) a refl z e

    go : (b : Bool) → eqb k 0 ≡ b → write_records count (k ∷ ns) ≡ before_records (suc count) (take_named (cond b none (kinds k)) k ns)
    go true z = write_records_zero count (k ∷ ns) refl z
    go false z = other (take_named (kinds k) k ns) z refl

-- ---- the loop

pub record Recorded (ns old new : List ℕ) (at to next end records : ℕ) : Type 0 where
  pub whole : store new end (to_the_end (write_records records (drop next ns))) ≡ store old to (to_the_end (write_records 0 (drop at ns)))
  pub inside : next ≤ length ns
  pub short : end ≤ 5 * next
  pub counted : records ≤ next

module _ {ns old new : List ℕ} {at to next end records : ℕ} (p : Recorded ns old new at to next end records) where
  pub records_end : length ns ≤ next → store new end (to_the_end (write_end records)) ≡ store old to (to_the_end (write_records 0 (drop at ns)))
  records_end h =
      ap (λ (w : Writing). store new end (to_the_end w)) (sym (write_records_end records))
      ∙ ap (λ (r : List ℕ). store new end (to_the_end (write_records records r))) (sym (drop_of_length-le ns h))
      ∙ p.whole

  -- the record that begins at the next number, of which the fields are known or not
  module _ {o : Option (List ℕ)} (h : next < length ns) (l : o ≡ record_kinds (get_or ns next 0)) where
    this_record : write_records records (drop next ns) ≡ before_records (suc records) (take_named o (get_or ns next 0) (drop (next + 1) ns))
    this_record = rw (add-one, l) (ap (write_records records) (drop-cons ns next 0 h) ∙ record_first records (get_or ns next 0) (drop (suc next) ns))

    pub records_turn : {after : List ℕ} {t : Took} → Takes (take_named o (get_or ns next 0) (drop (next + 1) ns)) ns new after (next + 1) end (Ok t) → Recorded ns old after at to t.next t.end (records + 1)
    records_turn {after} {t} e =
        let f = e.onward.forward in
        let g = p.counted in
        record {
          whole =
              ap (λ (m : ℕ). store after t.end (to_the_end (write_records m (drop t.next ns)))) (add-one records)
              ∙ went_on (suc records) new end (take_named o (get_or ns next 0) (drop (next + 1) ns)) e.took
              ∙ ap (λ (w : Writing). store new end (to_the_end w)) (sym this_record)
              ∙ p.whole;
          inside = e.onward.inside;
          short = e.onward.short;
          counted = omega arith;
        }

    pub records_stop : {after : List ℕ} {f : WriteFault} → Takes (take_named o (get_or ns next 0) (drop (next + 1) ns)) ns new after (next + 1) end (Err f) → not_stored (number_of f) ≡ store old to (to_the_end (write_records 0 (drop at ns)))
    records_stop {after} {f} e =
        stopped (suc records) new end f (take_named o (get_or ns next 0) (drop (next + 1) ns)) e.took
        ∙ ap (λ (w : Writing). store new end (to_the_end w)) (sym this_record)
        ∙ p.whole
