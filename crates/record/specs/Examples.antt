-- Document 02's examples of M-100, by computation.
use Rattle.std.specs.Prelude.{ℕ, List, [], ◌∷◌, ◌≡◌, refl}
use Rattle.record.specs.Number.{found, number, number_bytes, before, more_groups, groups}
use Rattle.record.specs.Fields.{row, kinds, editions, joined, within, field, fields, named, entry}
use Rattle.record.specs.Reading.{reading, nothing_behind, ending, records_in, records, read, all_numbers}
use Rattle.record.specs.Writing.{writing, bytes_before, take_fields, take_named, take_entry, write_end, write_in, write_records, write}

-- 300 is AC 02
pub three_hundred_read : number (0xAC ∷ 0x02 ∷ []) ≡ found 300 []
unfolding number before more_groups
three_hundred_read = refl

pub three_hundred_written : number_bytes 300 ≡ 0xAC ∷ 0x02 ∷ []
unfolding number_bytes groups
three_hundred_written = refl

-- P1 and ten steps: 01 10 04 05 00 02 07 0B 0A 00 02
abbrev pub p1_bytes : List ℕ
p1_bytes = 0x01 ∷ 0x10 ∷ 0x04 ∷ 0x05 ∷ 0x00 ∷ 0x02 ∷ 0x07 ∷ 0x0B ∷ 0x0A ∷ 0x00 ∷ 0x02 ∷ []

abbrev pub p1_items : List (List ℕ)
p1_items = (1 ∷ 16 ∷ 4 ∷ []) ∷ (5 ∷ 0 ∷ 2 ∷ 7 ∷ []) ∷ (11 ∷ 10 ∷ []) ∷ []

pub p1_read : read p1_bytes ≡ reading p1_items 0
unfolding read records records_in ending nothing_behind entry named fields field within joined row kinds editions number before more_groups
p1_read = refl

pub p1_written : write (all_numbers p1_items) ≡ writing p1_bytes 0
unfolding write write_records write_in write_end take_entry take_named take_fields bytes_before all_numbers nothing_behind row kinds editions number_bytes groups
p1_written = refl
