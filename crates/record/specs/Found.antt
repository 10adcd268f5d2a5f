-- What the code's reader hands on: a place in the lent bytes stands for the bytes behind it, and a refusal for its number.
use Rattle.std.specs.Prelude.{ℕ, ◌-◌, List, length, get_or}
use Rattle.std.specs.declared.result.Result.{Result}
use Rattle.std.specs.declared.result.Result.TheVariants.{Ok, Err}
use Rattle.std.proofs.Math.Option.{Option, none, some}
use Rattle.record.specs.declared.number.Fault.{Fault}
use Rattle.record.specs.declared.number.Fault.TheVariants.{Cut, LongForm, Unknown, TooLarge}
use Rattle.record.specs.declared.number.Number as code
use Rattle.record.specs.declared.number.Number.TheVariants.{Found, Refused}
use Rattle.record.specs.declared.entry.Entry.{Entry}
use Rattle.record.specs.Number as rules
use Rattle.record.specs.Fields.{most16, Item, whole, fault}

-- the number of a refusal
abbrev pub number_of : Fault → ℕ
number_of Cut = rules.cut
number_of LongForm = rules.long_form
number_of Unknown = rules.unknown
number_of TooLarge = rules.too_large

-- the place behind what was read, in bytes of which there are so many
abbrev pub place_of : ℕ → List ℕ → ℕ
place_of n rest = n - length rest

-- a number and the place behind it, or the number of what refuses it: as the code has it, and as the definitions do
abbrev pub said : code.Number → Result (ℕ × ℕ) ℕ
said (Found v at) = Ok (v, at)
said (Refused f) = Err (number_of f)

abbrev pub as_number : ℕ → rules.Number → Result (ℕ × ℕ) ℕ
as_number n (rules.found v rest) = Ok (v, place_of n rest)
as_number n (rules.refused a) = Err a

-- a kind or an edition, its fields, and 0 for those that it does not have
abbrev pub entry_of : ℕ → List ℕ → List ℕ → Entry
entry_of n ns rest = record { kind = get_or ns 0 0; a = get_or ns 1 0; b = get_or ns 2 0; c = get_or ns 3 0; next = place_of n rest }

-- the same of it, or of what refuses it
abbrev pub told : Result Entry Fault → Result Entry ℕ
told (Ok e) = Ok e
told (Err f) = Err (number_of f)

abbrev pub as_entry : ℕ → Item → Result Entry ℕ
as_entry n (whole ns rest) = Ok (entry_of n ns rest)
as_entry n (fault a) = Err a

-- how many fields a kind has, from its row of the table
abbrev pub fields_in : Option (List ℕ) → ℕ
fields_in none = 0
fields_in (some ls) = length ls

-- the limit of the last of them; 16 bits where there is none
abbrev pub last_in : Option (List ℕ) → ℕ
last_in none = most16
last_in (some ls) = get_or ls (length ls - 1) most16
