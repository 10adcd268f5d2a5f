-- Where the reader's code stands from record to record, and what a call comes to from there: a turn leaves that as it was.
use Rattle.std.specs.Prelude.{ℕ, suc, ◌+◌, ◌≤◌, ◌<◌, List, ◌++◌, ◌≡◌, length, take, drop}
use Rattle.record.specs.declared.reading.Place.{Place}
use Rattle.record.specs.declared.reading.Turn.{Turn}
use Rattle.record.specs.declared.reading.Turn.TheVariants.{On, Ended}
use Rattle.record.specs.Fields.{kinds}
use Rattle.record.specs.Found.{fields_in}
use Rattle.record.specs.Reading.{Reading, records, all_numbers}

-- how many numbers a record of a kind has, the kind among them
unfoldable pub size_of : ℕ → ℕ
size_of k = suc (fields_in (kinds k))

-- numbers in the places from n on
unfoldable pub put_at : List ℕ → ℕ → List ℕ → List ℕ
put_at old n ns = take n old ++ ns ++ drop (n + length ns) old

-- the lent numbers at a call's end, how many of them were read, and the answer
pub record Last : Type 0 where
  pub numbers : List ℕ
  pub count : ℕ
  pub answer : ℕ

abbrev pub last : List ℕ → ℕ → ℕ → Last
last ns n a = record { numbers = ns; count = n; answer = a }

-- what is still to be read, in the places behind the first n
unfoldable pub last_of : List ℕ → ℕ → Reading → Last
last_of ns n r = last (put_at ns n (all_numbers r.items)) (n + length (all_numbers r.items)) r.answer

-- what a call comes to from a place on
abbrev pub at_last : List ℕ → List ℕ → Place → Last
at_last bs ns p = last_of ns p.n (records p.count (drop p.at bs))

-- each number and each record takes a byte or more, and there are as many lent numbers as bytes
pub record Fit (bs ns : List ℕ) (p : Place) : Type 0 where
  pub room : length bs ≤ length ns
  pub inside : p.at ≤ length bs
  pub few : p.n ≤ p.at
  pub fewer : p.count ≤ p.at

-- from one place to the next
pub record GoesOn (bs old new : List ℕ) (p q : Place) : Type 0 where
  pub end_kept : at_last bs new q ≡ at_last bs old p
  pub fit : Fit bs new q
  pub further : p.at < q.at

abbrev pub Turned : List ℕ → List ℕ → List ℕ → Place → Turn → Type 0
Turned bs old new p (On q) = GoesOn bs old new p q
Turned bs old new p (Ended a) = last new p.n a ≡ at_last bs old p
