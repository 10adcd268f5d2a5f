-- What the code finds behind a register's word, and the reply that each finding leads to.
use Rattle.std.specs.Prelude.{ℕ, ◌<◌, Option, Some, None, Result, Ok, Err}
use Rattle.requests.specs.declared.place.Place as code_place
use Rattle.requests.specs.declared.place.Place.TheVariants.{Copy, At}
use Rattle.requests.specs.declared.find.Slot.{Slot}
use Rattle.requests.specs.declared.refusal.Refusal.{Refusal}
use Rattle.rules.specs.Parts.{Box}
use Rattle.rules.specs.Box.{Reply, reply, put_register}
use Rattle.rules.specs.Place.{Place, copy_place, at}
use Rattle.rules.specs.Request.{done}
use Rattle.collector.specs.declared.word.Word as code_word
use Rattle.collector.specs.Boxed.{word_of}
use Rattle.requests.specs.Refused.{number}

abbrev pub place_of : code_place.Place → Place
place_of Copy = copy_place
place_of (At a) = at a

-- a place that may be touched: an address is below m
abbrev pub Within : code_place.Place → ℕ → Type 0
Within Copy m = Unit
Within (At a) m = a < m

-- a tuple, nil, or a refusal
abbrev pub when_named : Result (Option ℕ) Refusal → Box → Reply → (ℕ → Reply) → Reply
when_named (Ok (Some h)) b at_nil found = found h
when_named (Ok None) b at_nil found = at_nil
when_named (Err e) b at_nil found = reply b (number e)

-- the tuple can be looked up in a directory of so many entries
abbrev pub RightName : Result (Option ℕ) Refusal → ℕ → Type 0
RightName (Ok (Some h)) entries = h < entries
RightName (Ok None) entries = Unit
RightName (Err e) entries = Unit

-- what is done with a word of a tuple, by its handle and its place
abbrev pub Use : Type 0
Use = ℕ → Place → Reply

-- a word of a tuple, by its handle and its place, or a refusal
abbrev pub when_found : Result Slot Refusal → Box → Use → Reply
when_found (Ok s) b found = found s.tuple (place_of s.place)
when_found (Err e) b found = reply b (number e)

-- the tuple can be looked up, and the place touched, in a box of m words and h entries
abbrev pub RightSlot : Result Slot Refusal → ℕ → ℕ → Type 0
RightSlot (Ok s) m h = (s.tuple < h) × Within s.place m
RightSlot (Err e) m h = Unit

-- register r takes the word, or a refusal
abbrev pub when_got : Result code_word.Word Refusal → ℕ → Box → Reply
when_got (Ok w) r b = done (put_register r (word_of w) b)
when_got (Err e) r b = reply b (number e)
