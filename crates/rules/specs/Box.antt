-- What is read off the box and what is written to it, and what every call tests first. Every definition is total: an index
-- past a column's end reads 0 or false there and writes nothing, and the rules test before they use one.
use Rattle.std.specs.Prelude.{ℕ, ◌+◌, ◌*◌, ◌/◌, ◌%◌, Bool, true, false, not, ◌&&◌, leb, ltb, eqb, length, get_or, set}
use Rattle.rules.specs.Limits.{half_word, last_phase, in_range}
use Rattle.rules.specs.Parts.{Word, Box, with_memory, with_registers, with_addresses, with_sizes, with_links, with_marks, with_deeps}

-- what a call leaves, and its answer: a number of document 01's table
pub record Reply : Type 0 where
  pub box : Box
  pub answer : ℕ

abbrev pub reply : Box → ℕ → Reply
reply b a = record { box = b; answer = a }

-- ---- words

abbrev pub data_word : ℕ → Word
data_word v = record { bits = v; flag = false }

abbrev pub pointer : ℕ → ℕ → Word
pointer handle offset = record { bits = handle * half_word + offset; flag = true }

-- the upper 16 bits: the handle of a pointer or of a control word
abbrev pub handle_of : Word → ℕ
handle_of w = w.bits / half_word

-- the lower 16 bits: the offset of a pointer
abbrev pub offset_of : Word → ℕ
offset_of w = w.bits % half_word

-- the lower 16 bits: the tag of a control word
abbrev pub tag_of : Word → ℕ
tag_of w = w.bits % half_word

-- handle 0 is nil
abbrev pub is_nil : Word → Bool
is_nil w = eqb (handle_of w) 0

-- a pointer other than nil
abbrev pub names_tuple : Word → Bool
names_tuple w = w.flag && not (is_nil w)

-- the control word of a tuple: a data word, handle above, tag below
abbrev pub control_word : ℕ → ℕ → Word
control_word handle tag = data_word (handle * half_word + tag)

-- ---- memory and registers

-- the word at an address, and the box with a word put there
abbrev pub word_at : ℕ → Box → Word
word_at a b = record { bits = get_or b.memory.words a 0; flag = get_or b.memory.flags a false }

abbrev pub put : ℕ → Word → Box → Box
put a w b = with_memory (record { words = set b.memory.words a w.bits; flags = set b.memory.flags a w.flag }) b

abbrev pub register : ℕ → Box → Word
register r b = record { bits = get_or b.registers.words r 0; flag = get_or b.registers.flags r false }

abbrev pub put_register : ℕ → Word → Box → Box
put_register r w b = with_registers (record { words = set b.registers.words r w.bits; flags = set b.registers.flags r w.flag }) b

-- ---- an entry of the directory: address, size, link, mark and deep flag

abbrev pub address : ℕ → Box → ℕ
address h b = get_or b.directory.addresses h 0

abbrev pub size_of : ℕ → Box → ℕ
size_of h b = get_or b.directory.sizes h 0

abbrev pub link : ℕ → Box → ℕ
link h b = get_or b.directory.links h 0

abbrev pub marked : ℕ → Box → Bool
marked h b = get_or b.directory.marks h false

abbrev pub deep : ℕ → Box → Bool
deep h b = get_or b.directory.deeps h false

abbrev pub set_address : ℕ → ℕ → Box → Box
set_address h a b = with_addresses (set b.directory.addresses h a) b

abbrev pub set_size : ℕ → ℕ → Box → Box
set_size h n b = with_sizes (set b.directory.sizes h n) b

abbrev pub set_link : ℕ → ℕ → Box → Box
set_link h l b = with_links (set b.directory.links h l) b

abbrev pub set_mark : ℕ → Bool → Box → Box
set_mark h t b = with_marks (set b.directory.marks h t) b

abbrev pub set_deep : ℕ → Bool → Box → Box
set_deep h t b = with_deeps (set b.directory.deeps h t) b

-- a handle can be looked up: it is in 1 to H-1
unfoldable pub is_entry : ℕ → Box → Bool
is_entry h b = leb 1 h && ltb h b.h

-- ---- what every call tests first

-- the seven columns have the lengths m and h
unfoldable pub lengths_are : ℕ → ℕ → Box → Bool
lengths_are m h b = eqb (length b.memory.words) m && eqb (length b.memory.flags) m && eqb (length b.directory.addresses) h && eqb (length b.directory.sizes) h && eqb (length b.directory.links) h && eqb (length b.directory.marks) h && eqb (length b.directory.deeps) h

-- sizes in range that are the lengths
unfoldable pub right_sizes : ℕ → ℕ → Box → Bool
right_sizes m h b = in_range m h && lengths_are m h b

-- sizes, lengths and phase are right: where they are not, requests, steps and runs answer 9
unfoldable pub sound : Box → Bool
sound b = right_sizes b.m b.h b && leb b.collector.phase last_phase
