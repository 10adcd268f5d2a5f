-- Document 01, "Sizes of the box": the limits, each named once.
use Rattle.std.specs.Prelude.{ℕ, Bool, ◌&&◌, leb}

-- M, the words of memory: 16 to 8,192
abbrev pub least_words : ℕ
least_words = 16

abbrev pub most_words : ℕ
most_words = 8192

-- H, the entries of the directory: 2 to 1,024
abbrev pub least_entries : ℕ
least_entries = 2

abbrev pub most_entries : ℕ
most_entries = 1024

-- the registers are 0 to 7
abbrev pub register_count : ℕ
register_count = 8

-- a pointer has its handle in the upper 16 bits and its offset in the lower 16; a control word its handle and its tag
abbrev pub half_word : ℕ
half_word = 65536

-- the phases are 0, Rest, to 8, Sweep zero
abbrev pub last_phase : ℕ
last_phase = 8

-- M and H are in range
unfoldable pub in_range : ℕ → ℕ → Bool
in_range m h = leb least_words m && leb m most_words && leb least_entries h && leb h most_entries
