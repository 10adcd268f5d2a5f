-- Document 01, "Sizes of the box": the opening.
use Rattle.std.specs.Prelude.{ℕ, zero, suc, ◌+◌, false, cond, ◌&&◌, List, [], ◌∷◌, leb, ltb, replicate}
use Rattle.rules.specs.Limits.{register_count}
use Rattle.rules.specs.Parts.{Memory, Directory, Registers, Box, collector_zero, hold_zero}
use Rattle.rules.specs.Box.{Reply, reply, right_sizes}

-- the free list is 1, 2, up to H-1: each links to the next, and the last to 0. Entry 0 is nil's, and in no list
unfoldable pub opened_link : ℕ → ℕ → ℕ
opened_link h i = cond (leb 1 i && ltb (i + 1) h) (i + 1) 0

-- the links of the entries from i on, n of them
unfoldable pub opened_links : ℕ → ℕ → ℕ → List ℕ
opened_links h i zero = []
opened_links h i (suc n) = opened_link h i ∷ opened_links h (i + 1) n

-- memory data 0, entries with address 0 and size 0, no mark and no deep flag
abbrev pub cleared : ℕ → Memory
cleared m = record { words = replicate m 0; flags = replicate m false }

abbrev pub opened_directory : ℕ → Directory
opened_directory h = record { addresses = replicate h 0; sizes = replicate h 0; links = opened_links h 0 h; marks = replicate h false; deeps = replicate h false }

-- registers data 0
abbrev pub opened_registers : Registers
opened_registers = record { words = replicate register_count 0; flags = replicate register_count false }

-- top is 0, the free list begins at 1, the phase is Rest, nothing is held, every other number is 0
unfoldable pub opened : ℕ → ℕ → Box
opened m h = record { m = m; h = h; top = 0; free = 1; memory = cleared m; directory = opened_directory h; registers = opened_registers; collector = collector_zero; hold = hold_zero }

-- the stated M and H are in range and the lengths of the lent parts; otherwise 10 and everything as found
unfoldable pub opening : ℕ → ℕ → Box → Reply
opening m h b = cond (right_sizes m h b) (reply (opened m h) 0) (reply b 10)
