-- Document 01, "Where a word is" and "Shade".
use Rattle.std.specs.Prelude.{ℕ, ◌+◌, Bool, true, cond, ◌&&◌, ◌||◌, leb, ltb, eqb}
use Rattle.rules.specs.Parts.{Word, Box, with_copy, with_live, with_next}
use Rattle.rules.specs.Box.{word_at, put, address, size_of, marked, deep, set_link, set_mark, is_entry}

-- where a word is: in the copy register, or at an address of memory
pub data Place : Type 0 where
  copy_place : Place
  at : ℕ → Place

-- h is the tuple being moved: the collector's tuple, in phase 5, 6 or 7
unfoldable pub being_moved : ℕ → Box → Bool
being_moved h b = eqb h b.collector.tuple && leb 5 b.collector.phase && leb b.collector.phase 7

-- index i of tuple h. Index 0 is the control word, and word k is at index k + 1
unfoldable pub place : ℕ → ℕ → Box → Place
place h i b =
    cond (being_moved h b && leb 6 b.collector.phase && eqb i b.collector.index) copy_place
    (cond (being_moved h b && ltb i b.collector.index) (at (b.collector.dest + i)) (at (address h b + i)))

-- an address at or above M is not touched
unfoldable pub in_memory : Place → Box → Bool
in_memory copy_place b = true
in_memory (at a) b = ltb a b.m

unfoldable pub read : Place → Box → Word
read copy_place b = b.collector.copy
read (at a) b = word_at a b

unfoldable pub write : Place → Word → Box → Box
write copy_place w b = with_copy w b
write (at a) w b = put a w b

-- ---- shade

-- h can be looked up and, if unmarked, the total stays within M
unfoldable pub can_shade : ℕ → Box → Bool
can_shade h b = is_entry h b && (marked h b || leb (b.collector.live + size_of h b + 1) b.m)

-- a tuple at the head of the next list
unfoldable pub list_next : ℕ → Box → Box
list_next h b = set_link h b.collector.next (with_next h b)

-- marked, and counted in live
unfoldable pub mark_live : ℕ → Box → Box
mark_live h b = set_mark h true (with_live (b.collector.live + size_of h b + 1) b)

-- if unmarked, mark, add size + 1 to live, and if deep put it at the head of the next list
unfoldable pub shade : ℕ → Box → Box
shade h b = cond (marked h b) b (cond (deep h b) (list_next h (mark_live h b)) (mark_live h b))
