-- How what is lent to a call makes a box. The state is three arrays:
--   numbers   0 M, 1 H, 2 top, 3 free, 4 phase, 5 live, 6 current, 7 next, 8 src, 9 dest, 10 tuple, 11 size, 12 index, 13 copy,
--             14 to 21 the registers
--   switches  0 to 7 whether the registers are pointers, 8 the copy's flag, 9 held, 10 begun
--   hold      register, size, tag
use Rattle.std.specs.Prelude.{ℕ, ◌+◌, ◌<◌, ◌≤◌, Bool, false, cond, List, ◌≡◌, eqb, length, get_or, set, drop, take, replicate}
use Rattle.std.specs.Bool.{beq}
use Rattle.rules.specs.Parts.{Word, Registers, Box}
use Rattle.collector.specs.declared.state.State.{State}
use Rattle.lent.specs.declared.unit.MemoryUnit.{MemoryUnit}
use Rattle.collector.specs.Boxed.{boxed}

-- the struct that the collector's rules take
unfoldable pub state_of : List ℕ → List Bool → List ℕ → State
state_of ns sw hd = record { m = get_or ns 0 0; h = get_or ns 1 0; top = get_or ns 2 0; free = get_or ns 3 0; phase = get_or ns 4 0; live = get_or ns 5 0; current = get_or ns 6 0; next = get_or ns 7 0; src = get_or ns 8 0; dest = get_or ns 9 0; tuple = get_or ns 10 0; size = get_or ns 11 0; index = get_or ns 12 0; copy = get_or ns 13 0; copy_flag = get_or sw 8 false; held = get_or sw 9 false; begun = get_or sw 10 false; hold_register = get_or hd 0 0; hold_size = get_or hd 1 0; hold_tag = get_or hd 2 0 }

unfoldable pub registers_of : List ℕ → List Bool → Registers
registers_of ns sw = record { words = drop 14 ns; flags = take 8 sw }

-- the three arrays and the seven columns
abbrev pub lent : List ℕ → List Bool → List ℕ → List ℕ → List Bool → List ℕ → List ℕ → List ℕ → List Bool → List Bool → Box
lent ns sw hd ws fs ads ss ls ms ds = boxed (registers_of ns sw) ws fs ads ss ls ms ds (state_of ns sw hd)

-- ---- the memory unit as a call is lent it

abbrev pub state_in : MemoryUnit → State
state_in u = state_of u.numbers.now u.switches.now u.hold.now

-- the box, with another struct in place of its own
abbrev pub box_with : MemoryUnit → State → Box
box_with u s = boxed (registers_of u.numbers.now u.switches.now) u.words.now u.flags.now u.addresses.now u.sizes.now u.links.now u.marks.now u.deeps.now s

abbrev pub box_of : MemoryUnit → Box
box_of u = lent u.numbers.now u.switches.now u.hold.now u.words.now u.flags.now u.addresses.now u.sizes.now u.links.now u.marks.now u.deeps.now

-- a rule leaves M, H and what the held request asks for
abbrev pub Keeps : State → State → Type 0
Keeps s x = (x.m ≡ s.m) × (x.h ≡ s.h) × (x.hold_register ≡ s.hold_register) × (x.hold_size ≡ s.hold_size) × (x.hold_tag ≡ s.hold_tag)

-- each part is the caller's still: a call that is lent the whole unit writes to its parts, and puts no others in their place
abbrev pub SameReferences : MemoryUnit → MemoryUnit → Type 0
SameReferences u v = (v.numbers.ghost_name ≡ u.numbers.ghost_name) × (v.switches.ghost_name ≡ u.switches.ghost_name) × (v.hold.ghost_name ≡ u.hold.ghost_name) × (v.words.ghost_name ≡ u.words.ghost_name) × (v.flags.ghost_name ≡ u.flags.ghost_name) × (v.addresses.ghost_name ≡ u.addresses.ghost_name) × (v.sizes.ghost_name ≡ u.sizes.ghost_name) × (v.links.ghost_name ≡ u.links.ghost_name) × (v.marks.ghost_name ≡ u.marks.ghost_name) × (v.deeps.ghost_name ≡ u.deeps.ghost_name)

-- ---- registers

-- what register r holds, and the registers with a word put into r
abbrev pub register_in : ℕ → Registers → Word
register_in r q = record { bits = get_or q.words r 0; flag = get_or q.flags r false }

abbrev pub put_in : ℕ → Word → Registers → Registers
put_in r w q = record { words = set q.words r w.bits; flags = set q.flags r w.flag }

-- ---- numbers and switches

-- a number or a switch is stored where it differs from what it was
unfoldable pub put_at : List ℕ → ℕ → ℕ → ℕ → List ℕ
put_at ns i old new = cond (eqb old new) ns (set ns i new)

unfoldable pub put_flag : List Bool → ℕ → Bool → Bool → List Bool
put_flag sw i old new = cond (beq old new) sw (set sw i new)

-- the arrays of a new box
abbrev pub opened_numbers : ℕ → ℕ → List ℕ
opened_numbers m h = set (set (set (replicate 22 0) 0 m) 1 h) 3 1

abbrev pub opened_switches : List Bool
opened_switches = replicate 11 false

abbrev pub opened_hold : List ℕ
opened_hold = replicate 3 0

-- ---- lengths

-- the memory has M words and flags, and M is within the limits
abbrev pub HasWords : MemoryUnit → Type 0
HasWords u = (length u.words.now ≡ (state_in u).m) × (length u.flags.now ≡ (state_in u).m) × ((state_in u).m < 65536)

-- the directory has H entries too, and H is within the limits
abbrev pub HasColumns : MemoryUnit → Type 0
HasColumns u = HasWords u × (length u.addresses.now ≡ (state_in u).h) × (length u.sizes.now ≡ (state_in u).h) × (length u.links.now ≡ (state_in u).h) × (length u.marks.now ≡ (state_in u).h) × (length u.deeps.now ≡ (state_in u).h) × ((state_in u).h ≤ 4096) × (0 < (state_in u).m)

-- a tuple of n words can be made: its handle can be looked up, and neither top nor, outside Rest, live goes beyond M
abbrev pub HasRoom : State → ℕ → Type 0
HasRoom s n = (s.free < s.h) × (s.top + n + 1 ≤ s.m) × ((s.phase ≡ 0 → ⊥) → s.live + n + 1 ≤ s.m)
