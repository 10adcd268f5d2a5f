-- The invariant of every grown box, over the box and its ghosts. Ghosts are carried beside the box and changed by rule, never
-- recomputed from it. The clauses stand in groups; only `Stage` goes by the phase, and the others hold alike in every phase.
-- Definitions only. Assumes nothing.
use Prim.Native.Nat.{ℕ, suc, ◌+◌, ◌≤◌, ◌<◌}
use mathlib.Core.Bool.{true, false, cond}
use mathlib.Core.List.{List, [], ◌∷◌, ◌++◌}
use mathlib.Core.Logic.{◌⊎◌}
use mathlib.Core.Path.{◌≡◌}
use lib.ListN.{length, get_or}
use Rattle.rules.specs.Limits.{half_word, register_count, in_range}
use Rattle.rules.specs.Parts.{Word, Box}
use Rattle.rules.specs.Box.{data_word, handle_of, names_tuple, word_at, register, address, size_of, marked, deep}
use Rattle.rules.specs.Place.{place, read}
use Rattle.history.specs.Agreement.{Member, Distinct}

-- how the tuples lie
pub record Plan : Type 0 where
  -- the tuples settled in [0, low), in address order
  pub done : List ℕ
  -- the tuple being moved, in phases 5 to 7; otherwise none
  pub mid : List ℕ
  -- the tuples from base to top, in address order
  pub ahead : List ℕ
  -- where the settled tuples end, where those ahead begin
  pub low : ℕ
  pub base : ℕ

-- the tuples that wait for a scan: the two lists, and the tuple under the scan, in phases 2 and 3
pub record Scans : Type 0 where
  pub nexts : List ℕ
  pub currents : List ℕ
  pub gray : List ℕ

pub record Ghosts : Type 0 where
  pub plan : Plan
  -- the free list
  pub free : List ℕ
  pub scans : Scans
  -- words from live up to here are data 0
  pub zeroed : ℕ

-- every handle, once
abbrev pub all : Plan → List ℕ → List ℕ
all p free = p.done ++ (p.mid ++ (p.ahead ++ free))

-- the tuples that wait for a scan, and the one under it
abbrev pub listed : Scans → List ℕ
listed s = s.gray ++ (s.nexts ++ s.currents)

-- index i of tuple h, found where document 01 says
unfoldable pub word : ℕ → ℕ → Box → Word
word h i b = read (place h i b) b

-- a list along the links, from a head
abbrev pub Chain : List ℕ → ℕ → List ℕ → Type 0
Chain links head [] = head ≡ 0
Chain links head (h ∷ hs) = (head ≡ h) × Chain links (get_or links h 0) hs

-- a control word of tuple h
abbrev pub Control : Word → ℕ → Type 0
Control w h = (w.flag ≡ false) × (handle_of w ≡ h)

-- the tuples of a list lie end to end from a to e, each with its address and its control word
abbrev pub Laid : Box → ℕ → List ℕ → ℕ → Type 0
Laid b a [] e = a ≡ e
Laid b a (h ∷ hs) e = (address h b ≡ a) × Control (word_at a b) h × Laid b (a + size_of h b + 1) hs e

-- size + 1 summed over a list of handles, and over the marked ones of it
unfoldable pub rooms : Box → List ℕ → ℕ
rooms b [] = 0
rooms b (h ∷ hs) = size_of h b + 1 + rooms b hs

unfoldable pub marked_rooms : Box → List ℕ → ℕ
marked_rooms b [] = 0
marked_rooms b (h ∷ hs) = cond (marked h b) (size_of h b + 1) 0 + marked_rooms b hs

-- a tuple is kept: it is settled or being moved, or it lies ahead and, once the sweep has begun, is marked
pub data Kept (b : Box) (p : Plan) (h : ℕ) : Type 0 where
  settled : Member h p.done → Kept b p h
  moving : Member h p.mid → Kept b p h
  unswept : Member h p.ahead → b.collector.phase ≤ 3 → Kept b p h
  surviving : Member h p.ahead → marked h b ≡ true → Kept b p h

-- ---- the groups

pub record Shape (b : Box) : Type 0 where
  pub range : in_range b.m b.h ≡ true
  pub words_length : length b.memory.words ≡ b.m
  pub flags_length : length b.memory.flags ≡ b.m
  pub addresses_length : length b.directory.addresses ≡ b.h
  pub sizes_length : length b.directory.sizes ≡ b.h
  pub links_length : length b.directory.links ≡ b.h
  pub marks_length : length b.directory.marks ≡ b.h
  pub deeps_length : length b.directory.deeps ≡ b.h
  pub registers_length : length b.registers.words ≡ register_count
  pub register_flags_length : length b.registers.flags ≡ register_count
  -- a hold names a register, and its tag is of 16 bits
  pub held_register : b.hold.held ≡ true → (b.hold.register < register_count) × (b.hold.tag < half_word)

pub record Handles (b : Box) (p : Plan) (free : List ℕ) : Type 0 where
  pub distinct : Distinct (all p free)
  pub entries : (h : ℕ) → Member h (all p free) → (1 ≤ h) × (h < b.h)
  pub every : (h : ℕ) → 1 ≤ h → h < b.h → Member h (all p free)
  pub count : suc (length (all p free)) ≡ b.h
  pub free_chain : Chain b.directory.links b.free free

pub record Layout (b : Box) (p : Plan) : Type 0 where
  pub done_laid : Laid b 0 p.done p.low
  pub ahead_laid : Laid b p.base p.ahead b.top
  -- what is settled and what is being moved end at or below what lies ahead
  pub low_base : p.low + rooms b p.mid ≤ p.base
  pub top_fits : b.top ≤ b.m

pub record Contents (b : Box) (p : Plan) : Type 0 where
  pub roots_kept : (r : ℕ) → r < register_count → names_tuple (register r b) ≡ true → Kept b p (handle_of (register r b))
  -- only deep tuples hold pointers other than nil, and those name kept tuples
  pub words_kept : (h : ℕ) → Kept b p h → (k : ℕ) → k < size_of h b → names_tuple (word h (k + 1) b) ≡ true → Kept b p (handle_of (word h (k + 1) b)) × (deep h b ≡ true)

pub record Zero (b : Box) (zeroed : ℕ) : Type 0 where
  pub above_top : (a : ℕ) → b.top ≤ a → word_at a b ≡ data_word 0
  pub behind : (a : ℕ) → b.collector.live ≤ a → a < zeroed → word_at a b ≡ data_word 0

pub record Marks (b : Box) (p : Plan) (free : List ℕ) (s : Scans) : Type 0 where
  pub free_unmarked : (h : ℕ) → Member h free → marked h b ≡ false
  pub done_unmarked : (h : ℕ) → Member h p.done → marked h b ≡ false
  pub mid_unmarked : (h : ℕ) → Member h p.mid → marked h b ≡ false
  pub live_is : b.collector.live ≡ p.low + (rooms b p.mid + marked_rooms b p.ahead)
  pub nexts_chain : Chain b.directory.links b.collector.next s.nexts
  pub currents_chain : Chain b.directory.links b.collector.current s.currents
  pub listed_distinct : Distinct (listed s)
  pub listed_ahead : (h : ℕ) → Member h (listed s) → Member h p.ahead
  pub listed_marked : (h : ℕ) → Member h (listed s) → marked h b ≡ true
  pub listed_deep : (h : ℕ) → Member h (listed s) → deep h b ≡ true
  -- a marked tuple that waits for no scan is black: what it points to is marked
  pub black : b.collector.phase ≤ 3 → (h : ℕ) → Member h p.ahead → marked h b ≡ true → ¬ Member h (listed s) → (k : ℕ) → k < size_of h b
      → names_tuple (word h (k + 1) b) ≡ true → marked (handle_of (word h (k + 1) b)) b ≡ true

-- ---- the stages, by phase

-- phases 0 to 3: nothing is settled or moved
pub record Unswept (g : Ghosts) : Type 0 where
  pub no_done : g.plan.done ≡ []
  pub no_mid : g.plan.mid ≡ []
  pub low_zero : g.plan.low ≡ 0
  pub base_zero : g.plan.base ≡ 0
  pub zeroed_zero : g.zeroed ≡ 0

-- phases 0 and 4 to 8: no list of tuples to scan
pub record Unlisted (g : Ghosts) : Type 0 where
  pub no_nexts : g.scans.nexts ≡ []
  pub no_currents : g.scans.currents ≡ []
  pub no_gray : g.scans.gray ≡ []

-- phases 2 and 3: tuple s is under the scan. What its words before index point to is marked, or, in phase 3, is `tuple`
pub record Scan (b : Box) (g : Ghosts) (s : ℕ) : Type 0 where
  pub gray_is : g.scans.gray ≡ s ∷ []
  pub src_is : address s b ≡ b.collector.src
  pub size_is : size_of s b ≡ b.collector.size
  pub index_least : 1 ≤ b.collector.index
  pub index_most : b.collector.index ≤ b.collector.size + 1

-- phases 5 to 7: the tuple is on its way from src down to dest
pub record Move (b : Box) (g : Ghosts) : Type 0 where
  pub unlisted : Unlisted g
  pub mid_is : g.plan.mid ≡ b.collector.tuple ∷ []
  pub low_is : g.plan.low ≡ b.collector.dest
  pub base_is : g.plan.base ≡ b.collector.src + b.collector.size + 1
  pub downward : b.collector.dest < b.collector.src
  pub src_is : address b.collector.tuple b ≡ b.collector.src
  pub size_is : size_of b.collector.tuple b ≡ b.collector.size
  pub control : Control (word b.collector.tuple 0 b) b.collector.tuple

pub data Stage (b : Box) (g : Ghosts) : Type 0 where
  at_rest : b.collector.phase ≡ 0 → Unswept g → Unlisted g → ((h : ℕ) → Member h g.plan.ahead → marked h b ≡ false) → Stage b g
  finding : b.collector.phase ≡ 1 → Unswept g → g.scans.currents ≡ [] → g.scans.gray ≡ [] → Stage b g
  scanning : b.collector.phase ≡ 2 → Unswept g → (s : ℕ) → Scan b g s
      → ((k : ℕ) → k + 1 < b.collector.index → names_tuple (word s (k + 1) b) ≡ true → marked (handle_of (word s (k + 1) b)) b ≡ true)
      → Stage b g
  adding : b.collector.phase ≡ 3 → Unswept g → (s : ℕ) → Scan b g s → Member b.collector.tuple g.plan.ahead
      → ((k : ℕ) → k + 1 < b.collector.index → names_tuple (word s (k + 1) b) ≡ true → (marked (handle_of (word s (k + 1) b)) b ≡ true) ⊎ (handle_of (word s (k + 1) b) ≡ b.collector.tuple))
      → Stage b g
  sweeping : b.collector.phase ≡ 4 → Unlisted g → g.plan.mid ≡ [] → g.plan.low ≡ b.collector.dest → g.plan.base ≡ b.collector.src → g.zeroed ≡ b.collector.src
      → (hs : List ℕ) → g.plan.ahead ≡ b.collector.tuple ∷ hs → Stage b g
  reading : b.collector.phase ≡ 5 → Move b g → b.collector.index ≤ b.collector.size + 1 → g.zeroed ≡ b.collector.src + b.collector.index → Stage b g
  clearing : b.collector.phase ≡ 6 → Move b g → b.collector.index ≤ b.collector.size → g.zeroed ≡ b.collector.src + b.collector.index → Stage b g
  writing : b.collector.phase ≡ 7 → Move b g → b.collector.index ≤ b.collector.size → g.zeroed ≡ b.collector.src + b.collector.index + 1 → Stage b g
  zeroing : b.collector.phase ≡ 8 → Unlisted g → g.plan.mid ≡ [] → g.plan.low ≡ b.collector.dest
      → g.plan.base ≡ b.collector.src + b.collector.size + 1 → b.collector.dest ≤ b.collector.src
      → b.collector.index ≤ b.collector.size + 1 → g.zeroed ≡ b.collector.src + b.collector.index → Stage b g

pub record Inv (b : Box) (g : Ghosts) : Type 0 where
  pub shape : Shape b
  pub handles : Handles b g.plan g.free
  pub layout : Layout b g.plan
  pub contents : Contents b g.plan
  pub zero_words : Zero b g.zeroed
  pub marks : Marks b g.plan g.free g.scans
  pub stage : Stage b g
