-- Document 01, "Sizes of the box": what a box is made of, and one setter for each field.
use Rattle.std.specs.Prelude.{ℕ, Bool, false, List}

-- a word of 32 bits and its flag: true is a pointer, false is data
pub record Word : Type 0 where
  pub bits : ℕ
  pub flag : Bool

-- M words, by address
pub record Memory : Type 0 where
  pub words : List ℕ
  pub flags : List Bool

-- H entries, by handle: address, size, list link, mark and deep flag. Entry 0 is nil's, and not used
pub record Directory : Type 0 where
  pub addresses : List ℕ
  pub sizes : List ℕ
  pub links : List ℕ
  pub marks : List Bool
  pub deeps : List Bool

-- eight, each a word with a flag. All are roots
pub record Registers : Type 0 where
  pub words : List ℕ
  pub flags : List Bool

pub record Collector : Type 0 where
  -- 0, Rest, to 8, Sweep zero
  pub phase : ℕ
  -- the words of all marked tuples
  pub live : ℕ
  -- the heads of the two lists of deep tuples still to be scanned
  pub current : ℕ
  pub next : ℕ
  -- the tuple under the scan or the sweep: where it lies, where it goes, its handle, its size, the next index
  pub src : ℕ
  pub dest : ℕ
  pub tuple : ℕ
  pub size : ℕ
  pub index : ℕ
  -- the copy register: a word on its way from src to dest
  pub copy : Word

-- a GETM that waits for room
pub record Hold : Type 0 where
  pub held : Bool
  -- a cycle began while it was held
  pub begun : Bool
  pub register : ℕ
  pub size : ℕ
  pub tag : ℕ

pub record Box : Type 0 where
  -- the stated sizes, M words and H entries
  pub m : ℕ
  pub h : ℕ
  -- the first word that no tuple takes
  pub top : ℕ
  -- the head of the free list
  pub free : ℕ
  pub memory : Memory
  pub directory : Directory
  pub registers : Registers
  pub collector : Collector
  pub hold : Hold

-- ---- every number 0 and every flag false

abbrev pub collector_zero : Collector
collector_zero = record { phase = 0; live = 0; current = 0; next = 0; src = 0; dest = 0; tuple = 0; size = 0; index = 0; copy = record { bits = 0; flag = false } }

abbrev pub hold_zero : Hold
hold_zero = record { held = false; begun = false; register = 0; size = 0; tag = 0 }

-- ---- the box

abbrev pub with_top : ℕ → Box → Box
with_top v b = record { m = b.m; h = b.h; top = v; free = b.free; memory = b.memory; directory = b.directory; registers = b.registers; collector = b.collector; hold = b.hold }

abbrev pub with_free : ℕ → Box → Box
with_free v b = record { m = b.m; h = b.h; top = b.top; free = v; memory = b.memory; directory = b.directory; registers = b.registers; collector = b.collector; hold = b.hold }

abbrev pub with_memory : Memory → Box → Box
with_memory v b = record { m = b.m; h = b.h; top = b.top; free = b.free; memory = v; directory = b.directory; registers = b.registers; collector = b.collector; hold = b.hold }

abbrev pub with_directory : Directory → Box → Box
with_directory v b = record { m = b.m; h = b.h; top = b.top; free = b.free; memory = b.memory; directory = v; registers = b.registers; collector = b.collector; hold = b.hold }

abbrev pub with_registers : Registers → Box → Box
with_registers v b = record { m = b.m; h = b.h; top = b.top; free = b.free; memory = b.memory; directory = b.directory; registers = v; collector = b.collector; hold = b.hold }

abbrev pub with_collector : Collector → Box → Box
with_collector v b = record { m = b.m; h = b.h; top = b.top; free = b.free; memory = b.memory; directory = b.directory; registers = b.registers; collector = v; hold = b.hold }

abbrev pub with_hold : Hold → Box → Box
with_hold v b = record { m = b.m; h = b.h; top = b.top; free = b.free; memory = b.memory; directory = b.directory; registers = b.registers; collector = b.collector; hold = v }

-- ---- the directory

abbrev pub with_addresses : List ℕ → Box → Box
with_addresses v b = with_directory (record { addresses = v; sizes = b.directory.sizes; links = b.directory.links; marks = b.directory.marks; deeps = b.directory.deeps }) b

abbrev pub with_sizes : List ℕ → Box → Box
with_sizes v b = with_directory (record { addresses = b.directory.addresses; sizes = v; links = b.directory.links; marks = b.directory.marks; deeps = b.directory.deeps }) b

abbrev pub with_links : List ℕ → Box → Box
with_links v b = with_directory (record { addresses = b.directory.addresses; sizes = b.directory.sizes; links = v; marks = b.directory.marks; deeps = b.directory.deeps }) b

abbrev pub with_marks : List Bool → Box → Box
with_marks v b = with_directory (record { addresses = b.directory.addresses; sizes = b.directory.sizes; links = b.directory.links; marks = v; deeps = b.directory.deeps }) b

abbrev pub with_deeps : List Bool → Box → Box
with_deeps v b = with_directory (record { addresses = b.directory.addresses; sizes = b.directory.sizes; links = b.directory.links; marks = b.directory.marks; deeps = v }) b

-- ---- the collector

abbrev pub with_phase : ℕ → Box → Box
with_phase v b = with_collector (record { phase = v; live = b.collector.live; current = b.collector.current; next = b.collector.next; src = b.collector.src; dest = b.collector.dest; tuple = b.collector.tuple; size = b.collector.size; index = b.collector.index; copy = b.collector.copy }) b

abbrev pub with_live : ℕ → Box → Box
with_live v b = with_collector (record { phase = b.collector.phase; live = v; current = b.collector.current; next = b.collector.next; src = b.collector.src; dest = b.collector.dest; tuple = b.collector.tuple; size = b.collector.size; index = b.collector.index; copy = b.collector.copy }) b

abbrev pub with_current : ℕ → Box → Box
with_current v b = with_collector (record { phase = b.collector.phase; live = b.collector.live; current = v; next = b.collector.next; src = b.collector.src; dest = b.collector.dest; tuple = b.collector.tuple; size = b.collector.size; index = b.collector.index; copy = b.collector.copy }) b

abbrev pub with_next : ℕ → Box → Box
with_next v b = with_collector (record { phase = b.collector.phase; live = b.collector.live; current = b.collector.current; next = v; src = b.collector.src; dest = b.collector.dest; tuple = b.collector.tuple; size = b.collector.size; index = b.collector.index; copy = b.collector.copy }) b

abbrev pub with_src : ℕ → Box → Box
with_src v b = with_collector (record { phase = b.collector.phase; live = b.collector.live; current = b.collector.current; next = b.collector.next; src = v; dest = b.collector.dest; tuple = b.collector.tuple; size = b.collector.size; index = b.collector.index; copy = b.collector.copy }) b

abbrev pub with_dest : ℕ → Box → Box
with_dest v b = with_collector (record { phase = b.collector.phase; live = b.collector.live; current = b.collector.current; next = b.collector.next; src = b.collector.src; dest = v; tuple = b.collector.tuple; size = b.collector.size; index = b.collector.index; copy = b.collector.copy }) b

abbrev pub with_tuple : ℕ → Box → Box
with_tuple v b = with_collector (record { phase = b.collector.phase; live = b.collector.live; current = b.collector.current; next = b.collector.next; src = b.collector.src; dest = b.collector.dest; tuple = v; size = b.collector.size; index = b.collector.index; copy = b.collector.copy }) b

abbrev pub with_size : ℕ → Box → Box
with_size v b = with_collector (record { phase = b.collector.phase; live = b.collector.live; current = b.collector.current; next = b.collector.next; src = b.collector.src; dest = b.collector.dest; tuple = b.collector.tuple; size = v; index = b.collector.index; copy = b.collector.copy }) b

abbrev pub with_index : ℕ → Box → Box
with_index v b = with_collector (record { phase = b.collector.phase; live = b.collector.live; current = b.collector.current; next = b.collector.next; src = b.collector.src; dest = b.collector.dest; tuple = b.collector.tuple; size = b.collector.size; index = v; copy = b.collector.copy }) b

abbrev pub with_copy : Word → Box → Box
with_copy v b = with_collector (record { phase = b.collector.phase; live = b.collector.live; current = b.collector.current; next = b.collector.next; src = b.collector.src; dest = b.collector.dest; tuple = b.collector.tuple; size = b.collector.size; index = b.collector.index; copy = v }) b

-- ---- the hold

abbrev pub with_held : Bool → Box → Box
with_held v b = with_hold (record { held = v; begun = b.hold.begun; register = b.hold.register; size = b.hold.size; tag = b.hold.tag }) b

abbrev pub with_begun : Bool → Box → Box
with_begun v b = with_hold (record { held = b.hold.held; begun = v; register = b.hold.register; size = b.hold.size; tag = b.hold.tag }) b

abbrev pub with_hold_register : ℕ → Box → Box
with_hold_register v b = with_hold (record { held = b.hold.held; begun = b.hold.begun; register = v; size = b.hold.size; tag = b.hold.tag }) b

abbrev pub with_hold_size : ℕ → Box → Box
with_hold_size v b = with_hold (record { held = b.hold.held; begun = b.hold.begun; register = b.hold.register; size = v; tag = b.hold.tag }) b

abbrev pub with_hold_tag : ℕ → Box → Box
with_hold_tag v b = with_hold (record { held = b.hold.held; begun = b.hold.begun; register = b.hold.register; size = b.hold.size; tag = v }) b
