-- How the collector's struct and the lent columns make a box, and what a word of the code stands for.
use Rattle.std.specs.Prelude.{ℕ, Bool, List, []}
use Rattle.collector.specs.declared.state.State.{State}
use Rattle.collector.specs.declared.word.Word as code_word
use Rattle.rules.specs.Parts.{Word, Registers, Box}

-- the registers, the seven columns and the state
abbrev pub boxed : Registers → List ℕ → List Bool → List ℕ → List ℕ → List ℕ → List Bool → List Bool → State → Box
boxed q ws fs ads ss ls ms ds s = record { m = s.m; h = s.h; top = s.top; free = s.free; memory = record { words = ws; flags = fs }; directory = record { addresses = ads; sizes = ss; links = ls; marks = ms; deeps = ds }; registers = q; collector = record { phase = s.phase; live = s.live; current = s.current; next = s.next; src = s.src; dest = s.dest; tuple = s.tuple; size = s.size; index = s.index; copy = record { bits = s.copy; flag = s.copy_flag } }; hold = record { held = s.held; begun = s.begun; register = s.hold_register; size = s.hold_size; tag = s.hold_tag } }

-- no registers: where they bear on nothing
abbrev pub blank : Registers
blank = record { words = []; flags = [] }

abbrev pub word_of : code_word.Word → Word
word_of w = record { bits = w.bits; flag = w.flag }
