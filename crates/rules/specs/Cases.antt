-- Document 01, "Bench cases": the twelve marked P, as one table of data, and one theorem over it.
-- The box is opened 16, 4. A case is what is done after an opening that answered 0, with the answers that the document gives, and what is
-- then seen.
use Rattle.std.specs.Prelude.{ℕ, zero, suc, Bool, true, false, not, cond, ◌&&◌, List, [], ◌∷◌, ◌++◌, ◌≡◌, refl, eqb, drop, replicate}
use Rattle.std.specs.Bool.{beq}
use Rattle.std.proofs.Math.Option.{Option, none, some}
use Rattle.rules.specs.declared.kinds.Request.{Request}
use Rattle.rules.specs.declared.kinds.Request.TheVariants.{Setd, Getm, Load, Store}
use Rattle.rules.specs.Limits.{in_range}
use Rattle.rules.specs.Parts.{Word, Box}
use Rattle.rules.specs.Box.{Reply, data_word, pointer, word_at, register, address, link, is_entry, lengths_are, right_sizes, sound}
use Rattle.rules.specs.Place.{being_moved, place, in_memory, read, write, can_shade, list_next, mark_live, shade}
use Rattle.rules.specs.Request.{no_room, collecting, can_make, new_entry, take_room, new_tuple, put_on_hold, at_tuple, word_number, at_word, advance, getm, load, shades, shaded_first, deepened, store_word, store, size, tag_at, tag, same_word, same, registers_right, carry_out, request}
use Rattle.rules.specs.Collector.{at_rest, unheld, granted, try_held, settle, end_cycle, note_begun, rest, scan, look_register, look_from, begin_sweep, end_marking, mark_root, scan_next, mark_next, scan_word, scan_current, mark_scan, mark_add, go_on, keep_in_place, start_move, free_tuple, start_zero, release, sweep_tuple, sweep_scan, leave_tuple, settle_move, finish_move, copy_word, sweep_read, sweep_clear, write_copy, sweep_write, zero_word, sweep_zero, rule_of, step}
use Rattle.rules.specs.Open.{opened_link, opened_links, opened, opening}

-- ---- what is done

pub data Act : Type 0 where
  -- a request, and its answer
  ask : Request → ℕ → Act
  -- so many single steps, each of which answers 30
  steps : ℕ → Act
  -- one single step, and its answer
  step_to : ℕ → Act
  -- single steps that answer 30, at most so many, and one more with this answer
  within : ℕ → ℕ → Act

-- a cycle ends at this step, with this answer: each step before it answers 30
abbrev pub cycle : ℕ → ℕ → List Act
cycle zero a = []
cycle (suc n) a = steps n ∷ step_to a ∷ []

-- ---- what is seen

pub data Seen : Type 0 where
  top_is : ℕ → Seen
  -- the word at an address
  word_is : ℕ → Word → Seen
  -- data 0 from an address to the end of memory
  zero_from : ℕ → Seen
  register_is : ℕ → Word → Seen
  -- the entry of a handle has this address
  lies_at : ℕ → ℕ → Seen
  -- the free list, in order
  free_is : List ℕ → Seen
  -- whether a request is held
  held_is : Bool → Seen

pub record Case : Type 0 where
  -- its number in document 01
  pub number : ℕ
  pub acts : List Act
  pub seen : List Seen

-- ---- the table

-- each is also where others start from
abbrev pub acts1 : List Act
acts1 = ask (Getm 0 2 7) 0 ∷ []

abbrev pub acts2 : List Act
acts2 = acts1 ++ ask (Getm 1 1 0) 0 ∷ []

abbrev pub acts3 : List Act
acts3 = acts2 ++ ask (Store 1 0 0) 0 ∷ ask (Setd 1 0) 0 ∷ cycle 10 31

abbrev pub before5 : List Act
before5 = acts2 ++ ask (Setd 2 0xABCD) 0 ∷ ask (Store 2 1 0) 0 ∷ ask (Setd 0 0) 0 ∷ []

abbrev pub table : List Case
table =
    record { number = 1; acts = acts1; seen = register_is 0 (pointer 1 0) ∷ word_is 0 (data_word 0x00010007) ∷ top_is 3 ∷ [] }
    ∷ record { number = 2; acts = acts2; seen = register_is 1 (pointer 2 0) ∷ top_is 5 ∷ [] }
    ∷ record { number = 3; acts = acts3; seen = lies_at 1 0 ∷ lies_at 2 3 ∷ top_is 5 ∷ word_is 0 (data_word 0x00010007) ∷ word_is 1 (pointer 2 0) ∷ word_is 2 (data_word 0) ∷ word_is 3 (data_word 0x00020000) ∷ zero_from 4 ∷ [] }
    ∷ record { number = 4; acts = acts3 ++ ask (Setd 0 0) 0 ∷ cycle 11 31; seen = top_is 0 ∷ free_is (2 ∷ 1 ∷ 3 ∷ []) ∷ [] }
    ∷ record { number = 5; acts = before5 ++ cycle 14 31; seen = top_is 2 ∷ word_is 0 (data_word 0x00020000) ∷ word_is 1 (data_word 0xABCD) ∷ zero_from 2 ∷ [] }
    ∷ record { number = 6; acts = before5 ++ steps 12 ∷ ask (Load 3 1 0) 0 ∷ []; seen = register_is 3 (data_word 0xABCD) ∷ [] }
    ∷ record { number = 7; acts = before5 ++ steps 12 ∷ ask (Setd 3 5) 0 ∷ ask (Store 3 1 0) 0 ∷ cycle 2 31; seen = word_is 1 (data_word 5) ∷ [] }
    ∷ record { number = 8; acts = cycle 2 31; seen = top_is 0 ∷ [] }
    ∷ record { number = 9; acts = acts2 ++ ask (Getm 2 10 0) 0 ∷ []; seen = top_is 16 ∷ [] }
    ∷ record { number = 10; acts = acts2 ++ ask (Getm 2 11 0) 7 ∷ within 41 8 ∷ []; seen = top_is 5 ∷ held_is false ∷ [] }
    ∷ record { number = 11; acts = acts2 ++ ask (Getm 2 16 0) 5 ∷ []; seen = top_is 5 ∷ [] }
    ∷ record { number = 12; acts = acts1 ++ ask (Setd 1 0xABCD) 0 ∷ ask (Load 1 0 1) 0 ∷ ask (Load 1 0 2) 3 ∷ []; seen = register_is 1 (data_word 0) ∷ [] }
    ∷ []

-- ---- one check over it

-- the box that a call leaves, where its answer is the one expected
abbrev pub answering : ℕ → Reply → Option Box
answering a r = cond (eqb r.answer a) (some r.box) none

abbrev pub bind : Option Box → (Box → Option Box) → Option Box
bind none f = none
bind (some b) f = f b

abbrev pub step_many : ℕ → Box → Option Box
step_many zero b = some b
step_many (suc n) b = bind (answering 30 (step b)) (step_many n)

abbrev pub step_until : ℕ → ℕ → Box → Option Box
step_until zero a b = answering a (step b)
step_until (suc n) a b = elim (eqb (step b).answer a) [ true ↦ some (step b).box | false ↦ bind (answering 30 (step b)) (step_until n a) ]

abbrev pub act : Act → Box → Option Box
act (ask q a) b = answering a (request q b)
act (steps n) b = step_many n b
act (step_to a) b = answering a (step b)
act (within n a) b = step_until n a b

abbrev pub play : List Act → Box → Option Box
play [] b = some b
play (a ∷ rest_of) b = bind (act a b) (play rest_of)

abbrev pub all_zero : List ℕ → List Bool → Bool
all_zero [] [] = true
all_zero [] (t ∷ ts) = false
all_zero (w ∷ ws) [] = false
all_zero (w ∷ ws) (t ∷ ts) = eqb w 0 && not t && all_zero ws ts

-- the list of these handles, from this head along the links, and 0 behind the last
abbrev pub is_chain : ℕ → List ℕ → Box → Bool
is_chain head [] b = eqb head 0
is_chain head (h ∷ hs) b = eqb head h && is_chain (link h b) hs b

abbrev pub sees : Seen → Box → Bool
sees (top_is n) b = eqb b.top n
sees (word_is a w) b = same_word (word_at a b) w
sees (zero_from a) b = all_zero (drop a b.memory.words) (drop a b.memory.flags)
sees (register_is r w) b = same_word (register r b) w
sees (lies_at h a) b = eqb (address h b) a
sees (free_is hs) b = is_chain b.free hs b
sees (held_is t) b = beq b.hold.held t

abbrev pub sees_all : List Seen → Option Box → Bool
sees_all ss none = false
sees_all [] (some b) = true
sees_all (s ∷ ss) (some b) = sees s b && sees_all ss (some b)

-- what is lent to the opening: 16 words and 4 entries of anything but what it leaves there
abbrev pub unopened : Box
unopened =
    record {
      m = 7;
      h = 7;
      top = 7;
      free = 7;
      memory = record { words = replicate 16 7; flags = replicate 16 true };
      directory = record { addresses = replicate 4 7; sizes = replicate 4 7; links = replicate 4 7; marks = replicate 4 true; deeps = replicate 4 true };
      registers = record { words = replicate 8 7; flags = replicate 8 true };
      collector = record { phase = 7; live = 7; current = 7; next = 7; src = 7; dest = 7; tuple = 7; size = 7; index = 7; copy = record { bits = 7; flag = true } };
      hold = record { held = true; begun = true; register = 7; size = 7; tag = 7 };
    }

abbrev pub holds : Case → Bool
holds c = sees_all c.seen (bind (answering 0 (opening 16 4 unopened)) (play c.acts))

abbrev pub all_hold : List Case → Bool
all_hold [] = true
all_hold (c ∷ cs) = holds c && all_hold cs

-- all twelve
pub every_case : all_hold table ≡ true
unfolding in_range is_entry lengths_are right_sizes sound being_moved place in_memory read write can_shade list_next mark_live shade no_room collecting can_make new_entry take_room new_tuple put_on_hold at_tuple word_number at_word advance getm load shades shaded_first deepened store_word store size tag_at tag same_word same registers_right carry_out request at_rest unheld granted try_held settle end_cycle note_begun rest scan look_register look_from begin_sweep end_marking mark_root scan_next mark_next scan_word scan_current mark_scan mark_add go_on keep_in_place start_move free_tuple start_zero release sweep_tuple sweep_scan leave_tuple settle_move finish_move copy_word sweep_read sweep_clear write_copy sweep_write zero_word sweep_zero rule_of step opened_link opened_links opened opening
every_case = refl
