-- A step that only goes through a tuple's words.
use Rattle.std.specs.Prelude.{◌+◌, ◌<◌, ◌≤◌, Bool, Option, None, Some, cond, ◌&&◌, leb, ltb, eqb}
use Rattle.rules.specs.Parts.{Box}
use Rattle.rules.specs.Box.{Reply, reply}
use Rattle.rules.specs.Collector.{mark_scan, sweep_read, sweep_clear, sweep_write, sweep_zero}
use Rattle.collector.specs.declared.state.State.{State}

-- the tuple has a word at index, and it is in memory
abbrev pub at_word : Box → Bool
at_word b = leb b.collector.index b.collector.size && ltb (b.collector.src + b.collector.index) b.m

-- the same, of the struct that the rules take
abbrev pub AtWord : State → Type 0
AtWord s = (s.index ≤ s.size) × (s.src + s.index < s.m)

-- phases 6 and 7, and phases 2, 5 and 8 at a word: the rule of the phase. Else another step is to be done
unfoldable pub word_step : Box → Option Reply
word_step b =
    cond (eqb b.collector.phase 7) (Some (sweep_write b))
    (cond (eqb b.collector.phase 6) (Some (sweep_clear b))
    (cond (at_word b)
    (cond (eqb b.collector.phase 5) (Some (sweep_read b))
    (cond (eqb b.collector.phase 2) (Some (mark_scan b))
    (cond (eqb b.collector.phase 8) (Some (sweep_zero b)) None)))
    None))

-- the same as one reply: 0 is no answer of a step, and another one is to be done
abbrev pub or_none : Box → Option Reply → Reply
or_none b None = reply b 0
or_none b (Some r) = r

unfoldable pub word_reply : Box → Reply
word_reply b = or_none b (word_step b)
