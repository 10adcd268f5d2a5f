-- The numbers of document 01 that a step of the collector answers.
use Rattle.std.specs.Prelude.{ℕ}
use Rattle.collector.specs.declared.state.Answer.{Answer}
use Rattle.collector.specs.declared.state.Answer.TheVariants.{Dropped, Refused, Going, Ended, Granted, StillHeld}

abbrev pub number_of : Answer → ℕ
number_of Dropped = 8
number_of Refused = 9
number_of Going = 30
number_of Ended = 31
number_of Granted = 32
number_of StillHeld = 33
