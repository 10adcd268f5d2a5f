-- How far single steps go.
use Rattle.std.specs.Prelude.{ℕ, zero, suc, cond, eqb}
use Rattle.rules.specs.Parts.{Box}
use Rattle.rules.specs.Collector.{step}
use Rattle.rules.specs.Run.{Ran, ran, counted}

-- single steps, at most so many, until one answers other than 30; one that answers 9 is not counted
unfoldable pub stretch : ℕ → Box → Ran
stretch zero b = ran b 30 0
stretch (suc n) b =
    cond (eqb (step b).answer 30) (counted (stretch n (step b).box))
    (ran (step b).box (step b).answer (cond (eqb (step b).answer 9) 0 1))
