-- The rows of a table as the code has them.
use Rattle.std.specs.Prelude.{Option as Known, Some, None}
use Rattle.std.specs.Prelude.{ℕ, List}
use Rattle.std.proofs.Math.Option as rules
use denote.Ref.{Bor}

-- the fields of a kind or an edition, where there is one
abbrev pub fields_known : Known (Bor (List ℕ)) → rules.Option (List ℕ)
fields_known None = rules.none
fields_known (Some ls) = rules.some ls.now
