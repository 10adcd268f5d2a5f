-- What the numbers of a call ask for, as the code answers it: the specs' Option is the logic's, the code's is the library's.
use Rattle.std.specs.Prelude.{ℕ, cond}
use Rattle.std.specs.Prelude as code
use Rattle.std.proofs.Math.Option.{Option, none, some}
use Rattle.rules.specs.declared.kinds.Request.{Request}
use Rattle.record.specs.Requests.{half}

abbrev pub asked_as : Option Request → code.Option Request
asked_as none = code.None
asked_as (some q) = code.Some q

-- a 16-bit field
abbrev pub half_as : ℕ → code.Option ℕ
half_as x = cond (half x) (code.Some x) code.None
