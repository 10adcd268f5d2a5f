-- What the C interface adds to the calls of the memory unit: a request by its kind's number and its fields (crate record says which),
-- and a run's steps and answer in one number. The opening and the step are the memory unit's own.
use Rattle.std.specs.Prelude.{ℕ, ◌+◌, ◌*◌}
use Rattle.std.proofs.Math.Option.{Option, none, some}
use Rattle.rules.specs.declared.kinds.Request.{Request}
use Rattle.rules.specs.Parts.{Box}
use Rattle.rules.specs.Box.{Reply, reply}
use Rattle.rules.specs.Request as rules_request
use Rattle.rules.specs.Run.{Ran, run}
use Rattle.record.specs.Number.{not_understood}
use Rattle.record.specs.Requests.{request_of}

-- numbers that ask for no request, an unknown kind or a 16-bit field above 65,535, change nothing
unfoldable pub c_asked : Option Request → Box → Reply
c_asked none b = reply b not_understood
c_asked (some q) b = rules_request.request q b

unfoldable pub c_request : ℕ → ℕ → ℕ → ℕ → Box → Reply
c_request kind a b c box = c_asked (request_of kind a b c) box

-- a run's box, and its steps and its answer in one number
abbrev pub in_one : Ran → Reply
in_one r = reply r.box (r.steps * 256 + r.answer)

unfoldable pub c_run : ℕ → Box → Reply
c_run budget box = in_one (run budget box)
