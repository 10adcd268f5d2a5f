-- A list of calls after an opening, played on the box and, with the answers alone, on the history machine. A log is kept
-- beside them, changed at each single step, also those inside a run: the handles given, the cycles, the holds and the steps'
-- answers.
use Rattle.std.specs.Prelude.{ℕ, zero, suc, ◌<◌, ◌^◌, Bool, true, false, cond, List, [], ◌∷◌, ◌++◌, eqb}
use Rattle.std.proofs.Math.Option.{Option, none, some}
use Rattle.rules.specs.declared.kinds.Request.{Request}
use Rattle.rules.specs.declared.kinds.Request.TheVariants.{Setd, Nil, Move, Advance, Getm, Load, Store, Size, Tag, Same}
use Rattle.rules.specs.Limits.{half_word}
use Rattle.rules.specs.Parts.{Box}
use Rattle.rules.specs.Box.{Reply, handle_of, register}
use Rattle.rules.specs.Request.{request}
use Rattle.rules.specs.Collector.{step}
use Rattle.rules.specs.Run.{Ran, run}
use Rattle.history.specs.Machine.{Asked, History, fresh, Call, ask, single_step, run_for, feed}

-- ---- the log

-- a cycle under way: the history machine and top as it started, the single steps so far, and whether no request was carried
-- out in it
pub record Cycle : Type 0 where
  pub started : History
  pub first_top : ℕ
  pub steps : ℕ
  pub quiet : Bool

-- a cycle that has ended: the answer of the step that ended it, and the box and the handles given as it ended
pub record EndedCycle : Type 0 where
  pub cycle : Cycle
  pub answer : ℕ
  pub box_then : Box
  pub given_then : List ℕ

-- a hold not yet answered: what was asked, the history machine as it was put on hold, and the single steps since
pub record Pending : Type 0 where
  pub asked : Asked
  pub history_then : History
  pub steps : ℕ

-- a hold that was answered, 8 or 32
pub record Answered : Type 0 where
  pub hold : Pending
  pub answer : ℕ

pub record Log : Type 0 where
  -- the handle of each tuple made: the one the box has in r after the call that made it
  pub given : List ℕ
  pub cycle : Option Cycle
  pub ended : List EndedCycle
  pub pending : Option Pending
  pub answered : List Answered
  -- the answers of all single steps, also those inside a run, the latest first. A single step that answers 9 is here too; the one
  -- that a run stops before is none of its steps
  pub step_answers : List ℕ

pub record World : Type 0 where
  pub box : Box
  pub history : History
  pub log : Log
  -- the answers of the calls, the latest first
  pub answers : List ℕ

abbrev pub empty_log : Log
empty_log = record { given = []; cycle = none; ended = []; pending = none; answered = []; step_answers = [] }

-- the world after an opening that answered 0
abbrev pub start : Box → World
start b = record { box = b; history = fresh; log = empty_log; answers = [] }

-- ---- a request

-- a GETM that was carried out made a tuple
unfoldable pub given_by : Request → Box → List ℕ → List ℕ
given_by (Getm r n tag) b given = given ++ handle_of (register r b) ∷ []
given_by (Setd r v) b given = given
given_by (Nil r) b given = given
given_by (Move r s) b given = given
given_by (Advance r n) b given = given
given_by (Load r s k) b given = given
given_by (Store r s k) b given = given
given_by (Size r s) b given = given
given_by (Tag r s) b given = given
given_by (Same r s t) b given = given

unfoldable pub disturb : Option Cycle → Option Cycle
disturb none = none
disturb (some c) = some (record { started = c.started; first_top = c.first_top; steps = c.steps; quiet = false })

unfoldable pub pend : Option Asked → History → Option Pending
pend none m = none
pend (some q) m = some (record { asked = q; history_then = m; steps = 0 })

-- the request was carried out; b is the box after it
unfoldable pub log_done : Request → Box → Log → Log
log_done q b l = record { given = given_by q b l.given; cycle = disturb l.cycle; ended = l.ended; pending = l.pending; answered = l.answered; step_answers = l.step_answers }

-- the request was put on hold; m is the history machine after it
unfoldable pub log_held : History → Log → Log
log_held m l = record { given = l.given; cycle = l.cycle; ended = l.ended; pending = pend m.hold m; answered = l.answered; step_answers = l.step_answers }

unfoldable pub log_request : Request → ℕ → Box → History → Log → Log
log_request q a b m l = cond (eqb a 0) (log_done q b l) (cond (eqb a 7) (log_held m l) l)

-- ---- a single step

-- a cycle starts at its Rest step
unfoldable pub cycle_step : Box → History → Option Cycle → Option Cycle
cycle_step b m none = cond (eqb b.collector.phase 0) (some (record { started = m; first_top = b.top; steps = 1; quiet = true })) none
cycle_step b m (some c) = some (record { started = c.started; first_top = c.first_top; steps = suc c.steps; quiet = c.quiet })

unfoldable pub end_log_cycle : Option Cycle → ℕ → Box → List ℕ → List EndedCycle → List EndedCycle
end_log_cycle none a b given es = es
end_log_cycle (some c) a b given es = record { cycle = c; answer = a; box_then = b; given_then = given } ∷ es

unfoldable pub wait_step : Option Pending → Option Pending
wait_step none = none
wait_step (some p) = some (record { asked = p.asked; history_then = p.history_then; steps = suc p.steps })

unfoldable pub answer_hold : Option Pending → ℕ → List Answered → List Answered
answer_hold none a hs = hs
answer_hold (some p) a hs = record { hold = p; answer = a } ∷ hs

-- the tuple that a granted request made
unfoldable pub given_held : Option Pending → Box → List ℕ → List ℕ
given_held none b given = given
given_held (some p) b given = given ++ handle_of (register p.asked.register b) ∷ []

-- the parts of the log after a step with an answer, but for the answers: b is the box before it, c the box after it, m the
-- history machine before it. 30: the cycle goes on
unfoldable pub log_going : Box → History → Log → Log
log_going b m l = record { given = l.given; cycle = cycle_step b m l.cycle; ended = l.ended; pending = wait_step l.pending; answered = l.answered; step_answers = l.step_answers }

-- 31 and 33: the cycle has ended, and no request was answered
unfoldable pub log_ended : ℕ → Box → Box → History → Log → Log
log_ended a b c m l = record { given = l.given; cycle = none; ended = end_log_cycle (cycle_step b m l.cycle) a c l.given l.ended; pending = wait_step l.pending; answered = l.answered; step_answers = l.step_answers }

-- 32: it has ended, and the held request was granted
unfoldable pub log_granted : Box → Box → History → Log → Log
log_granted b c m l = record { given = given_held l.pending c l.given; cycle = none; ended = end_log_cycle (cycle_step b m l.cycle) 32 c (given_held l.pending c l.given) l.ended; pending = none; answered = answer_hold (wait_step l.pending) 32 l.answered; step_answers = l.step_answers }

-- 8: it has ended, and the hold was dropped
unfoldable pub log_dropped : Box → Box → History → Log → Log
log_dropped b c m l = record { given = l.given; cycle = none; ended = end_log_cycle (cycle_step b m l.cycle) 8 c l.given l.ended; pending = none; answered = answer_hold (wait_step l.pending) 8 l.answered; step_answers = l.step_answers }

-- by its answer; 9 leaves them as they were
unfoldable pub log_parts : Box → Reply → History → Log → Log
log_parts b r m l =
    cond (eqb r.answer 30) (log_going b m l)
    (cond (eqb r.answer 32) (log_granted b r.box m l)
    (cond (eqb r.answer 8) (log_dropped b r.box m l)
    (cond (eqb r.answer 9) l (log_ended r.answer b r.box m l))))

abbrev pub with_step_answers : List ℕ → Log → Log
with_step_answers xs l = record { given = l.given; cycle = l.cycle; ended = l.ended; pending = l.pending; answered = l.answered; step_answers = xs }

-- the step's answer is noted whatever becomes of the other parts
unfoldable pub log_step : Box → Reply → History → Log → Log
log_step b r m l = with_step_answers (r.answer ∷ l.step_answers) (log_parts b r m l)

-- the single steps that a run stands for. The history machine changes with none of them but the last, and there by the run's
-- answer, after it
unfoldable pub log_steps : ℕ → Box → History → Log → Log
log_steps zero b m l = l
log_steps (suc n) b m l = log_steps n (step b).box m (log_step b (step b) m l)

-- ---- a call, and a list of calls

unfoldable pub after_request : Request → Reply → World → World
after_request q r w =
    record { box = r.box; history = feed (ask q) r.answer w.history; log = log_request q r.answer r.box (feed (ask q) r.answer w.history) w.log; answers = r.answer ∷ w.answers }

unfoldable pub after_step : Reply → World → World
after_step r w =
    record { box = r.box; history = feed single_step r.answer w.history; log = log_step w.box r w.history w.log; answers = r.answer ∷ w.answers }

unfoldable pub after_run : ℕ → Ran → World → World
after_run n r w =
    record { box = r.box; history = feed (run_for n) r.answer w.history; log = log_steps r.steps w.box w.history w.log; answers = r.answer ∷ w.answers }

-- each call gets the lent parts and the state as the last call left them
unfoldable pub play_call : Call → World → World
play_call (ask q) w = after_request q (request q w.box) w
play_call single_step w = after_step (step w.box) w
play_call (run_for n) w = after_run n (run n w.box) w

unfoldable pub play : List Call → World → World
play [] w = w
play (c ∷ cs) w = play cs (play_call c w)

-- ---- the fields of a request are numbers of their widths: registers, k, n and tag of 16 bits, v of 32

abbrev pub In16 : ℕ → Type 0
In16 n = n < half_word

abbrev pub RequestInWidth : Request → Type 0
RequestInWidth (Setd r v) = In16 r × (v < 2 ^ 32)
RequestInWidth (Nil r) = In16 r
RequestInWidth (Move r s) = In16 r × In16 s
RequestInWidth (Advance r n) = In16 r × In16 n
RequestInWidth (Getm r n tag) = In16 r × In16 n × In16 tag
RequestInWidth (Load r s k) = In16 r × In16 s × In16 k
RequestInWidth (Store r s k) = In16 r × In16 s × In16 k
RequestInWidth (Size r s) = In16 r × In16 s
RequestInWidth (Tag r s) = In16 r × In16 s
RequestInWidth (Same r s t) = In16 r × In16 s × In16 t

abbrev pub CallInWidth : Call → Type 0
CallInWidth (ask q) = RequestInWidth q
CallInWidth single_step = Unit {0}
CallInWidth (run_for n) = n < 2 ^ 32

abbrev pub CallsInWidth : List Call → Type 0
CallsInWidth [] = Unit {0}
CallsInWidth (c ∷ cs) = CallInWidth c × CallsInWidth cs
