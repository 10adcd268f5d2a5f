-- A list of C calls as its caller sees it, and the world that the caller makes of it: the history machine and the log of
-- crates/history/specs/Calls, fed with the lent parts after each call and the number that it returned, nothing more.
use Rattle.std.specs.Prelude.{ℕ, ◌/◌, ◌%◌, cond, List, [], ◌∷◌, eqb}
use Rattle.std.proofs.Math.Option.{Option, none, some}
use Rattle.rules.specs.declared.kinds.Request.{Request}
use Rattle.rules.specs.Parts.{Box}
use Rattle.rules.specs.Box.{Reply, reply}
use Rattle.rules.specs.Run.{Ran, ran}
use Rattle.record.specs.Requests.{request_of}
use Rattle.capi.specs.Promises.{Lent, box_of}
use Rattle.history.specs.Calls.{World, start, after_request, after_step, after_run}
use Rattle.callers.specs.CCalls.{CCall, gloamish_open, gloamish_request, gloamish_step, gloamish_run, InWidth, Promised}

-- ---- what is seen

-- a call, the lent parts as it left them, and the number that it returned
pub record Seen : Type 0 where
  pub call : CCall
  pub parts : Lent
  pub returned : ℕ

-- each call keeps its promise, and gets the lent parts as the last call left them; nobody else writes to them
abbrev pub Trace : Lent → List Seen → Type 0
Trace before [] = Unit {0}
Trace before (s ∷ ss) = Promised s.call before s.parts s.returned × Trace s.parts ss

-- the lent parts as the last call left them
abbrev pub last_parts : Lent → List Seen → Lent
last_parts before [] = before
last_parts before (s ∷ ss) = last_parts s.parts ss

abbrev pub AllInWidth : List Seen → Type 0
AllInWidth [] = Unit {0}
AllInWidth (s ∷ ss) = InWidth s.call × AllInWidth ss

-- ---- what is made of it

-- the world of the calls since the last opening that answered 0, and that opening's m and h
pub record Followed : Type 0 where
  pub m : ℕ
  pub h : ℕ
  pub world : World

abbrev pub with_world : World → Followed → Followed
with_world w f = record { m = f.m; h = f.h; world = w }

-- b is the box after the opening
unfoldable pub started : ℕ → ℕ → Box → Followed
started m h b = record { m = m; h = h; world = start b }

-- an opening that answered 0 starts a new world; one that was refused changes nothing
unfoldable pub follow_open : ℕ → ℕ → Reply → Followed → Followed
follow_open m h r f = cond (eqb r.answer 0) (started m h r.box) f

-- numbers that ask for no request, answered 4,294,967,295, are no call of document 01 and change nothing
unfoldable pub follow_request : Option Request → Reply → World → World
follow_request none r w = w
follow_request (some q) r w = after_request q r w

-- the number of a run has its answer in the low 8 bits and its steps above them
abbrev pub ran_by : Reply → Ran
ran_by r = ran r.box (r.answer % 256) (r.answer / 256)

-- r is the box of the parts after the call, and the number returned
unfoldable pub follow_call : CCall → Reply → Followed → Followed
follow_call (gloamish_open m h) r f = follow_open m h r f
follow_call (gloamish_request kind a b c) r f = with_world (follow_request (request_of kind a b c) r f.world) f
follow_call gloamish_step r f = with_world (after_step r f.world) f
follow_call (gloamish_run budget) r f = with_world (after_run budget (ran_by r) f.world) f

unfoldable pub follow : List Seen → Followed → Followed
follow [] f = f
follow (s ∷ ss) f = follow ss (follow_call s.call (reply (box_of s.parts) s.returned) f)
