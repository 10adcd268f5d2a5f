-- Document 02, M-100: what playing a record prints. Each answer, the opening's and single steps' too, is a line; a reader's refusal is the
-- last line, after a 10 too.
use Rattle.std.specs.Prelude.{ℕ, zero, suc, cond, List, [], ◌∷◌, ◌++◌, eqb, get_or}
use Rattle.std.proofs.Math.Option.{Option, none, some}
use Rattle.rules.specs.declared.kinds.Request.{Request}
use Rattle.rules.specs.Limits.{in_range}
use Rattle.rules.specs.Parts.{Box}
use Rattle.rules.specs.Request as rules_request
use Rattle.rules.specs.Collector.{step}
use Rattle.rules.specs.Open.{opened}
use Rattle.record.specs.Requests.{request_of}
use Rattle.record.specs.Reading.{Reading, read}

-- what playing leaves, and the answers on the way
pub record Played : Type 0 where
  pub box : Box
  pub lines : List ℕ

abbrev pub played : Box → List ℕ → Played
played b xs = record { box = b; lines = xs }

abbrev pub line_before : ℕ → Played → Played
line_before a p = played p.box (a ∷ p.lines)

-- so many single steps, each with its answer
unfoldable pub play_steps : ℕ → Box → Played
play_steps zero b = played b []
play_steps (suc n) b = line_before (step b).answer (play_steps n (step b).box)

-- a request and its answer. A record that was read whole asks for one
unfoldable pub play_request : Option Request → Box → Played
play_request none b = played b []
play_request (some q) b = played (rules_request.request q b).box ((rules_request.request q b).answer ∷ [])

-- a record: its kind and its fields. Kind 11 is a number of single steps
unfoldable pub play_record : List ℕ → Box → Played
play_record ns b =
    cond (eqb (get_or ns 0 0) 11) (play_steps (get_or ns 1 0) b)
    (play_request (request_of (get_or ns 0 0) (get_or ns 1 0) (get_or ns 2 0) (get_or ns 3 0)) b)

unfoldable pub play_records : List (List ℕ) → Box → List ℕ
play_records [] b = []
play_records (ns ∷ is) b = (play_record ns b).lines ++ play_records is (play_record ns b).box

-- the opening, of a box with as many words and entries as the string says; a 10 stops the playing
unfoldable pub play_opened : ℕ → ℕ → List (List ℕ) → List ℕ
play_opened m h is = cond (in_range m h) (0 ∷ play_records is (opened m h)) (10 ∷ [])

-- what was read whole: edition, M and H first
unfoldable pub play_items : List (List ℕ) → List ℕ
play_items [] = []
play_items (ns ∷ is) = play_opened (get_or ns 1 0) (get_or ns 2 0) is

-- a string that reads well prints no line of its own
unfoldable pub refusal_line : ℕ → List ℕ
refusal_line a = cond (eqb a 0) [] (a ∷ [])

-- the lines of a reading, and those of any string of bytes
unfoldable pub lines_of : Reading → List ℕ
lines_of r = play_items r.items ++ refusal_line r.answer

unfoldable pub lines : List ℕ → List ℕ
lines bs = lines_of (read bs)
