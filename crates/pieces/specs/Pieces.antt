-- Playing in pieces: what a call does with the bytes at hand, while more may come, and with room for only so much output. That this gives
-- the lines of the whole string (specs/Lines), wherever it is cut, is the theorem `pieces`.
use Rattle.std.specs.Prelude.{ℕ, zero, suc, ◌+◌, ◌-◌, Bool, true, false, not, cond, ◌&&◌, List, [], ◌∷◌, ◌++◌, ltb, eqb, length, get_or, take}
use Rattle.std.proofs.Math.Option.{Option, none, some}
use Rattle.rules.specs.declared.kinds.Request.{Request}
use Rattle.rules.specs.Parts.{Box, with_memory, with_directory}
use Rattle.rules.specs.Box.{Reply, reply}
use Rattle.rules.specs.Request as rules_request
use Rattle.rules.specs.Collector.{step}
use Rattle.rules.specs.Open.{opening}
use Rattle.record.specs.Number.{cut, too_large, bytes_after}
use Rattle.record.specs.Fields.{whole, fault, kinds, editions, entry}
use Rattle.record.specs.Reading.{is_end, nothing_behind}
use Rattle.record.specs.Requests.{request_of}
use Rattle.pieces.specs.declared.place.Place.{Place}
use Rattle.pieces.specs.declared.place.Deed.{Deed}
use Rattle.pieces.specs.declared.place.Deed.TheVariants.{Say, Step, Ask, Silent}
use Rattle.pieces.specs.Text.{line}

-- ---- where the playing stands

-- 0: nothing is read yet
abbrev pub at_start : ℕ
at_start = 0

-- 1: opened, and records are played
abbrev pub playing : ℕ
playing = 1

-- 2: the opening answered 10, and records are only read
abbrev pub only_reading : ℕ
only_reading = 2

-- 3: the end and its count are read
abbrev pub at_end : ℕ
at_end = 3

-- 4, and all above: a refusal was printed, and nothing is left to do
abbrev pub over : ℕ
over = 4

-- the stage; how many records were read, which counts no further than the first number that no count of 32 bits equals; the single steps
-- of kind 11 still to be done; and whether a box was opened
abbrev pub at : ℕ → ℕ → ℕ → Bool → Place
at s n l o = record { stage = s; count = n; left = l; opened = o }

abbrev pub start : Place
start = at at_start 0 0 false

unfoldable pub one_more : ℕ → ℕ
one_more n = cond (ltb n 4294967296) (n + 1) n

-- ---- the next thing to do

-- a deed is one of the code's own: Say a number, do a Step or Ask a request and say the answer, or be Silent. With it, where the playing
-- then stands and the bytes behind what was read; or nothing can be done with the bytes at hand
pub data Move : Type 0 where
  go : Deed → Place → List ℕ → Move
  wait : Move

-- the place after a refusal
abbrev pub ended : Place → Place
ended p = at over p.count 0 p.opened

-- more bytes may make whole what is cut, unless these are the last
unfoldable pub may_come : Bool → ℕ → Bool
may_come last a = eqb a cut && not last

-- a refusal is printed, and it is the last line
unfoldable pub refuse : Bool → ℕ → Place → List ℕ → Move
refuse last a p bs = cond (may_come last a) wait (go (Say a) (ended p) bs)

-- kind 0 and its count
unfoldable pub finish : Place → List ℕ → List ℕ → Move
finish p ns rest =
    cond (eqb (get_or ns 1 0) p.count) (go Silent (at at_end p.count 0 p.opened) rest) (go (Say too_large) (ended p) rest)

unfoldable pub asked : Option Request → Deed
asked none = Silent
asked (some q) = Ask q

-- one record more was read, and so many single steps are to be done
abbrev pub counted : Place → ℕ → Place
counted p n = at p.stage (one_more p.count) n p.opened

-- a record that is played: its single steps are still to be done, or its request is
unfoldable pub play_now : Place → List ℕ → List ℕ → Move
play_now p ns rest =
    cond (eqb (get_or ns 0 0) 11) (go Silent (counted p (get_or ns 1 0)) rest)
    (go (asked (request_of (get_or ns 0 0) (get_or ns 1 0) (get_or ns 2 0) (get_or ns 3 0))) (counted p 0) rest)

-- a record, read whole: after a 10 it is only counted
unfoldable pub take_record : Place → List ℕ → List ℕ → Move
take_record p ns rest =
    cond (is_end ns) (finish p ns rest) (cond (eqb p.stage playing) (play_now p ns rest) (go Silent (counted p 0) rest))

unfoldable pub next_record : Bool → Place → List ℕ → Move
next_record last p bs = elim (entry kinds bs) [ whole ns rest ↦ take_record p ns rest | fault a ↦ refuse last a p bs ]

-- single steps first, then the next record
unfoldable pub go_on : Bool → Place → List ℕ → Move
go_on last p bs =
    cond (eqb p.left 0) (next_record last p bs) (go Step (at p.stage p.count (p.left - 1) p.opened) bs)

-- bytes behind the end
unfoldable pub look_behind : Place → List ℕ → Move
look_behind p bs = cond (nothing_behind bs) wait (go (Say bytes_after) (ended p) bs)

unfoldable pub next : Bool → Place → List ℕ → Move
next last p bs =
    cond (ltb p.stage at_end) (go_on last p bs) (cond (eqb p.stage at_end) (look_behind p bs) wait)

-- ---- doing it

-- the box that it leaves, and the answer
unfoldable pub carry_out : Deed → Box → Reply
carry_out (Say a) b = reply b a
carry_out Step b = step b
carry_out (Ask q) b = rules_request.request q b
carry_out Silent b = reply b 0

-- what is printed
unfoldable pub printed : Deed → ℕ → List ℕ
printed (Say n) a = a ∷ []
printed Step a = a ∷ []
printed (Ask q) a = a ∷ []
printed Silent a = []

-- ---- a piece

-- the lines printed, the box and the place that are left, the bytes not yet used, and whether nothing can be done with these; otherwise
-- there is more to do, or the room for output is used up
pub record Piece : Type 0 where
  pub lines : List ℕ
  pub box : Box
  pub place : Place
  pub bytes : List ℕ
  pub waits : Bool

abbrev pub piece : List ℕ → Box → Place → List ℕ → Bool → Piece
piece xs b p bs w = record { lines = xs; box = b; place = p; bytes = bs; waits = w }

abbrev pub lines_before : List ℕ → Piece → Piece
lines_before xs r = piece (xs ++ r.lines) r.box r.place r.bytes r.waits

-- a line has at most three characters: answers are below 100
abbrev pub line_room : ℕ
line_room = 3

-- the room behind some lines
unfoldable pub room_behind : List ℕ → ℕ → ℕ
room_behind [] room = room
room_behind (a ∷ xs) room = room_behind xs (room - length (line a))

-- moves, while there is room for a line and something to do. Each takes a byte or room, so as many turns as there are of both are enough
unfoldable pub play_in : ℕ → Bool → ℕ → Place → List ℕ → Box → Piece
play_in zero last room p bs b = piece [] b p bs false
play_in (suc turns) last room p bs b =
    cond (ltb room line_room) (piece [] b p bs false)
    (elim (next last p bs) [ go d q rest ↦ lines_before (printed d (carry_out d b).answer) (play_in turns last (room_behind (printed d (carry_out d b).answer) room) q rest (carry_out d b).box) | wait ↦ piece [] b p bs true ])

unfoldable pub play_piece : Bool → ℕ → Place → List ℕ → Box → Piece
play_piece last room p bs b = play_in (length bs + room) last room p bs b

-- ---- the start: edition, M and H

-- as many words and entries as the string says, of the columns that are lent
unfoldable pub first_of : ℕ → ℕ → Box → Box
first_of m h b =
    with_memory (record { words = take m b.memory.words; flags = take m b.memory.flags })
    (with_directory (record { addresses = take h b.directory.addresses; sizes = take h b.directory.sizes; links = take h b.directory.links; marks = take h b.directory.marks; deeps = take h b.directory.deeps }) b)

-- the box that was opened, or a 10 and all as found
unfoldable pub open_first : ℕ → ℕ → Box → Reply
open_first m h b =
    cond (eqb (opening m h (first_of m h b)).answer 0) (opening m h (first_of m h b)) (reply b (opening m h (first_of m h b)).answer)

-- where the playing stands after it
abbrev pub begun_at : ℕ → Place
begun_at a = at (cond (eqb a 0) playing only_reading) 0 0 (eqb a 0)

unfoldable pub begun : Reply → List ℕ → Piece
begun r rest = piece (r.answer ∷ []) r.box (begun_at r.answer) rest false

unfoldable pub not_begun : Bool → ℕ → Place → List ℕ → Box → Piece
not_begun last a p bs b = cond (may_come last a) (piece [] b p bs true) (piece (a ∷ []) b (at over p.count 0 false) bs false)

unfoldable pub begin : Bool → Place → List ℕ → Box → Piece
begin last p bs b = elim (entry editions bs) [ whole ns rest ↦ begun (open_first (get_or ns 1 0) (get_or ns 2 0) b) rest | fault a ↦ not_begun last a p bs b ]

unfoldable pub begin_piece : Bool → ℕ → Place → List ℕ → Box → Piece
begin_piece last room p bs b = cond (ltb room line_room) (piece [] b p bs false) (begin last p bs b)

-- ---- any call

unfoldable pub play_call : Bool → ℕ → Place → List ℕ → Box → Piece
play_call last room p bs b = cond (eqb p.stage at_start) (begin_piece last room p bs b) (play_piece last room p bs b)
