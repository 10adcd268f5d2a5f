-- Document 01, "The history machine": it never collects and never runs out. It is fed each call and its answer, nothing more.
use Rattle.std.specs.Prelude.{ℕ, zero, suc, ◌+◌, Bool, false, cond, ◌&&◌, List, [], ◌∷◌, ◌++◌, ltb, eqb, length, get_or, set, replicate}
use Rattle.std.proofs.Math.Option.{Option, none, some}
use Rattle.rules.specs.declared.kinds.Request.{Request}
use Rattle.rules.specs.declared.kinds.Request.TheVariants.{Setd, Nil, Move, Advance, Getm, Load, Store, Size, Tag, Same}
use Rattle.rules.specs.Limits.{register_count}

-- a word: data, or a pointer, which is a tuple's number and an offset
pub data HWord : Type 0 where
  datum : ℕ → HWord
  pointer_to : ℕ → ℕ → HWord

pub record HTuple : Type 0 where
  pub tag : ℕ
  pub words : List HWord

-- a GETM put on hold: its register, size and tag
pub record Asked : Type 0 where
  pub register : ℕ
  pub size : ℕ
  pub tag : ℕ

-- the tuples are numbered 1, 2, 3 as made and never vanish
pub record History : Type 0 where
  pub registers : List HWord
  pub tuples : List HTuple
  pub hold : Option Asked

-- registers data 0 and nothing else
unfoldable pub fresh : History
fresh = record { registers = replicate register_count (datum 0); tuples = []; hold = none }

-- ---- what is read off it

abbrev pub register_of : ℕ → History → HWord
register_of r m = get_or m.registers r (datum 0)

-- how many tuples were made
abbrev pub made : History → ℕ
made m = length m.tuples

-- number 0 is nil, size and tag 0; so is a number that no tuple has
abbrev pub nil_tuple : HTuple
nil_tuple = record { tag = 0; words = [] }

abbrev pub tuple_of : ℕ → History → HTuple
tuple_of i m = get_or (nil_tuple ∷ m.tuples) i nil_tuple

abbrev pub size_at : ℕ → History → ℕ
size_at i m = length (tuple_of i m).words

abbrev pub word_of : ℕ → ℕ → History → HWord
word_of i k m = get_or (tuple_of i m).words k (datum 0)

-- ---- what is written to it

abbrev pub put_in : ℕ → HWord → History → History
put_in r w m = record { registers = set m.registers r w; tuples = m.tuples; hold = m.hold }

abbrev pub with_hold : Option Asked → History → History
with_hold q m = record { registers = m.registers; tuples = m.tuples; hold = q }

-- a new tuple with n words of data 0; r points to it, offset 0
unfoldable pub make : ℕ → ℕ → ℕ → History → History
make r n tag m = record { registers = set m.registers r (pointer_to (suc (made m)) 0); tuples = m.tuples ++ record { tag = tag; words = replicate n (datum 0) } ∷ []; hold = m.hold }

-- word k of a tuple becomes w
abbrev pub rewrite_tuple : HTuple → ℕ → HWord → HTuple
rewrite_tuple t k w = record { tag = t.tag; words = set t.words k w }

-- word k of tuple number i becomes w
unfoldable pub set_word : ℕ → ℕ → HWord → List HTuple → List HTuple
set_word i k w [] = []
set_word zero k w (t ∷ ts) = t ∷ ts
set_word (suc zero) k w (t ∷ ts) = rewrite_tuple t k w ∷ ts
set_word (suc (suc i)) k w (t ∷ ts) = t ∷ set_word (suc i) k w ts

abbrev pub stored_in : ℕ → ℕ → HWord → History → History
stored_in i k w m = record { registers = m.registers; tuples = set_word i k w m.tuples; hold = m.hold }

-- ---- the kinds. What can't be done here changes nothing

unfoldable pub advance_by : ℕ → ℕ → HWord → History → History
advance_by r n (datum v) m = m
advance_by r n (pointer_to i o) m = put_in r (pointer_to i (o + n)) m

unfoldable pub load_from : ℕ → HWord → ℕ → History → History
load_from r (datum v) k m = m
load_from r (pointer_to i o) k m = cond (ltb (o + k) (size_at i m)) (put_in r (word_of i (o + k) m) m) m

unfoldable pub store_to : HWord → HWord → ℕ → History → History
store_to w (datum v) k m = m
store_to w (pointer_to i o) k m = cond (ltb (o + k) (size_at i m)) (stored_in i (o + k) w m) m

unfoldable pub size_to : ℕ → HWord → History → History
size_to r (datum v) m = m
size_to r (pointer_to i o) m = put_in r (datum (size_at i m)) m

unfoldable pub tag_to : ℕ → HWord → History → History
tag_to r (datum v) m = m
tag_to r (pointer_to i o) m = put_in r (datum (tuple_of i m).tag) m

unfoldable pub same_hword : HWord → HWord → Bool
same_hword (datum v) (datum w) = eqb v w
same_hword (datum v) (pointer_to i o) = false
same_hword (pointer_to i o) (datum v) = false
same_hword (pointer_to i o) (pointer_to j p) = eqb i j && eqb o p

-- a request answered 0
unfoldable pub do_request : Request → History → History
do_request (Setd r v) m = put_in r (datum v) m
do_request (Nil r) m = put_in r (pointer_to 0 0) m
do_request (Move r s) m = put_in r (register_of s m) m
do_request (Advance r n) m = advance_by r n (register_of r m) m
do_request (Getm r n tag) m = make r n tag m
do_request (Load r s k) m = load_from r (register_of s m) k m
do_request (Store r s k) m = store_to (register_of r m) (register_of s m) k m
do_request (Size r s) m = size_to r (register_of s m) m
do_request (Tag r s) m = tag_to r (register_of s m) m
do_request (Same r s t) m = put_in r (datum (cond (same_hword (register_of s m) (register_of t m)) 1 0)) m

-- a GETM answered 7
unfoldable pub hold_request : Request → History → History
hold_request (Getm r n tag) m = with_hold (some (record { register = r; size = n; tag = tag })) m
hold_request (Setd r v) m = m
hold_request (Nil r) m = m
hold_request (Move r s) m = m
hold_request (Advance r n) m = m
hold_request (Load r s k) m = m
hold_request (Store r s k) m = m
hold_request (Size r s) m = m
hold_request (Tag r s) m = m
hold_request (Same r s t) m = m

-- the held GETM is done and the hold emptied; with no hold, nothing
unfoldable pub grant : Option Asked → History → History
grant none m = m
grant (some q) m = with_hold none (make q.register q.size q.tag m)

-- ---- a call and its answer

pub data Call : Type 0 where
  ask : Request → Call
  single_step : Call
  run_for : ℕ → Call

unfoldable pub feed : Call → ℕ → History → History
feed (ask q) a m = cond (eqb a 0) (do_request q m) (cond (eqb a 7) (hold_request q m) m)
feed single_step a m = cond (eqb a 32) (grant m.hold m) (cond (eqb a 8) (with_hold none m) m)
feed (run_for n) a m = cond (eqb a 0) (grant m.hold m) (cond (eqb a 8) (with_hold none m) m)
