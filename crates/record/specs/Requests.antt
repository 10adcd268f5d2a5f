-- Which request a kind's number and its fields ask for, in a record and in a call of the C interface.
use Rattle.std.specs.Prelude.{ℕ, zero, suc, Bool, cond, ◌&&◌, ltb}
use Rattle.std.proofs.Math.Option.{Option, none, some}
use Rattle.rules.specs.declared.kinds.Request.{Request}
use Rattle.rules.specs.declared.kinds.Request.TheVariants.{Setd, Nil, Move, Advance, Getm, Load, Store, Size, Tag, Same}

-- a 16-bit field
abbrev pub half : ℕ → Bool
half n = ltb n 65536

abbrev pub if_right : Bool → Request → Option Request
if_right t q = cond t (some q) none

-- the request of a kind's number, with its fields in document 01's order; fields that a kind does not have are passed over
unfoldable pub request_of : ℕ → ℕ → ℕ → ℕ → Option Request
request_of zero a b c = none
request_of (suc zero) a b c = if_right (half a) (Setd a b)
request_of (suc (suc zero)) a b c = if_right (half a) (Nil a)
request_of (suc (suc (suc zero))) a b c = if_right (half a && half b) (Move a b)
request_of (suc (suc (suc (suc zero)))) a b c = if_right (half a && half b) (Advance a b)
request_of (suc (suc (suc (suc (suc zero))))) a b c = if_right (half a && half b && half c) (Getm a b c)
request_of (suc (suc (suc (suc (suc (suc zero)))))) a b c = if_right (half a && half b && half c) (Load a b c)
request_of (suc (suc (suc (suc (suc (suc (suc zero))))))) a b c = if_right (half a && half b && half c) (Store a b c)
request_of (suc (suc (suc (suc (suc (suc (suc (suc zero)))))))) a b c = if_right (half a && half b) (Size a b)
request_of (suc (suc (suc (suc (suc (suc (suc (suc (suc zero))))))))) a b c = if_right (half a && half b) (Tag a b)
request_of (suc (suc (suc (suc (suc (suc (suc (suc (suc (suc zero)))))))))) a b c = if_right (half a && half b && half c) (Same a b c)
request_of (suc (suc (suc (suc (suc (suc (suc (suc (suc (suc (suc k))))))))))) a b c = none
