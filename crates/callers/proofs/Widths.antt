-- The request that the numbers of a C call ask for has fields of their widths. Assumes nothing.
use Prim.Native.Nat.{ℕ, zero, suc}
use mathlib.Core.Bool.{Bool, true, false, ◌&&◌}
use mathlib.Core.Path.{◌≡◌, refl}
use borrow.Author.Tests.{ltb-true}
use Rattle.rules.specs.declared.kinds.Request.{Request}
use Rattle.rules.specs.declared.kinds.Request.TheVariants.{Setd, Nil, Move, Advance, Getm, Load, Store, Size, Tag, Same}
use Rattle.rules.proofs.Sizes.{and_left, and_right}
use Rattle.record.specs.Requests.{half, if_right, request_of}
use Rattle.history.specs.Calls.{In16, RequestInWidth}
use Rattle.history.specs.Demand3.{IfThere}
use Rattle.callers.specs.CCalls.{U32}

-- a request that is asked for only where a test holds
where_right : (t : Bool) (q : Request) → (t ≡ true → RequestInWidth q) → IfThere RequestInWidth (if_right t q)
where_right true q h = h refl
where_right false q h = tt

-- one, two and three fields that were tested
one : (a : ℕ) → half a ≡ true → In16 a
one a = ltb-true a 65536

two : (a b : ℕ) → (half a && half b) ≡ true → In16 a × In16 b
two a b t = (one a (and_left (half a) (half b) t), one b (and_right (half a) (half b) t))

three : (a b c : ℕ) → (half a && half b && half c) ≡ true → In16 a × In16 b × In16 c
three a b c t =
    let ab = two a b (and_left (half a && half b) (half c) t) in
    (ab.0, ab.1, one c (and_right (half a && half b) (half c) t))

-- SETD's v is the one field of 32 bits
pub asked_in_width : (kind a b c : ℕ) → U32 b → IfThere RequestInWidth (request_of kind a b c)
unfolding request_of
asked_in_width zero a b c u = tt
asked_in_width (suc zero) a b c u = where_right (half a) (Setd a b) (λ t. (one a t, u))
asked_in_width (suc (suc zero)) a b c u = where_right (half a) (Nil a) (one a)
asked_in_width (suc (suc (suc zero))) a b c u = where_right (half a && half b) (Move a b) (two a b)
asked_in_width (suc (suc (suc (suc zero)))) a b c u = where_right (half a && half b) (Advance a b) (two a b)
asked_in_width (suc (suc (suc (suc (suc zero))))) a b c u = where_right (half a && half b && half c) (Getm a b c) (three a b c)
asked_in_width (suc (suc (suc (suc (suc (suc zero)))))) a b c u = where_right (half a && half b && half c) (Load a b c) (three a b c)
asked_in_width (suc (suc (suc (suc (suc (suc (suc zero))))))) a b c u = where_right (half a && half b && half c) (Store a b c) (three a b c)
asked_in_width (suc (suc (suc (suc (suc (suc (suc (suc zero)))))))) a b c u = where_right (half a && half b) (Size a b) (two a b)
asked_in_width (suc (suc (suc (suc (suc (suc (suc (suc (suc zero))))))))) a b c u = where_right (half a && half b) (Tag a b) (two a b)
asked_in_width (suc (suc (suc (suc (suc (suc (suc (suc (suc (suc zero)))))))))) a b c u = where_right (half a && half b && half c) (Same a b c) (three a b c)
asked_in_width (suc (suc (suc (suc (suc (suc (suc (suc (suc (suc (suc k))))))))))) a b c u = tt
