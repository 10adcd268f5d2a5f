-- `find_place` meets its contract: each return is a case of the rule, and one behind the tuple's address is neither of the other two.
-- Assumes nothing.
use mathlib.Core.Path.{sym}
use Rattle.rules.proofs.View.Places.{place_copied, place_moved, place_home}
use native.Mathlib.Omega.{arith}
use Rattle.requests.proofs.place.find_place.Goals as goal

pub returns-then-h-tuple : goal.returns-then-h-tuple
returns-then-h-tuple c q ws fs ss ls ms ds = sym (place_home _ _ _ (λ x. c.if-h-tuple.true x.0.0) (λ x. c.if-h-tuple.true x.0.0))

pub returns-then-phase-lt5 : goal.returns-then-phase-lt5
returns-then-phase-lt5 c q ws fs ss ls ms ds = sym (place_home _ _ _ (λ x. omega arith) (λ x. omega arith))

pub returns-then-phase-gt7 : goal.returns-then-phase-gt7
returns-then-phase-gt7 c q ws fs ss ls ms ds = sym (place_home _ _ _ (λ x. omega arith) (λ x. omega arith))

pub returns-then-i-index : goal.returns-then-i-index
returns-then-i-index c q ws fs ss ls ms ds = sym (place_moved _ _ _ (omega arith))

pub returns-then-index-i : goal.returns-then-index-i
returns-then-index-i c q ws fs ss ls ms ds = sym (place_home _ _ _ (λ x. omega arith) (λ x. omega arith))

pub returns-then-phase-lt6 : goal.returns-then-phase-lt6
returns-then-phase-lt6 c q ws fs ss ls ms ds = sym (place_home _ _ _ (λ x. omega arith) (λ x. omega arith))

pub returns : goal.returns
returns c q ws fs ss ls ms ds = sym (place_copied _ _ _ (omega arith))
