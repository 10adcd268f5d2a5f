-- `State::can_shade` equals the definition `can_shade`: each way through the code is one case of it. Assumes nothing.
use borrow.Author.Rules.{rules}
use Rattle.collector.proofs.Shading.{unshadable_nil, unshadable_far, shadable_marked, unshadable_over, shadable_left}
use native.Mathlib.Omega.{arith}
use Rattle.collector.proofs.state.State.can_shade.Goals as goal

pub returns-then-h-eq0 : goal.returns-then-h-eq0
returns-then-h-eq0 c q ws fs ads ls ds = unshadable_nil _ _ c.if-h-eq0.true

pub returns-then-entries-h : goal.returns-then-entries-h
returns-then-entries-h c q ws fs ads ls ds = unshadable_far _ _ c.if-entries-h.true

pub returns-then-marks-i : goal.returns-then-marks-i
returns-then-marks-i c q ws fs ads ls ds = shadable_marked _ _ (omega arith) (omega arith) c.if-marks-i.true

pub returns-then-m-live : goal.returns-then-m-live
returns-then-m-live c q ws fs ads ls ds = unshadable_over _ _ (omega arith) (omega arith) (search rules) c.if-m-live.true

pub returns : goal.returns
returns c q ws fs ads ls ds = shadable_left _ _ (omega arith) (omega arith) (search rules) (omega arith)
