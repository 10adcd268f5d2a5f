-- `State::shade` equals the definition `shade`: each way through the code is one case of it. That h can be shaded gives the
-- index and the total their bounds. Assumes nothing.
use mathlib.Core.Bool.{false}
use mathlib.Core.List.{[]}
use borrow.Author.Tests.{not-true, not-false}
use lib.ListN.{length, get_or}
use Rattle.rules.specs.Parts.{Box}
use Rattle.collector.specs.Boxed.{blank, boxed}
use Rattle.rules.specs.Place.{list_next, mark_live}
use Rattle.collector.proofs.Bounds.{below, sum_fits, total_fits}
use Rattle.collector.proofs.Shading.{shadable_small, shadable_total, shade_marked, shade_shallow, shade_deep}
use Rattle.collector.proofs.state.State.shade.Goals as goal

pub bounds-marks-i : goal.bounds-marks-i
bounds-marks-i c =
    let a = c.args in
    let b : Box = boxed blank [] [] [] a.sizes.now [] a.marks.now [] a.self in
    below a.h a.self.h (length a.marks.now) c.requires.2 (shadable_small a.h b c.requires.5)

pub bounds-sizes-i : goal.bounds-sizes-i
bounds-sizes-i c =
    let a = c.args in
    let b : Box = boxed blank [] [] [] a.sizes.now [] a.marks.now [] a.self in
    below a.h a.self.h (length a.sizes.now) c.requires.0 (shadable_small a.h b c.requires.5)

pub bounds-marks-i-then-not-marks-i : goal.bounds-marks-i-then-not-marks-i
bounds-marks-i-then-not-marks-i c =
    let a = c.args in
    let b : Box = boxed blank [] [] [] a.sizes.now [] a.marks.now [] a.self in
    below a.h a.self.h (length a.marks.now) c.requires.2 (shadable_small a.h b c.requires.5)

pub overflow_add-self : goal.overflow_add-self
overflow_add-self c =
    let a = c.args in
    let b : Box = boxed blank [] [] [] a.sizes.now [] a.marks.now [] a.self in
    let t = shadable_total a.h b c.requires.5 (not-true (get_or a.marks.now a.h false) c.if-not-marks-i.true-raw) in
    record { fits = sum_fits a.self.live (get_or a.sizes.now a.h 0) a.self.m t c.requires.4 }

pub overflow_add-self-then-not-marks-i : goal.overflow_add-self-then-not-marks-i
overflow_add-self-then-not-marks-i c =
    let a = c.args in
    let b : Box = boxed blank [] [] [] a.sizes.now [] a.marks.now [] a.self in
    let t = shadable_total a.h b c.requires.5 (not-true (get_or a.marks.now a.h false) c.if-not-marks-i.true-raw) in
    record { fits = total_fits a.self.live (get_or a.sizes.now a.h 0) a.self.m t c.requires.4 }

pub bounds-deeps-i : goal.bounds-deeps-i
bounds-deeps-i c =
    let a = c.args in
    let b : Box = boxed blank [] [] [] a.sizes.now [] a.marks.now [] a.self in
    below a.h a.self.h (length a.deeps.now) c.requires.3 (shadable_small a.h b c.requires.5)

pub returns-then-deeps-i : goal.returns-then-deeps-i
unfolding list_next mark_live
returns-then-deeps-i c q ws fs ads =
    let a = c.args in
    let b : Box = boxed q ws fs ads a.sizes.now a.links.now a.marks.now a.deeps.now a.self in
    shade_deep a.h b (not-true (get_or a.marks.now a.h false) c.if-not-marks-i.true-raw) c.if-deeps-i.true

pub returns-else-deeps-i : goal.returns-else-deeps-i
unfolding mark_live
returns-else-deeps-i c q ws fs ads =
    let a = c.args in
    let b : Box = boxed q ws fs ads a.sizes.now a.links.now a.marks.now a.deeps.now a.self in
    shade_shallow a.h b (not-true (get_or a.marks.now a.h false) c.if-not-marks-i.true-raw) c.if-deeps-i.false

pub returns-else-not-marks-i : goal.returns-else-not-marks-i
returns-else-not-marks-i c q ws fs ads =
    let a = c.args in
    let b : Box = boxed q ws fs ads a.sizes.now a.links.now a.marks.now a.deeps.now a.self in
    shade_marked a.h b (not-false (get_or a.marks.now a.h false) c.if-not-marks-i.false-raw)
