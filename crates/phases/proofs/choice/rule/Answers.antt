-- `rule` meets its contract: the rule of each phase, and those that never grant. Assumes nothing.
use native.Mathlib.Omega.{arith}
use Rattle.rules.specs.Collector.{rule_of}
use Rattle.rules.proofs.Sizes.{sound_phase}
use Rattle.collector.proofs.Granting.{calm_grants, rest_calm, mark_scan_calm, mark_add_calm, sweep_clear_calm, sweep_write_calm}
use Rattle.lent.specs.Lent.{state_of, state_in, box_of}
use Rattle.phases.proofs.Picking.{rule_at, calm_at}
use Rattle.phases.proofs.choice.rule.Goals as goal

pub returns-in-0-clause-ruled : goal.returns-in-0-clause-ruled
unfolding state_of rule_of
returns-in-0-clause-ruled c = let b = box_of c.args.unit.now in calm_at b _ _ _ 0 (rest_calm b) c.in-0.is c.rest.ensures.ruled

pub returns-in-0-clause-grants : goal.returns-in-0-clause-grants
returns-in-0-clause-grants c = calm_grants _ _ _ _ (state_in c.rest.new.unit) _ (rest_calm _) c.rest.ensures.ruled

pub returns-in-1-clause-ruled : goal.returns-in-1-clause-ruled
unfolding state_of rule_of
returns-in-1-clause-ruled c = rule_at (box_of c.args.unit.now) _ 1 _ c.in-1.is c.mark_next.ensures.ruled

pub returns-in-2-clause-ruled : goal.returns-in-2-clause-ruled
unfolding state_of rule_of
returns-in-2-clause-ruled c = let b = box_of c.args.unit.now in calm_at b _ _ _ 2 (mark_scan_calm b) c.in-2.is c.mark_scan.ensures.ruled

pub returns-in-2-clause-grants : goal.returns-in-2-clause-grants
returns-in-2-clause-grants c = calm_grants _ _ _ _ (state_in c.mark_scan.new.unit) _ (mark_scan_calm _) c.mark_scan.ensures.ruled

pub returns-in-3-clause-ruled : goal.returns-in-3-clause-ruled
unfolding state_of rule_of
returns-in-3-clause-ruled c = let b = box_of c.args.unit.now in calm_at b _ _ _ 3 (mark_add_calm b) c.in-3.is c.mark_add.ensures.ruled

pub returns-in-3-clause-grants : goal.returns-in-3-clause-grants
returns-in-3-clause-grants c = calm_grants _ _ _ _ (state_in c.mark_add.new.unit) _ (mark_add_calm _) c.mark_add.ensures.ruled

pub returns-in-4-clause-ruled : goal.returns-in-4-clause-ruled
unfolding state_of rule_of
returns-in-4-clause-ruled c = rule_at (box_of c.args.unit.now) _ 4 _ c.in-4.is c.sweep_scan.ensures.ruled

pub returns-in-5-clause-ruled : goal.returns-in-5-clause-ruled
unfolding state_of rule_of
returns-in-5-clause-ruled c = rule_at (box_of c.args.unit.now) _ 5 _ c.in-5.is c.sweep_read.ensures.ruled

pub returns-in-6-clause-ruled : goal.returns-in-6-clause-ruled
unfolding state_of rule_of
returns-in-6-clause-ruled c = let b = box_of c.args.unit.now in calm_at b _ _ _ 6 (sweep_clear_calm b) c.in-6.is c.sweep_clear.ensures.ruled

pub returns-in-6-clause-grants : goal.returns-in-6-clause-grants
returns-in-6-clause-grants c = calm_grants _ _ _ _ (state_in c.sweep_clear.new.unit) _ (sweep_clear_calm _) c.sweep_clear.ensures.ruled

pub returns-in-7-clause-ruled : goal.returns-in-7-clause-ruled
unfolding state_of rule_of
returns-in-7-clause-ruled c = let b = box_of c.args.unit.now in calm_at b _ _ _ 7 (sweep_write_calm b) c.in-7.is c.sweep_write.ensures.ruled

pub returns-in-7-clause-grants : goal.returns-in-7-clause-grants
returns-in-7-clause-grants c = calm_grants _ _ _ _ (state_in c.sweep_write.new.unit) _ (sweep_write_calm _) c.sweep_write.ensures.ruled

pub returns-in_default-clause-ruled : goal.returns-in_default-clause-ruled
unfolding state_of rule_of
returns-in_default-clause-ruled c = let b = box_of c.args.unit.now in rule_at b _ 8 _ (omega (arith, sound_phase b c.requires)) c.sweep_zero.ensures.ruled
