-- Two of document 01's bench cases, P3 and P10, played as demand 3 plays a list of calls: after an opening that answers 0, on box and
-- history machine, with the log. Their logs have an ended cycle and an answered hold, so what demand 3 says of such is said of
-- something.
use Rattle.std.specs.Prelude.{ℕ, Bool, true, List, [], ◌∷◌, map, ◌≡◌, refl}
use Rattle.std.proofs.Common.{arith}
use Rattle.rules.specs.declared.kinds.Request.TheVariants.{Setd, Getm, Store}
use Rattle.rules.specs.Limits.{in_range}
use Rattle.rules.specs.Box.{is_entry, lengths_are, right_sizes, sound}
use Rattle.rules.specs.Place.{being_moved, place, in_memory, read, write, can_shade, list_next, mark_live, shade}
use Rattle.rules.specs.Request.{no_room, collecting, can_make, new_entry, take_room, new_tuple, put_on_hold, at_tuple, word_number, at_word, advance, getm, load, shades, shaded_first, deepened, store_word, store, size, tag_at, tag, same_word, same, registers_right, carry_out, request}
use Rattle.rules.specs.Collector.{at_rest, unheld, granted, try_held, settle, end_cycle, note_begun, rest, scan, look_register, look_from, begin_sweep, end_marking, mark_root, scan_next, mark_next, scan_word, scan_current, mark_scan, mark_add, go_on, keep_in_place, start_move, free_tuple, start_zero, release, sweep_tuple, sweep_scan, leave_tuple, settle_move, finish_move, copy_word, sweep_read, sweep_clear, write_copy, sweep_write, zero_word, sweep_zero, rule_of, step}
use Rattle.rules.specs.Run.{course, run_on, run}
use Rattle.rules.specs.Cases.{unopened}
use Rattle.rules.specs.Open.{opened_link, opened_links, opened, opening}
use Rattle.history.specs.Machine.{Asked, Call, ask, single_step, run_for, fresh, make, set_word, advance_by, load_from, store_to, size_to, tag_to, same_hword, do_request, hold_request, grant, feed}
use Rattle.history.specs.Calls.{EndedCycle, Answered, World, start, CallsInWidth, given_by, disturb, pend, log_done, log_held, log_request, cycle_step, end_log_cycle, wait_step, answer_hold, given_held, log_going, log_ended, log_granted, log_dropped, log_parts, log_step, log_steps, after_request, after_step, after_run, play_call, play}

-- the opening 16, 4 of the bench cases' box, and a list of calls after it
abbrev pub after_calls : List Call → World
after_calls calls = play calls (start (opening 16 4 unopened).box)

-- ---- what is told of a log

pub record CycleTold : Type 0 where
  pub steps : ℕ
  pub first_top : ℕ
  pub quiet : Bool
  pub answer : ℕ

abbrev pub tell_cycle : EndedCycle → CycleTold
tell_cycle e = record { steps = e.cycle.steps; first_top = e.cycle.first_top; quiet = e.cycle.quiet; answer = e.answer }

pub record HoldTold : Type 0 where
  pub asked : Asked
  pub steps : ℕ
  pub answer : ℕ

abbrev pub tell_hold : Answered → HoldTold
tell_hold a = record { asked = a.hold.asked; steps = a.hold.steps; answer = a.answer }

-- ---- the cases: the calls, their answers, and the ended cycles and answered holds in the log; the latest first

pub record Played : Type 0 where
  pub calls : List Call
  pub answers : List ℕ
  pub ended : List CycleTold
  pub answered : List HoldTold

-- its cycle is played by single steps
abbrev pub p3 : Played
p3 =
    record {
      calls = ask (Getm 0 2 7) ∷ ask (Getm 1 1 0) ∷ ask (Store 1 0 0) ∷ ask (Setd 1 0) ∷ single_step ∷ single_step ∷ single_step ∷ single_step ∷ single_step ∷ single_step ∷ single_step ∷ single_step ∷ single_step ∷ single_step ∷ [];
      answers = 31 ∷ 30 ∷ 30 ∷ 30 ∷ 30 ∷ 30 ∷ 30 ∷ 30 ∷ 30 ∷ 30 ∷ 0 ∷ 0 ∷ 0 ∷ 0 ∷ [];
      ended = record { steps = 10; first_top = 5; quiet = true; answer = 31 } ∷ [];
      answered = [];
    }

-- its cycle is played by a run
abbrev pub p10 : Played
p10 =
    record {
      calls = ask (Getm 0 2 7) ∷ ask (Getm 1 1 0) ∷ ask (Getm 2 11 0) ∷ run_for 42 ∷ [];
      answers = 8 ∷ 7 ∷ 0 ∷ 0 ∷ [];
      ended = record { steps = 6; first_top = 5; quiet = true; answer = 8 } ∷ [];
      answered = record { asked = record { register = 2; size = 11; tag = 0 }; steps = 6; answer = 8 } ∷ [];
    }

-- ---- they are lists that demand 3 speaks of, and this is what it then speaks of

pub opening_answers : (opening 16 4 unopened).answer ≡ 0
unfolding in_range lengths_are right_sizes opening
opening_answers = refl

pub p3_in_width : CallsInWidth p3.calls
p3_in_width = ((omega arith, omega arith, omega arith), ((omega arith, omega arith, omega arith), ((omega arith, omega arith, omega arith), ((omega arith, omega arith), (tt, (tt, (tt, (tt, (tt, (tt, (tt, (tt, (tt, (tt, tt))))))))))))))

pub p10_in_width : CallsInWidth p10.calls
p10_in_width = ((omega arith, omega arith, omega arith), ((omega arith, omega arith, omega arith), ((omega arith, omega arith, omega arith), (omega arith, tt))))

-- the log is as told
pub record AsTold (c : Played) : Type 0 where
  pub answers_told : (after_calls c.calls).answers ≡ c.answers
  pub ended_told : map tell_cycle (after_calls c.calls).log.ended ≡ c.ended
  pub answered_told : map tell_hold (after_calls c.calls).log.answered ≡ c.answered

pub both_as_told : AsTold p3 × AsTold p10
unfolding in_range is_entry lengths_are right_sizes sound being_moved place in_memory read write can_shade list_next mark_live shade no_room collecting can_make new_entry take_room new_tuple put_on_hold at_tuple word_number at_word advance getm load shades shaded_first deepened store_word store size tag_at tag same_word same registers_right carry_out request at_rest unheld granted try_held settle end_cycle note_begun rest scan look_register look_from begin_sweep end_marking mark_root scan_next mark_next scan_word scan_current mark_scan mark_add go_on keep_in_place start_move free_tuple start_zero release sweep_tuple sweep_scan leave_tuple settle_move finish_move copy_word sweep_read sweep_clear write_copy sweep_write zero_word sweep_zero rule_of step course run_on run opened_link opened_links opened opening fresh make set_word advance_by load_from store_to size_to tag_to same_hword do_request hold_request grant feed given_by disturb pend log_done log_held log_request cycle_step end_log_cycle wait_step answer_hold given_held log_going log_ended log_granted log_dropped log_parts log_step log_steps after_request after_step after_run play_call play
both_as_told = (record { answers_told = refl; ended_told = refl; answered_told = refl }, record { answers_told = refl; ended_told = refl; answered_told = refl })
