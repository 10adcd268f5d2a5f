-- A cycle's end: once every tuple left is settled, the box at rest has the invariant, with all of them ahead. Each group of
-- clauses is rebuilt from what the last transition of the cycle shows. Assumes nothing.
use Prim.Native.Nat.{ℕ, ◌≤◌}
use mathlib.Core.Bool.{false, false≢true}
use mathlib.Core.List.{List, []}
use mathlib.Core.Path.{◌≡◌, refl, sym, ◌∙◌}
use native.Mathlib.Omega.{arith}
use Rattle.rules.specs.Parts.{Box}
use Rattle.rules.specs.Box.{data_word, word_at, marked}
use Rattle.rules.specs.Collector.{at_rest}
use Rattle.history.specs.Agreement.{Member}
use Rattle.history.proofs.Invariant.Statement.{Plan, Ghosts, Inv, Laid, Shape, Handles, Layout, Contents, Zero, Marks, Stage, rooms, Kept, settled, moving, unswept, surviving}
use Rattle.history.proofs.Lists.Laid.{marked_rooms_none, laid_frame}

-- every tuple ahead, from word 0
abbrev pub resting_plan : List ℕ → Plan
resting_plan hs = record { done = []; mid = []; ahead = hs; low = 0; base = 0 }

abbrev pub resting : List ℕ → List ℕ → Ghosts
resting hs free = record { plan = resting_plan hs; free = free; scans = record { nexts = []; currents = []; gray = [] }; zeroed = 0 }

-- what a transition that ends the cycle shows of the box c that it leaves to the end of the cycle: the tuples hs are left
pub record Finished (c : Box) (hs free : List ℕ) : Type 0 where
  pub shape : Shape c
  pub handles : Handles c (resting_plan hs) free
  pub laid : Laid c 0 hs c.top
  pub top_fits : c.top ≤ c.m
  pub contents : Contents (at_rest c) (resting_plan hs)
  pub above_top : (a : ℕ) → c.top ≤ a → word_at a c ≡ data_word 0
  pub unmarked : (h : ℕ) → Member h hs → marked h c ≡ false
  pub free_unmarked : (h : ℕ) → Member h free → marked h c ≡ false
  pub no_next : c.collector.next ≡ 0
  pub no_current : c.collector.current ≡ 0

rest_shape : (c : Box) → Shape c → Shape (at_rest c)
unfolding at_rest
rest_shape c s = search

rest_handles : (c : Box) (hs free : List ℕ) → Handles c (resting_plan hs) free → Handles (at_rest c) (resting_plan hs) free
unfolding at_rest
rest_handles c hs free i = search

rest_layout : (c : Box) (hs free : List ℕ) → Finished c hs free → Layout (at_rest c) (resting_plan hs)
unfolding at_rest rooms
rest_layout c hs free f =
    record {
      done_laid = refl;
      ahead_laid = laid_frame c (at_rest c) 0 hs c.top (λ h x. refl) (λ h x. refl) (λ h x. refl) f.laid;
      low_base = omega arith;
      top_fits = f.top_fits;
    }

rest_zero : (c : Box) (hs free : List ℕ) → Finished c hs free → Zero (at_rest c) 0
unfolding at_rest
rest_zero c hs free f = record { above_top = f.above_top; behind = λ a l u. absurd (omega arith) }

rest_marks : (c : Box) (hs free : List ℕ) → Finished c hs free → Marks (at_rest c) (resting_plan hs) free (resting hs free).scans
unfolding at_rest rooms
rest_marks c hs free f =
    record {
      free_unmarked = f.free_unmarked;
      done_unmarked = λ h x. absurd x;
      mid_unmarked = λ h x. absurd x;
      live_is = simp (marked_rooms_none (at_rest c) hs f.unmarked);
      nexts_chain = f.no_next;
      currents_chain = f.no_current;
      listed_distinct = tt;
      listed_ahead = λ h x. absurd x;
      listed_marked = λ h x. absurd x;
      listed_deep = λ h x. absurd x;
      black = λ l h x t. absurd (false≢true (sym (f.unmarked h x) ∙ t));
    }

pub finished : (c : Box) (hs free : List ℕ) → Finished c hs free → Inv (at_rest c) (resting hs free)
unfolding at_rest
finished c hs free f =
    record {
      shape = rest_shape c f.shape;
      handles = rest_handles c hs free f.handles;
      layout = rest_layout c hs free f;
      contents = f.contents;
      zero_words = rest_zero c hs free f;
      marks = rest_marks c hs free f;
      stage = Stage.at_rest refl (search) (record { no_nexts = refl; no_currents = refl; no_gray = refl }) f.unmarked;
    }

-- where no tuple is left, none is kept
pub none_kept : (b : Box) (h : ℕ) → ¬ Kept b (resting_plan []) h
none_kept b h (settled x) = x
none_kept b h (moving x) = x
none_kept b h (unswept x l) = x
none_kept b h (surviving x t) = x
