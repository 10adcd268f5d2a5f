-- Which rules never answer 32, so that a step has nothing to grant after them, and what the held request has where it is granted. By
-- computing the definitions. Assumes nothing.
use Prim.Native.Nat.{ℕ, ◌+◌}
use mathlib.Core.Bool.{Bool, true, false, cond}
use mathlib.Core.List.{[]}
use mathlib.Core.Path.{◌≡◌, refl, sym, ap, ◌∙◌}
use native.Mathlib.Omega.{arith}
use lib.Dec.{leb, ltb, eqb}
use borrow.Author.Tests.{ne_eqb}
use Rattle.collector.specs.declared.state.State.{State}
use Rattle.rules.specs.Parts.{Box, with_next}
use Rattle.rules.specs.Box.{Reply, reply, data_word, put, is_entry}
use Rattle.rules.specs.Place.{can_shade, shade}
use Rattle.rules.specs.Request.{no_room}
use Rattle.rules.specs.Collector.{to_phase, after, rest, scan, scan_next, scan_word, scan_current, mark_scan, mark_add, go_on, free_tuple, start_zero, release, sweep_clear, write_copy, sweep_write}
use Rattle.collector.specs.Boxed.{blank, boxed}
use Rattle.collector.specs.Decide.{end_refused, with_grant, Grants}
use Rattle.collector.proofs.Entries.{entry_small}
use Rattle.collector.proofs.Tuples.{room_top}
use Rattle.collector.proofs.Ending.{grant_register, grant_entry}

-- a reply that grants nothing
abbrev pub Calm : Reply → Type 0
Calm r = r.answer ≡ 32 → ⊥

pub thirty : ◌≡◌ {A = ℕ} 30 32 → ⊥
thirty e = omega arith

pub eight : ◌≡◌ {A = ℕ} 8 32 → ⊥
eight e = omega arith

pub thirty_one : ◌≡◌ {A = ℕ} 31 32 → ⊥
thirty_one e = omega arith

pub thirty_three : ◌≡◌ {A = ℕ} 33 32 → ⊥
thirty_three e = omega arith

pub nine : ◌≡◌ {A = ℕ} 9 32 → ⊥
nine e = omega arith

either : (t : Bool) (r s : Reply) → Calm r → Calm s → Calm (cond t r s)
either true r s x y = x
either false r s x y = y

-- a rule that goes on where a test holds, and else answers 9
go_or_nine : (t : Bool) (b found : Box) → Calm (cond t (reply b 30) (reply found 9))
go_or_nine t b found = either t (reply b 30) (reply found 9) thirty nine

-- ---- the rules that never grant

module _ (b : Box) where
  pub rest_calm : Calm (rest b)
  unfolding rest
  rest_calm = thirty

  pub scan_next_calm : Calm (scan_next b)
  unfolding scan_next
  scan_next_calm = go_or_nine (is_entry b.collector.next b) (scan b.collector.next (with_next 0 b)) b

  scan_current_calm : Calm (scan_current b)
  unfolding scan_current
  scan_current_calm =
      either (eqb b.collector.current 0) (reply (to_phase 1 b) 30) (cond (is_entry b.collector.current b) (reply (scan b.collector.current b) 30) (reply b 9)) thirty
      (go_or_nine (is_entry b.collector.current b) (scan b.collector.current b) b)

  pub mark_scan_calm : Calm (mark_scan b)
  unfolding mark_scan
  mark_scan_calm =
      either (leb b.collector.index b.collector.size) (cond (ltb (b.collector.src + b.collector.index) b.m) (reply (scan_word b) 30) (reply b 9)) (scan_current b)
      (go_or_nine (ltb (b.collector.src + b.collector.index) b.m) (scan_word b) b) scan_current_calm

  pub mark_add_calm : Calm (mark_add b)
  unfolding mark_add
  mark_add_calm = go_or_nine (can_shade b.collector.tuple b) (to_phase 2 (shade b.collector.tuple b)) b

  pub sweep_clear_calm : Calm (sweep_clear b)
  unfolding sweep_clear
  sweep_clear_calm = go_or_nine (ltb (b.collector.src + b.collector.index) b.m) (to_phase 7 (put (b.collector.src + b.collector.index) (data_word 0) b)) b

  pub sweep_write_calm : Calm (sweep_write b)
  unfolding sweep_write
  sweep_write_calm = go_or_nine (ltb (b.collector.dest + b.collector.index) b.m) (write_copy b) b

pub release_calm : (found b : Box) → Calm (release found b)
unfolding release
release_calm found b =
    either (ltb (b.collector.src + b.collector.size) b.collector.live) (cond (ltb (after b) b.m) (reply (go_on (after b) (free_tuple b)) 30) (reply found 9)) (reply (start_zero (free_tuple b)) 30)
    (go_or_nine (ltb (after b) b.m) (go_on (after b) (free_tuple b)) found) thirty

-- ---- a reply that equals one of those

answers : (b : Box) (a : ℕ) (r : Reply) → Calm r → reply b a ≡ r → a ≡ 32 → ⊥
answers b a r n q e = n (sym (ap (λ (x : Reply). x.answer) q) ∙ e)

pub ungranted : (b : Box) (a : ℕ) → (a ≡ 32 → ⊥) → with_grant (reply b a) ≡ reply b a
unfolding with_grant
ungranted b a n = simp (ne_eqb a 32 n)

pub calm_reply : (b : Box) (a : ℕ) (r : Reply) → Calm r → reply b a ≡ r → with_grant (reply b a) ≡ r
calm_reply b a r n q = ungranted b a (answers b a r n q) ∙ q

pub calm_grants : (b : Box) (a m h : ℕ) (s : State) (r : Reply) → Calm r → reply b a ≡ r → Grants m h s a
calm_grants b a m h s r n q e = absurd (answers b a r n q e)

-- ---- the held request that is granted

-- the state alone
abbrev held_alone : State → Box
held_alone s = boxed blank [] [] [] [] [] [] [] s

pub grants_held : (s : State) → s.held ≡ true → s.phase ≡ 0 → end_refused (held_alone s) ≡ false → no_room s.hold_size (held_alone s) ≡ false → Grants s.m s.h s 32
grants_held s t p e n u = (refl, refl, p, entry_small s.free (held_alone s) (grant_entry (held_alone s) t n e), grant_register (held_alone s) t n e, room_top s.hold_size (held_alone s) n)
