-- The look at the registers by its cases: those passed over, and the first that is not. By computing the definitions; the look goes
-- down the count of registers left. Assumes nothing.
use Prim.Native.Nat.{ℕ, suc, ◌+◌, ◌-◌, ◌<◌, ◌≤◌}
use mathlib.Core.Bool.{Bool, true, false, not, cond, ◌&&◌, ◌||◌, false≢true}
use Rattle.std.specs.Prelude.{Option, None, Some}
use mathlib.Core.Path.{◌≡◌, refl, sym, ap, ◌∙◌, subst}
use native.Mathlib.Omega.{arith}
use Rattle.rules.specs.Parts.{Word, Box}
use Rattle.rules.specs.Box.{handle_of, names_tuple, register, marked, is_entry}
use Rattle.rules.specs.Collector.{Found, unmarked, damaged, look_register, look_from}
use Rattle.collector.specs.declared.state.State.{State}
use Rattle.collector.specs.Decide.{found_as}
use Rattle.collector.proofs.Entries.{entry, entry_far}
use Rattle.lent.specs.declared.unit.MemoryUnit.{MemoryUnit}
use Rattle.lent.specs.Lent.{state_in, box_with, box_of}
use Rattle.phases.specs.Passing.{passed_over}

-- ---- one register's word

module _ (w : Word) (b : Box) where
  pub passes_plain : names_tuple w ≡ false → true ≡ passed_over w b
  unfolding passed_over
  passes_plain t = simp t

  named_some : names_tuple w ≡ true → (handle_of w ≡ 0 → ⊥)
  named_some t z = absurd (false≢true (sym (and_nil w.flag z) ∙ t))
    where
      and_nil : (f : Bool) → handle_of w ≡ 0 → names_tuple (record { bits = w.bits; flag = f }) ≡ false
      and_nil true z = simp z
      and_nil false z = refl

  pub passes_marked : (h : ℕ) → h ≡ handle_of w → names_tuple w ≡ true → h < b.h → marked h b ≡ passed_over w b
  unfolding passed_over
  passes_marked h q t l = simp (t, ← q, entry h b (omega (arith, named_some t, q)) l)

  pub stops_far : (h : ℕ) → h ≡ handle_of w → names_tuple w ≡ true → b.h ≤ h → false ≡ passed_over w b
  unfolding passed_over
  stops_far h q t l = simp (t, ← q, entry_far h b l)

-- ---- all eight

look_one : (k r : ℕ) (b : Box) → 8 - r ≡ suc k → 8 - suc k ≡ r → look_from (8 - r) b ≡ look_register r b (look_from k b)
unfolding look_from
look_one k r b p q = ap (λ (n : ℕ). look_from n b) p ∙ ap (λ (i : ℕ). look_register i b (look_from k b)) q

look_at : (r : ℕ) (b : Box) → r < 8 → look_from (8 - r) b ≡ look_register r b (look_from (8 - (r + 1)) b)
look_at r b o = look_one (8 - (r + 1)) r b (omega arith) (omega arith)

-- a register's look, from whether it is passed over
passing : (n i m : Bool) (h : ℕ) (later : Found) → (not n || i && m) ≡ true → cond n (cond i (cond m later (unmarked h)) damaged) later ≡ later
passing true true true h later t = refl
passing true true false h later t = absurd (false≢true t)
passing true false m h later t = absurd (false≢true t)
passing false i m h later t = refl

stopping : (n i m : Bool) (h : ℕ) (later : Found) → (not n || i && m) ≡ false → cond i (unmarked h) damaged ≡ cond n (cond i (cond m later (unmarked h)) damaged) later
stopping true true true h later t = absurd (false≢true (sym t))
stopping true true false h later t = refl
stopping true false m h later t = refl
stopping false i m h later t = absurd (false≢true (sym t))

module _ (r : ℕ) (w : Word) (t : Bool) (b : Box) (o : r < 8) (e : w ≡ register r b) (p : t ≡ passed_over w b) (k : look_from (8 - r) b ≡ look_from 8 b) where
  pub look_on : t ≡ true → look_from (8 - (r + 1)) b ≡ look_from 8 b
  unfolding look_register passed_over
  look_on f = sym (passing (names_tuple (register r b)) (is_entry (handle_of (register r b)) b) (marked (handle_of (register r b)) b) (handle_of (register r b)) (look_from (8 - (r + 1)) b) (ap (λ (v : Word). passed_over v b) (sym e) ∙ sym p ∙ f)) ∙ sym (look_at r b o) ∙ k

  pub look_stop : (h : ℕ) → h ≡ handle_of w → t ≡ false → found_as (Some h) b ≡ look_from 8 b
  unfolding look_register passed_over found_as
  look_stop h q f =
      ap (λ (n : ℕ). cond (is_entry n b) (unmarked n) damaged) (q ∙ ap handle_of e)
      ∙ stopping (names_tuple (register r b)) (is_entry (handle_of (register r b)) b) (marked (handle_of (register r b)) b) (handle_of (register r b)) (look_from (8 - (r + 1)) b) (ap (λ (v : Word). passed_over v b) (sym e) ∙ sym p ∙ f)
      ∙ sym (look_at r b o) ∙ k

pub look_end : (b : Box) → found_as None b ≡ look_from 0 b
unfolding look_from found_as
look_end b = refl

-- what a look at the lent parts finds, with the struct that was taken out of them in its place
pub look_taken : (u : MemoryUnit) (s : State) (root : Option ℕ) → s ≡ state_in u → (s.next ≡ 0 → found_as root (box_of u) ≡ look_from 8 (box_of u))
    → s.next ≡ 0 → found_as root (box_with u s) ≡ look_from 8 (box_with u s)
look_taken u s root e f z = subst (λ (y : State). found_as root (box_with u y) ≡ look_from 8 (box_with u y)) (sym e) (f z)
