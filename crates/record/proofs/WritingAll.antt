-- The whole list, from its edition on; and the two passes of the writer: the first gives how many bytes there are, and the second, which
-- has room for them, stores them. What is refused has no bytes. Assumes nothing.
use Prim.Native.Nat.{ℕ, ◌+◌, ◌≤◌, ◌<◌}
use native.Mathlib.Nat.{zero-add, le_refl}
use native.Mathlib.Omega.{arith}
use mathlib.Core.Bool.{Bool, true, false, cond}
use mathlib.Core.List.{List, [], ◌∷◌, ◌++◌}
use mathlib.Core.Option.{Option}
use mathlib.Core.Path.{◌≡◌, refl, sym, ◌∙◌, ap}
use borrow.Author.Tests.{le-leb, lt-leb, eqb-true, eqb-false}
use lib.Dec.{eqb}
use lib.ListN.{length, drop, get_or}
use lib.Seq.{sets, sets-eq}
use Rattle.std.specs.Prelude.{Result, Ok, Err}
use Rattle.record.specs.declared.writing.Took.{Took}
use Rattle.record.specs.declared.writing.WriteFault.{WriteFault}
use Rattle.record.specs.Number.{too_short, not_understood}
use Rattle.record.specs.Fields.{editions}
use Rattle.record.specs.Writing.{taken, turned_down, take_named, take_entry, Writing, writing, write_records, write, if_room, write_into}
use Rattle.record.specs.WritingSteps.{Takes, stored, not_stored, store, given_last, to_the_end, number_of, count_of, answer_of}
use Rattle.record.specs.Promises.{Writes}
use Rattle.record.proofs.Theorems.{refused_writes_nothing}
use Rattle.record.proofs.WritingRecords.{before_records, went_on, stopped}

-- ---- the edition, and what is behind it

pub all_missing : (ns old : List ℕ) → length ns ≡ 0 → not_stored not_understood ≡ store old 0 (to_the_end (write ns))
unfolding write take_entry
all_missing [] old z = refl
all_missing (k ∷ ns) old z = absurd (omega arith)

edition_named : (ns : List ℕ) → 0 < length ns → write ns ≡ before_records 0 (take_named (editions (get_or ns 0 0)) (get_or ns 0 0) (drop 1 ns))
unfolding write take_entry
edition_named [] h = absurd (omega arith)
edition_named (k ∷ ns) h = refl

edition_first : (ns : List ℕ) {o : Option (List ℕ)} → 0 < length ns → o ≡ editions (get_or ns 0 0) → write ns ≡ before_records 0 (take_named o (get_or ns 0 0) (drop 1 ns))
edition_first ns h l = rw l (edition_named ns h)

pub all_stopped : {ns old new : List ℕ} {o : Option (List ℕ)} {f : WriteFault} → 0 < length ns → o ≡ editions (get_or ns 0 0) → Takes (take_named o (get_or ns 0 0) (drop 1 ns)) ns old new 1 0 (Err f)
    → not_stored (number_of f) ≡ store old 0 (to_the_end (write ns))
all_stopped {ns} {old} {new} {o} {f} h l t =
    stopped 0 old 0 f (take_named o (get_or ns 0 0) (drop 1 ns)) t.took ∙ ap (λ (w : Writing). store old 0 (to_the_end w)) (sym (edition_first ns h l))

pub all_taken : {ns old new : List ℕ} {o : Option (List ℕ)} {k : Took} → 0 < length ns → o ≡ editions (get_or ns 0 0) → Takes (take_named o (get_or ns 0 0) (drop 1 ns)) ns old new 1 0 (Ok k)
    → store new k.end (to_the_end (write_records 0 (drop k.next ns))) ≡ store old 0 (to_the_end (write ns))
all_taken {ns} {old} {new} {o} h l t =
    went_on 0 old 0 (take_named o (get_or ns 0 0) (drop 1 ns)) t.took ∙ ap (λ (w : Writing). store old 0 (to_the_end w)) (sym (edition_first ns h l))

-- ---- what a pass says of the bytes

pub record Refuses (w : Writing) (answer : ℕ) : Type 0 where
  pub nonzero : w.answer ≡ 0 → ⊥
  pub same : answer ≡ w.answer

pass_refused : (w : Writing) (old : List ℕ) (answer : ℕ) → not_stored answer ≡ store old 0 (to_the_end w) → Refuses w answer
pass_refused w old answer e = go (eqb w.answer 0) refl e
  where
    go : (t : Bool) → eqb w.answer 0 ≡ t → not_stored answer ≡ store old 0 (cond t (taken w.bytes []) (turned_down w.answer)) → Refuses w answer
    go true q f = let y : ◌≡◌ {A = ℕ} 0 1 = cc in absurd (omega arith)
    go false q f = record { nonzero = eqb-false w.answer 0 q; same = cc }

pub record Stores (w : Writing) (old new : List ℕ) (count : ℕ) : Type 0 where
  pub zero_answer : w.answer ≡ 0
  pub bytes : new ≡ sets old 0 w.bytes
  pub many : count ≡ length w.bytes

pass_stored : (w : Writing) (old new : List ℕ) (count : ℕ) → stored new count [] ≡ store old 0 (to_the_end w) → Stores w old new count
pass_stored w old new count e = go (eqb w.answer 0) refl e
  where
    go : (t : Bool) → eqb w.answer 0 ≡ t → stored new count [] ≡ store old 0 (cond t (taken w.bytes []) (turned_down w.answer)) → Stores w old new count
    go true q f =
        let m : count ≡ 0 + length w.bytes = cc in
        record { zero_answer = eqb-true w.answer 0 q; bytes = cc; many = omega arith }
    go false q f = let y : ◌≡◌ {A = ℕ} 0 1 = cc in absurd (omega arith)

-- ---- the writer

into_fits : (room : ℕ) (ns : List ℕ) → length (write ns).bytes ≤ room → write_into room ns ≡ write ns
unfolding write_into if_room
into_fits room ns h = simp (le-leb (length (write ns).bytes) room h)

into_short : (room : ℕ) (ns : List ℕ) → room < length (write ns).bytes → write_into room ns ≡ writing [] too_short
unfolding write_into if_room
into_short room ns h = simp (lt-leb (length (write ns).bytes) room h)

-- refused, there are no bytes: so where all of them fit
no_bytes : (ns : List ℕ) → ((write ns).answer ≡ 0 → ⊥) → (write ns).bytes ≡ []
no_bytes ns z =
    let e = into_fits (length (write ns).bytes) ns (le_refl (length (write ns).bytes)) in
    ap (λ (w : Writing). w.bytes) (sym e) ∙ refused_writes_nothing (length (write ns).bytes) ns (λ q. z (ap (λ (w : Writing). w.answer) (sym e) ∙ q))

writes_as : (ns old new : List ℕ) (count answer : ℕ) (w : Writing) → write_into (length old) ns ≡ w → new ≡ w.bytes ++ drop (length w.bytes) old → count ≡ length w.bytes → answer ≡ w.answer → Writes ns old new count answer
writes_as ns old new count answer w e p c a =
    record {
      put = p ∙ ap (λ (v : Writing). v.bytes ++ drop (length v.bytes) old) (sym e);
      counted = c ∙ ap (λ (v : Writing). length v.bytes) (sym e);
      answered = a ∙ ap (λ (v : Writing). v.answer) (sym e);
    }

-- what is refused leaves the lent bytes; the pass had others, or stored none
pub write_refused : (ns old spare : List ℕ) (f : WriteFault) → not_stored (number_of f) ≡ store spare 0 (to_the_end (write ns)) → Writes ns old old 0 (number_of f)
write_refused ns old spare f e =
    let r = pass_refused (write ns) spare (number_of f) e in
    let b = no_bytes ns r.nonzero in
    writes_as ns old old 0 (number_of f) (write ns) (into_fits (length old) ns (omega (arith, ap length b))) (ap (λ (l : List ℕ). l ++ drop (length l) old) (sym b)) (sym (ap length b)) r.same

module _ (ns old spare new : List ℕ) (count : ℕ) (e : stored new count [] ≡ store spare 0 (to_the_end (write ns))) where
  first : Stores (write ns) spare new count
  first = pass_stored (write ns) spare new count e

  pub write_short : length old < count → Writes ns old old 0 too_short
  write_short h = writes_as ns old old 0 too_short (writing [] too_short) (into_short (length old) ns (omega (arith, first.many))) refl refl refl

  pub write_put : count ≤ length old → (after : List ℕ) (r : Result ℕ WriteFault) → given_last after r ≡ store old 0 (to_the_end (write ns)) → Writes ns old after (count_of r) (answer_of r)
  write_put h after (Ok many) f =
      let u = pass_stored (write ns) old after many f in
      writes_as ns old after many 0 (write ns) (into_fits (length old) ns (omega (arith, first.many)))
      (u.bytes ∙ sets-eq (write ns).bytes old 0 (omega (arith, first.many)) ∙ ap (λ (k : ℕ). (write ns).bytes ++ drop k old) (zero-add (length (write ns).bytes)))
      u.many
      (sym first.zero_answer)
  write_put h after (Err g) f = absurd ((pass_refused (write ns) old (number_of g) f).nonzero first.zero_answer)
