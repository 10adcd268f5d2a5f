-- A field, a record and the head of a string at a place of the lent bytes, as the code meets them. Assumes nothing.
use Prim.Native.Nat.{ℕ, ◌+◌, ◌-◌}
use mathlib.Core.List.{List}
use mathlib.Core.Path.{◌≡◌, refl, sym, ap, ◌∙◌}
use native.Mathlib.Omega.{arith}
use lib.ListN.{length, drop, length-drop}
use lib.Seq.{drop-drop}
use Rattle.std.specs.declared.result.Result.{Result}
use Rattle.std.specs.declared.result.Result.TheVariants.{Ok, Err}
use Rattle.record.specs.declared.number.Fault.{Fault}
use Rattle.record.specs.declared.entry.Entry.{Entry}
use Rattle.record.specs.Number.{found, number}
use Rattle.record.specs.Fields.{Item, whole, fault, field}
use Rattle.record.specs.Found.{number_of, place_of, told, entry_of, as_entry}
use Rattle.record.proofs.Groups.{is_found, is_refused}
use Rattle.record.proofs.Laws.{Behind, number_behind, field_behind}

-- ---- bytes that are behind those from a place on

pub drop_place : (bs : List ℕ) (at : ℕ) (rest : List ℕ) → Behind (drop at bs) rest → rest ≡ drop (place_of (length bs) rest) bs
drop_place bs at rest h =
    let l : length (drop at bs) ≡ length bs - at = length-drop at bs in
    let e : at + (length (drop at bs) - length rest) ≡ length bs - length rest = omega (arith, h.shorter) in
    h.is_drop ∙ drop-drop (length (drop at bs) - length rest) at bs ∙ ap (λ (n : ℕ). drop n bs) e

-- those behind a field, behind a number, and behind the first number of all
pub field_rest : (bs : List ℕ) (at l n : ℕ) (rest : List ℕ) → field l (drop at bs) ≡ found n rest → rest ≡ drop (place_of (length bs) rest) bs
field_rest bs at l n rest e = drop_place bs at rest (field_behind l (drop at bs) n rest e)

pub number_rest : (bs : List ℕ) (at n : ℕ) (rest : List ℕ) → number (drop at bs) ≡ found n rest → rest ≡ drop (place_of (length bs) rest) bs
number_rest bs at n rest e = drop_place bs at rest (number_behind (drop at bs) n rest e)

pub head_rest : (bs : List ℕ) (n : ℕ) (rest : List ℕ) → number bs ≡ found n rest → rest ≡ drop (place_of (length bs) rest) bs
head_rest bs n rest e = number_rest bs 0 n rest e

-- what the check needs where the code reads a field, a number, and the first number of all
pub ruleset after_field = (is_found, is_refused, field_rest)

pub ruleset after_number = (is_found, is_refused, number_rest)

pub ruleset after_first = (is_found, is_refused, head_rest)

-- ---- an entry that the code hands on

-- read whole: its numbers, and the bytes behind them
pub record WholeAt (len : ℕ) (x : Item) (e : Entry) : Type 0 where
  pub ns : List ℕ
  pub rest : List ℕ
  pub is : x ≡ whole ns rest
  pub fields : entry_of len ns rest ≡ e

pub is_whole : (len : ℕ) (x : Item) (r : Result Entry Fault) → told r ≡ as_entry len x → (e : Entry) → r ≡ Ok e → WholeAt len x e
is_whole len (whole ns rest) r i e u = let z : as_entry len (whole ns rest) ≡ told (Ok e) = sym i ∙ ap told u in record { ns = ns; rest = rest; is = refl; fields = cc }
is_whole len (fault a) r i e u = let z : as_entry len (fault a) ≡ told (Ok e) = sym i ∙ ap told u in absurd (cc)

-- refused
pub is_fault : (len : ℕ) (x : Item) (r : Result Entry Fault) → told r ≡ as_entry len x → (f : Fault) → r ≡ Err f → x ≡ fault (number_of f)
is_fault len (whole ns rest) r i f u = let z : as_entry len (whole ns rest) ≡ told (Err f) = sym i ∙ ap told u in absurd (cc)
is_fault len (fault a) r i f u = let z : as_entry len (fault a) ≡ told (Err f) = sym i ∙ ap told u in cc
