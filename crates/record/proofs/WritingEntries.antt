-- An entry's numbers, stored one by one: what is stored and what the numbers left give, stored from the next place on, are together what
-- the entry gives. Assumes nothing.
use Prim.Native.Nat.{ℕ, suc, ◌+◌, ◌*◌, ◌≤◌, ◌<◌}
use native.Mathlib.Nat.{add-zero, add-suc, suc-add}
use native.Mathlib.Numerals.{add-one}
use native.Mathlib.Omega.{arith}
use mathlib.Core.List.{List, [], ◌∷◌, ◌++◌}
use mathlib.Core.Option.{some, none}
use mathlib.Core.Path.{◌≡◌, refl, sym, ◌∙◌, ap}
use borrow.Author.Tests.{le-leb, lt-leb}
use lib.ListN.{length, drop, get_or, set, length-append, drop_of_length-le}
use lib.Seq.{sets, drop-cons}
use Rattle.std.specs.Prelude.{Result, Ok, Err}
use Rattle.record.specs.declared.writing.Took.{Took}
use Rattle.record.specs.declared.writing.WriteFault.{WriteFault}
use Rattle.record.specs.declared.writing.WriteFault.TheVariants.{Unknown, TooLarge, NotUnderstood}
use Rattle.record.specs.Number.{number_bytes, too_large, not_understood}
use Rattle.record.specs.Writing.{Taken, taken, turned_down, bytes_before, take_fields, take_named}
use Rattle.record.specs.WritingSteps.{Puts, Takes, stored, store, number_of}

-- ---- bytes before others

pub sets_append : (bytes : List ℕ) (to : ℕ) (cs bs : List ℕ) → sets bytes to (cs ++ bs) ≡ sets (sets bytes to cs) (to + length cs) bs
sets_append bytes to [] bs = ap (λ (k : ℕ). sets bytes k bs) (sym (add-zero to))
sets_append bytes to (c ∷ cs) bs =
    sets_append (set bytes to c) (suc to) cs bs
    ∙ ap (λ (k : ℕ). sets (sets bytes to (c ∷ cs)) k bs) (suc-add to (length cs) ∙ sym (add-suc to (length cs)))

pub store_before : (bytes : List ℕ) (to : ℕ) (cs : List ℕ) (t : Taken) → store bytes to (bytes_before cs t) ≡ store (sets bytes to cs) (to + length cs) t
unfolding bytes_before
store_before bytes to cs (taken bs rest) =
    ap (λ (l : List ℕ). stored l (to + length (cs ++ bs)) rest) (sets_append bytes to cs bs)
    ∙ ap (λ (k : ℕ). stored (sets (sets bytes to cs) (to + length cs) bs) k rest) (omega (arith, length-append cs bs))
store_before bytes to cs (turned_down a) = refl

-- a number's bytes before others
pub put_before : {n : ℕ} {old new : List ℕ} {at end : ℕ} → Puts n old new at end → (t : Taken) → store new end t ≡ store old at (bytes_before (number_bytes n) t)
put_before {n} {old} {new} {at} {end} p t =
    ap (λ (l : List ℕ). store l end t) p.put
    ∙ ap (λ (k : ℕ). store (sets old at (number_bytes n)) k t) p.ends
    ∙ sym (store_before old at (number_bytes n) t)

-- ---- fields

-- the limits from j on are left, and the place of the next number and that of the next byte are known
pub record Partly (ls ns old new : List ℕ) (at to next end j : ℕ) : Type 0 where
  pub whole : store new end (take_fields (drop j ls) (drop next ns)) ≡ store old to (take_fields ls (drop at ns))
  pub forward : at ≤ next
  pub inside : next ≤ length ns
  pub short : end ≤ 5 * next

-- a field by its limit and its number
field_missing : (l : ℕ) (ls : List ℕ) → take_fields (l ∷ ls) [] ≡ turned_down not_understood
unfolding take_fields
field_missing l ls = refl

field_above : (l n : ℕ) (ls ns : List ℕ) → l < n → take_fields (l ∷ ls) (n ∷ ns) ≡ turned_down too_large
unfolding take_fields
field_above l n ls ns h = simp (lt-leb n l h)

field_within : (l n : ℕ) (ls ns : List ℕ) → n ≤ l → take_fields (l ∷ ls) (n ∷ ns) ≡ bytes_before (number_bytes n) (take_fields ls ns)
unfolding take_fields
field_within l n ls ns h = simp (le-leb n l h)

module _ {ls ns old new : List ℕ} {at to next end j : ℕ} (p : Partly ls ns old new at to next end j) where
  pub fields_end : length ls ≤ j → Takes (take_fields ls (drop at ns)) ns old new at to (Ok record { next = next; end = end })
  unfolding take_fields
  fields_end h =
      record {
        took = ap (λ (k : ℕ). stored new k (drop next ns)) (sym (add-zero end)) ∙ ap (λ (l : List ℕ). store new end (take_fields l (drop next ns))) (sym (drop_of_length-le ls h)) ∙ p.whole;
        onward = record { forward = p.forward; inside = p.inside; short = p.short };
      }

  -- what is refused at these limits and numbers is refused
  turned : (f : WriteFault) → take_fields (drop j ls) (drop next ns) ≡ turned_down (number_of f) → Takes (take_fields ls (drop at ns)) ns old new at to (Err f)
  turned f e = record { took = ap (store new end) (sym e) ∙ p.whole; onward = tt }

  pub fields_missing : j < length ls → length ns ≤ next → Takes (take_fields ls (drop at ns)) ns old new at to (Err NotUnderstood)
  fields_missing h l = turned NotUnderstood (simp (drop-cons ls j 0 h, drop_of_length-le ns l, field_missing))

  pub fields_above : j < length ls → next < length ns → get_or ls j 0 < get_or ns next 0 → Takes (take_fields ls (drop at ns)) ns old new at to (Err TooLarge)
  fields_above h l g = turned TooLarge (simp (drop-cons ls j 0 h, drop-cons ns next 0 l, field_above (get_or ls j 0) (get_or ns next 0) (drop (suc j) ls) (drop (suc next) ns) g))

  pub fields_turn : {after : List ℕ} {further : ℕ} → j < length ls → next < length ns → get_or ns next 0 ≤ get_or ls j 0 → Puts (get_or ns next 0) new after end further → Partly ls ns old after at to (next + 1) further (j + 1)
  fields_turn {after} {further} h l g q =
      let f = p.forward in
      let s = p.short in
      let b = q.short in
      record { whole = whole; forward = omega arith; inside = omega arith; short = omega arith }
    where
      whole : store after further (take_fields (drop (j + 1) ls) (drop (next + 1) ns)) ≡ store old to (take_fields ls (drop at ns))
      whole =
          put_before q (take_fields (drop (j + 1) ls) (drop (next + 1) ns))
          ∙ (simp (add-one, drop-cons ls j 0 h, drop-cons ns next 0 l, field_within (get_or ls j 0) (get_or ns next 0) (drop (suc j) ls) (drop (suc next) ns) g))
          ∙ p.whole

-- ---- an entry: what it names, and its fields

-- none are known
pub entry_unknown : (k : ℕ) (rest ns old : List ℕ) (from to : ℕ) → Takes (take_named none k rest) ns old old from to (Err Unknown)
unfolding take_named
entry_unknown k rest ns old from to = record { took = refl; onward = tt }

-- the number's bytes, and then those of its fields
pub entry_known : {k : ℕ} (ls rest : List ℕ) {ns old mid new : List ℕ} {from to via : ℕ} {r : Result Took WriteFault} → Puts k old mid to via → Takes (take_fields ls rest) ns mid new from via r → Takes (take_named (some ls) k rest) ns old new from to r
unfolding take_named
entry_known {k} ls rest p t = record { took = t.took ∙ put_before p (take_fields ls rest); onward = t.onward }
