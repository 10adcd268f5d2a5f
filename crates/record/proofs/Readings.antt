-- The laws of the reader: how many numbers an entry has and that they take as many bytes, numbers put one after the other, and what each
-- kind of turn leaves as it was. The sizes come from one test of the table of kinds. Assumes nothing.
use Prim.Native.Nat.{ℕ, zero, suc, ◌+◌, ◌-◌, ◌≤◌, ◌<◌}
use mathlib.Core.Bool.{Bool, true, false, cond, ◌&&◌}
use mathlib.Core.List.{List, [], ◌∷◌, ◌++◌, append_assoc, append-nil}
use mathlib.Core.Option.{Option, none, some}
use mathlib.Core.Path.{◌≡◌, refl, sym, ap, ◌∙◌}
use native.Mathlib.Omega.{arith}
use native.Mathlib.Numerals.{add-one}
use native.Mathlib.Nat.{add-zero, zero-add}
use lib.Dec.{leb, eqb}
use lib.ListN.{length, get_or, take, drop, set, length-append, length-drop, take-append-drop}
use lib.Seq.{take_at, drop-append-add, drop-drop, length-take-le, sets, sets-eq}
use borrow.Author.Tests.{leb-true, eq-eqb, ne_eqb, le-leb, lt-leb}
use Rattle.std.specs.declared.result.Result.{Result}
use Rattle.std.specs.declared.result.Result.TheVariants.{Ok, Err}
use Rattle.record.specs.declared.number.Fault.{Fault}
use Rattle.record.specs.declared.entry.Entry.{Entry}
use Rattle.record.specs.declared.reading.Place.{Place}
use Rattle.record.specs.Number.{Number, found, refused, number, not_understood}
use Rattle.record.specs.Fields.{whole, fault, most16, most32, field, fields, named, entry, row, kind_table, kinds, editions}
use Rattle.record.specs.Reading.{Reading, reading, item_before, ending, records, read, read_into, all_numbers}
use Rattle.record.specs.Promises.{Reads}
use Rattle.record.specs.Found.{number_of, place_of, told, as_entry}
use Rattle.record.proofs.Entries.{drop_place, is_whole, is_fault}
use Rattle.record.specs.Turns.{size_of, put_at, Last, last, last_of, at_last, Fit, GoesOn}
use Rattle.record.proofs.Laws.{Behind, number_behind, field_behind, fault_not_whole, joined_whole, fields_found, fields_refused, entry_found, entry_refused, entry_behind, records_fault, records_end, records_item}

-- ---- the numbers of an entry

-- one number for each limit, and a byte or more for each number
fields_size : (ls bs ns rest : List ℕ) → fields ls bs ≡ whole ns rest → (length ns ≡ length ls) × (length ns + length rest ≤ length bs)
unfolding fields
fields_size [] bs ns rest e = let f : [] ≡ ns = cc in let g : bs ≡ rest = cc in rw (← f, ← g) (refl, omega arith)
fields_size (l ∷ ls) bs ns rest e = go (field l bs) refl (λ r ms. fields_size ls r ms rest)
  where
    go : (x : Number) → field l bs ≡ x → ((r ms : List ℕ) → fields ls r ≡ whole ms rest → (length ms ≡ length ls) × (length ms + length rest ≤ length r))
        → (length ns ≡ length (l ∷ ls)) × (length ns + length rest ≤ length bs)
    go (found n r) p ih =
        let (ms, x, w) = joined_whole n (fields ls r) ns rest (sym (fields_found l ls bs n r p) ∙ e) in
        let (s, b) = ih r ms x in
        rw (← w) (ap suc s, omega (arith, (field_behind l bs n r p).shorter))
    go (refused a) p ih = absurd (fault_not_whole (sym (fields_refused l ls bs a p) ∙ e))

-- what an entry that was read whole has: the limits of its table, a number for the kind and for each limit, and bytes enough
pub record Sized (table : ℕ → Option (List ℕ)) (bs ns rest : List ℕ) : Type 0 where
  pub limits : List ℕ
  pub known : table (get_or ns 0 0) ≡ some limits
  pub numbers : length ns ≡ suc (length limits)
  pub bytes : length ns + length rest ≤ length bs

named_size : (table : ℕ → Option (List ℕ)) (t : Option (List ℕ)) (k : ℕ) → table k ≡ t → (bs r ns rest : List ℕ) → length r < length bs → named t k r ≡ whole ns rest → Sized table bs ns rest
unfolding named
named_size table none k z bs r ns rest h e = absurd (fault_not_whole e)
named_size table (some ls) k z bs r ns rest h e =
    let (ms, x, w) = joined_whole k (fields ls r) ns rest e in
    let (s, b) = fields_size ls r ms rest x in
    rw (← w) record { limits = ls; known = z; numbers = ap suc s; bytes = omega arith }

pub entry_size : (table : ℕ → Option (List ℕ)) (bs ns rest : List ℕ) → entry table bs ≡ whole ns rest → Sized table bs ns rest
entry_size table bs ns rest e = go (number bs) refl
  where
    go : (x : Number) → number bs ≡ x → Sized table bs ns rest
    go (found k r) p = named_size table (table k) k refl bs r ns rest (number_behind bs k r p).shorter (sym (entry_found table bs k r p) ∙ e)
    go (refused a) p = absurd (fault_not_whole (sym (entry_refused table bs a p) ∙ e))

-- ---- a kind has one to three fields, an edition two

some_fields : List ℕ → Bool
some_fields ls = leb 1 (length ls) && leb (length ls) 3

rows_fit : List (List ℕ) → Bool
rows_fit [] = true
rows_fit (r ∷ rs) = some_fields r && rows_fit rs

both_true : (s t : Bool) → s && t ≡ true → (s ≡ true) × (t ≡ true)
both_true true t e = (refl, e)
both_true false t e = absurd (let z : ◌≡◌ {A = ℕ} 0 1 = cc in omega arith)

row_fits : (rs : List (List ℕ)) → rows_fit rs ≡ true → (k : ℕ) (ls : List ℕ) → row k rs ≡ some ls → some_fields ls ≡ true
unfolding row rows_fit
row_fits [] h k ls e = absurd (let z : ◌≡◌ {A = ℕ} 0 1 = cc in omega arith)
row_fits (r ∷ rs) h zero ls e = let f : r ≡ ls = cc in rw (← f) (both_true (some_fields r) (rows_fit rs) h).0
row_fits (r ∷ rs) h (suc k) ls e = row_fits rs (both_true (some_fields r) (rows_fit rs) h).1 k ls e

pub kinds_fields : (k : ℕ) (ls : List ℕ) → kinds k ≡ some ls → (1 ≤ length ls) × (length ls ≤ 3)
unfolding kinds rows_fit some_fields
kinds_fields k ls e =
    let (l, m) = both_true (leb 1 (length ls)) (leb (length ls) 3) (row_fits kind_table refl k ls e) in
    (leb-true 1 (length ls) l, leb-true (length ls) 3 m)

pub editions_two : (k : ℕ) (ls : List ℕ) → editions k ≡ some ls → length ls ≡ 2
unfolding editions
editions_two k ls e = go (eqb k 1) e
  where
    go : (s : Bool) → cond s (some (most16 ∷ most16 ∷ [])) none ≡ some ls → length ls ≡ 2
    go true e = let f : most16 ∷ most16 ∷ [] ≡ ls = cc in rw (← f)
    go false e = absurd (let z : ◌≡◌ {A = ℕ} 0 1 = cc in omega arith)

-- ---- what the code has of an entry at a place

-- at most four numbers are the first of those that the code takes out
four : (ns : List ℕ) → length ns ≤ 4 → take (length ns) (get_or ns 0 0 ∷ get_or ns 1 0 ∷ get_or ns 2 0 ∷ get_or ns 3 0 ∷ []) ≡ ns
four [] h = refl
four (a ∷ []) h = refl
four (a ∷ b ∷ []) h = refl
four (a ∷ b ∷ c ∷ []) h = refl
four (a ∷ b ∷ c ∷ d ∷ []) h = refl
four (a ∷ b ∷ c ∷ d ∷ e ∷ ns) h = absurd (omega arith)

-- an entry read whole at a place: its numbers, the bytes behind it, and that its numbers took as many bytes
pub record Stands (table : ℕ → Option (List ℕ)) (bs : List ℕ) (at k a b c next : ℕ) : Type 0 where
  pub limits : List ℕ
  pub known : table k ≡ some limits
  pub is : entry table (drop at bs) ≡ whole (take (suc (length limits)) (k ∷ a ∷ b ∷ c ∷ [])) (drop next bs)
  pub behind : at + suc (length limits) ≤ next
  pub inside : next ≤ length bs

module _ (table : ℕ → Option (List ℕ)) (bs : List ℕ) (at : ℕ) where
  stands_by : (ns rest : List ℕ) → entry table (drop at bs) ≡ whole ns rest → Sized table (drop at bs) ns rest → Behind (drop at bs) rest → length ns ≤ 4
      → Stands table bs at (get_or ns 0 0) (get_or ns 1 0) (get_or ns 2 0) (get_or ns 3 0) (place_of (length bs) rest)
  stands_by ns rest e s h m =
      let l : length (drop at bs) ≡ length bs - at = length-drop at bs in
      record {
        limits = s.limits;
        known = s.known;
        is = e ∙ ap (λ (r : List ℕ). whole ns r) (drop_place bs at rest h) ∙ ap (λ (ms : List ℕ). whole ms (drop (place_of (length bs) rest) bs)) (sym (four ns m)) ∙ rw s.numbers;
        behind = omega (arith, s.numbers, s.bytes);
        inside = omega arith;
      }

  entry_stands : ((k : ℕ) (ls : List ℕ) → table k ≡ some ls → length ls ≤ 3) → (x : Result Entry Fault) → told x ≡ as_entry (length bs) (entry table (drop at bs))
      → (e : Entry) → x ≡ Ok e → Stands table bs at e.kind e.a e.b e.c e.next
  entry_stands small x i e u =
      let w = is_whole (length bs) (entry table (drop at bs)) x i e u in
      let s = entry_size table (drop at bs) w.ns w.rest w.is in
      let m : length w.ns ≤ 4 = omega (arith, s.numbers, small (get_or w.ns 0 0) s.limits s.known) in
      rw (← w.fields) (stands_by w.ns w.rest w.is s (entry_behind table (drop at bs) w.ns w.rest w.is) m)

pub record_stands : (bs : List ℕ) (at : ℕ) (x : Result Entry Fault) → told x ≡ as_entry (length bs) (entry kinds (drop at bs)) → (e : Entry) → x ≡ Ok e → Stands kinds bs at e.kind e.a e.b e.c e.next
record_stands bs at x i e u = entry_stands kinds bs at (λ j ls h. (kinds_fields j ls h).1) x i e u

pub head_stands : (bs : List ℕ) (x : Result Entry Fault) → told x ≡ as_entry (length bs) (entry editions bs) → (e : Entry) → x ≡ Ok e → Stands editions bs 0 e.kind e.a e.b e.c e.next
head_stands bs x i e u = entry_stands editions bs 0 (λ j ls h. omega (arith, editions_two j ls h)) x i e u

-- ---- numbers put from a place on

pub put_none : (old : List ℕ) (n : ℕ) → put_at old n [] ≡ old
unfolding put_at
put_none old n = rw (add-zero n, append-nil (take n old), take-append-drop n old)

-- some numbers and then others are all of them at once
put_more : (old : List ℕ) (n : ℕ) (ms ns : List ℕ) → n + length ms ≤ length old → put_at (put_at old n ms) (n + length ms) ns ≡ put_at old n (ms ++ ns)
unfolding put_at
put_more old n ms ns h =
    let p : List ℕ = take n old ++ ms in
    let q : List ℕ = drop (n + length ms) old in
    let l : length p ≡ n + length ms = length-append (take n old) ms ∙ ap (λ (k : ℕ). k + length ms) (length-take-le n old (omega arith)) in
    let k : n + length ms + length ns ≡ n + length (ms ++ ns) = omega (arith, length-append ms ns) in
    let d : drop (n + length ms + length ns) (p ++ q) ≡ drop (n + length (ms ++ ns)) old =
    ap (λ (m : ℕ). drop (m + length ns) (p ++ q)) (sym l)
    ∙ drop-append-add p q (length ns)
    ∙ drop-drop (length ns) (n + length ms) old
    ∙ ap (λ (m : ℕ). drop m old) k in
    ap (λ (r : List ℕ). r ++ ns ++ drop (n + length ms + length ns) (p ++ q)) (take_at p q (n + length ms) l)
    ∙ ap (λ (r : List ℕ). p ++ ns ++ r) d
    ∙ ap (λ (r : List ℕ). r ++ drop (n + length (ms ++ ns)) old) (append_assoc (take n old) ms ns)

-- what stores leave
put_stored : (old : List ℕ) (n : ℕ) (ns : List ℕ) → n + length ns ≤ length old → sets old n ns ≡ put_at old n ns
unfolding put_at
put_stored old n ns h = sets-eq ns old n h

-- two, three and four stores, as the code makes them
module _ (old : List ℕ) (n size k a b c : ℕ) (fits : n + size ≤ length old) where
  pub put_two : size ≡ 2 → set (set old n k) (n + 1) a ≡ put_at old n (take size (k ∷ a ∷ b ∷ c ∷ []))
  put_two e =
      let p : n + 1 ≡ suc n = omega arith in
      rw (e, p) (put_stored old n (k ∷ a ∷ []) (omega arith))

  pub put_three : size ≡ 3 → set (set (set old n k) (n + 1) a) (n + 2) b ≡ put_at old n (take size (k ∷ a ∷ b ∷ c ∷ []))
  put_three e =
      let p : n + 1 ≡ suc n = omega arith in
      let q : n + 2 ≡ suc (suc n) = omega arith in
      rw (e, p, q) (put_stored old n (k ∷ a ∷ b ∷ []) (omega arith))

  pub put_four : size ≡ 4 → set (set (set (set old n k) (n + 1) a) (n + 2) b) (n + 3) c ≡ put_at old n (take size (k ∷ a ∷ b ∷ c ∷ []))
  put_four e =
      let p : n + 1 ≡ suc n = omega arith in
      let q : n + 2 ≡ suc (suc n) = omega arith in
      let r : n + 3 ≡ suc (suc (suc n)) = omega arith in
      rw (e, p, q, r) (put_stored old n (k ∷ a ∷ b ∷ c ∷ []) (omega arith))

-- ---- what a call comes to, before and after a turn

nothing_more : (ns : List ℕ) (n a : ℕ) → last_of ns n (reading [] a) ≡ last ns n a
unfolding last_of all_numbers
nothing_more ns n a = rw (put_none ns n, add-zero n)

one_more : (old : List ℕ) (n : ℕ) (ms : List ℕ) (r : Reading) → n + length ms ≤ length old → last_of (put_at old n ms) (n + length ms) r ≡ last_of old n (item_before ms r)
unfolding last_of all_numbers
one_more old n ms r h =
    let ns : List ℕ = all_numbers r.items in
    let l : n + length ms + length ns ≡ n + length (ms ++ ns) = omega (arith, length-append ms ns) in
    rw (put_more old n ms ns h, l)

-- numbers that were put, and what comes behind them
from_item : (bs old : List ℕ) (n : ℕ) (ms : List ℕ) (next m count : ℕ) → m ≡ n + length ms → m ≤ length old
    → at_last bs (put_at old n ms) record { at = next; n = m; count = count } ≡ last_of old n (item_before ms (records count (drop next bs)))
from_item bs old n ms next m count e h = rw e (one_more old n ms (records count (drop next bs)) (omega arith))

-- the reading ends at a place
stops : (bs ns : List ℕ) (p : Place) (a : ℕ) → records p.count (drop p.at bs) ≡ reading [] a → last ns p.n a ≡ at_last bs ns p
stops bs ns p a e = rw e (sym (nothing_more ns p.n a))

-- a refused record
pub turn_refused : (bs ns : List ℕ) (p : Place) (x : Result Entry Fault) → told x ≡ as_entry (length bs) (entry kinds (drop p.at bs)) → (f : Fault) → x ≡ Err f → (a : ℕ) → a ≡ number_of f → last ns p.n a ≡ at_last bs ns p
turn_refused bs ns p x e f u a z =
    rw z (stops bs ns p (number_of f) (records_fault p.count (drop p.at bs) (number_of f) (is_fault (length bs) (entry kinds (drop p.at bs)) x e f u)))

-- the end
end_limits : (ls : List ℕ) → kinds 0 ≡ some ls → ls ≡ most32 ∷ []
unfolding kinds row
end_limits ls e = cc

module _ {bs : List ℕ} {at k a b c next : ℕ} (stands : Stands kinds bs at k a b c next) where
  pub turn_end : (ns : List ℕ) (n count : ℕ) → k ≡ 0 → last ns n (ending count (0 ∷ a ∷ []) (drop next bs)) ≡ at_last bs ns record { at = at; n = n; count = count }
  unfolding ending
  turn_end ns n count z =
      let m : stands.limits ≡ most32 ∷ [] = end_limits stands.limits (ap kinds (sym z) ∙ stands.known) in
      let i : entry kinds (drop at bs) ≡ whole (k ∷ a ∷ []) (drop next bs) = stands.is ∙ rw m in
      stops bs ns record { at = at; n = n; count = count } (ending count (0 ∷ a ∷ []) (drop next bs)) (records_end count (drop at bs) (k ∷ a ∷ []) (drop next bs) i (eq-eqb k 0 z))

  -- a record has two to four numbers, and took as many bytes
  module _ {size : ℕ} (is : size ≡ size_of k) where
    size_limits : size ≡ suc (length stands.limits)
    unfolding size_of
    size_limits = is ∙ rw stands.known

    pub size_fits : (2 ≤ size) × (size ≤ 4) × (at + size ≤ next) × (next ≤ length bs)
    size_fits =
        let l : size ≡ suc (length stands.limits) = size_limits in
        let m : (1 ≤ length stands.limits) × (length stands.limits ≤ 3) = kinds_fields k stands.limits stands.known in
        (omega arith, omega arith, omega (arith, stands.behind), stands.inside)

    pub turn_item : (old : List ℕ) (n count : ℕ) → Fit bs old record { at = at; n = n; count = count } → (k ≡ 0 → ⊥) → (new : List ℕ) → length new ≡ length old → new ≡ put_at old n (take size (k ∷ a ∷ b ∷ c ∷ []))
        → GoesOn bs old new record { at = at; n = n; count = count } record { at = next; n = n + size; count = count + 1 }
    turn_item old n count fit z new h e =
        let f : (2 ≤ size) × (size ≤ 4) × (at + size ≤ next) × (next ≤ length bs) = size_fits in
        record {
          end_kept = kept;
          fit = record { room = omega (arith, fit.room); inside = stands.inside; few = omega (arith, fit.few); fewer = omega (arith, fit.fewer) };
          further = omega arith;
        }
      where
        ms : List ℕ
        ms = take (suc (length stands.limits)) (k ∷ a ∷ b ∷ c ∷ [])

        long : length ms ≡ size
        long = length-take-le (suc (length stands.limits)) (k ∷ a ∷ b ∷ c ∷ []) (omega (arith, size_limits, size_fits)) ∙ sym size_limits

        put : new ≡ put_at old n ms
        put = e ∙ ap (λ (m : ℕ). put_at old n (take m (k ∷ a ∷ b ∷ c ∷ []))) size_limits

        kept : at_last bs new record { at = next; n = n + size; count = count + 1 } ≡ at_last bs old record { at = at; n = n; count = count }
        kept =
            rw (put, add-one count)
            (from_item bs old n ms next (n + size) (suc count) (omega (arith, long)) (omega (arith, size_fits, fit.room, fit.few, fit.inside))
            ∙ ap (last_of old n) (sym (records_item count (drop at bs) ms (drop next bs) stands.is (ne_eqb k 0 z))))

-- ---- a whole call

pub too_few : (bs old : List ℕ) → length old < length bs → Reads bs old old 0 not_understood
unfolding read_into all_numbers
too_few bs old h = let z = lt-leb (length bs) (length old) h in record { put = rw z; counted = rw z; answered = rw z }

-- where there are numbers enough, what a call comes to is what was read, put from the first place on
pub all_read : (bs old new : List ℕ) (n a : ℕ) → length bs ≤ length old → last new n a ≡ last_of old 0 (read bs) → Reads bs old new n a
unfolding read_into last_of put_at
all_read bs old new n a h e =
    let z : leb (length bs) (length old) ≡ true = le-leb (length bs) (length old) h in
    let ns : List ℕ = all_numbers (read bs).items in
    let y : 0 + length ns ≡ length ns = zero-add (length ns) in
    record {
      put = rw z (ap (λ (l : Last). l.numbers) e ∙ ap (λ (m : ℕ). ns ++ drop m old) y);
      counted = rw z (ap (λ (l : Last). l.count) e ∙ y);
      answered = rw z (ap (λ (l : Last). l.answer) e);
    }

read_whole : (bs ns rest : List ℕ) → entry editions bs ≡ whole ns rest → read bs ≡ item_before ns (records 0 rest)
unfolding read
read_whole bs ns rest e = rw (e, read)

read_fault : (bs : List ℕ) (a : ℕ) → entry editions bs ≡ fault a → read bs ≡ reading [] a
unfolding read
read_fault bs a e = rw (e, read)

-- edition, M or H are refused
pub head_refused : (bs old : List ℕ) → length bs ≤ length old → (x : Result Entry Fault) → told x ≡ as_entry (length bs) (entry editions bs) → (f : Fault) → x ≡ Err f → (a : ℕ) → a ≡ number_of f → Reads bs old old 0 a
head_refused bs old h x e f u a z =
    all_read bs old old 0 a h (sym (ap (last_of old 0) (read_fault bs a (is_fault (length bs) (entry editions bs) x e f u ∙ ap fault (sym z))) ∙ nothing_more old 0 a))

-- edition, M and H are put
module _ {bs : List ℕ} {k a b c next : ℕ} (stands : Stands editions bs 0 k a b c next) where
  two_limits : length stands.limits ≡ 2
  two_limits = editions_two k stands.limits stands.known

  pub head_fits : (3 ≤ next) × (next ≤ length bs)
  head_fits = (omega (arith, two_limits, stands.behind), stands.inside)

  pub head_starts : (old new : List ℕ) → length bs ≤ length old → new ≡ put_at old 0 (k ∷ a ∷ b ∷ []) → at_last bs new record { at = next; n = 3; count = 0 } ≡ last_of old 0 (read bs)
  head_starts old new h e =
      let i : entry editions bs ≡ whole (k ∷ a ∷ b ∷ []) (drop next bs) = stands.is ∙ rw two_limits in
      rw e (from_item bs old 0 (k ∷ a ∷ b ∷ []) next 3 0 refl (omega (arith, head_fits)) ∙ ap (last_of old 0) (sym (read_whole bs (k ∷ a ∷ b ∷ []) (drop next bs) i)))
