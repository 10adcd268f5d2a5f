-- Whole strings, there and back. `Records` and `String` say what a string is made of; what they describe is read to 0 and written to 0, and what is
-- read or written to 0 is described by them. By induction on the records, with as many turns as there are bytes or numbers. Assumes nothing.
use Prim.Native.Nat.{ℕ, zero, suc, ◌≤◌, ◌<◌}
use mathlib.Core.Bool.{Bool, true, false, cond}
use mathlib.Core.List.{List, [], ◌∷◌, ◌++◌, append-nil}
use mathlib.Core.Option.{Option, none, some}
use mathlib.Core.Path.{◌≡◌, refl, sym, ◌∙◌, ap, subst}
use native.Mathlib.Omega.{arith}
use lib.Dec.{leb, eqb}
use lib.ListN.{length, get_or}
use borrow.Author.Tests.{leb-true, eqb-true, eqb-false, le-leb, eq-eqb}
use Rattle.record.specs.Number.{too_large, bytes_after, number_bytes}
use Rattle.record.specs.Fields.{Item, whole, fault, most32, row, kinds, editions, entry}
use Rattle.record.specs.Reading.{Reading, reading, item_before, is_end, nothing_behind, ending, records, read, all_numbers}
use Rattle.record.specs.Writing.{Taken, taken, turned_down, bytes_before, take_fields, take_named, take_entry, Writing, writing, written_before, write_end, write_records, write}
use Rattle.record.specs.Claims.{AllBytes, item_bytes}
use Rattle.record.proofs.Laws.{records_fault, records_end, records_item, write_records_end, write_records_zero, write_records_fault, write_records_item, entry_behind, take_entry_left}
use Rattle.record.proofs.Refusals.{either_way, entry_fault_some}
use Rattle.record.proofs.Rounds.{bytes_after_first, Fits, no_more, one_more, EntryFits, entry_fits, ReadFrom, entry_read, entry_taken, read_entry, taken_entry, kinds_bounded, editions_bounded}

-- ---- no refusal answers 0

abbrev TakenRefuses : Taken → Type 0
TakenRefuses (taken bs ns) = Unit
TakenRefuses (turned_down a) = 0 < a

bytes_before_refuses : (bs : List ℕ) (x : Taken) → TakenRefuses x → TakenRefuses (bytes_before bs x)
unfolding bytes_before
bytes_before_refuses bs (taken cs ns) p = tt
bytes_before_refuses bs (turned_down a) p = p

take_fields_refuse : (ls ns : List ℕ) → TakenRefuses (take_fields ls ns)
unfolding take_fields
take_fields_refuse [] ns = tt
take_fields_refuse (l ∷ ls) [] = omega arith
take_fields_refuse (l ∷ ls) (n ∷ ns) =
    either_way TakenRefuses (leb n l) (bytes_before (number_bytes n) (take_fields ls ns)) _ (bytes_before_refuses (number_bytes n) (take_fields ls ns) (take_fields_refuse ls ns)) (omega arith)

take_named_refuses : (t : Option (List ℕ)) (k : ℕ) (ns : List ℕ) → TakenRefuses (take_named t k ns)
unfolding take_named
take_named_refuses none k ns = omega arith
take_named_refuses (some ls) k ns = bytes_before_refuses (number_bytes k) (take_fields ls ns) (take_fields_refuse ls ns)

take_entry_refuses : (table : ℕ → Option (List ℕ)) (ns : List ℕ) → TakenRefuses (take_entry table ns)
unfolding take_entry
take_entry_refuses table [] = omega arith
take_entry_refuses table (k ∷ ns) = take_named_refuses (table k) k ns

pub turned_down_some : (table : ℕ → Option (List ℕ)) (ns : List ℕ) (a : ℕ) → take_entry table ns ≡ turned_down a → a ≡ 0 → ⊥
turned_down_some table ns a e z = let p : 0 < a = subst TakenRefuses e (take_entry_refuses table ns) in omega arith

-- ---- the records of a string, of which `count` came before, and their bytes

pub data Records : ℕ → List (List ℕ) → List ℕ → Type 0 where
  ended : {count : ℕ} → count ≤ most32 → Records count [] (item_bytes (0 ∷ count ∷ []))
  recorded : {count : ℕ} {ns : List ℕ} {is : List (List ℕ)} {bs : List ℕ} → EntryFits kinds ns → is_end ns ≡ false → Records (suc count) is bs
      → Records count (ns ∷ is) (item_bytes ns ++ bs)

pub end_fits : (count : ℕ) → count ≤ most32 → EntryFits kinds (0 ∷ count ∷ [])
unfolding kinds row
end_fits count c = entry_fits {k = 0} (omega arith) refl (one_more c c no_more)

-- an entry that fits, with nothing behind it
pub entry_alone : (table : ℕ → Option (List ℕ)) (ns : List ℕ) → EntryFits table ns → entry table (item_bytes ns) ≡ whole ns []
entry_alone table ns f = rw append-nil at (entry_read table [] f)

pub records_read : {count : ℕ} {is : List (List ℕ)} {bs : List ℕ} → Records count is bs → records count bs ≡ reading is 0
unfolding ending nothing_behind
records_read (ended {count} c) =
    records_end count (item_bytes (0 ∷ count ∷ [])) (0 ∷ count ∷ []) [] (entry_alone kinds (0 ∷ count ∷ []) (end_fits count c)) refl ∙ rw (eq-eqb count count refl)
records_read (recorded {count} {ns} {is} {bs} f z r) =
    records_item count (item_bytes ns ++ bs) ns bs (entry_read kinds bs f) z ∙ ap (item_before ns) (records_read r)

pub records_written : {count : ℕ} {is : List (List ℕ)} {bs : List ℕ} → Records count is bs → write_records count (all_numbers is) ≡ writing bs 0
unfolding all_numbers write_end item_bytes nothing_behind
records_written (ended {count} c) = write_records_end count ∙ rw (le-leb count most32 c, append-nil)
records_written (recorded {count} {is = is} {bs = bs} (entry_fits {k} {ls} {ns} p q f) z r) =
    write_records_item count (k ∷ (ns ++ all_numbers is)) (item_bytes (k ∷ ns)) (all_numbers is) refl z (entry_taken kinds (all_numbers is) (entry_fits p q f))
    ∙ ap (written_before (item_bytes (k ∷ ns))) (records_written r)

-- ---- and back

-- the end of a string: its count is right, and nothing is behind it

nothing_well : (rest : List ℕ) → cond (nothing_behind rest) 0 bytes_after ≡ 0 → rest ≡ []
unfolding nothing_behind
nothing_well [] e = refl
nothing_well (b ∷ bs) e = absurd (omega arith)

ending_well : (count : ℕ) (ns rest : List ℕ) → ending count ns rest ≡ 0 → (get_or ns 1 0 ≡ count) × (rest ≡ [])
unfolding ending
ending_well count ns rest e = go (eqb (get_or ns 1 0) count) refl e
  where
    go : (s : Bool) → eqb (get_or ns 1 0) count ≡ s → cond s (cond (nothing_behind rest) 0 bytes_after) too_large ≡ 0 → (get_or ns 1 0 ≡ count) × (rest ≡ [])
    go true q e = (eqb-true (get_or ns 1 0) count q, nothing_well rest e)
    go false q e = absurd (omega arith)

one_number : (count : ℕ) (ns : List ℕ) → Fits (most32 ∷ []) ns → get_or ns 0 0 ≡ count → (ns ≡ count ∷ []) × (count ≤ most32)
one_number count ns (one_more {n = n} p q no_more) e = (ap (λ (v : ℕ). v ∷ []) e, omega arith)

end_numbers : (count : ℕ) (ns : List ℕ) → EntryFits kinds ns → is_end ns ≡ true → get_or ns 1 0 ≡ count → (ns ≡ 0 ∷ count ∷ []) × (count ≤ most32)
unfolding kinds row
end_numbers count ns (entry_fits {k} {ls} {ns = ms} p q f) z e =
    let y : k ≡ 0 = eqb-true k 0 z in
    let r : some (most32 ∷ []) ≡ some ls = subst (λ (v : ℕ). kinds v ≡ some ls) y q in
    let s : ls ≡ most32 ∷ [] = cc in
    let o = one_number count ms (subst (λ (v : List ℕ). Fits v ms) s f) e in
    ((cc o.0), o.1)

end_is : (count : ℕ) (bs ns rest : List ℕ) → ReadFrom (EntryFits kinds) bs ns rest → is_end ns ≡ true → ending count ns rest ≡ 0 → Records count [] bs
end_is count bs ns rest r z e =
    let (c, n) = ending_well count ns rest e in
    let (m, l) = end_numbers count ns r.fit z c in
    let b : bs ≡ item_bytes (0 ∷ count ∷ []) = r.bytes_are ∙ rw (m, n) (append-nil (item_bytes (0 ∷ count ∷ []))) in
    rw b (ended l)

pub read_records : (turns count : ℕ) (bs : List ℕ) (is : List (List ℕ)) → length bs < turns → AllBytes bs → records count bs ≡ reading is 0 → Records count is bs
read_records zero count bs is h all e = absurd (omega arith)
read_records (suc turns) count bs is h all e = go (entry kinds bs) refl (λ r js. read_records turns (suc count) r js)
  where
    go : (x : Item) → entry kinds bs ≡ x → ((r : List ℕ) (js : List (List ℕ)) → length r < turns → AllBytes r → records (suc count) r ≡ reading js 0 → Records (suc count) js r) → Records count is bs
    go (fault a) p ih = absurd (entry_fault_some kinds bs a p (ap (λ (x : Reading). x.answer) (sym (records_fault count bs a p) ∙ e)))
    go (whole ns rest) p ih = ends (is_end ns) refl
      where
        from : ReadFrom (EntryFits kinds) bs ns rest
        from = read_entry kinds bs ns rest all p

        ends : (s : Bool) → is_end ns ≡ s → Records count is bs
        ends true z =
            let d : reading [] (ending count ns rest) ≡ reading is 0 = sym (records_end count bs ns rest p z) ∙ e in
            rw (← ap (λ (x : Reading). x.items) d) (end_is count bs ns rest from z (ap (λ (x : Reading). x.answer) d))
        ends false z =
            let d : item_before ns (records (suc count) rest) ≡ reading is 0 = sym (records_item count bs ns rest p z) ∙ e in
            let a : (records (suc count) rest).answer ≡ 0 = ap (λ (x : Reading). x.answer) d in
            let l : length rest < length bs = (entry_behind kinds bs ns rest p).shorter in
            let i = ih rest (records (suc count) rest).items (omega arith) (bytes_after_first (item_bytes ns) rest (subst AllBytes from.bytes_are all)) (λ j. reading (records (suc count) rest).items (a j)) in
            rw (← ap (λ (x : Reading). x.items) d, from.bytes_are) (recorded from.fit z i)

-- what was written, and its records
pub record Wrote (count : ℕ) (ns bs : List ℕ) : Type 0 where
  pub items : List (List ℕ)
  pub are : Records count items bs
  pub numbers : all_numbers items ≡ ns

-- bytes before what was written to 0
before_well : (cs : List ℕ) (w : Writing) (bs : List ℕ) → written_before cs w ≡ writing bs 0 → (w ≡ writing w.bytes 0) × (cs ++ w.bytes ≡ bs)
before_well cs w bs e = go (eqb w.answer 0) refl e
  where
    go : (s : Bool) → eqb w.answer 0 ≡ s → cond s (writing (cs ++ w.bytes) 0) w ≡ writing bs 0 → (w ≡ writing w.bytes 0) × (cs ++ w.bytes ≡ bs)
    go true q e = (λ j. writing w.bytes (eqb-true w.answer 0 q j), ap (λ (x : Writing). x.bytes) e)
    go false q e = absurd (eqb-false w.answer 0 q (ap (λ (x : Writing). x.answer) e))

-- an end that was written
wrote_end : (count : ℕ) (bs : List ℕ) → write_end count ≡ writing bs 0 → Records count [] bs
unfolding write_end item_bytes
wrote_end count bs e = go (leb count most32) refl e
  where
    go : (s : Bool) → leb count most32 ≡ s → cond s (writing (number_bytes 0 ++ number_bytes count) 0) (writing [] too_large) ≡ writing bs 0 → Records count [] bs
    go true q e =
        let b : number_bytes 0 ++ number_bytes count ≡ bs = ap (λ (x : Writing). x.bytes) e in
        rw (← b) (rw append-nil at (ended {count = count} (leb-true count most32 q)))
    go false q e = absurd (omega (arith, ap (λ (x : Writing). x.answer) e))

bytes_same : (cs ds es bs : List ℕ) → cs ≡ ds → cs ++ es ≡ bs → ds ++ es ≡ bs
bytes_same cs ds es bs p q = ap (λ (v : List ℕ). v ++ es) (sym p) ∙ q

-- an entry's first number is its own
same_end : (rest : List ℕ) {ns : List ℕ} → EntryFits kinds ns → is_end (ns ++ rest) ≡ is_end ns
same_end rest (entry_fits p q f) = refl

pub wrote_records : (turns count : ℕ) (ns bs : List ℕ) → length ns < turns → write_records count ns ≡ writing bs 0 → Wrote count ns bs
unfolding nothing_behind all_numbers
wrote_records zero count ns bs h e = absurd (omega arith)
wrote_records (suc turns) count [] bs h e = record { items = []; are = wrote_end count bs (sym (write_records_end count) ∙ e); numbers = refl }
wrote_records (suc turns) count (n ∷ ns) bs h e = go (is_end (n ∷ ns)) (take_entry kinds (n ∷ ns)) refl refl (λ r ds. wrote_records turns (suc count) r ds)
  where
    go : (s : Bool) (x : Taken) → is_end (n ∷ ns) ≡ s → take_entry kinds (n ∷ ns) ≡ x
        → ((r ds : List ℕ) → length r < turns → write_records (suc count) r ≡ writing ds 0 → Wrote (suc count) r ds) → Wrote count (n ∷ ns) bs
    go true x z p ih = absurd (omega (arith, ap (λ (x : Writing). x.answer) (sym (write_records_zero count (n ∷ ns) refl z) ∙ e)))
    go false (turned_down a) z p ih = absurd (turned_down_some kinds (n ∷ ns) a p (ap (λ (x : Writing). x.answer) (sym (write_records_fault count (n ∷ ns) a refl z p) ∙ e)))
    go false (taken cs rest) z p ih =
        let t = taken_entry kinds kinds_bounded (n ∷ ns) cs rest p in
        let b = before_well cs (write_records (suc count) rest) bs (sym (write_records_item count (n ∷ ns) cs rest refl z p) ∙ e) in
        let l : length rest < length (n ∷ ns) = take_entry_left kinds (n ∷ ns) cs rest p in
        let i = ih rest (write_records (suc count) rest).bytes (omega arith) b.0 in
        record {
          items = t.numbers ∷ i.items;
          are = subst (Records count (t.numbers ∷ i.items)) (bytes_same cs (item_bytes t.numbers) (write_records (suc count) rest).bytes bs t.bytes_are b.1)
              (recorded t.fit (sym (same_end rest t.fit) ∙ ap is_end (sym t.numbers_are) ∙ z) i.are);
          numbers = ap (λ (v : List ℕ). t.numbers ++ v) i.numbers ∙ sym t.numbers_are;
        }

-- ---- whole strings

pub data String : List (List ℕ) → List ℕ → Type 0 where
  string : {ns : List ℕ} {is : List (List ℕ)} {bs : List ℕ} → EntryFits editions ns → Records 0 is bs → String (ns ∷ is) (item_bytes ns ++ bs)

pub read_whole : (bs ns rest : List ℕ) → entry editions bs ≡ whole ns rest → read bs ≡ item_before ns (records 0 rest)
unfolding read
read_whole bs ns rest e = rw (e, read)

pub read_fault : (bs : List ℕ) (a : ℕ) → entry editions bs ≡ fault a → read bs ≡ reading [] a
unfolding read
read_fault bs a e = rw (e, read)

pub write_whole : (ns bs rest : List ℕ) → take_entry editions ns ≡ taken bs rest → write ns ≡ written_before bs (write_records 0 rest)
unfolding write
write_whole ns bs rest e = rw (e, write)

pub write_fault : (ns : List ℕ) (a : ℕ) → take_entry editions ns ≡ turned_down a → write ns ≡ writing [] a
unfolding write
write_fault ns a e = rw (e, write)

pub string_read : {is : List (List ℕ)} {bs : List ℕ} → String is bs → read bs ≡ reading is 0
string_read (string {ns} {is} {bs} f r) = read_whole (item_bytes ns ++ bs) ns bs (entry_read editions bs f) ∙ ap (item_before ns) (records_read r)

pub string_written : {is : List (List ℕ)} {bs : List ℕ} → String is bs → write (all_numbers is) ≡ writing bs 0
unfolding all_numbers
string_written (string {ns} {is} {bs} f r) =
    write_whole (ns ++ all_numbers is) (item_bytes ns) (all_numbers is) (entry_taken editions (all_numbers is) f) ∙ ap (written_before (item_bytes ns)) (records_written r)

pub read_string : (bs : List ℕ) → AllBytes bs → (read bs).answer ≡ 0 → String (read bs).items bs
read_string bs all e = go (entry editions bs) refl
  where
    go : (x : Item) → entry editions bs ≡ x → String (read bs).items bs
    go (fault a) p = absurd (entry_fault_some editions bs a p (ap (λ (x : Reading). x.answer) (sym (read_fault bs a p)) ∙ e))
    go (whole ns rest) p =
        let from = read_entry editions bs ns rest all p in
        let d : read bs ≡ item_before ns (records 0 rest) = read_whole bs ns rest p in
        let a : (records 0 rest).answer ≡ 0 = ap (λ (x : Reading). x.answer) (sym d) ∙ e in
        let rest_bytes : AllBytes rest = bytes_after_first (item_bytes ns) rest (subst AllBytes from.bytes_are all) in
        let i = read_records (suc (length rest)) 0 rest (records 0 rest).items (omega arith) rest_bytes (λ j. reading (records 0 rest).items (a j)) in
        subst (λ (x : List (List ℕ)). String x bs) (ap (λ (x : Reading). x.items) (sym d))
        (subst (λ (x : List ℕ). String (ns ∷ (records 0 rest).items) x) (sym from.bytes_are) (string from.fit i))

-- what was written, and its items
pub record WroteString (ns bs : List ℕ) : Type 0 where
  pub items : List (List ℕ)
  pub are : String items bs
  pub numbers : all_numbers items ≡ ns

pub wrote_string : (ns bs : List ℕ) → write ns ≡ writing bs 0 → WroteString ns bs
unfolding all_numbers
wrote_string ns bs e = go (take_entry editions ns) refl
  where
    go : (x : Taken) → take_entry editions ns ≡ x → WroteString ns bs
    go (turned_down a) p = absurd (turned_down_some editions ns a p (ap (λ (x : Writing). x.answer) (sym (write_fault ns a p) ∙ e)))
    go (taken cs rest) p =
        let t = taken_entry editions editions_bounded ns cs rest p in
        let b = before_well cs (write_records 0 rest) bs (sym (write_whole ns cs rest p) ∙ e) in
        let i = wrote_records (suc (length rest)) 0 rest (write_records 0 rest).bytes (omega arith) b.0 in
        record {
          items = t.numbers ∷ i.items;
          are = subst (String (t.numbers ∷ i.items)) (bytes_same cs (item_bytes t.numbers) (write_records 0 rest).bytes bs t.bytes_are b.1) (string t.fit i.are);
          numbers = ap (λ (v : List ℕ). t.numbers ++ v) i.numbers ∙ sym t.numbers_are;
        }
