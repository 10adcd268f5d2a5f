-- Numbers and entries, there and back: what is written of a number, of fields and of an entry reads back, and what was read is what is written.
-- Each by induction on the groups or on the limits; `Fits` and `EntryFits` say what both sides agree on. Assumes nothing.
use Prim.Native.Nat.{ℕ, zero, suc, ◌+◌, ◌-◌, ◌*◌, ◌/◌, ◌%◌, ◌^◌, ◌≤◌, ◌<◌}
use mathlib.Core.Bool.{Bool, true, false, cond}
use mathlib.Core.List.{List, [], ◌∷◌, ◌++◌, append_assoc}
use mathlib.Core.Option.{Option, none, some}
use mathlib.Core.Path.{◌≡◌, refl, sym, ◌∙◌, ap, subst}
use native.Mathlib.Nat.{pow-succ'}
use native.Mathlib.Omega.{arith}
use lib.Dec.{leb, ltb, eqb}
use lib.ListN.{length}
use borrow.Author.Tests.{ltb-false, leb-true, eqb-true, lt-ltb, le-ltb, le-leb, ne_eqb}
use Rattle.record.specs.Number.{Number, found, refused, too_large, before, more_groups, number, groups, number_bytes}
use Rattle.record.specs.Fields.{whole, most16, most32, kind_table, row, kinds, editions, joined, within, field, fields, named, entry}
use Rattle.record.specs.Writing.{taken, turned_down, bytes_before, take_fields, take_named, take_entry}
use Rattle.record.specs.Claims.{AllBytes, item_bytes}
use Rattle.record.proofs.Laws.{Groups, fifth, last, next, Whole, alone, first, number_view, bytes_tail, number_bound, field_bound, field_number, fields_found, fields_refused, entry_found, entry_refused, joined_whole, fault_not_whole, turned_down_not_taken, bytes_before_taken}

-- ---- bytes of a list and of its end

pub bytes_after_first : (cs bs : List ℕ) → AllBytes (cs ++ bs) → AllBytes bs
bytes_after_first [] bs all = all
bytes_after_first (c ∷ cs) bs all = bytes_after_first cs bs (bytes_tail c (cs ++ bs) all)

-- ---- a number

-- the groups of a number, as the reader sees them
groups_read : (k n : ℕ) (rest : List ℕ) → 0 < n → n < 16 * 128 ^ k → more_groups k (groups k n ++ rest) ≡ found n rest
unfolding more_groups groups before
groups_read zero n rest p q = rw (ne_eqb n 0 (λ e. omega arith), le-leb n 15 (omega arith))
groups_read (suc k) n rest p q = go (ltb n 128) refl (groups_read k (n / 128) rest)
  where
    go : (s : Bool) → ltb n 128 ≡ s → (0 < n / 128 → n / 128 < 16 * 128 ^ k → more_groups k (groups k (n / 128) ++ rest) ≡ found (n / 128) rest)
        → more_groups (suc k) (cond s (n ∷ []) ((n % 128 + 128) ∷ groups k (n / 128)) ++ rest) ≡ found n rest
    go true e ih = rw (ne_eqb n 0 (λ e. omega arith), e)
    go false e ih =
        let l : 128 ≤ n = ltb-false n 128 e in
        let m : n % 128 + 128 - 128 + 128 * (n / 128) ≡ n = omega arith in
        rw (ne_eqb (n % 128 + 128) 0 (λ e. omega arith), le-ltb (n % 128 + 128) 128 (omega arith), ih (omega arith) (omega (arith, pow-succ' 128 k))) (ap (λ (v : ℕ). found v rest) m)

pub number_read : (n : ℕ) (rest : List ℕ) → n ≤ most32 → number (number_bytes n ++ rest) ≡ found n rest
unfolding number number_bytes groups before
number_read n rest p = go (ltb n 128) refl
  where
    go : (s : Bool) → ltb n 128 ≡ s → number (cond s (n ∷ []) ((n % 128 + 128) ∷ groups 3 (n / 128)) ++ rest) ≡ found n rest
    go true e = rw e
    go false e =
        let l : 128 ≤ n = ltb-false n 128 e in
        let m : n % 128 + 128 - 128 + 128 * (n / 128) ≡ n = omega arith in
        rw (le-ltb (n % 128 + 128) 128 (omega arith), groups_read 3 (n / 128) rest (omega arith) (omega arith)) (ap (λ (v : ℕ). found v rest) m)

-- and back: what was found is written with the bytes it was found in

groups_positive : {k n : ℕ} {bs rest : List ℕ} → Groups k bs n rest → 0 < n
groups_positive (fifth p q) = p
groups_positive (last p q) = p
groups_positive (next p g) = omega (arith, groups_positive g)

groups_next : (k b n : ℕ) → 128 ≤ b → b < 256 → 0 < n → groups (suc k) (b - 128 + 128 * n) ≡ b ∷ groups k n
unfolding groups
groups_next k b n p q r =
    let m : (b - 128 + 128 * n) % 128 + 128 ≡ b = omega arith in
    let d : (b - 128 + 128 * n) / 128 ≡ n = omega arith in
    rw (le-ltb (b - 128 + 128 * n) 128 (omega arith), m, d)

groups_written : {k n : ℕ} {bs rest : List ℕ} → AllBytes bs → Groups k bs n rest → bs ≡ groups k n ++ rest
unfolding groups
groups_written all (fifth p q) = refl
groups_written all (last {b = b} p q) = rw (lt-ltb b 128 q)
groups_written all (next {k} {b} {n} {bs} {rest} p g) =
    rw (groups_next k b n p (all 0 (omega arith)) (groups_positive g)) (ap (λ (r : List ℕ). b ∷ r) (groups_written (bytes_tail b bs all) g))

groups_one : (k b : ℕ) → b < 128 → groups (suc k) b ≡ b ∷ []
unfolding groups
groups_one k b p = rw (lt-ltb b 128 p)

pub number_written : (bs : List ℕ) → AllBytes bs → (n : ℕ) (rest : List ℕ) → number bs ≡ found n rest → bs ≡ number_bytes n ++ rest
unfolding number_bytes
number_written bs all n rest e = go all (number_view bs n rest e)
  where
    go : {cs r : List ℕ} {m : ℕ} → AllBytes cs → Whole cs m r → cs ≡ groups 4 m ++ r
    go all (alone {b} p) = rw (groups_one 3 b p)
    go all (first {b} {n} {bs} {rest} p g) = rw (groups_next 3 b n p (all 0 (omega arith)) (groups_positive g)) (ap (λ (r : List ℕ). b ∷ r) (groups_written (bytes_tail b bs all) g))

pub number_rest : (bs : List ℕ) → AllBytes bs → (n : ℕ) (rest : List ℕ) → number bs ≡ found n rest → AllBytes rest
number_rest bs all n rest e = bytes_after_first (number_bytes n) rest (subst AllBytes (number_written bs all n rest e) all)

-- ---- fields

-- numbers for limits, each within its limit and of 32 bits
pub data Fits : List ℕ → List ℕ → Type 0 where
  no_more : Fits [] []
  one_more : {l n : ℕ} {ls ns : List ℕ} → n ≤ l → n ≤ most32 → Fits ls ns → Fits (l ∷ ls) (n ∷ ns)

-- limits of 32 bits
abbrev pub Limits : List ℕ → Type 0
Limits [] = Unit
Limits (l ∷ ls) = (l ≤ most32) × Limits ls

field_read : (l n : ℕ) (rest : List ℕ) → n ≤ l → n ≤ most32 → field l (number_bytes n ++ rest) ≡ found n rest
unfolding field within
field_read l n rest p q = rw (number_read n rest q, le-leb n l p)

pub fields_read : (rest : List ℕ) {ls ns : List ℕ} → Fits ls ns → fields ls (item_bytes ns ++ rest) ≡ whole ns rest
unfolding fields item_bytes joined
fields_read rest no_more = refl
fields_read rest (one_more {l} {n} {ls} {ns} p q f) =
    rw (append_assoc (number_bytes n) (item_bytes ns) rest)
    (fields_found l ls (number_bytes n ++ (item_bytes ns ++ rest)) n (item_bytes ns ++ rest) (field_read l n (item_bytes ns ++ rest) p q) ∙ ap (joined n) (fields_read rest f))

pub fields_taken : (rest : List ℕ) {ls ns : List ℕ} → Fits ls ns → take_fields ls (ns ++ rest) ≡ taken (item_bytes ns) rest
unfolding take_fields item_bytes bytes_before
fields_taken rest no_more = refl
fields_taken rest (one_more {l} {n} {ls} {ns} p q f) = rw (le-leb n l p) (ap (bytes_before (number_bytes n)) (fields_taken rest f))

-- the numbers that were read fit, and are written with the bytes they were read from
pub record ReadFrom (F : List ℕ → Type 0) (bs ns rest : List ℕ) : Type 0 where
  pub fit : F ns
  pub bytes_are : bs ≡ item_bytes ns ++ rest

pub read_fields : (ls bs ns rest : List ℕ) → AllBytes bs → fields ls bs ≡ whole ns rest → ReadFrom (Fits ls) bs ns rest
unfolding fields item_bytes
read_fields [] bs ns rest all e =
    let f : [] ≡ ns = cc in
    let g : bs ≡ rest = cc in
    rw (← f, ← g) (record { fit = no_more; bytes_are = refl })
read_fields (l ∷ ls) bs ns rest all e = go (field l bs) refl (λ r ms. read_fields ls r ms rest)
  where
    go : (x : Number) → field l bs ≡ x → ((r ms : List ℕ) → AllBytes r → fields ls r ≡ whole ms rest → ReadFrom (Fits ls) r ms rest) → ReadFrom (Fits (l ∷ ls)) bs ns rest
    go (found n r) p ih =
        let (ms, x, w) = joined_whole n (fields ls r) ns rest (sym (fields_found l ls bs n r p) ∙ e) in
        let i = ih r ms (number_rest bs all n r (field_number l bs n r p)) x in
        subst (λ (v : List ℕ). ReadFrom (Fits (l ∷ ls)) bs v rest) w
        (record {
          fit = one_more (field_bound l bs n r p) (omega (arith, number_bound bs all n r (field_number l bs n r p))) i.fit;
          bytes_are = number_written bs all n r (field_number l bs n r p) ∙ ap (λ (v : List ℕ). number_bytes n ++ v) i.bytes_are ∙ sym (append_assoc (number_bytes n) (item_bytes ms) rest);
        })
    go (refused a) p ih = absurd (fault_not_whole (sym (fields_refused l ls bs a p) ∙ e))

-- the numbers that were taken, which fit, and what was behind them
pub record TakenFrom (F : List ℕ → Type 0) (ns bs rest : List ℕ) : Type 0 where
  pub numbers : List ℕ
  pub fit : F numbers
  pub numbers_are : ns ≡ numbers ++ rest
  pub bytes_are : bs ≡ item_bytes numbers

pub taken_fields : (ls ns bs rest : List ℕ) → Limits ls → take_fields ls ns ≡ taken bs rest → TakenFrom (Fits ls) ns bs rest
unfolding take_fields item_bytes
taken_fields [] ns bs rest lim e = record { numbers = []; fit = no_more; numbers_are = cc; bytes_are = cc }
taken_fields (l ∷ ls) [] bs rest lim e = absurd (turned_down_not_taken e)
taken_fields (l ∷ ls) (n ∷ ns) bs rest lim e = go (leb n l) refl (λ ds. taken_fields ls ns ds rest lim.1) e
  where
    go : (s : Bool) → leb n l ≡ s → ((ds : List ℕ) → take_fields ls ns ≡ taken ds rest → TakenFrom (Fits ls) ns ds rest)
        → cond s (bytes_before (number_bytes n) (take_fields ls ns)) (turned_down too_large) ≡ taken bs rest → TakenFrom (Fits (l ∷ ls)) (n ∷ ns) bs rest
    go true q ih e =
        let (ds, x, w) = bytes_before_taken (number_bytes n) (take_fields ls ns) bs rest e in
        let i = ih ds x in
        let b : n ≤ l = leb-true n l q in
        record {
          numbers = n ∷ i.numbers;
          fit = one_more b (omega (arith, lim.0)) i.fit;
          numbers_are = ap (λ (v : List ℕ). n ∷ v) i.numbers_are;
          bytes_are = sym w ∙ ap (λ (v : List ℕ). number_bytes n ++ v) i.bytes_are;
        }
    go false q ih e = absurd (turned_down_not_taken e)

-- ---- entries

-- a number that the table knows, of 32 bits, and its fields
pub data EntryFits (table : ℕ → Option (List ℕ)) : List ℕ → Type 0 where
  entry_fits : {k : ℕ} {ls ns : List ℕ} → k ≤ most32 → table k ≡ some ls → Fits ls ns → EntryFits table (k ∷ ns)

module _ (table : ℕ → Option (List ℕ)) where
  pub entry_read : (rest : List ℕ) {ns : List ℕ} → EntryFits table ns → entry table (item_bytes ns ++ rest) ≡ whole ns rest
  unfolding named item_bytes joined
  entry_read rest (entry_fits {k} {ls} {ns} p q f) =
      rw (append_assoc (number_bytes k) (item_bytes ns) rest)
      (entry_found table (number_bytes k ++ (item_bytes ns ++ rest)) k (item_bytes ns ++ rest) (number_read k (item_bytes ns ++ rest) p) ∙ rw q (ap (joined k) (fields_read rest f)))

  pub entry_taken : (rest : List ℕ) {ns : List ℕ} → EntryFits table ns → take_entry table (ns ++ rest) ≡ taken (item_bytes ns) rest
  unfolding take_entry take_named item_bytes bytes_before
  entry_taken rest (entry_fits {k} {ls} {ns} p q f) = rw q (ap (bytes_before (number_bytes k)) (fields_taken rest f))

  pub read_entry : (bs ns rest : List ℕ) → AllBytes bs → entry table bs ≡ whole ns rest → ReadFrom (EntryFits table) bs ns rest
  unfolding item_bytes named
  read_entry bs ns rest all e = go (number bs) refl
    where
      known : (k : ℕ) (r : List ℕ) → number bs ≡ found k r → (t : Option (List ℕ)) → table k ≡ t → named t k r ≡ whole ns rest → ReadFrom (EntryFits table) bs ns rest
      known k r p none q e = absurd (fault_not_whole e)
      known k r p (some ls) q e =
          let (ms, x, w) = joined_whole k (fields ls r) ns rest e in
          let i = read_fields ls r ms rest (number_rest bs all k r p) x in
          subst (λ (v : List ℕ). ReadFrom (EntryFits table) bs v rest) w
          (record {
            fit = entry_fits (omega (arith, number_bound bs all k r p)) q i.fit;
            bytes_are = number_written bs all k r p ∙ ap (λ (v : List ℕ). number_bytes k ++ v) i.bytes_are ∙ sym (append_assoc (number_bytes k) (item_bytes ms) rest);
          })

      go : (x : Number) → number bs ≡ x → ReadFrom (EntryFits table) bs ns rest
      go (found k r) p = known k r p (table k) refl (sym (entry_found table bs k r p) ∙ e)
      go (refused a) p = absurd (fault_not_whole (sym (entry_refused table bs a p) ∙ e))

  -- every number that the table knows is of 32 bits, and so are its limits
  abbrev pub Bounded : Type 0
  Bounded = (k : ℕ) (ls : List ℕ) → table k ≡ some ls → (k ≤ most32) × Limits ls

  pub taken_entry : Bounded → (ns bs rest : List ℕ) → take_entry table ns ≡ taken bs rest → TakenFrom (EntryFits table) ns bs rest
  unfolding take_entry take_named item_bytes
  taken_entry bounded [] bs rest e = absurd (turned_down_not_taken e)
  taken_entry bounded (k ∷ ns) bs rest e = go (table k) refl e
    where
      go : (t : Option (List ℕ)) → table k ≡ t → take_named t k ns ≡ taken bs rest → TakenFrom (EntryFits table) (k ∷ ns) bs rest
      go none q e = absurd (turned_down_not_taken e)
      go (some ls) q e =
          let (ds, x, w) = bytes_before_taken (number_bytes k) (take_fields ls ns) bs rest e in
          let i = taken_fields ls ns ds rest (bounded k ls q).1 x in
          record {
            numbers = k ∷ i.numbers;
            fit = entry_fits (bounded k ls q).0 q i.fit;
            numbers_are = ap (λ (v : List ℕ). k ∷ v) i.numbers_are;
            bytes_are = sym w ∙ ap (λ (v : List ℕ). number_bytes k ++ v) i.bytes_are;
          }

-- the two tables

abbrev Rows : List (List ℕ) → Type 0
Rows [] = Unit
Rows (r ∷ rs) = Limits r × Rows rs

none_not_some : {ls : List ℕ} → none ≡ some ls → ⊥
none_not_some e = let z : ◌≡◌ {A = ℕ} 0 1 = cc in omega arith

row_bounded : (k : ℕ) (rs : List (List ℕ)) (ls : List ℕ) → Rows rs → row k rs ≡ some ls → (k < length rs) × Limits ls
unfolding row
row_bounded k [] ls h e = absurd (none_not_some e)
row_bounded zero (r ∷ rs) ls h e = let f : r ≡ ls = cc in (omega arith, subst Limits f h.0)
row_bounded (suc k) (r ∷ rs) ls h e = let i = row_bounded k rs ls h.1 e in (omega (arith, i.0), i.1)

kind_rows : Rows kind_table
kind_rows = (omega arith, (omega arith, (omega arith, (omega arith, (omega arith, (omega arith, (omega arith, (omega arith, (omega arith, (omega arith, (omega arith, (omega arith, tt))))))))))))

pub kinds_bounded : Bounded kinds
unfolding kinds
kinds_bounded k ls e = let i = row_bounded k kind_table ls kind_rows e in (omega (arith, i.0), i.1)

edition_limits : Limits (most16 ∷ most16 ∷ [])
edition_limits = omega arith

pub editions_bounded : Bounded editions
unfolding editions
editions_bounded k ls e = go (eqb k 1) refl e
  where
    go : (s : Bool) → eqb k 1 ≡ s → cond s (some (most16 ∷ most16 ∷ [])) none ≡ some ls → (k ≤ most32) × Limits ls
    go true q e = let f : most16 ∷ most16 ∷ [] ≡ ls = cc in (omega (arith, eqb-true k 1 q), subst Limits f edition_limits)
    go false q e = absurd (none_not_some e)
