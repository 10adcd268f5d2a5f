-- The laws of reading and writing: what is read leaves a shorter end of the bytes, what was read or refused for another reason than the string's
-- end stays so with more bytes behind it, and a turn of the reader and of the writer. Each by induction on the groups, the limits or the turns.
-- Assumes nothing.
use Prim.Native.Nat.{ℕ, zero, suc, ◌+◌, ◌-◌, ◌*◌, ◌^◌, ◌≤◌, ◌<◌}
use mathlib.Core.Bool.{Bool, true, false, cond}
use mathlib.Core.List.{List, [], ◌∷◌, ◌++◌}
use mathlib.Core.Option.{Option, none, some}
use mathlib.Core.Path.{◌≡◌, refl, sym, ◌∙◌, ap, subst}
use native.Mathlib.Nat.{pow-succ', one-le-pow}
use native.Mathlib.Omega.{arith}
use lib.Dec.{leb, ltb, eqb}
use lib.ListN.{length, drop}
use lib.Seq.{drop-drop}
use borrow.Author.Tests.{ltb-true, ltb-false, leb-true, eqb-false}
use Rattle.record.specs.Number.{Number, found, refused, cut, long_form, unknown, too_large, before, more_groups, number, number_bytes}
use Rattle.record.specs.Fields.{Item, whole, fault, joined, within, field, fields, named, entry, kinds}
use Rattle.record.specs.Reading.{Reading, reading, item_before, is_end, nothing_behind, ending, records_in, records}
use Rattle.record.specs.Writing.{Taken, taken, turned_down, writing, written_before, write_end, bytes_before, take_fields, take_named, take_entry, write_in, write_records}
pub use Rattle.record.specs.Claims.{AllBytes}

-- ---- what is left is an end of the bytes

pub bytes_tail : (b : ℕ) (bs : List ℕ) → AllBytes (b ∷ bs) → AllBytes bs
bytes_tail b bs all i h = all (suc i) (omega arith)

pub record Behind (bs rest : List ℕ) : Type 0 where
  pub shorter : length rest < length bs
  pub is_drop : rest ≡ drop (length bs - length rest) bs

-- the same, where nothing may have been taken
pub record AtEnd (bs rest : List ℕ) : Type 0 where
  pub no_longer : length rest ≤ length bs
  pub is_drop : rest ≡ drop (length bs - length rest) bs

behind_first : (b : ℕ) (bs rest : List ℕ) → AtEnd bs rest → Behind (b ∷ bs) rest
behind_first b bs rest e =
    let l : length rest ≤ length bs = e.no_longer in
    let s : suc (length bs) - length rest ≡ suc (length bs - length rest) = omega arith in
    record { shorter = omega arith; is_drop = rw s e.is_drop }

pub at_end : (bs rest : List ℕ) → Behind bs rest → AtEnd bs rest
at_end bs rest h = record { no_longer = omega (arith, h.shorter); is_drop = h.is_drop }

pub at_end_all : (bs : List ℕ) → AtEnd bs bs
at_end_all bs = let s : length bs - length bs ≡ 0 = omega arith in record { no_longer = omega arith; is_drop = rw s }

pub behind_further : (bs mid rest : List ℕ) → Behind bs mid → AtEnd mid rest → Behind bs rest
behind_further bs mid rest h e = record { shorter = omega (arith, h.shorter, e.no_longer); is_drop = is }
  where
    s : length bs - length mid + (length mid - length rest) ≡ length bs - length rest
    s = omega (arith, h.shorter, e.no_longer)

    is : rest ≡ drop (length bs - length rest) bs
    is = e.is_drop ∙ ap (λ (l : List ℕ). drop (length mid - length rest) l) h.is_drop ∙ drop-drop (length mid - length rest) (length bs - length mid) bs ∙ ap (λ (n : ℕ). drop n bs) s

-- ---- a number that was found, group by group

pub refused_not_found : {a n : ℕ} {rest : List ℕ} → refused a ≡ found n rest → ⊥
refused_not_found e = let z : ◌≡◌ {A = ℕ} 0 1 = cc in omega arith

pub fault_not_whole : {a : ℕ} {ns rest : List ℕ} → fault a ≡ whole ns rest → ⊥
fault_not_whole e = let z : ◌≡◌ {A = ℕ} 0 1 = cc in omega arith

pub data Groups : ℕ → List ℕ → ℕ → List ℕ → Type 0 where
  fifth : {b : ℕ} {bs : List ℕ} → 0 < b → b ≤ 15 → Groups zero (b ∷ bs) b bs
  last : {k b : ℕ} {bs : List ℕ} → 0 < b → b < 128 → Groups (suc k) (b ∷ bs) b bs
  next : {k b n : ℕ} {bs rest : List ℕ} → 128 ≤ b → Groups k bs n rest → Groups (suc k) (b ∷ bs) (b - 128 + 128 * n) rest

-- a group that was found behind a test: it is the last
one_group : (P : ℕ → List ℕ → Type 0) (b n : ℕ) (bs rest : List ℕ) → found b bs ≡ found n rest → P b bs → P n rest
one_group P b n bs rest e p =
    let f : b ≡ n = cc in
    let g : bs ≡ rest = cc in
    rw (← f, ← g) p

before_found : (g n : ℕ) (rest : List ℕ) (x : Number) → before g x ≡ found n rest → (m : ℕ) × (x ≡ found m rest) × (g + 128 * m ≡ n)
unfolding before
before_found g n rest (found m r) e = (m, cc, cc)
before_found g n rest (refused a) e = absurd (refused_not_found e)

pub groups_view : (k : ℕ) (bs : List ℕ) (n : ℕ) (rest : List ℕ) → more_groups k bs ≡ found n rest → Groups k bs n rest
unfolding more_groups
groups_view k [] n rest e = absurd (refused_not_found e)
groups_view zero (b ∷ bs) n rest e = go (eqb b 0) (leb b 15) refl refl e
  where
    go : (z s : Bool) → eqb b 0 ≡ z → leb b 15 ≡ s → cond z (refused long_form) (cond s (found b bs) (refused long_form)) ≡ found n rest → Groups zero (b ∷ bs) n rest
    go true s p q e = absurd (refused_not_found e)
    go false true p q e = one_group (Groups zero (b ∷ bs)) b n bs rest e (fifth (omega (arith, eqb-false b 0 p)) (leb-true b 15 q))
    go false false p q e = absurd (refused_not_found e)
groups_view (suc k) (b ∷ bs) n rest e = go (eqb b 0) (ltb b 128) (λ m. groups_view k bs m rest) refl refl e
  where
    go : (z s : Bool) → ((m : ℕ) → more_groups k bs ≡ found m rest → Groups k bs m rest) → eqb b 0 ≡ z → ltb b 128 ≡ s
        → cond z (refused long_form) (cond s (found b bs) (before (b - 128) (more_groups k bs))) ≡ found n rest → Groups (suc k) (b ∷ bs) n rest
    go true s ih p q e = absurd (refused_not_found e)
    go false true ih p q e = one_group (Groups (suc k) (b ∷ bs)) b n bs rest e (last (omega (arith, eqb-false b 0 p)) (ltb-true b 128 q))
    go false false ih p q e =
        let (m, x, w) = before_found (b - 128) n rest (more_groups k bs) e in
        subst (λ (v : ℕ). Groups (suc k) (b ∷ bs) v rest) w (next (ltb-false b 128 q) (ih m x))

groups_end : {k n : ℕ} {bs rest : List ℕ} → Groups k bs n rest → Behind bs rest
groups_end (fifth {b} {bs} p q) = behind_first b bs bs (at_end_all bs)
groups_end (last {b = b} {bs = bs} p q) = behind_first b bs bs (at_end_all bs)
groups_end (next {b = b} {bs = bs} {rest = rest} p g) = behind_first b bs rest (at_end bs rest (groups_end g))

groups_below : {k n : ℕ} {bs rest : List ℕ} → AllBytes bs → Groups k bs n rest → n < 16 * 128 ^ k
groups_below all (fifth p q) = omega arith
groups_below all (last {k} p q) = omega (arith, pow-succ' 128 k, one-le-pow k 128 (omega arith))
groups_below all (next {k} {b} {n} {bs} p g) =
    let h : b < 256 = all 0 (omega arith) in
    omega (arith, pow-succ' 128 k, groups_below (bytes_tail b bs all) g)

pub groups_bound : (k : ℕ) (bs : List ℕ) → AllBytes bs → (n : ℕ) (rest : List ℕ) → more_groups k bs ≡ found n rest → n < 16 * 128 ^ k
groups_bound k bs all n rest e = groups_below all (groups_view k bs n rest e)

-- a whole number: one group below 128, which may be 0, or more
pub data Whole : List ℕ → ℕ → List ℕ → Type 0 where
  alone : {b : ℕ} {bs : List ℕ} → b < 128 → Whole (b ∷ bs) b bs
  first : {b n : ℕ} {bs rest : List ℕ} → 128 ≤ b → Groups 3 bs n rest → Whole (b ∷ bs) (b - 128 + 128 * n) rest

pub number_view : (bs : List ℕ) (n : ℕ) (rest : List ℕ) → number bs ≡ found n rest → Whole bs n rest
unfolding number
number_view [] n rest e = absurd (refused_not_found e)
number_view (b ∷ bs) n rest e = go (ltb b 128) refl e
  where
    go : (s : Bool) → ltb b 128 ≡ s → cond s (found b bs) (before (b - 128) (more_groups 3 bs)) ≡ found n rest → Whole (b ∷ bs) n rest
    go true q e = one_group (Whole (b ∷ bs)) b n bs rest e (alone (ltb-true b 128 q))
    go false q e =
        let (m, x, w) = before_found (b - 128) n rest (more_groups 3 bs) e in
        subst (λ (v : ℕ). Whole (b ∷ bs) v rest) w (first (ltb-false b 128 q) (groups_view 3 bs m rest x))

pub number_behind : (bs : List ℕ) (n : ℕ) (rest : List ℕ) → number bs ≡ found n rest → Behind bs rest
number_behind bs n rest e = go (number_view bs n rest e)
  where
    go : {cs : List ℕ} {m : ℕ} {r : List ℕ} → Whole cs m r → Behind cs r
    go (alone {b} {bs} p) = behind_first b bs bs (at_end_all bs)
    go (first {b} {n} {bs} {rest} p g) = behind_first b bs rest (at_end bs rest (groups_end g))

-- a number that was found has at most 32 bits
pub number_bound : (bs : List ℕ) → AllBytes bs → (n : ℕ) (rest : List ℕ) → number bs ≡ found n rest → n < 2 ^ 32
number_bound bs all n rest e = go bs n rest all (number_view bs n rest e)
  where
    go : (cs : List ℕ) (m : ℕ) (r : List ℕ) → AllBytes cs → Whole cs m r → m < 2 ^ 32
    go cs m r all (alone p) = omega arith
    go cs m r all (first {b} {n} {bs} p g) =
        let h : b < 256 = all 0 (omega arith) in
        omega (arith, groups_below (bytes_tail b bs all) g)

-- ---- fields and entries

within_found : (l : ℕ) (x : Number) (n : ℕ) (rest : List ℕ) → within l x ≡ found n rest → (x ≡ found n rest) × (n ≤ l)
unfolding within
within_found l (found m r) n rest e = go (leb m l) refl e
  where
    go : (s : Bool) → leb m l ≡ s → cond s (found m r) (refused too_large) ≡ found n rest → (found m r ≡ found n rest) × (n ≤ l)
    go true q e = let f : m ≡ n = cc in (e, omega (arith, leb-true m l q))
    go false q e = absurd (refused_not_found e)
within_found l (refused a) n rest e = absurd (refused_not_found e)

pub field_number : (l : ℕ) (bs : List ℕ) (n : ℕ) (rest : List ℕ) → field l bs ≡ found n rest → number bs ≡ found n rest
unfolding field
field_number l bs n rest e = (within_found l (number bs) n rest e).0

pub field_behind : (l : ℕ) (bs : List ℕ) (n : ℕ) (rest : List ℕ) → field l bs ≡ found n rest → Behind bs rest
field_behind l bs n rest e = number_behind bs n rest (field_number l bs n rest e)

pub field_bound : (l : ℕ) (bs : List ℕ) (n : ℕ) (rest : List ℕ) → field l bs ≡ found n rest → n ≤ l
unfolding field
field_bound l bs n rest e = (within_found l (number bs) n rest e).1

-- what is joined was whole
pub joined_whole : (n : ℕ) (x : Item) (ns rest : List ℕ) → joined n x ≡ whole ns rest → (ms : List ℕ) × (x ≡ whole ms rest) × (n ∷ ms ≡ ns)
unfolding joined
joined_whole n (whole ms r) ns rest e = (ms, cc, cc)
joined_whole n (fault a) ns rest e = absurd (fault_not_whole e)

pub fields_found : (l : ℕ) (ls bs : List ℕ) (n : ℕ) (rest : List ℕ) → field l bs ≡ found n rest → fields (l ∷ ls) bs ≡ joined n (fields ls rest)
unfolding fields
fields_found l ls bs n rest e = rw (e, fields)

pub fields_refused : (l : ℕ) (ls bs : List ℕ) (a : ℕ) → field l bs ≡ refused a → fields (l ∷ ls) bs ≡ fault a
unfolding fields
fields_refused l ls bs a e = rw (e, fields)

pub fields_end : (ls bs ns rest : List ℕ) → fields ls bs ≡ whole ns rest → AtEnd bs rest
unfolding fields
fields_end [] bs ns rest e = let f : bs ≡ rest = cc in subst (λ (r : List ℕ). AtEnd bs r) f (at_end_all bs)
fields_end (l ∷ ls) bs ns rest e = go (field l bs) refl (λ r ms. fields_end ls r ms rest)
  where
    go : (x : Number) → field l bs ≡ x → ((r ms : List ℕ) → fields ls r ≡ whole ms rest → AtEnd r rest) → AtEnd bs rest
    go (found n r) p ih =
        let (ms, x, w) = joined_whole n (fields ls r) ns rest (sym (fields_found l ls bs n r p) ∙ e) in
        at_end bs rest (behind_further bs r rest (field_behind l bs n r p) (ih r ms x))
    go (refused a) p ih = absurd (fault_not_whole (sym (fields_refused l ls bs a p) ∙ e))

pub entry_found : (table : ℕ → Option (List ℕ)) (bs : List ℕ) (k : ℕ) (rest : List ℕ) → number bs ≡ found k rest → entry table bs ≡ named (table k) k rest
unfolding entry
entry_found table bs k rest e = rw (e, entry)

pub entry_refused : (table : ℕ → Option (List ℕ)) (bs : List ℕ) (a : ℕ) → number bs ≡ refused a → entry table bs ≡ fault a
unfolding entry
entry_refused table bs a e = rw (e, entry)

named_end : (t : Option (List ℕ)) (k : ℕ) (bs ns rest : List ℕ) → named t k bs ≡ whole ns rest → AtEnd bs rest
unfolding named
named_end none k bs ns rest e = absurd (fault_not_whole e)
named_end (some ls) k bs ns rest e =
    let (ms, x, w) = joined_whole k (fields ls bs) ns rest e in
    fields_end ls bs ms rest x

pub entry_behind : (table : ℕ → Option (List ℕ)) (bs ns rest : List ℕ) → entry table bs ≡ whole ns rest → Behind bs rest
entry_behind table bs ns rest e = go (number bs) refl
  where
    go : (x : Number) → number bs ≡ x → Behind bs rest
    go (found k r) p = behind_further bs r rest (number_behind bs k r p) (named_end (table k) k r ns rest (sym (entry_found table bs k r p) ∙ e))
    go (refused a) p = absurd (fault_not_whole (sym (entry_refused table bs a p) ∙ e))

-- ---- a turn of the reader

turn_fault : (turns count : ℕ) (bs : List ℕ) (a : ℕ) → entry kinds bs ≡ fault a → records_in (suc turns) count bs ≡ reading [] a
unfolding records_in
turn_fault turns count bs a e = rw (e, records_in)

turn_whole : (turns count : ℕ) (bs ns rest : List ℕ) → entry kinds bs ≡ whole ns rest
    → records_in (suc turns) count bs ≡ cond (is_end ns) (reading [] (ending count ns rest)) (item_before ns (records_in turns (suc count) rest))
unfolding records_in
turn_whole turns count bs ns rest e = rw (e, records_in)

-- without bytes nothing is read
pub no_entry : (table : ℕ → Option (List ℕ)) → entry table [] ≡ fault cut
unfolding number
no_entry table = entry_refused table [] cut refl

-- as many turns as bytes are enough
records_turns : (t u count : ℕ) (bs : List ℕ) → length bs ≤ t → length bs ≤ u → records_in t count bs ≡ records_in u count bs
unfolding records_in
records_turns zero zero count bs p q = refl
records_turns zero (suc u) count [] p q = sym (turn_fault u count [] cut (no_entry kinds))
records_turns zero (suc u) count (b ∷ bs) p q = absurd (omega arith)
records_turns (suc t) zero count [] p q = turn_fault t count [] cut (no_entry kinds)
records_turns (suc t) zero count (b ∷ bs) p q = absurd (omega arith)
records_turns (suc t) (suc u) count bs p q = go (entry kinds bs) refl (λ r. records_turns t u (suc count) r)
  where
    go : (x : Item) → entry kinds bs ≡ x → ((r : List ℕ) → length r ≤ t → length r ≤ u → records_in t (suc count) r ≡ records_in u (suc count) r)
        → records_in (suc t) count bs ≡ records_in (suc u) count bs
    go (whole ns rest) e ih =
        let s : length rest < length bs = (entry_behind kinds bs ns rest e).shorter in
        turn_whole t count bs ns rest e
        ∙ ap (λ (r : Reading). cond (is_end ns) (reading [] (ending count ns rest)) (item_before ns r)) (ih rest (omega arith) (omega arith))
        ∙ sym (turn_whole u count bs ns rest e)
    go (fault a) e ih = turn_fault t count bs a e ∙ sym (turn_fault u count bs a e)

records_turn : (count : ℕ) (bs : List ℕ) → records count bs ≡ records_in (suc (length bs)) count bs
unfolding records
records_turn count bs = records_turns (length bs) (suc (length bs)) count bs (omega arith) (omega arith)

pub records_fault : (count : ℕ) (bs : List ℕ) (a : ℕ) → entry kinds bs ≡ fault a → records count bs ≡ reading [] a
records_fault count bs a e = records_turn count bs ∙ turn_fault (length bs) count bs a e

pub records_end : (count : ℕ) (bs ns rest : List ℕ) → entry kinds bs ≡ whole ns rest → is_end ns ≡ true → records count bs ≡ reading [] (ending count ns rest)
records_end count bs ns rest e z = records_turn count bs ∙ turn_whole (length bs) count bs ns rest e ∙ rw z

pub records_item : (count : ℕ) (bs ns rest : List ℕ) → entry kinds bs ≡ whole ns rest → is_end ns ≡ false → records count bs ≡ item_before ns (records (suc count) rest)
unfolding records
records_item count bs ns rest e z =
    let s : length rest < length bs = (entry_behind kinds bs ns rest e).shorter in
    records_turn count bs ∙ turn_whole (length bs) count bs ns rest e ∙ rw z (ap (item_before ns) (records_turns (length bs) (length rest) (suc count) rest (omega arith) (omega arith)))

-- ---- more bytes behind: what was found stays found, and what was refused stays refused, where the string did not end too soon

abbrev pub number_and : List ℕ → Number → Number
number_and more (found n rest) = found n (rest ++ more)
number_and more (refused a) = refused a

abbrev pub item_and : List ℕ → Item → Item
item_and more (whole ns rest) = whole ns (rest ++ more)
item_and more (fault a) = fault a

before_and : (g : ℕ) (more : List ℕ) (x : Number) → before g (number_and more x) ≡ number_and more (before g x)
unfolding before
before_and g more (found n rest) = refl
before_and g more (refused a) = refl

before_cut : (g : ℕ) (x : Number) → x ≡ refused cut → before g x ≡ refused cut
unfolding before
before_cut g x e = ap (before g) e

groups_and : (k : ℕ) (bs more : List ℕ) → (more_groups k bs ≡ refused cut → ⊥) → more_groups k (bs ++ more) ≡ number_and more (more_groups k bs)
unfolding more_groups
groups_and k [] more f = absurd (f refl)
groups_and zero (b ∷ bs) more f = go (eqb b 0) (leb b 15)
  where
    go : (z s : Bool)
        → cond z (refused long_form) (cond s (found b (bs ++ more)) (refused long_form)) ≡ number_and more (cond z (refused long_form) (cond s (found b bs) (refused long_form)))
    go true s = refl
    go false true = refl
    go false false = refl
groups_and (suc k) (b ∷ bs) more f = go (eqb b 0) (ltb b 128) (groups_and k bs more) f
  where
    rest_of : List ℕ → Number
    rest_of cs = before (b - 128) (more_groups k cs)

    go : (z s : Bool) → ((more_groups k bs ≡ refused cut → ⊥) → more_groups k (bs ++ more) ≡ number_and more (more_groups k bs))
        → (cond z (refused long_form) (cond s (found b bs) (rest_of bs)) ≡ refused cut → ⊥)
        → cond z (refused long_form) (cond s (found b (bs ++ more)) (rest_of (bs ++ more))) ≡ number_and more (cond z (refused long_form) (cond s (found b bs) (rest_of bs)))
    go true s ih f = refl
    go false true ih f = refl
    go false false ih f = ap (before (b - 128)) (ih (λ e. f (before_cut (b - 128) (more_groups k bs) e))) ∙ before_and (b - 128) more (more_groups k bs)

pub number_all_more : (bs more : List ℕ) → (number bs ≡ refused cut → ⊥) → number (bs ++ more) ≡ number_and more (number bs)
unfolding number
number_all_more [] more f = absurd (f refl)
number_all_more (b ∷ bs) more f = go (ltb b 128) f
  where
    rest_of : List ℕ → Number
    rest_of cs = before (b - 128) (more_groups 3 cs)

    go : (s : Bool) → (cond s (found b bs) (rest_of bs) ≡ refused cut → ⊥) → cond s (found b (bs ++ more)) (rest_of (bs ++ more)) ≡ number_and more (cond s (found b bs) (rest_of bs))
    go true f = refl
    go false f = ap (before (b - 128)) (groups_and 3 bs more (λ e. f (before_cut (b - 128) (more_groups 3 bs) e))) ∙ before_and (b - 128) more (more_groups 3 bs)

-- another answer than the end of the string is no end of the string
found_not_cut : (x : Number) (n : ℕ) (rest : List ℕ) → x ≡ found n rest → x ≡ refused cut → ⊥
found_not_cut x n rest e g = refused_not_found (sym g ∙ e)

pub number_more : (bs more : List ℕ) (n : ℕ) (rest : List ℕ) → number bs ≡ found n rest → number (bs ++ more) ≡ found n (rest ++ more)
number_more bs more n rest e = number_all_more bs more (found_not_cut (number bs) n rest e) ∙ ap (number_and more) e

-- the same of fields

within_and : (l : ℕ) (more : List ℕ) (x : Number) → within l (number_and more x) ≡ number_and more (within l x)
unfolding within
within_and l more (found n rest) = go (leb n l)
  where
    go : (s : Bool) → cond s (found n (rest ++ more)) (refused too_large) ≡ number_and more (cond s (found n rest) (refused too_large))
    go true = refl
    go false = refl
within_and l more (refused a) = refl

field_all_more : (l : ℕ) (bs more : List ℕ) → (field l bs ≡ refused cut → ⊥) → field l (bs ++ more) ≡ number_and more (field l bs)
unfolding field within
field_all_more l bs more f = ap (within l) (number_all_more bs more (λ e. f (ap (within l) e))) ∙ within_and l more (number bs)

joined_and : (n : ℕ) (more : List ℕ) (x : Item) → joined n (item_and more x) ≡ item_and more (joined n x)
unfolding joined
joined_and n more (whole ns rest) = refl
joined_and n more (fault a) = refl

fields_all_more : (ls bs more : List ℕ) → (fields ls bs ≡ fault cut → ⊥) → fields ls (bs ++ more) ≡ item_and more (fields ls bs)
unfolding fields joined
fields_all_more [] bs more f = refl
fields_all_more (l ∷ ls) bs more f = go (field l bs) refl (λ r. fields_all_more ls r more)
  where
    go : (x : Number) → field l bs ≡ x → ((r : List ℕ) → (fields ls r ≡ fault cut → ⊥) → fields ls (r ++ more) ≡ item_and more (fields ls r))
        → fields (l ∷ ls) (bs ++ more) ≡ item_and more (fields (l ∷ ls) bs)
    go (found n r) e ih =
        fields_found l ls (bs ++ more) n (r ++ more) (field_all_more l bs more (found_not_cut (field l bs) n r e) ∙ ap (number_and more) e)
        ∙ ap (joined n) (ih r (λ g. f (fields_found l ls bs n r e ∙ ap (joined n) g)))
        ∙ joined_and n more (fields ls r)
        ∙ ap (item_and more) (sym (fields_found l ls bs n r e))
    go (refused a) e ih =
        fields_refused l ls (bs ++ more) a (field_all_more l bs more (λ g. f (fields_refused l ls bs cut g)) ∙ ap (number_and more) e)
        ∙ ap (item_and more) (sym (fields_refused l ls bs a e))

named_all_more : (t : Option (List ℕ)) (k : ℕ) (bs more : List ℕ) → (named t k bs ≡ fault cut → ⊥) → named t k (bs ++ more) ≡ item_and more (named t k bs)
unfolding named joined
named_all_more none k bs more f = refl
named_all_more (some ls) k bs more f = ap (joined k) (fields_all_more ls bs more (λ e. f (ap (joined k) e))) ∙ joined_and k more (fields ls bs)

pub entry_all_more : (table : ℕ → Option (List ℕ)) (bs more : List ℕ) → (entry table bs ≡ fault cut → ⊥) → entry table (bs ++ more) ≡ item_and more (entry table bs)
entry_all_more table bs more f = go (number bs) refl
  where
    go : (x : Number) → number bs ≡ x → entry table (bs ++ more) ≡ item_and more (entry table bs)
    go (found k r) e =
        entry_found table (bs ++ more) k (r ++ more) (number_more bs more k r e)
        ∙ named_all_more (table k) k r more (λ g. f (entry_found table bs k r e ∙ g))
        ∙ ap (item_and more) (sym (entry_found table bs k r e))
    go (refused a) e =
        entry_refused table (bs ++ more) a (number_all_more bs more (λ g. f (entry_refused table bs cut g)) ∙ ap (number_and more) e)
        ∙ ap (item_and more) (sym (entry_refused table bs a e))

pub entry_more : (table : ℕ → Option (List ℕ)) (bs more ns rest : List ℕ) → entry table bs ≡ whole ns rest → entry table (bs ++ more) ≡ whole ns (rest ++ more)
entry_more table bs more ns rest e = entry_all_more table bs more (λ g. fault_not_whole (sym g ∙ e)) ∙ ap (item_and more) e

other_fault : (x : Item) (a : ℕ) → x ≡ fault a → (a ≡ cut → ⊥) → x ≡ fault cut → ⊥
other_fault x a e f g = f (cc)

pub entry_fault_more : (table : ℕ → Option (List ℕ)) (bs more : List ℕ) (a : ℕ) → entry table bs ≡ fault a → (a ≡ cut → ⊥) → entry table (bs ++ more) ≡ fault a
entry_fault_more table bs more a e f = entry_all_more table bs more (other_fault (entry table bs) a e f) ∙ ap (item_and more) e

-- ---- a turn of the writer

-- what is taken leaves fewer numbers

pub turned_down_not_taken : {a : ℕ} {bs ns : List ℕ} → turned_down a ≡ taken bs ns → ⊥
turned_down_not_taken e = let z : ◌≡◌ {A = ℕ} 0 1 = cc in omega arith

pub bytes_before_taken : (bs : List ℕ) (x : Taken) (cs rest : List ℕ) → bytes_before bs x ≡ taken cs rest → (ds : List ℕ) × (x ≡ taken ds rest) × (bs ++ ds ≡ cs)
unfolding bytes_before
bytes_before_taken bs (taken ds r) cs rest e = (ds, cc, cc)
bytes_before_taken bs (turned_down a) cs rest e = absurd (turned_down_not_taken e)

take_fields_left : (ls ns bs rest : List ℕ) → take_fields ls ns ≡ taken bs rest → length rest ≤ length ns
unfolding take_fields
take_fields_left [] ns bs rest e = let f : ns ≡ rest = cc in omega (arith, ap length f)
take_fields_left (l ∷ ls) [] bs rest e = absurd (turned_down_not_taken e)
take_fields_left (l ∷ ls) (n ∷ ns) bs rest e = go (leb n l) (λ ds. take_fields_left ls ns ds rest) e
  where
    go : (s : Bool) → ((ds : List ℕ) → take_fields ls ns ≡ taken ds rest → length rest ≤ length ns)
        → cond s (bytes_before (number_bytes n) (take_fields ls ns)) (turned_down too_large) ≡ taken bs rest → length rest ≤ suc (length ns)
    go true ih e =
        let (ds, x, w) = bytes_before_taken (number_bytes n) (take_fields ls ns) bs rest e in
        omega (arith, ih ds x)
    go false ih e = absurd (turned_down_not_taken e)

take_named_left : (t : Option (List ℕ)) (k : ℕ) (ns bs rest : List ℕ) → take_named t k ns ≡ taken bs rest → length rest ≤ length ns
unfolding take_named
take_named_left none k ns bs rest e = absurd (turned_down_not_taken e)
take_named_left (some ls) k ns bs rest e =
    let (ds, x, w) = bytes_before_taken (number_bytes k) (take_fields ls ns) bs rest e in
    take_fields_left ls ns ds rest x

pub take_entry_left : (table : ℕ → Option (List ℕ)) (ns bs rest : List ℕ) → take_entry table ns ≡ taken bs rest → length rest < length ns
unfolding take_entry
take_entry_left table [] bs rest e = absurd (turned_down_not_taken e)
take_entry_left table (k ∷ ns) bs rest e = omega (arith, take_named_left (table k) k ns bs rest e)

-- what a turn makes of an entry
writer_fault : (turns count : ℕ) (ns : List ℕ) (a : ℕ) → nothing_behind ns ≡ false → is_end ns ≡ false → take_entry kinds ns ≡ turned_down a → write_in (suc turns) count ns ≡ writing [] a
unfolding write_in
writer_fault turns count ns a b z e = rw (b, z, e, write_in)

writer_item : (turns count : ℕ) (ns bs rest : List ℕ) → nothing_behind ns ≡ false → is_end ns ≡ false → take_entry kinds ns ≡ taken bs rest
    → write_in (suc turns) count ns ≡ written_before bs (write_in turns (suc count) rest)
unfolding write_in
writer_item turns count ns bs rest b z e = rw (b, z, e, write_in)

writer_end : (turns count : ℕ) (ns : List ℕ) → nothing_behind ns ≡ true → write_in (suc turns) count ns ≡ write_end count
unfolding write_in
writer_end turns count ns b = rw (b, write_in)

writer_zero : (turns count : ℕ) (ns : List ℕ) → nothing_behind ns ≡ false → is_end ns ≡ true → write_in (suc turns) count ns ≡ writing [] unknown
unfolding write_in
writer_zero turns count ns b z = rw (b, z, write_in)

-- as many turns as numbers are enough
write_turns : (t u count : ℕ) (ns : List ℕ) → length ns ≤ t → length ns ≤ u → write_in t count ns ≡ write_in u count ns
unfolding write_in nothing_behind
write_turns zero zero count ns p q = refl
write_turns zero (suc u) count [] p q = refl
write_turns zero (suc u) count (n ∷ ns) p q = absurd (omega arith)
write_turns (suc t) zero count [] p q = refl
write_turns (suc t) zero count (n ∷ ns) p q = absurd (omega arith)
write_turns (suc t) (suc u) count ns p q = go (nothing_behind ns) (is_end ns) (take_entry kinds ns) refl refl refl (λ r. write_turns t u (suc count) r)
  where
    go : (b z : Bool) (x : Taken) → nothing_behind ns ≡ b → is_end ns ≡ z → take_entry kinds ns ≡ x
        → ((r : List ℕ) → length r ≤ t → length r ≤ u → write_in t (suc count) r ≡ write_in u (suc count) r) → write_in (suc t) count ns ≡ write_in (suc u) count ns
    go true z x b e f ih = writer_end t count ns b ∙ sym (writer_end u count ns b)
    go false true x b e f ih = writer_zero t count ns b e ∙ sym (writer_zero u count ns b e)
    go false false (taken bs rest) b e f ih =
        let s : length rest < length ns = take_entry_left kinds ns bs rest f in
        writer_item t count ns bs rest b e f ∙ ap (written_before bs) (ih rest (omega arith) (omega arith)) ∙ sym (writer_item u count ns bs rest b e f)
    go false false (turned_down a) b e f ih = writer_fault t count ns a b e f ∙ sym (writer_fault u count ns a b e f)

write_turn : (count : ℕ) (ns : List ℕ) → write_records count ns ≡ write_in (suc (length ns)) count ns
unfolding write_records
write_turn count ns = write_turns (length ns) (suc (length ns)) count ns (omega arith) (omega arith)

pub write_records_end : (count : ℕ) → write_records count [] ≡ write_end count
unfolding nothing_behind
write_records_end count = write_turn count [] ∙ writer_end 0 count [] refl

pub write_records_zero : (count : ℕ) (ns : List ℕ) → nothing_behind ns ≡ false → is_end ns ≡ true → write_records count ns ≡ writing [] unknown
write_records_zero count ns b z = write_turn count ns ∙ writer_zero (length ns) count ns b z

pub write_records_fault : (count : ℕ) (ns : List ℕ) (a : ℕ) → nothing_behind ns ≡ false → is_end ns ≡ false → take_entry kinds ns ≡ turned_down a → write_records count ns ≡ writing [] a
write_records_fault count ns a b z e = write_turn count ns ∙ writer_fault (length ns) count ns a b z e

pub write_records_item : (count : ℕ) (ns bs rest : List ℕ) → nothing_behind ns ≡ false → is_end ns ≡ false → take_entry kinds ns ≡ taken bs rest
    → write_records count ns ≡ written_before bs (write_records (suc count) rest)
unfolding write_records
write_records_item count ns bs rest b z e =
    let s : length rest < length ns = take_entry_left kinds ns bs rest e in
    write_turn count ns ∙ writer_item (length ns) count ns bs rest b z e ∙ ap (written_before bs) (write_turns (length ns) (length rest) (suc count) rest (omega arith) (omega arith))
