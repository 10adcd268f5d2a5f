-- A move prints the first of the lines that are still to be printed, read off all bytes, those to come too, and the others are still to be
-- printed behind it. By cases, in the order of `next`. Assumes nothing.
use Prim.Native.Nat.{ℕ, zero, suc, ◌-◌, ◌<◌}
use mathlib.Core.Bool.{Bool, true, false, cond, ◌&&◌, true≢false}
use mathlib.Core.List.{List, [], ◌∷◌, ◌++◌, append_assoc, append-nil}
use mathlib.Core.Logic.{◌≢◌}
use mathlib.Core.Option.{Option, none, some}
use mathlib.Core.Path.{◌≡◌, refl, sym, ◌∙◌, ap}
use native.Mathlib.Omega.{arith}
use borrow.Author.Tests.{eqb-true, eqb-false, eq-eqb, ne_eqb}
use lib.Dec.{ltb, eqb}
use lib.ListN.{get_or}
use Rattle.rules.specs.declared.kinds.Request.{Request}
use Rattle.rules.specs.Parts.{Box}
use Rattle.rules.specs.Collector.{step}
use Rattle.record.specs.Number.{cut, too_large, bytes_after}
use Rattle.record.specs.Fields.{Item, whole, fault, kinds, entry}
use Rattle.record.specs.Reading.{Reading, reading, item_before, is_end, nothing_behind, ending, records}
use Rattle.record.specs.Requests.{request_of}
use Rattle.record.proofs.Laws.{entry_more, entry_fault_more, records_fault, records_end, records_item}
use Rattle.pieces.specs.declared.place.Place.{Place}
use Rattle.pieces.specs.declared.place.Deed.TheVariants.{Step, Silent}
use Rattle.pieces.specs.Lines.{Played, line_before, play_steps, play_request, play_record, play_records, refusal_line}
use Rattle.pieces.specs.Pieces.{playing, at_end, at, one_more, Move, go, wait, may_come, refuse, finish, asked, counted, play_now, take_record, next_record, go_on, look_behind, next, carry_out, printed}
use Rattle.record.proofs.Refusals.{entry_fault_some}
use Rattle.pieces.proofs.Entries.{records_one_more}
use Rattle.pieces.proofs.Turns.{either}

-- ---- what is still to be printed

-- of records that are read so: what they print where they are played, and the refusal
unfoldable pub lines_behind : Bool → Reading → Box → List ℕ
lines_behind t r b = cond t (play_records r.items b) [] ++ refusal_line r.answer

-- behind the end
unfoldable pub end_lines : List ℕ → List ℕ
end_lines bs = cond (nothing_behind bs) [] (bytes_after ∷ [])

-- from a place behind the opening, with all bytes that there will be
unfoldable pub still : Place → Box → List ℕ → List ℕ
still p b bs =
    cond (ltb p.stage at_end) ((play_steps p.left b).lines ++ lines_behind (eqb p.stage playing) (records p.count bs) (play_steps p.left b).box) (cond (eqb p.stage at_end) (end_lines bs) [])

-- no bytes come behind the last
abbrev pub Ends : Bool → List ℕ → Type 0
Ends last more = last ≡ true → more ≡ []

pub ends_nil : (last : Bool) (bs more : List ℕ) → Ends last more → last ≡ true → bs ++ more ≡ bs
ends_nil last bs more f e = rw (f e, append-nil)

-- what a move prints, and what is then still to be printed
abbrev pub Follows : Bool → Place → Box → List ℕ → List ℕ → Move → Type 0
Follows last p b bs more (go d q rest) = still p b (bs ++ more) ≡ printed d (carry_out d b).answer ++ still q (carry_out d b).box (rest ++ more)
Follows last p b bs more wait = last ≡ true → still p b (bs ++ more) ≡ []

-- ---- what is read, and what it prints

no_records : (t : Bool) (a : ℕ) (b : Box) → lines_behind t (reading [] a) b ≡ refusal_line a
unfolding lines_behind play_records
no_records true a b = refl
no_records false a b = refl

pub a_refusal : (a : ℕ) → a ≢ 0 → refusal_line a ≡ a ∷ []
unfolding refusal_line
a_refusal a n = rw (ne_eqb a 0 n)

record_first : (ns : List ℕ) (r : Reading) (b : Box) → lines_behind true (item_before ns r) b ≡ (play_record ns b).lines ++ lines_behind true r (play_record ns b).box
unfolding lines_behind play_records
record_first ns r b = rw append_assoc

record_passed : (ns : List ℕ) (r : Reading) (b : Box) → lines_behind false (item_before ns r) b ≡ lines_behind false r b
unfolding lines_behind
record_passed ns r b = refl

-- the count is right, and what is behind the end is looked at
right_count : (n : ℕ) (ns rest : List ℕ) → eqb (get_or ns 1 0) n ≡ true → refusal_line (ending n ns rest) ≡ end_lines rest
unfolding ending refusal_line end_lines nothing_behind
right_count n ns [] e = rw e
right_count n ns (b ∷ rest) e = rw e

wrong_count : (n : ℕ) (ns rest : List ℕ) → eqb (get_or ns 1 0) n ≡ false → refusal_line (ending n ns rest) ≡ too_large ∷ []
unfolding ending refusal_line
wrong_count n ns rest e = rw e

-- a refusal that is printed stays the same with more bytes
pub fault_stays : (table : ℕ → Option (List ℕ)) (last : Bool) (bs more : List ℕ) (a : ℕ) → Ends last more → may_come last a ≡ false → entry table bs ≡ fault a → entry table (bs ++ more) ≡ fault a
unfolding may_come
fault_stays table true bs more a f m e = rw (ends_nil true bs more f refl) e
fault_stays table false bs more a f m e = entry_fault_more table bs more a e (λ c. true≢false (rw (eq-eqb a cut c) at m))

-- nothing comes behind the last bytes
pub none_may_come : (a : ℕ) → may_come true a ≡ false
unfolding may_come
none_may_come a = go (eqb a cut)
  where
    go : (t : Bool) → t && false ≡ false
    go true = refl
    go false = refl

-- ---- a request

asked_lines : (o : Option Request) (b : Box) → (play_request o b).lines ≡ printed (asked o) (carry_out (asked o) b).answer
unfolding play_request asked printed carry_out
asked_lines none b = refl
asked_lines (some q) b = refl

asked_box : (o : Option Request) (b : Box) → (play_request o b).box ≡ (carry_out (asked o) b).box
unfolding play_request asked carry_out
asked_box none b = refl
asked_box (some q) b = refl

-- ---- a single step

one_step : (n : ℕ) (b : Box) → n ≢ 0 → play_steps n b ≡ line_before (step b).answer (play_steps (n - 1) (step b).box)
unfolding play_steps
one_step zero b h = absurd (h refl)
one_step (suc n) b h = let e : suc n - 1 ≡ n = omega arith in rw e

-- ---- where records are read

module _ (last : Bool) (p : Place) (b : Box) (bs more : List ℕ) (early : ltb p.stage at_end ≡ true) where
  still_counted : (c : Box) (n l : ℕ) (rest : List ℕ) → still (at p.stage n l p.opened) c rest ≡ (play_steps l c).lines ++ lines_behind (eqb p.stage playing) (records n rest) (play_steps l c).box
  unfolding still
  still_counted c n l rest = rw early

  still_reads : (c : Box) (n l : ℕ) (rest : List ℕ) → l ≡ 0 → still (at p.stage n l p.opened) c rest ≡ lines_behind (eqb p.stage playing) (records n rest) c
  unfolding still play_steps
  still_reads c n l rest e = rw (early, e)

  step_follows : p.left ≢ 0 → Follows last p b bs more (go Step (at p.stage p.count (p.left - 1) p.opened) bs)
  unfolding printed carry_out
  step_follows h = still_counted b p.count p.left (bs ++ more) ∙ rw (one_step p.left b h) (sym (ap (◌∷◌ (step b).answer) (still_counted (step b).box p.count (p.left - 1) (bs ++ more))))

  module _ (none_left : p.left ≡ 0) where
    reads : (r : Reading) → records p.count (bs ++ more) ≡ r → still p b (bs ++ more) ≡ lines_behind (eqb p.stage playing) r b
    reads r e = still_reads b p.count p.left (bs ++ more) none_left ∙ ap (λ (x : Reading). lines_behind (eqb p.stage playing) x b) e

    refuse_follows : (a : ℕ) → Ends last more → entry kinds bs ≡ fault a → Follows last p b bs more (refuse last a p bs)
    unfolding refuse printed carry_out still
    refuse_follows a f e = either (Follows last p b bs more) (may_come last a) _ _ (λ m l. absurd (never m l)) (λ m. reads (reading [] a) (records_fault p.count (bs ++ more) a (fault_stays kinds last bs more a f m e)) ∙ no_records (eqb p.stage playing) a b ∙ a_refusal a (entry_fault_some kinds bs a e))
      where
        never : may_come last a ≡ true → last ≡ true → ⊥
        never m l = true≢false (cc (none_may_come a))

    module _ (ns rest : List ℕ) (e : entry kinds bs ≡ whole ns rest) where
      finish_follows : is_end ns ≡ true → Follows last p b bs more (finish p ns rest)
      unfolding finish printed carry_out still
      finish_follows z = either (Follows last p b bs more) (eqb (get_or ns 1 0) p.count) _ _ (λ t. refuses ∙ right_count p.count ns (rest ++ more) t) (λ t. refuses ∙ wrong_count p.count ns (rest ++ more) t)
        where
          a : ℕ
          a = ending p.count ns (rest ++ more)

          refuses : still p b (bs ++ more) ≡ refusal_line a
          refuses = reads (reading [] a) (records_end p.count (bs ++ more) ns (rest ++ more) (entry_more kinds bs more ns rest e) z) ∙ no_records (eqb p.stage playing) a b

      module _ (z : is_end ns ≡ false) where
        reads_on : still p b (bs ++ more) ≡ lines_behind (eqb p.stage playing) (item_before ns (records (one_more p.count) (rest ++ more))) b
        reads_on = reads (item_before ns (records (one_more p.count) (rest ++ more))) (records_item p.count (bs ++ more) ns (rest ++ more) (entry_more kinds bs more ns rest e) z ∙ ap (item_before ns) (records_one_more p.count (rest ++ more)))

        plays_on : eqb p.stage playing ≡ true → (x : Played) → play_record ns b ≡ x → still p b (bs ++ more) ≡ x.lines ++ lines_behind (eqb p.stage playing) (records (one_more p.count) (rest ++ more)) x.box
        plays_on s x g = reads_on ∙ rw s (rw (← g) (record_first ns (records (one_more p.count) (rest ++ more)) b))

        play_follows : eqb p.stage playing ≡ true → Follows last p b bs more (play_now p ns rest)
        unfolding play_now printed carry_out play_record
        play_follows s = either (Follows last p b bs more) (eqb (get_or ns 0 0) 11) _ _ (λ t. plays_on s (play_steps (get_or ns 1 0) b) (rw t) ∙ sym (still_counted b (one_more p.count) (get_or ns 1 0) (rest ++ more))) (λ t. asks (request_of (get_or ns 0 0) (get_or ns 1 0) (get_or ns 2 0) (get_or ns 3 0)) (rw t))
          where
            asks : (o : Option Request) → play_record ns b ≡ play_request o b → Follows last p b bs more (go (asked o) (counted p 0) rest)
            asks o g = plays_on s (play_request o b) g ∙ rw (asked_lines o b, asked_box o b) (ap (◌++◌ (printed (asked o) (carry_out (asked o) b).answer)) (sym (still_reads (carry_out (asked o) b).box (one_more p.count) 0 (rest ++ more) refl)))

        pass_follows : eqb p.stage playing ≡ false → Follows last p b bs more (go Silent (counted p 0) rest)
        unfolding printed carry_out
        pass_follows s = reads_on ∙ rw s (record_passed ns (records (one_more p.count) (rest ++ more)) b) ∙ sym (still_reads b (one_more p.count) 0 (rest ++ more) refl)

      take_follows : Follows last p b bs more (take_record p ns rest)
      unfolding take_record
      take_follows = either (Follows last p b bs more) (is_end ns) _ _ finish_follows (λ z. either (Follows last p b bs more) (eqb p.stage playing) _ _ (play_follows z) (pass_follows z))

    record_follows : Ends last more → Follows last p b bs more (next_record last p bs)
    unfolding next_record
    record_follows f = of (entry kinds bs) refl
      where
        of : (x : Item) → entry kinds bs ≡ x → Follows last p b bs more (next_record last p bs)
        of (whole ns rest) e = rw (e, next_record, Follows) (take_follows ns rest e)
        of (fault a) e = rw (e, next_record, Follows) (refuse_follows a f e)

  go_on_follows : Ends last more → Follows last p b bs more (go_on last p bs)
  unfolding go_on
  go_on_follows f = either (Follows last p b bs more) (eqb p.left 0) _ _ (λ e. record_follows (eqb-true p.left 0 e) f) (λ e. step_follows (eqb-false p.left 0 e))

-- ---- any move

behind_follows : (last : Bool) (p : Place) (b : Box) (bs more : List ℕ) → p.stage ≡ at_end → Ends last more → Follows last p b bs more (look_behind p bs)
unfolding look_behind nothing_behind printed carry_out still end_lines
behind_follows last p b [] more s f = λ l. rw (s, f l)
behind_follows last p b (a ∷ bs) more s f = rw s

pub next_follows : (last : Bool) (p : Place) (b : Box) (bs more : List ℕ) → Ends last more → Follows last p b bs more (next last p bs)
unfolding next still
next_follows last p b bs more f = either (Follows last p b bs more) (ltb p.stage at_end) _ _ (λ e. go_on_follows last p b bs more e f) (λ n. either (Follows last p b bs more) (eqb p.stage at_end) _ _ (λ e. behind_follows last p b bs more (eqb-true p.stage at_end e) f) (λ e l. nothing n e))
  where
    nothing : ltb p.stage at_end ≡ false → eqb p.stage at_end ≡ false → still p b (bs ++ more) ≡ []
    nothing n e = rw (n, e)

-- ---- no move leads back to the start

abbrev pub Begun : Move → Type 0
Begun (go d q rest) = 0 < q.stage
Begun wait = Unit {0}

take_begun : (p : Place) (ns rest : List ℕ) → 0 < p.stage → Begun (take_record p ns rest)
unfolding take_record finish play_now
take_begun p ns rest h = either Begun (is_end ns) _ _ (λ z. either Begun (eqb (get_or ns 1 0) p.count) _ _ (λ c. omega arith) (λ c. omega arith)) (λ z. either Begun (eqb p.stage playing) _ _ (λ s. either Begun (eqb (get_or ns 0 0) 11) _ _ (λ k. h) (λ k. h)) (λ s. h))

record_begun : (last : Bool) (p : Place) (bs : List ℕ) → 0 < p.stage → Begun (next_record last p bs)
unfolding next_record refuse
record_begun last p bs h = of (entry kinds bs) refl
  where
    of : (x : Item) → entry kinds bs ≡ x → Begun (next_record last p bs)
    of (whole ns rest) e = rw (e, next_record, Begun) (take_begun p ns rest h)
    of (fault a) e = rw (e, next_record, Begun) (either Begun (may_come last a) _ _ (λ m. tt) (λ m. omega arith))

pub next_begun : (last : Bool) (p : Place) (bs : List ℕ) → 0 < p.stage → Begun (next last p bs)
unfolding next go_on look_behind
next_begun last p bs h = either Begun (ltb p.stage at_end) _ _ (λ e. either Begun (eqb p.left 0) _ _ (λ l. record_begun last p bs h) (λ l. h)) (λ e. either Begun (eqb p.stage at_end) _ _ (λ a. either Begun (nothing_behind bs) _ _ (λ n. tt) (λ n. omega arith)) (λ a. tt))
