-- The hold is no part of the relation: a request put on hold, a hold dropped and a hold granted keep it. And whatever request
-- is done on the history machine, it has as many registers as before. Assumes nothing.
use Prim.Native.Nat.{ℕ, suc, ◌+◌, ◌<◌}
use mathlib.Core.Bool.{Bool, true, false, cond}
use mathlib.Core.List.{List, [], ◌∷◌, ◌++◌}
use mathlib.Core.Option.{Option, none, some}
use mathlib.Core.Path.{◌≡◌, refl}
use lib.Dec.{ltb}
use lib.ListN.{length, length-set, length-replicate}
use Rattle.rules.specs.declared.kinds.Request.{Request}
use Rattle.rules.specs.declared.kinds.Request.TheVariants.{Setd, Nil, Move, Advance, Getm, Load, Store, Size, Tag, Same}
use Rattle.rules.specs.Limits.{register_count}
use Rattle.rules.specs.Parts.{Box}
use Rattle.rules.specs.Request.{put_on_hold}
use Rattle.rules.specs.Collector.{unheld}
use Rattle.history.specs.Machine.{HWord, datum, pointer_to, Asked, History, fresh, register_of, size_at, word_of, made, with_hold, put_in, make, advance_by, load_from, store_to, size_to, tag_to, do_request, hold_request, grant, stored_in}
use Rattle.history.proofs.Invariant.Statement.{Plan, Kept, Contents}
use Rattle.history.proofs.Invariant.Frame.{quiet_calm}
use Rattle.history.proofs.Relation.Statement.{Holds, Related}
use Rattle.history.proofs.Relation.Still.{related_calm}
use Rattle.history.proofs.Relation.NewTuple.{renumbered, related_made}
use Rattle.history.proofs.Asking.NewTuple.{Made}
use Rattle.history.proofs.Asking.Registers.{hold_quiet, unheld_quiet}

-- ---- both sides

pub related_with_hold : (o : Option Asked) (b : Box) (p : Plan) (m : History) (given : List ℕ) (number : ℕ → ℕ) → Related b p m given number
    → Related b p (with_hold o m) given number
related_with_hold o b p m given number s =
    record {
      roots_match = s.roots_match;
      kept_hold = held;
      nil_number = s.nil_number;
      all_given = s.all_given;
      given_entry = s.given_entry;
      number_latest = s.number_latest;
    }
  where
    held : (h : ℕ) → Kept b p h → Holds b (with_hold o m) given number h
    held h k =
        let y : Holds b m given number h = s.kept_hold h k in
        record { number_made = y.number_made; handle_given = y.handle_given; size_same = y.size_same; tag_same = y.tag_same; words_match = y.words_match }

-- a GETM answered 7
pub related_hold : (r n t : ℕ) (b : Box) (p : Plan) (m : History) (given : List ℕ) (number : ℕ → ℕ) → Related b p m given number
    → Related (put_on_hold r n t b) p (hold_request (Getm r n t) m) given number
unfolding put_on_hold hold_request
related_hold r n t b p m given number s =
    related_with_hold (some (record { register = r; size = n; tag = t })) (put_on_hold r n t b) p m given number
    (related_calm b (put_on_hold r n t b) p p m given number (quiet_calm b p (put_on_hold r n t b) p (hold_quiet r n t b p)) refl s)

-- the hold dropped from the box
pub related_unheld : (b : Box) (p : Plan) (m : History) (given : List ℕ) (number : ℕ → ℕ) → Related b p m given number → Related (unheld b) p m given number
unfolding unheld
related_unheld b p m given number s = related_calm b (unheld b) p p m given number (quiet_calm b p (unheld b) p (unheld_quiet b p)) refl s

-- and from both
pub related_dropped : (b : Box) (p : Plan) (m : History) (given : List ℕ) (number : ℕ → ℕ) → Related b p m given number
    → Related (unheld b) p (with_hold none m) given number
related_dropped b p m given number s = related_with_hold none (unheld b) p m given number (related_unheld b p m given number s)

-- the hold granted: c has the new tuple
pub related_granted : (b : Box) (p : Plan) (c : Box) (q : Plan) (o : Asked) (m : History) (given : List ℕ) (number : ℕ → ℕ)
    → Made b p c q o.register o.size o.tag → Contents b p → Related b p m given number → length m.registers ≡ register_count
    → o.register < register_count
    → Related (unheld c) q (grant (some o) m) (given ++ b.free ∷ []) (renumbered number b.free (suc (made m)))
unfolding grant
related_granted b p c q o m given number a i s eight l =
    related_dropped c q (make o.register o.size o.tag m) (given ++ b.free ∷ []) (renumbered number b.free (suc (made m)))
    (related_made b p c q o.register o.size o.tag m given number a i s eight l)

-- ---- the history machine's registers

registers_cond : (t : Bool) (x y m : History) → length x.registers ≡ length m.registers
    → length y.registers ≡ length m.registers → length (cond t x y).registers ≡ length m.registers
registers_cond true x y m e f = e
registers_cond false x y m e f = f

registers_advance : (r n : ℕ) (v : HWord) (m : History) → length (advance_by r n v m).registers ≡ length m.registers
unfolding advance_by
registers_advance r n (datum v) m = refl
registers_advance r n (pointer_to i o) m = simp length-set

registers_load : (r n : ℕ) (v : HWord) (m : History) → length (load_from r v n m).registers ≡ length m.registers
unfolding load_from
registers_load r n (datum v) m = refl
registers_load r n (pointer_to i o) m = registers_cond (ltb (o + n) (size_at i m)) (put_in r (word_of i (o + n) m) m) m m (simp length-set) refl

registers_store : (n : ℕ) (w v : HWord) (m : History) → length (store_to w v n m).registers ≡ length m.registers
unfolding store_to
registers_store n w (datum v) m = refl
registers_store n w (pointer_to i o) m = registers_cond (ltb (o + n) (size_at i m)) (stored_in i (o + n) w m) m m refl refl

registers_size : (r : ℕ) (v : HWord) (m : History) → length (size_to r v m).registers ≡ length m.registers
unfolding size_to
registers_size r (datum v) m = refl
registers_size r (pointer_to i o) m = simp length-set

registers_tag : (r : ℕ) (v : HWord) (m : History) → length (tag_to r v m).registers ≡ length m.registers
unfolding tag_to
registers_tag r (datum v) m = refl
registers_tag r (pointer_to i o) m = simp length-set

pub registers_make : (r n tag : ℕ) (m : History) → length (make r n tag m).registers ≡ length m.registers
unfolding make
registers_make r n tag m = simp length-set

pub registers_request : (q : Request) (m : History) → length (do_request q m).registers ≡ length m.registers
unfolding do_request
registers_request (Setd r v) m = simp length-set
registers_request (Nil r) m = simp length-set
registers_request (Move r s) m = simp length-set
registers_request (Advance r n) m = registers_advance r n (register_of r m) m
registers_request (Getm r n t) m = registers_make r n t m
registers_request (Load r s k) m = registers_load r k (register_of s m) m
registers_request (Store r s k) m = registers_store k (register_of r m) (register_of s m) m
registers_request (Size r s) m = registers_size r (register_of s m) m
registers_request (Tag r s) m = registers_tag r (register_of s m) m
registers_request (Same r s t) m = simp length-set

pub registers_grant : (o : Option Asked) (m : History) → length (grant o m).registers ≡ length m.registers
unfolding grant
registers_grant none m = refl
registers_grant (some q) m = registers_make q.register q.size q.tag m

-- the history machine begins with eight
pub registers_fresh : length fresh.registers ≡ register_count
unfolding fresh
registers_fresh = length-replicate register_count (datum 0)
