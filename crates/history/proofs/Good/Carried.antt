-- A request that is put on hold or carried out leaves all as it should be: held, it changes the hold alone; carried out, it
-- does on both machines what its kind says. For each kind the invariant, the relation and what the cycle may keep are cited.
-- Assumes nothing.
use Prim.Native.Nat.{ℕ, suc, ◌+◌, ◌*◌, ◌≤◌, ◌<◌}
use mathlib.Core.Bool.{Bool, true, false, true≢false, false≢true, cond}
use mathlib.Core.List.{[], ◌∷◌, ◌++◌}
use mathlib.Core.Logic.{◌≢◌, ◌⊎◌, inl, inr}
use mathlib.Core.Option.{some}
use mathlib.Core.Path.{◌≡◌, refl, sym, ◌∙◌, ap, subst}
use native.Mathlib.Omega.{arith}
use lib.Dec.{ltb}
use Rattle.rules.specs.declared.kinds.Request.{Request}
use Rattle.rules.specs.declared.kinds.Request.TheVariants.{Setd, Nil, Move, Advance, Getm, Load, Store, Size, Tag, Same}
use Rattle.rules.specs.Limits.{register_count, half_word}
use Rattle.rules.specs.Parts.{Word, Box}
use Rattle.rules.specs.Box.{handle_of, names_tuple, register, put_register, marked, set_deep}
use Rattle.rules.specs.Place.{Place, copy_place, at, write, shade}
use Rattle.rules.specs.Request.{put_on_hold, new_entry, take_room, new_tuple}
use Rattle.rules.specs.Answers.{named, number as number_in}
use Rattle.history.specs.Machine.{Asked as Wanted, word_of, HWord, datum, pointer_to, History, register_of, size_at, made, put_in, make, advance_by, load_from, store_to, size_to, tag_to, do_request, hold_request, with_hold, stored_in}
use Rattle.history.specs.Calls.{Pending, Log, given_by, disturb, pend, log_done, log_held}
use Rattle.history.proofs.Invariant.Statement.{Scans, Ghosts, Inv, Kept}
use Rattle.rules.proofs.View.Request.{place_of, There}
use Rattle.history.proofs.Marking.Alike.{with_scans}
use Rattle.history.proofs.Marking.Shade.{shade_scans, shade_alike, shade_numbers}
use Rattle.history.proofs.Left.Count.{left}
use Rattle.history.proofs.Left.Bounds.{left_bound_m}
use Rattle.history.proofs.Left.Same.{left_held}
use Rattle.history.proofs.Asking.InRange.{free_bounds}
use Rattle.history.proofs.Asking.NewTuple.{New, new_box, made_plan, made_ghosts, invariant_new_tuple, Made, new_tuple_made}
use Rattle.history.proofs.Asking.Registers.{invariant_hold, hold_quiet, put_kept_to}
use Rattle.history.proofs.Asking.Write.{Stored}
use Rattle.history.proofs.Asking.Store.{stores_data, data_stored, deep_stored, stores_shaded, shaded_stored}
use Rattle.history.proofs.Relation.Statement.{Related}
use Rattle.history.proofs.Relation.NewTuple.{renumbered, related_made}
use Rattle.history.proofs.Relation.Hold.{registers_request, related_hold}
use Rattle.history.proofs.Relation.Store.{related_store}
use Rattle.history.proofs.Spared.History.{spared_request}
use Rattle.history.proofs.Spared.Steps.{shade_marked_only}
use Rattle.history.proofs.Spared.Requests.{tracked_in, tracked_asked, tracked_made}
use Rattle.history.proofs.Spared.Tracked.{Spared, Tracked, root_spared}
use Rattle.history.proofs.Good.Statement.{Cycling, between, under_way, Held, Waiting, nothing_held, one_held, Good}

-- ---- the history machine's hold stays with a request carried out

advance_hold : (r n : ℕ) (v : HWord) (t : History) → (advance_by r n v t).hold ≡ t.hold
unfolding advance_by
advance_hold r n (datum v) t = refl
advance_hold r n (pointer_to i o) t = refl

load_hold : (r : ℕ) (v : HWord) (k : ℕ) (t : History) → (load_from r v k t).hold ≡ t.hold
unfolding load_from
load_hold r (datum v) k t = refl
load_hold r (pointer_to i o) k t = go (ltb (o + k) (size_at i t))
  where
    go : (x : Bool) → (cond x (put_in r (word_of i (o + k) t) t) t).hold ≡ t.hold
    go true = refl
    go false = refl

store_hold : (w v : HWord) (k : ℕ) (t : History) → (store_to w v k t).hold ≡ t.hold
unfolding store_to
store_hold w (datum v) k t = refl
store_hold w (pointer_to i o) k t = go (ltb (o + k) (size_at i t))
  where
    go : (x : Bool) → (cond x (stored_in i (o + k) w t) t).hold ≡ t.hold
    go true = refl
    go false = refl

size_hold : (r : ℕ) (v : HWord) (t : History) → (size_to r v t).hold ≡ t.hold
unfolding size_to
size_hold r (datum v) t = refl
size_hold r (pointer_to i o) t = refl

tag_hold : (r : ℕ) (v : HWord) (t : History) → (tag_to r v t).hold ≡ t.hold
unfolding tag_to
tag_hold r (datum v) t = refl
tag_hold r (pointer_to i o) t = refl

request_hold : (q : Request) (t : History) → (do_request q t).hold ≡ t.hold
unfolding do_request make
request_hold (Setd r v) t = refl
request_hold (Nil r) t = refl
request_hold (Move r s) t = refl
request_hold (Advance r n) t = advance_hold r n (register_of r t) t
request_hold (Getm r n tag) t = refl
request_hold (Load r s k) t = load_hold r (register_of s t) k t
request_hold (Store r s k) t = store_hold (register_of r t) (register_of s t) k t
request_hold (Size r s) t = size_hold r (register_of s t) t
request_hold (Tag r s) t = tag_hold r (register_of s t) t
request_hold (Same r s u) t = refl

-- ---- a request carried out

-- what it leaves of the sizes, the hold and the phase
pub record Stays (b c : Box) : Type 0 where
  pub m_same : c.m ≡ b.m
  pub h_same : c.h ≡ b.h
  pub held_same : c.hold.held ≡ b.hold.held
  pub phase_same : c.collector.phase ≡ b.collector.phase

pub good_done : (m h : ℕ) (b : Box) (t : History) (l : Log) (k : Good m h b t l) (q : Request) (c : Box) (g : Ghosts) (number : ℕ → ℕ)
    → b.hold.held ≡ false → Stays b c → Inv c g → Related c g.plan (do_request q t) (given_by q c l.given) number
    → ((started : History) → Tracked b k.ghosts.plan t k.number started → Tracked c g.plan (do_request q t) number started)
    → Good m h c (do_request q t) (log_done q c l)
unfolding log_done disturb
good_done m h b t l k q c g number u s v r x =
    record {
      m_is = s.m_same ∙ k.m_is;
      h_is = s.h_same ∙ k.h_is;
      ghosts = g;
      inv = v;
      number = number;
      related = r;
      eight = registers_request q t ∙ k.eight;
      cycling = cycle k.cycling;
      waiting = wait k.waiting;
      past = k.past;
    }
  where
    free : c.hold.held ≡ false
    free = s.held_same ∙ u

    cycle : Cycling b k.ghosts t k.number l.cycle → Cycling c g (do_request q t) number (disturb l.cycle)
    cycle (between p o) = between (s.phase_same ∙ p) (ap disturb o)
    cycle (under_way p y o w) =
        under_way (λ e. p (sym s.phase_same ∙ e)) (record { started = y.started; first_top = y.first_top; steps = y.steps; quiet = false }) (ap disturb o)
        (record { tracked = x y.started w.tracked; bounded = λ e. absurd (false≢true e); begun_then = λ e f. absurd (true≢false (sym e ∙ free)) })

    wait : Waiting b k.ghosts t l.pending → Waiting c g (do_request q t) l.pending
    wait (nothing_held p y o) = nothing_held free (request_hold q t ∙ y) o
    wait (one_held p a y w o z) = absurd (true≢false (sym p ∙ u))

-- ---- a request put on hold

hold_m : (r n tag : ℕ) (b : Box) → (put_on_hold r n tag b).m ≡ b.m
unfolding put_on_hold
hold_m r n tag b = refl

-- the request, and the log's note of it
abbrev wanted : ℕ → ℕ → ℕ → Wanted
wanted r n tag = record { register = r; size = n; tag = tag }

abbrev put_off : ℕ → ℕ → ℕ → History → Pending
put_off r n tag t = record { asked = wanted r n tag; history_then = with_hold (some (wanted r n tag)) t; steps = 0 }

pub good_hold : (m h : ℕ) (b : Box) (t : History) (l : Log) (k : Good m h b t l) (r n tag : ℕ) → r < register_count → tag < half_word
    → b.hold.held ≡ false → Good m h (put_on_hold r n tag b) (hold_request (Getm r n tag) t) (log_held (hold_request (Getm r n tag) t) l)
unfolding put_on_hold hold_request log_held pend
good_hold m h b t l k r n tag lr tg u =
    record {
      m_is = k.m_is;
      h_is = k.h_is;
      ghosts = k.ghosts;
      inv = invariant_hold b k.ghosts k.inv r n tag lr tg;
      number = k.number;
      related = related_hold r n tag b k.ghosts.plan t l.given k.number k.related;
      eight = k.eight;
      cycling = cycle k.cycling;
      waiting = one_held refl (wanted r n tag) refl (put_off r n tag t) refl wait;
      past = k.past;
    }
  where
    same : left (put_on_hold r n tag b) k.ghosts ≡ left b k.ghosts
    same = left_held r n tag b k.ghosts k.ghosts k.inv (invariant_hold b k.ghosts k.inv r n tag lr tg)

    bound : left b k.ghosts ≤ 8 * b.m + 2
    bound = left_bound_m b k.ghosts k.inv

    wait : Held (put_on_hold r n tag b) k.ghosts (with_hold (some (wanted r n tag)) t) (wanted r n tag) (put_off r n tag t)
    wait =
        record {
          register_is = refl;
          size_is = refl;
          tag_is = refl;
          asked_is = refl;
          history_is = refl;
          in_time = omega (arith, same, bound, hold_m r n tag b);
          in_time_twice = λ x z. omega (arith, same, bound, hold_m r n tag b);
        }

    cycle : Cycling b k.ghosts t k.number l.cycle → Cycling (put_on_hold r n tag b) k.ghosts (with_hold (some (wanted r n tag)) t) k.number l.cycle
    cycle (between p o) = between p o
    cycle (under_way p y o w) =
        under_way p y o
        (record {
          tracked = tracked_asked b k.ghosts.plan (put_on_hold r n tag b) t (with_hold (some (wanted r n tag)) t) k.number y.started (record {
            phase_same = refl;
            tuple_same = refl;
            marked_from = λ x z. inl z;
            kept_to = (hold_quiet r n tag b k.ghosts.plan).kept_to;
          }) (record { not_fewer = w.tracked.not_fewer; roots_spared = w.tracked.roots_spared; words_spared = w.tracked.words_spared }) w.tracked;
          bounded = λ e. let v : y.steps + left b k.ghosts ≤ 8 * y.first_top + 2 = w.bounded e in omega (arith, same);
          begun_then = λ e f. absurd (false≢true f);
        })

-- ---- each kind

new_held : (r n tag : ℕ) (b : Box) → (new_tuple r n tag b).hold.held ≡ b.hold.held
unfolding new_tuple take_room new_entry
new_held r n tag b = refl

-- a write at a place changes memory or the copy register alone
record WriteKeeps (b c : Box) : Type 0 where
  m_same : c.m ≡ b.m
  h_same : c.h ≡ b.h
  held_same : c.hold.held ≡ b.hold.held
  phase_same : c.collector.phase ≡ b.collector.phase
  tuple_same : c.collector.tuple ≡ b.collector.tuple
  marked_same : (x : ℕ) → marked x c ≡ marked x b

write_keeps : (p : Place) (w : Word) (b : Box) → WriteKeeps b (write p w b)
unfolding write
write_keeps copy_place w b = search
write_keeps (at a) w b = search

module _ (m h : ℕ) (b : Box) (t : History) (l : Log) (k : Good m h b t l) (u : b.hold.held ≡ false) where
  abbrev g : Ghosts
  g = k.ghosts

  -- a register takes a word: the invariant and the relation are given
  pub good_register : (q : Request) (r : ℕ) (w : Word) → Inv (put_register r w b) g
      → Related (put_register r w b) g.plan (do_request q t) (given_by q (put_register r w b) l.given) k.number
      → Good m h (put_register r w b) (do_request q t) (log_done q (put_register r w b) l)
  good_register q r w v s =
      good_done m h b t l k q (put_register r w b) g k.number u (record { m_same = refl; h_same = refl; held_same = refl; phase_same = refl }) v s
      (λ started x. tracked_asked b g.plan (put_register r w b) t (do_request q t) k.number started (record {
        phase_same = refl;
        tuple_same = refl;
        marked_from = λ y z. inl z;
        kept_to = put_kept_to r w b g.plan;
      }) (spared_request t started (tracked_in b g.plan t k.number started x) k.eight q) x)

  pub good_new : (r n tag : ℕ) → r < register_count → tag < half_word → b.free ≢ 0 → b.top + n + 1 ≤ b.m
      → Good m h (new_tuple r n tag b) (do_request (Getm r n tag) t) (log_done (Getm r n tag) (new_tuple r n tag b) l)
  unfolding do_request given_by
  good_new r n tag lr tg fr fit =
      good_done m h b t l k (Getm r n tag) (new_tuple r n tag b) (made_ghosts g b.free) (renumbered k.number b.free (suc (made t))) u stays (invariant_new_tuple b g k.inv r n tag lr fr fit tg) noted (λ started x. tracked_made b g k.inv r n tag lr fr fit tg t k.number started x)
    where
      fields : New b (new_tuple r n tag b) r n tag
      fields = new_box b k.inv.shape r n tag lr (free_bounds b g k.inv fr).1 fit

      stays : Stays b (new_tuple r n tag b)
      stays = record { m_same = fields.m_same; h_same = fields.h_same; held_same = new_held r n tag b; phase_same = fields.phase_same }

      what : Made b g.plan (new_tuple r n tag b) (made_plan g.plan b.free) r n tag
      what = new_tuple_made b g k.inv r n tag lr fr fit tg

      noted : Related (new_tuple r n tag b) (made_plan g.plan b.free) (make r n tag t) (l.given ++ handle_of (register r (new_tuple r n tag b)) ∷ []) (renumbered k.number b.free (suc (made t)))
      noted =
          subst (λ (x : ℕ). Related (new_tuple r n tag b) (made_plan g.plan b.free) (make r n tag t) (l.given ++ x ∷ []) (renumbered k.number b.free (suc (made t)))) (sym what.made_handle)
          (related_made b g.plan (new_tuple r n tag b) (made_plan g.plan b.free) r n tag t l.given k.number what k.inv.contents k.related k.eight lr)

  -- a word is stored: what the box is after it is given
  pub good_store : (r s n : ℕ) → r < register_count → s < register_count → There s n b → (c : Box) (sc : Scans) → Inv c (with_scans sc g)
      → Stored b g.plan c g.plan (named s b) (number_in s n b) (register r b) → Stays b c → c.collector.tuple ≡ b.collector.tuple
      → ((x : ℕ) → marked x c ≡ true → (marked x b ≡ true) ⊎ ((names_tuple (register r b) ≡ true) × (x ≡ handle_of (register r b))))
      → Good m h c (do_request (Store r s n) t) (log_done (Store r s n) c l)
  unfolding given_by
  good_store r s n lr ls th c sc v st y e mk =
      good_done m h b t l k (Store r s n) c (with_scans sc g) k.number u y v
      (related_store b g t l.given k.number k.inv k.related k.eight c r s n lr ls th st)
      (λ started x. tracked_asked b g.plan c t (do_request (Store r s n) t) k.number started (record {
        phase_same = y.phase_same;
        tuple_same = e;
        marked_from = λ z w. from started x z (mk z w);
        kept_to = st.kept_to;
      }) (spared_request t started (tracked_in b g.plan t k.number started x) k.eight (Store r s n)) x)
    where
      from : (started : History) → Tracked b g.plan t k.number started → (z : ℕ)
          → (marked z b ≡ true) ⊎ ((names_tuple (register r b) ≡ true) × (z ≡ handle_of (register r b)))
          → (marked z b ≡ true) ⊎ Spared started (k.number z)
      from started x z (inl w) = inl w
      from started x z (inr w) = inr (subst (λ (i : ℕ). Spared started (k.number i)) (sym w.1) (root_spared b g.plan t l.given k.number k.related k.inv.contents started x r lr w.0))

  -- the tuple stored into is kept
  stored_kept : (s n : ℕ) → s < register_count → There s n b → Kept b g.plan (named s b)
  stored_kept s n ls th = k.inv.contents.roots_kept s ls th.is_pointer

  pub good_store_data : (r s n : ℕ) → r < register_count → s < register_count → There s n b → names_tuple (register r b) ≡ false
      → Good m h (write (place_of s n b) (register r b) b) (do_request (Store r s n) t) (log_done (Store r s n) (write (place_of s n b) (register r b) b) l)
  good_store_data r s n lr ls th d =
      good_store r s n lr ls th (write (place_of s n b) (register r b) b) g.scans (stores_data b g k.inv (named s b) (number_in s n b) (stored_kept s n ls th) th.inside (register r b) d) (data_stored b g k.inv (named s b) (number_in s n b) (stored_kept s n ls th) th.inside (register r b))
      (record { m_same = w.m_same; h_same = w.h_same; held_same = w.held_same; phase_same = w.phase_same }) w.tuple_same (λ x z. inl (sym (w.marked_same x) ∙ z))
    where
      w : WriteKeeps b (write (place_of s n b) (register r b) b)
      w = write_keeps (place_of s n b) (register r b) b

  pub good_store_deep : (r s n : ℕ) → r < register_count → s < register_count → There s n b
      → Inv (write (place_of s n b) (register r b) (set_deep (named s b) true b)) g
      → Good m h (write (place_of s n b) (register r b) (set_deep (named s b) true b)) (do_request (Store r s n) t) (log_done (Store r s n) (write (place_of s n b) (register r b) (set_deep (named s b) true b)) l)
  good_store_deep r s n lr ls th v =
      good_store r s n lr ls th (write (place_of s n b) (register r b) (set_deep (named s b) true b)) g.scans v (deep_stored b g k.inv (named s b) (number_in s n b) (stored_kept s n ls th) th.inside (register r b))
      (record { m_same = w.m_same; h_same = w.h_same; held_same = w.held_same; phase_same = w.phase_same }) w.tuple_same (λ x z. inl (sym (w.marked_same x) ∙ z))
    where
      w : WriteKeeps (set_deep (named s b) true b) (write (place_of s n b) (register r b) (set_deep (named s b) true b))
      w = write_keeps (place_of s n b) (register r b) (set_deep (named s b) true b)

  pub good_store_shaded : (r s n : ℕ) → r < register_count → s < register_count → There s n b → names_tuple (register r b) ≡ true
      → 1 ≤ b.collector.phase → b.collector.phase ≤ 3
      → Good m h (write (place_of s n b) (register r b) (set_deep (named s b) true (shade (named r b) b))) (do_request (Store r s n) t) (log_done (Store r s n) (write (place_of s n b) (register r b) (set_deep (named s b) true (shade (named r b) b))) l)
  good_store_shaded r s n lr ls th d p q =
      good_store r s n lr ls th (write (place_of s n b) (register r b) (set_deep (named s b) true (shade (named r b) b))) (shade_scans (named r b) b g.scans) (stores_shaded b g k.inv (named s b) (number_in s n b) (stored_kept s n ls th) th.inside (register r b) target (record {
        names = d;
        phase_least = p;
        phase_most = q;
      }))
      (shaded_stored b g k.inv (named s b) (number_in s n b) (stored_kept s n ls th) th.inside (register r b) target (record {
        names = d;
        phase_least = p;
        phase_most = q;
      }))
      (record {
        m_same = w.m_same ∙ (shade_alike (named r b) b).m_is;
        h_same = w.h_same ∙ (shade_alike (named r b) b).h_is;
        held_same = w.held_same ∙ (shade_alike (named r b) b).held_is;
        phase_same = w.phase_same ∙ (shade_numbers (named r b) b).phase_is;
      }) (w.tuple_same ∙ (shade_numbers (named r b) b).tuple_is)
      (λ x z. shade_marked_only (named r b) b (λ (y : ℕ). (names_tuple (register r b) ≡ true) × (y ≡ named r b)) (d, refl) x (sym (w.marked_same x) ∙ z))
    where
      target : Kept b g.plan (named r b)
      target = k.inv.contents.roots_kept r lr d

      w : WriteKeeps (set_deep (named s b) true (shade (named r b) b)) (write (place_of s n b) (register r b) (set_deep (named s b) true (shade (named r b) b)))
      w = write_keeps (place_of s n b) (register r b) (set_deep (named s b) true (shade (named r b) b))
