-- The table of answers for requests holds: each request is given what its rows say, and 5, 7 and 4 only to the kinds that can get them. A
-- refused request has its row from the view; for one put on hold or carried out the rows before are passed by the view's facts.
-- Assumes nothing.
use Prim.Native.Nat.{ℕ, ◌+◌, ◌≤◌, ◌<◌}
use mathlib.Core.Bool.{true, false, true≢false}
use mathlib.Core.Logic.{◌≢◌, ◌⊎◌, inl, inr, ◌↔◌}
use mathlib.Core.Path.{◌≡◌, refl, sym, ◌∙◌, ap, subst}
use native.Mathlib.Omega.{arith}
use Rattle.rules.specs.declared.kinds.Request.{Request}
use Rattle.rules.specs.declared.kinds.Request.TheVariants.{Setd, Nil, Move, Advance, Getm, Load, Store, Size, Tag, Same}
use Rattle.rules.specs.Limits.{register_count}
use Rattle.rules.specs.Parts.{Box, with_hold}
use Rattle.rules.specs.Box.{Reply, reply, names_tuple, register, size_of, marked, sound}
use Rattle.rules.specs.Request.{put_on_hold, request}
use Rattle.rules.specs.Answers.{holds as row_holds, passed, given, Right, Entry, named, number, NoRegister, OutOfMemory, Unshadable, WrongRegister, TooLarge, NoRoom, HasData, TooFar, NoWord, NewLost, WordLost, ShadeLost, SizeLost, TagLost, KindGives, RequestGives}
use Rattle.rules.specs.Demand1.{Numbered, RequestAnswers, Refused, waiting}
use Rattle.rules.proofs.Sizes.{sound_right, unsound_wrong}
use Rattle.rules.proofs.View.Places.{not_out_of_memory}
use Rattle.rules.proofs.View.Request.{There, Asked, asked, no_data, tuple_flag, word_inside, has_room, both_registers}
use Rattle.rules.proofs.Table.Rows.{Each, each_when, each_last, Only, only_when, only_last, exactly}

-- ---- what is not lost

pub marked_shadable : (h : ℕ) (b : Box) → Entry h b → marked h b ≡ true → ¬ Unshadable h b
marked_shadable h b e t (inl n) = n e
marked_shadable h b e t (inr x) = true≢false (sym t ∙ x.0)

pub unmarked_shadable : (h : ℕ) (b : Box) → Entry h b → b.collector.live + size_of h b + 1 ≤ b.m → ¬ Unshadable h b
unmarked_shadable h b e l (inl n) = n e
unmarked_shadable h b e l (inr x) = omega (arith, x.1)

word_there : (s k : ℕ) (b : Box) → There s k b → ¬ WordLost s k b
word_there s k b th (inl n) = n th.entry
word_there s k b th (inr x) = not_out_of_memory (named s b) (number s k b + 1) b th.somewhere x

-- ---- a request that comes to its kind's rule

-- the rows before the kind's own are passed
came : (q : Request) (b : Box) (a : ℕ) → sound b ≡ true → b.hold.held ≡ false → ¬ WrongRegister q → KindGives q b a → RequestGives q b a
came q b a s f w k = passed (λ n. n (sound_right b s)) (passed w (passed (λ h. true≢false (sym h ∙ f)) k))

no_register : (r : ℕ) → r < register_count → ¬ NoRegister r
no_register r l x = omega arith

-- a pointer to a tuple is no data
no_tuple_data : (s : ℕ) (b : Box) → names_tuple (register s b) ≡ true → ¬ ((register s b).flag ≡ false)
no_tuple_data s b n = no_data (register s b) (tuple_flag (register s b) n)

stored : (r s k : ℕ) (b : Box) → sound b ≡ true → b.hold.held ≡ false → r < register_count → s < register_count → There s k b
    → ¬ ShadeLost (register r b) b → RequestGives (Store r s k) b 0
stored r s k b v u l m th n = came (Store r s k) b 0 v u (both_registers r s l m) (passed (no_tuple_data s b th.is_pointer) (passed (word_inside s k b th.is_pointer th.inside) (passed lost (given refl))))
  where
    lost : ¬ (WordLost s k b ⊎ ShadeLost (register r b) b)
    lost (inl x) = word_there s k b th x
    lost (inr x) = n x

made : (r n t : ℕ) (b : Box) → sound b ≡ true → b.hold.held ≡ false → r < register_count → n + 1 ≤ b.m → b.free ≢ 0
    → b.top + n + 1 ≤ b.m → Entry b.free b → (b.collector.phase ≡ 0) ⊎ (b.collector.live + n + 1 ≤ b.m) → RequestGives (Getm r n t) b 0
made r n t b v u l a f g e y = came (Getm r n t) b 0 v u (no_register r l) (passed (λ x. omega arith) (passed (has_room n b (f, g)) (passed (lost y) (given refl))))
  where
    lost : (b.collector.phase ≡ 0) ⊎ (b.collector.live + n + 1 ≤ b.m) → ¬ ((¬ Entry b.free b) ⊎ ((b.collector.phase ≢ 0) × (b.m < b.collector.live + n + 1)))
    lost y (inl x) = x e
    lost (inl z) (inr x) = x.0 z
    lost (inr z) (inr x) = omega (arith, x.1)

-- a reply's answer is the request's
by : (q : Request) (b : Box) {c : Box} {a : ℕ} → request q b ≡ reply c a → RequestGives q b a → RequestGives q b (request q b).answer
by q b e g = subst (RequestGives q b) (sym (ap (λ (r : Reply). r.answer) e)) g

gives : (q : Request) (b : Box) → Asked b q → RequestGives q b (request q b).answer
gives q b (Asked.refuses_unsound s e) = by q b e (row_holds (unsound_wrong b s) refl)
gives q b (Asked.refuses a x y z g e) = by q b e g
gives q b (Asked.refuses_lost s u o g e) = by q b e g
gives q b (Asked.holds {r} {n} {t} s u l a o e) =
    by (Getm r n t) b e
    (came (Getm r n t) b 7 s u (no_register r l) (passed (λ x. omega arith) (row_holds o refl)))
gives q b (Asked.sets_data {r} {v} s u l e) =
    by (Setd r v) b e
    (came (Setd r v) b 0 s u (no_register r l) (given refl))
gives q b (Asked.sets_nil {r} s u l e) =
    by (Nil r) b e
    (came (Nil r) b 0 s u (no_register r l) (given refl))
gives q b (Asked.moves {r} {s = i} s u l m e) =
    by (Move r i) b e
    (came (Move r i) b 0 s u (both_registers r i l m) (given refl))
gives q b (Asked.advances {r} {n} s u l f o e) =
    by (Advance r n) b e
    (came (Advance r n) b 0 s u (no_register r l) (passed (no_data (register r b) f) (passed (λ x. omega arith) (given refl))))
gives q b (Asked.makes {r} {n} {t} s u l a f g y p e) =
    by (Getm r n t) b e (made r n t b s u l a f g y p)
gives q b (Asked.loads {r} {s = i} {k} s u l m th e) =
    by (Load r i k) b e
    (came (Load r i k) b 0 s u (both_registers r i l m) (passed (no_tuple_data i b th.is_pointer) (passed (word_inside i k b th.is_pointer th.inside) (passed (word_there i k b th) (given refl)))))
gives q b (Asked.stores_data {r} {s = i} {k} s u l m th d e) =
    by (Store r i k) b e (stored r i k b s u l m th (λ x. true≢false (sym x.0 ∙ d)))
gives q b (Asked.stores_late {r} {s = i} {k} s u l m th d p e) =
    by (Store r i k) b e (stored r i k b s u l m th (late p))
  where
    late : (b.collector.phase ≡ 0) ⊎ (3 < b.collector.phase) → ¬ ShadeLost (register r b) b
    late (inl z) x = omega (arith, x.1)
    late (inr z) x = omega (arith, x.2)
gives q b (Asked.stores_marked {r} {s = i} {k} s u l m th d p a y t e) =
    by (Store r i k) b e (stored r i k b s u l m th (λ x. marked_shadable (named r b) b y t x.3))
gives q b (Asked.stores_unmarked {r} {s = i} {k} s u l m th d p a y t f e) =
    by (Store r i k) b e (stored r i k b s u l m th (λ x. unmarked_shadable (named r b) b y f x.3))
gives q b (Asked.gives_size {r} {s = i} s u l m d y e) =
    by (Size r i) b e
    (came (Size r i) b 0 s u (both_registers r i l m) (passed (no_tuple_data i b d) (passed (λ x. x.1 y) (given refl))))
gives q b (Asked.gives_nil_size {r} {s = i} s u l m d y e) =
    by (Size r i) b e
    (came (Size r i) b 0 s u (both_registers r i l m) (passed (no_data (register i b) d) (passed (λ x. x.0 y) (given refl))))
gives q b (Asked.gives_tag {r} {s = i} s u l m d y p e) =
    by (Tag r i) b e
    (came (Tag r i) b 0 s u (both_registers r i l m) (passed (no_tuple_data i b d) (passed (λ x. lost x.1) (given refl))))
  where
    lost : ¬ ((¬ Entry (named i b) b) ⊎ OutOfMemory (named i b) 0 b)
    lost (inl x) = x y
    lost (inr x) = not_out_of_memory (named i b) 0 b p x
gives q b (Asked.gives_nil_tag {r} {s = i} s u l m d y e) =
    by (Tag r i) b e
    (came (Tag r i) b 0 s u (both_registers r i l m) (passed (no_data (register i b) d) (passed (λ x. x.0 y) (given refl))))
gives q b (Asked.compares {r} {s = i} {t = j} s u l m n e) =
    by (Same r i j) b e
    (came (Same r i j) b 0 s u registers (given refl))
  where
    registers : ¬ ((NoRegister r ⊎ NoRegister i) ⊎ NoRegister j)
    registers (inl x) = both_registers r i l m x
    registers (inr x) = no_register j n x

only_kind : (q : Request) (b : Box) → Only (KindGives q b)
only_kind (Setd r v) b = only_last 0
only_kind (Nil r) b = only_last 0
only_kind (Move r s) b = only_last 0
only_kind (Advance r n) b = only_when _ 2 _ (only_when _ 4 _ (only_last 0))
only_kind (Getm r n t) b = only_when _ 5 _ (only_when _ 7 _ (only_when _ 9 _ (only_last 0)))
only_kind (Load r s k) b = only_when _ 2 _ (only_when _ 3 _ (only_when _ 9 _ (only_last 0)))
only_kind (Store r s k) b = only_when _ 2 _ (only_when _ 3 _ (only_when _ 9 _ (only_last 0)))
only_kind (Size r s) b = only_when _ 2 _ (only_when _ 9 _ (only_last 0))
only_kind (Tag r s) b = only_when _ 2 _ (only_when _ 9 _ (only_last 0))
only_kind (Same r s t) b = only_last 0

only_one : (q : Request) (b : Box) → Only (RequestGives q b)
only_one q b = only_when _ 9 _ (only_when _ 1 _ (only_when _ 6 _ (only_kind q b)))

pub request_exactly : (q : Request) (b : Box) (a : ℕ) → ((request q b).answer ≡ a) ↔ RequestGives q b a
request_exactly q b a = exactly (RequestGives q b) (only_one q b) (request q b).answer (gives q b (asked q b)) a

-- ---- the answers of a request

-- an answer that any kind can get
any_kind : (q : Request) (a : ℕ) → Numbered a → a ≢ 5 → a ≢ 7 → a ≢ 4 → RequestAnswers q a
any_kind q a l x y z = record { numbered = l; five = λ e. absurd (x e); seven = λ e. absurd (y e); four = λ e. absurd (z e) }

low : (q : Request) (a : ℕ) → a ≤ 3 → RequestAnswers q a
low q a l = any_kind q a (inl (omega arith)) (omega arith) (omega arith) (omega arith)

nine : (q : Request) → RequestAnswers q 9
nine q = any_kind q 9 (inr refl) (omega arith) (omega arith) (omega arith)

-- the answers of a kind's rows
kind_answers : (q : Request) (b : Box) → Each (RequestAnswers q) (KindGives q b)
kind_answers (Setd r v) b = each_last (RequestAnswers (Setd r v)) 0 (low (Setd r v) 0 (omega arith))
kind_answers (Nil r) b = each_last (RequestAnswers (Nil r)) 0 (low (Nil r) 0 (omega arith))
kind_answers (Move r s) b = each_last (RequestAnswers (Move r s)) 0 (low (Move r s) 0 (omega arith))
kind_answers (Advance r n) b =
    each_when (RequestAnswers (Advance r n)) (HasData r b) 2 _ (λ x. low (Advance r n) 2 (omega arith))
    (each_when (RequestAnswers (Advance r n)) (TooFar r n b) 4 _
    (λ x. record { numbered = inl (omega arith); five = λ e. absurd (omega arith); seven = λ e. absurd (omega arith); four = λ e. refl })
    (each_last (RequestAnswers (Advance r n)) 0 (low (Advance r n) 0 (omega arith))))
kind_answers (Getm r n t) b =
    each_when (RequestAnswers (Getm r n t)) (TooLarge n b) 5 _
    (λ x. record { numbered = inl (omega arith); five = λ e. refl; seven = λ e. refl; four = λ e. absurd (omega arith) })
    (each_when (RequestAnswers (Getm r n t)) (NoRoom n b) 7 _
    (λ x. record { numbered = inl (omega arith); five = λ e. refl; seven = λ e. refl; four = λ e. absurd (omega arith) })
    (each_when (RequestAnswers (Getm r n t)) (NewLost n b) 9 _ (λ x. nine (Getm r n t)) (each_last (RequestAnswers (Getm r n t)) 0 (low (Getm r n t) 0 (omega arith)))))
kind_answers (Load r s k) b =
    each_when (RequestAnswers (Load r s k)) (HasData s b) 2 _ (λ x. low (Load r s k) 2 (omega arith))
    (each_when (RequestAnswers (Load r s k)) (NoWord s k b) 3 _ (λ x. low (Load r s k) 3 (omega arith))
    (each_when (RequestAnswers (Load r s k)) (WordLost s k b) 9 _ (λ x. nine (Load r s k)) (each_last (RequestAnswers (Load r s k)) 0 (low (Load r s k) 0 (omega arith)))))
kind_answers (Store r s k) b =
    each_when (RequestAnswers (Store r s k)) (HasData s b) 2 _ (λ x. low (Store r s k) 2 (omega arith))
    (each_when (RequestAnswers (Store r s k)) (NoWord s k b) 3 _ (λ x. low (Store r s k) 3 (omega arith))
    (each_when (RequestAnswers (Store r s k)) (WordLost s k b ⊎ ShadeLost (register r b) b) 9 _ (λ x. nine (Store r s k)) (each_last (RequestAnswers (Store r s k)) 0 (low (Store r s k) 0 (omega arith)))))
kind_answers (Size r s) b =
    each_when (RequestAnswers (Size r s)) (HasData s b) 2 _ (λ x. low (Size r s) 2 (omega arith))
    (each_when (RequestAnswers (Size r s)) (SizeLost s b) 9 _ (λ x. nine (Size r s)) (each_last (RequestAnswers (Size r s)) 0 (low (Size r s) 0 (omega arith))))
kind_answers (Tag r s) b =
    each_when (RequestAnswers (Tag r s)) (HasData s b) 2 _ (λ x. low (Tag r s) 2 (omega arith))
    (each_when (RequestAnswers (Tag r s)) (TagLost s b) 9 _ (λ x. nine (Tag r s)) (each_last (RequestAnswers (Tag r s)) 0 (low (Tag r s) 0 (omega arith))))
kind_answers (Same r s t) b = each_last (RequestAnswers (Same r s t)) 0 (low (Same r s t) 0 (omega arith))

pub request_answers : (q : Request) (b : Box) → RequestAnswers q (request q b).answer
request_answers q b = rows (request q b).answer (gives q b (asked q b))
  where
    six : RequestAnswers q 6
    six = any_kind q 6 (inl (omega arith)) (omega arith) (omega arith) (omega arith)

    rows : Each (RequestAnswers q) (RequestGives q b)
    rows =
        each_when (RequestAnswers q) (¬ Right b) 9 _ (λ x. nine q)
        (each_when (RequestAnswers q) (WrongRegister q) 1 _ (λ x. low q 1 (omega arith))
        (each_when (RequestAnswers q) (b.hold.held ≡ true) 6 _ (λ x. six) (kind_answers q b)))

-- ---- what a request leaves that was refused, or put on hold

refused_zero : (q : Request) (b c : Box) → request q b ≡ reply c 0 → ¬ Refused (request q b).answer
refused_zero q b c e x = go (subst Refused (ap (λ (r : Reply). r.answer) e) x)
  where
    go : ¬ Refused 0
    go (inl l) = omega (arith, l.0)
    go (inr z) = omega arith

refused : (q : Request) (b : Box) → Asked b q → Refused (request q b).answer → (request q b).box ≡ b
refused q b (Asked.refuses_unsound s e) x = ap (λ (r : Reply). r.box) e
refused q b (Asked.refuses a u y z g e) x = ap (λ (r : Reply). r.box) e
refused q b (Asked.refuses_lost s u o g e) x = ap (λ (r : Reply). r.box) e
refused q b (Asked.holds {r} {n} {t} s u l a o e) x = absurd (seven (subst Refused (ap (λ (r : Reply). r.answer) e) x))
  where
    seven : ¬ Refused 7
    seven (inl l) = omega (arith, l.1)
    seven (inr z) = omega arith
refused q b (Asked.sets_data s u l e) x = absurd (refused_zero _ b _ e x)
refused q b (Asked.sets_nil s u l e) x = absurd (refused_zero _ b _ e x)
refused q b (Asked.moves s u l m e) x = absurd (refused_zero _ b _ e x)
refused q b (Asked.advances s u l f o e) x = absurd (refused_zero _ b _ e x)
refused q b (Asked.makes s u l a f g y p e) x = absurd (refused_zero _ b _ e x)
refused q b (Asked.loads s u l m th e) x = absurd (refused_zero _ b _ e x)
refused q b (Asked.stores_data s u l m th d e) x = absurd (refused_zero _ b _ e x)
refused q b (Asked.stores_late s u l m th d p e) x = absurd (refused_zero _ b _ e x)
refused q b (Asked.stores_marked s u l m th d p a y t e) x = absurd (refused_zero _ b _ e x)
refused q b (Asked.stores_unmarked s u l m th d p a y t f e) x = absurd (refused_zero _ b _ e x)
refused q b (Asked.gives_size s u l m d y e) x = absurd (refused_zero _ b _ e x)
refused q b (Asked.gives_nil_size s u l m d y e) x = absurd (refused_zero _ b _ e x)
refused q b (Asked.gives_tag s u l m d y p e) x = absurd (refused_zero _ b _ e x)
refused q b (Asked.gives_nil_tag s u l m d y e) x = absurd (refused_zero _ b _ e x)
refused q b (Asked.compares s u l m n e) x = absurd (refused_zero _ b _ e x)

pub request_refused : (q : Request) (b : Box) → Refused (request q b).answer → (request q b).box ≡ b
request_refused q b = refused q b (asked q b)

pub only_hold_set : (r n tag : ℕ) (b : Box) → (request (Getm r n tag) b).answer ≡ 7
    → (request (Getm r n tag) b).box ≡ with_hold (waiting r n tag) b
unfolding put_on_hold
only_hold_set r n tag b x = go (asked (Getm r n tag) b)
  where
    seven : (c : Box) (a : ℕ) → request (Getm r n tag) b ≡ reply c a → a ≡ 7
    seven c a e = sym (ap (λ (r : Reply). r.answer) e) ∙ x

    go : Asked b (Getm r n tag) → (request (Getm r n tag) b).box ≡ with_hold (waiting r n tag) b
    go (Asked.refuses_unsound s e) = absurd (omega (arith, seven b 9 e))
    go (Asked.refuses a u y z g e) = absurd (y (seven b a e))
    go (Asked.refuses_lost s u o g e) = absurd (omega (arith, seven b 9 e))
    go (Asked.holds s u l a o e) = ap (λ (r : Reply). r.box) e
    go (Asked.makes s u l a f g y p e) = absurd (omega (arith, seven _ 0 e))
