-- Every request leaves all as it should be, and none answers 9: by cases on the view of requests, each met by its lemma.
-- Assumes nothing.
use Prim.Native.Nat.{ℕ, ◌+◌}
use mathlib.Core.Bool.{true≢false, cond}
use mathlib.Core.Logic.{◌≢◌}
use mathlib.Core.Path.{◌≡◌, sym, ◌∙◌, subst}
use native.Mathlib.Omega.{arith}
use borrow.Author.Tests.{ne_eqb}
use Rattle.rules.specs.declared.kinds.Request.{Request}
use Rattle.rules.specs.declared.kinds.Request.TheVariants.{Setd, Nil, Move, Advance, Load, Size, Tag, Same}
use Rattle.rules.specs.Parts.{Box}
use Rattle.rules.specs.Box.{Reply, reply, data_word, pointer, offset_of, tag_of, register, size_of}
use Rattle.rules.specs.Place.{place, read}
use Rattle.rules.specs.Request.{same_word, request}
use Rattle.rules.specs.Answers.{named, number as number_in}
use Rattle.history.specs.Machine.{hold_request, History, feed, ask, do_request}
use Rattle.history.specs.Calls.{log_done, log_held, Log, given_by, log_request, RequestInWidth}
use Rattle.history.specs.Demand3.{NotNine}
use Rattle.history.proofs.Invariant.Statement.{Ghosts}
use Rattle.rules.proofs.View.Request.{Asked, place_of, asked}
use Rattle.history.proofs.Asking.InRange.{sound_box}
use Rattle.history.proofs.Asking.Registers.{register_takes_data, register_takes_nil, register_takes_register, register_advances, register_loads}
use Rattle.history.proofs.Asking.Store.{stores_late, stores_marked}
use Rattle.history.proofs.Relation.Registers.{related_setd, related_nil, related_move, related_advance, related_load, related_size, related_nil_size, related_tag, related_nil_tag, related_same}
use Rattle.history.proofs.Good.Statement.{Good}
use Rattle.history.proofs.Good.Carried.{good_hold, good_register, good_new, good_store_data, good_store_deep, good_store_shaded}
use Rattle.history.proofs.Invariant.Theorems.{never_loss}

-- ---- what is to be shown of a reply

pub record GoodReply (m h : ℕ) (q : Request) (r : Reply) (t : History) (l : Log) : Type 0 where
  pub not_nine : NotNine r.answer
  pub good : Good m h r.box (feed (ask q) r.answer t) (log_request q r.answer r.box (feed (ask q) r.answer t) l)

-- carried out
done_reply : (m h : ℕ) (q : Request) (c : Box) (t : History) (l : Log) → Good m h c (do_request q t) (log_done q c l) → GoodReply m h q (reply c 0) t l
unfolding feed log_request
done_reply m h q c t l k = record { not_nine = omega arith; good = k }

-- put on hold
held_reply : (m h : ℕ) (q : Request) (c : Box) (t : History) (l : Log) → Good m h c (hold_request q t) (log_held (hold_request q t) l) → GoodReply m h q (reply c 7) t l
unfolding feed log_request
held_reply m h q c t l k = record { not_nine = omega arith; good = k }

-- refused
refused_reply : (m h : ℕ) (q : Request) (b : Box) (t : History) (l : Log) (a : ℕ) → a ≢ 0 → a ≢ 7 → NotNine a → Good m h b t l → GoodReply m h q (reply b a) t l
unfolding feed log_request
refused_reply m h q b t l a z s n k = record { not_nine = n; good = simp (ne_eqb a 0 z, ne_eqb a 7 s) k }

module _ (m h : ℕ) (b : Box) (t : History) (l : Log) (k : Good m h b t l) where
  abbrev g : Ghosts
  g = k.ghosts

  carried : {q : Request} {c : Box} → request q b ≡ reply c 0 → Good m h c (do_request q t) (log_done q c l) → GoodReply m h q (request q b) t l
  carried {q} {c} e x = subst (λ (r : Reply). GoodReply m h q r t l) (sym e) (done_reply m h q c t l x)

  held : {q : Request} {c : Box} → request q b ≡ reply c 7 → Good m h c (hold_request q t) (log_held (hold_request q t) l) → GoodReply m h q (request q b) t l
  held {q} {c} e x = subst (λ (r : Reply). GoodReply m h q r t l) (sym e) (held_reply m h q c t l x)

  by_view : (q : Request) → RequestInWidth q → Asked b q → GoodReply m h q (request q b) t l
  unfolding given_by
  by_view q w (Asked.refuses_unsound s e) = absurd (true≢false (sym (sound_box b g k.inv) ∙ s))
  by_view q w (Asked.refuses a x y z o e) = subst (λ (r : Reply). GoodReply m h q r t l) (sym e) (refused_reply m h q b t l a x y (omega (arith, z)) k)
  by_view q w (Asked.refuses_lost s u o z e) = absurd (never_loss b g k.inv o)
  by_view q w (Asked.holds {r} {n} {t = tag} s u lr a o e) = held e (good_hold m h b t l k r n tag lr w.2 u)
  by_view q w (Asked.sets_data {r} {v} s u lr e) =
      carried e
      (good_register m h b t l k u (Setd r v) r (data_word v)
      (register_takes_data b g k.inv r v lr)
      (related_setd b g t l.given k.number k.inv k.related k.eight r v lr))
  by_view q w (Asked.sets_nil {r} s u lr e) =
      carried e
      (good_register m h b t l k u (Nil r) r (pointer 0 0) (register_takes_nil b g k.inv r lr)
      (related_nil b g t l.given k.number k.inv k.related k.eight r lr))
  by_view q w (Asked.moves {r} {s = i} s u lr li e) =
      carried e
      (good_register m h b t l k u (Move r i) r (register i b)
      (register_takes_register b g k.inv r i lr li)
      (related_move b g t l.given k.number k.inv k.related k.eight r i lr li))
  by_view q w (Asked.advances {r} {n} s u lr f o e) =
      carried e
      (good_register m h b t l k u (Advance r n) r
      (pointer (named r b) (offset_of (register r b) + n))
      (register_advances b g k.inv r n lr f o)
      (related_advance b g t l.given k.number k.inv k.related k.eight r n lr f o))
  by_view q w (Asked.makes {r} {n} {t = tag} s u lr a fr fit y p e) = carried e (good_new m h b t l k u r n tag lr w.2 fr fit)
  by_view q w (Asked.loads {r} {s = i} {k = n} s u lr li th e) =
      carried e
      (good_register m h b t l k u (Load r i n) r (read (place_of i n b) b)
      (register_loads b g k.inv r (named i b) (number_in i n b) lr (k.inv.contents.roots_kept i li th.is_pointer) th.inside)
      (related_load b g t l.given k.number k.inv k.related k.eight r i n lr li th))
  by_view q w (Asked.stores_data {r} {s = i} {k = n} s u lr li th d e) = carried e (good_store_data m h b t l k u r i n lr li th d)
  by_view q w (Asked.stores_late {r} {s = i} {k = n} s u lr li th d p e) =
      carried e
      (good_store_deep m h b t l k u r i n lr li th
      (stores_late b g k.inv (named i b) (number_in i n b) (k.inv.contents.roots_kept i li th.is_pointer) th.inside (register r b) (k.inv.contents.roots_kept r lr d) p))
  by_view q w (Asked.stores_marked {r} {s = i} {k = n} s u lr li th d p a y x e) =
      carried e
      (good_store_deep m h b t l k u r i n lr li th
      (stores_marked b g k.inv (named i b) (number_in i n b) (k.inv.contents.roots_kept i li th.is_pointer) th.inside (register r b) (k.inv.contents.roots_kept r lr d) x))
  by_view q w (Asked.stores_unmarked {r} {s = i} {k = n} s u lr li th d p a y x f e) =
      carried e
      (good_store_shaded m h b t l k u r i n lr li th d p a)
  by_view q w (Asked.gives_size {r} {s = i} s u lr li d y e) =
      carried e
      (good_register m h b t l k u (Size r i) r (data_word (size_of (named i b) b))
      (register_takes_data b g k.inv r (size_of (named i b) b) lr)
      (related_size b g t l.given k.number k.inv k.related k.eight r i lr li d))
  by_view q w (Asked.gives_nil_size {r} {s = i} s u lr li d y e) =
      carried e
      (good_register m h b t l k u (Size r i) r (data_word 0)
      (register_takes_data b g k.inv r 0 lr)
      (related_nil_size b g t l.given k.number k.inv k.related k.eight r i lr li d y))
  by_view q w (Asked.gives_tag {r} {s = i} s u lr li d y p e) =
      carried e
      (good_register m h b t l k u (Tag r i) r
      (data_word (tag_of (read (place (named i b) 0 b) b)))
      (register_takes_data b g k.inv r (tag_of (read (place (named i b) 0 b) b)) lr)
      (related_tag b g t l.given k.number k.inv k.related k.eight r i lr li d))
  by_view q w (Asked.gives_nil_tag {r} {s = i} s u lr li d y e) =
      carried e
      (good_register m h b t l k u (Tag r i) r (data_word 0)
      (register_takes_data b g k.inv r 0 lr)
      (related_nil_tag b g t l.given k.number k.inv k.related k.eight r i lr li d y))
  by_view q w (Asked.compares {r} {s = i} {t = j} s u lr li lj e) =
      carried e
      (good_register m h b t l k u (Same r i j) r
      (data_word (cond (same_word (register i b) (register j b)) 1 0))
      (register_takes_data b g k.inv r (cond (same_word (register i b) (register j b)) 1 0) lr)
      (related_same b g t l.given k.number k.inv k.related k.eight r i j lr li lj))

  pub good_request : (q : Request) → RequestInWidth q → GoodReply m h q (request q b) t l
  good_request q w = by_view q w (asked q b)
