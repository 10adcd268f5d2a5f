-- The relation with the history machine is kept where nothing that it speaks of changes: by every step of the collector that
-- makes no tuple (`Calm`), and by a request that writes a register. Assumes nothing.
use Prim.Native.Nat.{ℕ, ◌+◌, ◌≤◌, ◌<◌, zero-le}
use mathlib.Core.List.{List}
use mathlib.Core.Path.{◌≡◌, sym, ◌∙◌, ap, subst}
use native.Mathlib.Decide.{ℕ_discrete}
use native.Mathlib.Omega.{arith}
use lib.ListN.{length}
use lib.Seq.{get_or-set_same, get_or-set_other}
use Rattle.rules.specs.Limits.{register_count}
use Rattle.rules.specs.Parts.{Word, Box}
use Rattle.rules.specs.Box.{tag_of, register, put_register, size_of}
use Rattle.history.specs.Machine.{HWord, datum, History, register_of, put_in, word_of}
use Rattle.history.proofs.Invariant.Statement.{Plan, Kept, Shape}
use Rattle.history.proofs.Invariant.Frame.{Calm}
use Rattle.history.proofs.Relation.Statement.{Match, Holds, Related}
use Rattle.history.proofs.Asking.Registers.{put_word, put_kept_to, register_put_same, register_put_other}

-- ---- the collector

pub related_calm : (b c : Box) (p q : Plan) (m : History) (given : List ℕ) (number : ℕ → ℕ) → Calm b p c q → c.h ≡ b.h
    → Related b p m given number → Related c q m given number
related_calm b c p q m given number s e i =
    record {
      roots_match = λ r l. subst (λ (w : Word). Match number w (register_of r m)) (sym (s.roots_same r)) (i.roots_match r l);
      kept_hold = held;
      nil_number = i.nil_number;
      all_given = i.all_given;
      given_entry = λ n l u. ((i.given_entry n l u).0, rw e (i.given_entry n l u).1);
      number_latest = i.number_latest;
    }
  where
    held : (h : ℕ) → Kept c q h → Holds c m given number h
    held h k =
        let y : Holds b m given number h = i.kept_hold h (s.kept_to h k) in
        let z : size_of h c ≡ size_of h b = s.sizes_same h k in
        record {
          number_made = y.number_made;
          handle_given = y.handle_given;
          size_same = z ∙ y.size_same;
          tag_same = ap tag_of (s.words_same h k 0 zero-le) ∙ y.tag_same;
          words_match = λ n l. let u : n < size_of h b = subst (λ (x : ℕ). n < x) z l in let v : n + 1 ≤ size_of h b = omega arith in subst (λ (w : Word). Match number w (word_of (number h) n m)) (sym (s.words_same h k (n + 1) v)) (y.words_match n u);
        }

-- ---- a register

-- register r takes a word on both sides
pub related_put : (r : ℕ) (w : Word) (v : HWord) (b : Box) (p : Plan) (m : History) (given : List ℕ) (number : ℕ → ℕ) → Shape b
    → length m.registers ≡ register_count → r < register_count
    → Match number w v → Related b p m given number → Related (put_register r w b) p (put_in r v m) given number
related_put r w v b p m given number sh lm l e i =
    record { roots_match = roots; kept_hold = held; nil_number = i.nil_number; all_given = i.all_given; given_entry = i.given_entry; number_latest = i.number_latest }
  where
    roots : (s : ℕ) → s < register_count → Match number (register s (put_register r w b)) (register_of s (put_in r v m))
    roots s u = go (ℕ_discrete s r)
      where
        go : Dec (s ≡ r) → Match number (register s (put_register r w b)) (register_of s (put_in r v m))
        go (yes q) =
            subst (λ (x : ℕ). Match number (register x (put_register r w b)) (register_of x (put_in r v m))) (sym q)
            (subst (λ (x : Word). Match number x (register_of r (put_in r v m))) (sym (register_put_same r w b sh l))
            (subst (λ (y : HWord). Match number w y) (sym (get_or-set_same m.registers r v (datum 0) (rw lm l))) e))
        go (no n) =
            subst (λ (x : Word). Match number x (register_of s (put_in r v m))) (sym (register_put_other r w b s n))
            (subst (λ (y : HWord). Match number (register s b) y) (sym (get_or-set_other m.registers r s v (datum 0) n)) (i.roots_match s u))

    held : (h : ℕ) → Kept (put_register r w b) p h → Holds (put_register r w b) (put_in r v m) given number h
    held h k =
        let y : Holds b m given number h = i.kept_hold h (put_kept_to r w b p h k) in
        record {
          number_made = y.number_made;
          handle_given = y.handle_given;
          size_same = y.size_same;
          tag_same = ap tag_of (put_word r w b h 0) ∙ y.tag_same;
          words_match = λ n u. subst (λ (x : Word). Match number x (word_of (number h) n m)) (sym (put_word r w b h (n + 1))) (y.words_match n u);
        }
