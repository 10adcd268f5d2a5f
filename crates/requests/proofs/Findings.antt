-- LOAD and STORE are their definitions at what was found behind a register's word: w is that word, as it was read. By rewriting. Assumes
-- nothing.
use Prim.Native.Nat.{ℕ}
use mathlib.Core.Path.{◌≡◌}
use Rattle.rules.specs.Parts.{Word, Box}
use Rattle.rules.specs.Box.{Reply, reply, register, put_register}
use Rattle.rules.specs.Place.{read}
use Rattle.rules.specs.Request.{done, at_tuple, at_word, word_number, store_word, load, store}

module _ (r s k : ℕ) (b : Box) (w : Word) (x : Reply) (q : w ≡ register s b) where
  pub loaded : x ≡ at_tuple w b (reply b 3) (λ h. at_word h (word_number w k) b (λ p. done (put_register r (read p b) b))) → x ≡ load r s k b
  unfolding load
  loaded e = rw q at e

  pub stored : (v : Word) → v ≡ register r b → x ≡ at_tuple w b (reply b 3) (λ h. at_word h (word_number w k) b (λ p. store_word v h p b)) → x ≡ store r s k b
  unfolding store
  stored v p e = rw (q, p) at e
