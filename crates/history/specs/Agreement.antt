-- Document 01, "The history machine": reachable, a tuple's handle, gone, agreement, and when tuples fit.
use Rattle.std.specs.Prelude.{ℕ, ◌+◌, ◌-◌, ◌≤◌, ◌<◌, true, false, List, [], ◌∷◌, ◌≢◌, ◌⊎◌, ◌≡◌, length, get_or}
use Rattle.rules.specs.Limits.{register_count}
use Rattle.rules.specs.Parts.{Word, Box}
use Rattle.rules.specs.Box.{handle_of, offset_of, tag_of, register, size_of, link}
use Rattle.rules.specs.Place.{place, read}
use Rattle.history.specs.Machine.{HWord, datum, pointer_to, History, register_of, tuple_of, size_at, word_of}

-- reachable: from a register by pointers held in tuple words, nil left out
pub data Reachable (m : History) : ℕ → Type 0 where
  by_register : (r i o : ℕ) → r < register_count → register_of r m ≡ pointer_to i o → i ≢ 0 → Reachable m i
  by_word : (i k j o : ℕ) → Reachable m i → k < size_at i m → word_of i k m ≡ pointer_to j o → j ≢ 0 → Reachable m j

-- the handle of tuple number i, given the handles of all tuples as they were made; nil has handle 0
abbrev pub handle_at : ℕ → List ℕ → ℕ
handle_at i given = get_or (0 ∷ given) i 0

-- x is in the list that begins with a head and goes along the links; head or link 0 ends it
pub data Listed (b : Box) (x : ℕ) : ℕ → Type 0 where
  here : x ≢ 0 → Listed b x x
  later : (h : ℕ) → h ≢ 0 → Listed b x (link h b) → Listed b x h

-- gone: its handle is in the free list, or was given to a later tuple
pub data Gone (b : Box) (given : List ℕ) (i : ℕ) : Type 0 where
  in_free_list : Listed b (handle_at i given) b.free → Gone b given i
  given_later : (j : ℕ) → i < j → j ≤ length given → handle_at j given ≡ handle_at i given → Gone b given i

-- ---- agreement

-- a word of the box and one of the history machine: the same data, or pointers with the same offset and the handle of the
-- tuple named
abbrev pub Matches : List ℕ → Word → HWord → Type 0
Matches given w (datum v) = (w.flag ≡ false) × (w.bits ≡ v)
Matches given w (pointer_to i o) = (w.flag ≡ true) × (offset_of w ≡ o) × (handle_of w ≡ handle_at i given)

-- tuple number i is under handle h: the same size, tag and words, found where document 01 says a word is
pub record Under (b : Box) (m : History) (given : List ℕ) (i h : ℕ) : Type 0 where
  pub size_agrees : size_of h b ≡ size_at i m
  pub tag_agrees : tag_of (read (place h 0 b) b) ≡ (tuple_of i m).tag
  pub words_agree : (k : ℕ) → k < size_at i m → Matches given (read (place h (k + 1) b) b) (word_of i k m)

pub record Agree (b : Box) (m : History) (given : List ℕ) : Type 0 where
  pub registers_agree : (r : ℕ) → r < register_count → Matches given (register r b) (register_of r m)
  pub tuples_agree : (i : ℕ) → Reachable m i → Under b m given i (handle_at i given)
  -- no reachable tuple has handle 0 or another's
  pub no_handle_nil : (i : ℕ) → Reachable m i → handle_at i given ≢ 0
  pub no_handle_shared : (i j : ℕ) → Reachable m i → Reachable m j → handle_at i given ≡ handle_at j given → i ≡ j

-- ---- lists of tuples, by their numbers

abbrev pub Member : ℕ → List ℕ → Type 0
Member i [] = ⊥
Member i (j ∷ js) = (i ≡ j) ⊎ Member i js

abbrev pub Distinct : List ℕ → Type 0
Distinct [] = Unit {0}
Distinct (j ∷ js) = ¬ Member j js × Distinct js

-- the list holds just the numbers with a property, each once
pub record Lists (P : ℕ → Type 0) (is : List ℕ) : Type 0 where
  pub distinct : Distinct is
  pub sound : (i : ℕ) → Member i is → P i
  pub complete : (i : ℕ) → P i → Member i is

-- size + 1 summed over a list of numbers
unfoldable pub room : List ℕ → History → ℕ
room [] m = 0
room (i ∷ is) m = size_at i m + 1 + room is m

-- the tuples of a list and one more of n words fit: in words, and in handles
pub record Fits (m h : ℕ) (is : List ℕ) (n : ℕ) (t : History) : Type 0 where
  pub words_fit : room is t + (n + 1) ≤ m
  pub handles_fit : length is + 1 ≤ h - 1
