-- Document 01, "When the machine says no": a table for each kind of call, its rows in the document's order. A row is a condition
-- and a number, and the number of the first row whose condition holds is given. The conditions speak of what the call names and of what the
-- box holds, and not of what a rule leaves or answers; only the run's speak of its single steps' answers.
use Rattle.std.specs.Prelude.{ℕ, zero, suc, ◌+◌, ◌≤◌, ◌<◌, true, false, cond, ◌≢◌, ◌⊎◌, ◌≡◌, eqb, length}
use Rattle.rules.specs.declared.kinds.Request.{Request}
use Rattle.rules.specs.declared.kinds.Request.TheVariants.{Setd, Nil, Move, Advance, Getm, Load, Store, Size, Tag, Same}
use Rattle.rules.specs.Limits.{least_words, most_words, least_entries, most_entries, register_count, half_word, last_phase}
use Rattle.rules.specs.Parts.{Word, Box}
use Rattle.rules.specs.Box.{handle_of, offset_of, names_tuple, register, address, size_of, marked}
use Rattle.rules.specs.Collector.{step}
use Rattle.rules.specs.Run.{after_steps}

-- ---- rows

-- a is n where the condition holds, and else what the rows below give
pub data When (C : Type 0) (n : ℕ) (below : ℕ → Type 0) (a : ℕ) : Type 0 where
  holds : C → a ≡ n → When C n below a
  passed : ¬ C → below a → When C n below a

-- the last row: n in all other cases
pub data Otherwise (n a : ℕ) : Type 0 where
  given : a ≡ n → Otherwise n a

-- ---- wrong sizes, lengths or phase

-- the lent columns have the lengths m and h
pub record Lengths (m h : ℕ) (b : Box) : Type 0 where
  pub words : length b.memory.words ≡ m
  pub flags : length b.memory.flags ≡ m
  pub addresses : length b.directory.addresses ≡ h
  pub sizes : length b.directory.sizes ≡ h
  pub links : length b.directory.links ≡ h
  pub marks : length b.directory.marks ≡ h
  pub deeps : length b.directory.deeps ≡ h

-- M and H are in range and are the lent lengths
pub record RightSizes (m h : ℕ) (b : Box) : Type 0 where
  pub words_in_range : (least_words ≤ m) × (m ≤ most_words)
  pub entries_in_range : (least_entries ≤ h) × (h ≤ most_entries)
  pub lengths : Lengths m h b

-- and the phase is 0 to 8
pub record Right (b : Box) : Type 0 where
  pub right_sizes : RightSizes b.m b.h b
  pub right_phase : b.collector.phase ≤ last_phase

-- ---- the opening

abbrev pub OpeningGives : ℕ → ℕ → Box → ℕ → Type 0
OpeningGives m h b = When (¬ RightSizes m h b) 10 (Otherwise 0)

-- ---- what is looked up, touched and formed

-- a handle can be looked up: it is in 1 to H-1
abbrev pub Entry : ℕ → Box → Type 0
Entry h b = (1 ≤ h) × (h < b.h)

-- the tuple that a register points to, and the number of the word that its offset and k name
abbrev pub named : ℕ → Box → ℕ
named s b = handle_of (register s b)

abbrev pub number : ℕ → ℕ → Box → ℕ
number s k b = offset_of (register s b) + k

-- h is the tuple being moved; its index i is in the copy register; its index i has been moved already
abbrev pub Moving : ℕ → Box → Type 0
Moving h b = (h ≡ b.collector.tuple) × (5 ≤ b.collector.phase) × (b.collector.phase ≤ 7)

abbrev pub InCopy : ℕ → ℕ → Box → Type 0
InCopy h i b = Moving h b × (6 ≤ b.collector.phase) × (i ≡ b.collector.index)

abbrev pub Moved : ℕ → ℕ → Box → Type 0
Moved h i b = Moving h b × (i < b.collector.index)

-- index i of tuple h is at an address at or above M
abbrev pub OutOfMemory : ℕ → ℕ → Box → Type 0
OutOfMemory h i b = (¬ InCopy h i b) × ((Moved h i b × (b.m ≤ b.collector.dest + i)) ⊎ ((¬ Moved h i b) × (b.m ≤ address h b + i)))

-- tuple h can't be shaded: it can't be looked up, or it is unmarked and the total in live would be above M
abbrev pub Unshadable : ℕ → Box → Type 0
Unshadable h b = (¬ Entry h b) ⊎ ((marked h b ≡ false) × (b.m < b.collector.live + size_of h b + 1))

-- there is no room for a tuple of n words: no free handle, or top + n + 1 above M
abbrev pub NoRoom : ℕ → Box → Type 0
NoRoom n b = (b.free ≡ 0) ⊎ (b.m < b.top + n + 1)

-- ---- requests

-- 1: a register above 7
abbrev pub NoRegister : ℕ → Type 0
NoRegister r = register_count ≤ r

abbrev pub WrongRegister : Request → Type 0
WrongRegister (Setd r v) = NoRegister r
WrongRegister (Nil r) = NoRegister r
WrongRegister (Move r s) = NoRegister r ⊎ NoRegister s
WrongRegister (Advance r n) = NoRegister r
WrongRegister (Getm r n t) = NoRegister r
WrongRegister (Load r s k) = NoRegister r ⊎ NoRegister s
WrongRegister (Store r s k) = NoRegister r ⊎ NoRegister s
WrongRegister (Size r s) = NoRegister r ⊎ NoRegister s
WrongRegister (Tag r s) = NoRegister r ⊎ NoRegister s
WrongRegister (Same r s t) = (NoRegister r ⊎ NoRegister s) ⊎ NoRegister t

-- 5: n + 1 above M
abbrev pub TooLarge : ℕ → Box → Type 0
TooLarge n b = b.m < n + 1

-- 2: data where a pointer is wanted
abbrev pub HasData : ℕ → Box → Type 0
HasData s b = (register s b).flag ≡ false

-- 4: past 65,535
abbrev pub TooFar : ℕ → ℕ → Box → Type 0
TooFar r n b = half_word ≤ offset_of (register r b) + n

-- 3: offset + k at or above the size, once the handle can be looked up; nil always
abbrev pub NoWord : ℕ → ℕ → Box → Type 0
NoWord s k b = (named s b ≡ 0) ⊎ (Entry (named s b) b × (size_of (named s b) b ≤ number s k b))

-- 9: a handle outside 1 to H-1 is looked up, an address at or above M touched, a total above M formed. GETM: the free handle, and
-- outside Rest the total in live
abbrev pub NewLost : ℕ → Box → Type 0
NewLost n b = (¬ Entry b.free b) ⊎ ((b.collector.phase ≢ 0) × (b.m < b.collector.live + n + 1))

-- LOAD, STORE: the tuple, and its word
abbrev pub WordLost : ℕ → ℕ → Box → Type 0
WordLost s k b = (¬ Entry (named s b) b) ⊎ OutOfMemory (named s b) (number s k b + 1) b

-- STORE: the target of a non-nil pointer, which is shaded in phase 1, 2 or 3
abbrev pub ShadeLost : Word → Box → Type 0
ShadeLost w b = (names_tuple w ≡ true) × (1 ≤ b.collector.phase) × (b.collector.phase ≤ 3) × Unshadable (handle_of w) b

-- SIZE: the tuple; TAG: also its control word. Nil is not looked up
abbrev pub SizeLost : ℕ → Box → Type 0
SizeLost s b = (named s b ≢ 0) × (¬ Entry (named s b) b)

abbrev pub TagLost : ℕ → Box → Type 0
TagLost s b = (named s b ≢ 0) × ((¬ Entry (named s b) b) ⊎ OutOfMemory (named s b) 0 b)

-- what a request that names registers 0 to 7 is given while none is held: of document 01's order 5, 2, 4, 3, 7, 9 the rows that its kind
-- can come to
abbrev pub KindGives : Request → Box → ℕ → Type 0
KindGives (Setd r v) b = Otherwise 0
KindGives (Nil r) b = Otherwise 0
KindGives (Move r s) b = Otherwise 0
KindGives (Advance r n) b = When (HasData r b) 2 (When (TooFar r n b) 4 (Otherwise 0))
KindGives (Getm r n t) b = When (TooLarge n b) 5 (When (NoRoom n b) 7 (When (NewLost n b) 9 (Otherwise 0)))
KindGives (Load r s k) b = When (HasData s b) 2 (When (NoWord s k b) 3 (When (WordLost s k b) 9 (Otherwise 0)))
KindGives (Store r s k) b = When (HasData s b) 2 (When (NoWord s k b) 3 (When (WordLost s k b ⊎ ShadeLost (register r b) b) 9 (Otherwise 0)))
KindGives (Size r s) b = When (HasData s b) 2 (When (SizeLost s b) 9 (Otherwise 0))
KindGives (Tag r s) b = When (HasData s b) 2 (When (TagLost s b) 9 (Otherwise 0))
KindGives (Same r s t) b = Otherwise 0

abbrev pub RequestGives : Request → Box → ℕ → Type 0
RequestGives q b =
    When (¬ Right b) 9
    (When (WrongRegister q) 1
    (When (b.hold.held ≡ true) 6
    (KindGives q b)))

-- ---- single steps, by phase

-- the registers are looked up from 0 upward: one that is data or nil or points to a marked tuple is passed over
abbrev pub Passed : ℕ → Box → Type 0
Passed r b = names_tuple (register r b) ≡ true → Entry (named r b) b × (marked (named r b) b ≡ true)

-- the first that is not passed over points to a tuple that can't be shaded
pub record RootLost (b : Box) : Type 0 where
  pub root : ℕ
  pub is_register : root < register_count
  pub passed_before : (q : ℕ) → q < root → Passed q b
  pub points : names_tuple (register root b) ≡ true
  pub lost : Unshadable (named root b) b

-- after, the word behind the tuple at src: by its entry's size in phase 4, and then by the size taken from there
abbrev pub after_entry : Box → ℕ
after_entry b = b.collector.src + size_of b.collector.tuple b + 1

abbrev pub after_tuple : Box → ℕ
after_tuple b = b.collector.src + b.collector.size + 1

-- the word at src + index is at an address at or above M
abbrev pub SourceLost : Box → Type 0
SourceLost b = b.m ≤ b.collector.src + b.collector.index

-- after is above M, or the sweep goes on there and it is M
abbrev pub AfterLost : ℕ → Box → Type 0
AfterLost a b = (b.m < a) ⊎ ((a ≢ b.top) × (b.m ≤ a))

-- 9 in phase 1: the head of the next list, or a register's tuple
abbrev pub NextLost : Box → Type 0
NextLost b = ((b.collector.next ≢ 0) × (¬ Entry b.collector.next b)) ⊎ ((b.collector.next ≡ 0) × RootLost b)

-- in 2: the word under the scan, or the head of the current list
abbrev pub ScanLost : Box → Type 0
ScanLost b =
    ((b.collector.index ≤ b.collector.size) × SourceLost b)
    ⊎ ((b.collector.size < b.collector.index) × (b.collector.current ≢ 0) × (¬ Entry b.collector.current b))

-- in 4: the tuple, after, and where the sweep goes on at after, behind a tuple kept in place or freed
abbrev pub SweepLost : Box → Type 0
SweepLost b =
    (¬ Entry b.collector.tuple b)
    ⊎ ((b.m < after_entry b)
    ⊎ (((marked b.collector.tuple b ≡ true) × (b.collector.src ≡ b.collector.dest) × (after_entry b ≢ b.top) × (b.m ≤ after_entry b))
    ⊎ ((marked b.collector.tuple b ≡ false) × (b.collector.src + size_of b.collector.tuple b < b.collector.live) × (b.m ≤ after_entry b))))

-- in 5: the word to be copied, or, behind the last, the tuple's entry, dest + size + 1 and after
abbrev pub ReadLost : Box → Type 0
ReadLost b =
    ((b.collector.index ≤ b.collector.size) × SourceLost b)
    ⊎ ((b.collector.size < b.collector.index)
    × ((¬ Entry b.collector.tuple b) ⊎ ((b.m < b.collector.dest + b.collector.size + 1) ⊎ AfterLost (after_tuple b) b)))

-- in 8: the word to be cleared, or, behind the last, after
abbrev pub ZeroLost : Box → Type 0
ZeroLost b =
    ((b.collector.index ≤ b.collector.size) × SourceLost b)
    ⊎ ((b.collector.size < b.collector.index) × AfterLost (after_tuple b) b)

-- 9, by phase: what its rule looks up, touches and forms. Rest does nothing of the kind
abbrev pub StepLost : ℕ → Box → Type 0
StepLost zero b = ⊥
StepLost (suc zero) b = NextLost b
StepLost (suc (suc zero)) b = ScanLost b
StepLost (suc (suc (suc zero))) b = Unshadable b.collector.tuple b
StepLost (suc (suc (suc (suc zero)))) b = SweepLost b
StepLost (suc (suc (suc (suc (suc zero))))) b = ReadLost b
StepLost (suc (suc (suc (suc (suc (suc zero)))))) b = SourceLost b
StepLost (suc (suc (suc (suc (suc (suc (suc zero))))))) b = b.m ≤ b.collector.dest + b.collector.index
StepLost (suc (suc (suc (suc (suc (suc (suc (suc zero)))))))) b = ZeroLost b
StepLost (suc (suc (suc (suc (suc (suc (suc (suc (suc p))))))))) b = ⊥

-- the cycle ends in phase 1: nothing is left to mark, and the heap is empty
abbrev pub EmptyHeap : Box → Type 0
EmptyHeap b = (b.collector.next ≡ 0) × ((r : ℕ) → r < register_count → Passed r b) × (b.top ≡ 0)

-- in 4: the last tuple is kept in place
abbrev pub KeptLast : Box → Type 0
KeptLast b = (marked b.collector.tuple b ≡ true) × (b.collector.src ≡ b.collector.dest) × (after_entry b ≡ b.top)

-- in 5 and 8: the last tuple has been moved or zeroed
abbrev pub PassedLast : Box → Type 0
PassedLast b = (b.collector.size < b.collector.index) × (after_tuple b ≡ b.top)

-- the step ends the cycle, by phase
abbrev pub StepEnds : ℕ → Box → Type 0
StepEnds zero b = ⊥
StepEnds (suc zero) b = EmptyHeap b
StepEnds (suc (suc zero)) b = ⊥
StepEnds (suc (suc (suc zero))) b = ⊥
StepEnds (suc (suc (suc (suc zero)))) b = KeptLast b
StepEnds (suc (suc (suc (suc (suc zero))))) b = PassedLast b
StepEnds (suc (suc (suc (suc (suc (suc zero)))))) b = ⊥
StepEnds (suc (suc (suc (suc (suc (suc (suc zero))))))) b = ⊥
StepEnds (suc (suc (suc (suc (suc (suc (suc (suc zero)))))))) b = PassedLast b
StepEnds (suc (suc (suc (suc (suc (suc (suc (suc (suc p))))))))) b = ⊥

-- top as the end of the cycle leaves it: dest, which grows behind a tuple that was moved; else it stays
abbrev pub end_top : ℕ → Box → ℕ
end_top phase b = cond (eqb phase 5) (b.collector.dest + b.collector.size + 1) (cond (eqb phase 8) b.collector.dest b.top)

-- the held request does not fit at the end of the cycle
abbrev pub StillNoRoom : Box → Type 0
StillNoRoom b = (b.free ≡ 0) ⊎ (b.m < end_top b.collector.phase b + b.hold.size + 1)

-- it fits, but its register is above 7 or its handle can't be looked up
abbrev pub GrantLost : Box → Type 0
GrantLost b = NoRegister b.hold.register ⊎ (¬ Entry b.free b)

-- what a step that ends the cycle is given while a request is held; and any that ends it
abbrev pub HeldGives : Box → ℕ → Type 0
HeldGives b =
    When (StillNoRoom b × (b.hold.begun ≡ true)) 8
    (When (StillNoRoom b) 33
    (When (GrantLost b) 9
    (Otherwise 32)))

abbrev pub EndGives : Box → ℕ → Type 0
EndGives b = When (b.hold.held ≡ false) 31 (HeldGives b)

abbrev pub StepGives : Box → ℕ → Type 0
StepGives b =
    When (¬ Right b) 9
    (When (StepLost b.collector.phase b) 9
    (When (¬ StepEnds b.collector.phase b) 30
    (EndGives b)))

-- ---- runs

-- the answer of the single step after k others
abbrev pub answer_at : ℕ → Box → ℕ
answer_at k b = (step (after_steps k b)).answer

-- a run goes on after a step that answers 30 or 33
abbrev pub GoesOn : ℕ → Type 0
GoesOn a = (a ≡ 30) ⊎ (a ≡ 33)

abbrev pub AllGoOn : ℕ → Box → Type 0
AllGoOn n b = (k : ℕ) → k < n → GoesOn (answer_at k b)

-- within the budget, and after steps that all go on, there is one with an answer of this kind
pub record Reaches (P : ℕ → Type 0) (budget : ℕ) (b : Box) : Type 0 where
  pub before : ℕ
  pub within : before < budget
  pub all_go_on : AllGoOn before b
  pub then : P (answer_at before b)

abbrev pub Ended : ℕ → Type 0
Ended a = (a ≡ 31) ⊎ (a ≡ 32)

abbrev pub RunGives : ℕ → Box → ℕ → Type 0
RunGives budget b =
    When (¬ Right b) 9
    (When (Reaches Ended budget b) 0
    (When (Reaches (λ a. a ≡ 8) budget b) 8
    (When (Reaches (λ a. a ≡ 9) budget b) 9
    (Otherwise 11))))
