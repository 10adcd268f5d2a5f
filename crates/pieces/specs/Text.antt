-- Answers as text: in decimal, one a line.
use Rattle.std.specs.Prelude.{ℕ, zero, suc, ◌+◌, ◌/◌, ◌%◌, cond, List, [], ◌∷◌, ◌++◌, ltb}

-- the character of a digit
abbrev pub digit : ℕ → ℕ
digit d = 48 + d

-- a number's digits, where k more may stand before the last
unfoldable pub digits : ℕ → ℕ → List ℕ
digits zero n = digit n ∷ []
digits (suc k) n = cond (ltb n 10) (digit n ∷ []) (digits k (n / 10) ++ (digit (n % 10) ∷ []))

-- a number of 32 bits has at most ten digits
unfoldable pub decimal : ℕ → List ℕ
decimal n = digits 9 n

-- a number and a line feed
unfoldable pub line : ℕ → List ℕ
line a = decimal a ++ (10 ∷ [])

unfoldable pub text : List ℕ → List ℕ
text [] = []
text (a ∷ xs) = line a ++ text xs
