-- The refusals by document 01's numbers, and what a request answers.
use Rattle.std.specs.Prelude.{ℕ, Result, Ok, Err}
use Rattle.requests.specs.declared.refusal.Refusal.{Refusal}
use Rattle.requests.specs.declared.refusal.Refusal.TheVariants.{NoRegister, Data, Beyond, TooFar, TooLarge, Held, NoRoom, Outside}

abbrev pub number : Refusal → ℕ
number NoRegister = 1
number Data = 2
number Beyond = 3
number TooFar = 4
number TooLarge = 5
number Held = 6
number NoRoom = 7
number Outside = 9

-- 0 where it was done, and else the number of what refuses it
abbrev pub answer_of : Result Unit Refusal → ℕ
answer_of (Ok _) = 0
answer_of (Err e) = number e
