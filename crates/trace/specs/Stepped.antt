-- What single steps, each with its answer as a line, leave of the box and of the output.
use Rattle.std.specs.Prelude.{ℕ, ◌+◌, List, ◌≡◌, length}
use Rattle.std.proofs.lemmas.List.Edits.{sets}
use Rattle.rules.specs.Parts.{Box}
use Rattle.pieces.specs.Lines.{play_steps}
use Rattle.pieces.specs.Text.{text}

-- so many single steps were done, and their answers are lines of the output
pub record Stepped (many : ℕ) (o o1 : List ℕ) (b b1 : Box) (n n1 : ℕ) : Type 0 where
  pub box_is : b1 ≡ (play_steps many b).box
  pub out_is : o1 ≡ sets o n (text (play_steps many b).lines)
  pub end_is : n1 ≡ n + length (text (play_steps many b).lines)
