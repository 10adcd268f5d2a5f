-- How a look at the registers passes one over.
use Rattle.std.specs.Prelude.{Bool, not, ◌&&◌, ◌||◌}
use Rattle.rules.specs.Parts.{Word, Box}
use Rattle.rules.specs.Box.{handle_of, names_tuple, marked, is_entry}

-- a register's word is passed over when roots are looked for: it names no tuple, or a marked one
unfoldable pub passed_over : Word → Box → Bool
passed_over w b = not (names_tuple w) || is_entry (handle_of w) b && marked (handle_of w) b
