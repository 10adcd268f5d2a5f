-- `fields_of_kind` meets its contract: the code's table has the rows of the table of the rules, and a row is found or not by its number in
-- both. Assumes nothing.
use Prim.Native.Nat.{ℕ, zero, suc, ◌≤◌, ◌<◌}
use native.Mathlib.Nat.{le_of_suc-le-suc, not-suc-le-zero}
use mathlib.Core.List.{List, [], ◌∷◌}
use mathlib.Core.Option.{some, none}
use mathlib.Core.Path.{◌≡◌, refl, ◌∙◌, ap}
use borrow.Author.Rules.{rules}
use denote.Ref.{Bor}
use lib.ListN.{length, get_or}
use Rattle.std.specs.Prelude.{Option, Some, None, option_copied}
use Rattle.std.specs.Slice.{IsItemAt}
use Rattle.record.specs.Fields.{row, kinds}
use Rattle.record.specs.Kinds.{fields_known}
use Rattle.record.proofs.kinds.fields_of_kind.Goals as goal

rows : List (Bor (List ℕ)) → List (List ℕ)
rows [] = []
rows (r ∷ rs) = r.now ∷ rows rs

row_past : (k : ℕ) (rs : List (Bor (List ℕ))) → length rs ≤ k → none ≡ row k (rows rs)
unfolding row rows
row_past k [] h = refl
row_past zero (r ∷ rs) h = absurd (not-suc-le-zero h)
row_past (suc k) (r ∷ rs) h = row_past k rs (le_of_suc-le-suc h)

row_at : (k : ℕ) (rs : List (Bor (List ℕ))) (d : Bor (List ℕ)) → k < length rs → some (get_or rs k d).now ≡ row k (rows rs)
unfolding row rows
row_at k [] d h = absurd (not-suc-le-zero h)
row_at zero (r ∷ rs) d h = refl
row_at (suc k) (r ∷ rs) d h = row_at k rs d (le_of_suc-le-suc h)

found : (k : ℕ) (rs : List (Bor (List ℕ))) (o : Option (Bor (Bor (List ℕ)))) → IsItemAt rs k o → fields_known (option_copied o) ≡ row k (rows rs)
found k rs None h = row_past k rs h.3
found k rs (Some x) h = ap (λ (r : Bor (List ℕ)). some r.now) h.1 ∙ row_at k rs x.now h.3.0

pub returns : goal.returns
unfolding kinds rows
returns c = ap fields_known c.copied.ensures ∙ search (rules, found)
