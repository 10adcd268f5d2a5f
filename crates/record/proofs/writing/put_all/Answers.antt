-- `writing::put_all` meets its contract: the edition with M and H is an entry, and the records are behind it. Assumes nothing.
use mathlib.Core.Path.{◌∙◌}
use borrow.Author.Rules.{rules}
use Rattle.std.proofs.lemmas.Result.{err_from_is_err_and}
use Rattle.record.proofs.WritingAll.{all_missing, all_stopped, all_taken}
use Rattle.record.proofs.writing.put_all.Goals as goal

pub returns-then-is_empty : goal.returns-then-is_empty
returns-then-is_empty c = all_missing _ _ (search rules)

pub returns-in_err-took : goal.returns-in_err-took
returns-in_err-took c =
    let p = err_from_is_err_and c.from_residual.result c.from_residual.ensures.1 in
    rw (p.1, p.2) (all_stopped (search rules) c.fields_of_edition-fields.ensures c.in_err-took.ensures)

pub returns : goal.returns
returns c = c.put_records.ensures ∙ all_taken (search rules) c.fields_of_edition-fields.ensures c.in_ok-took.ensures
