-- `store` meets its contract: the definition at what `find_word` found. Assumes nothing.
use mathlib.Core.Path.{◌∙◌}
use Rattle.std.proofs.lemmas.Result.{err_from_is_err_and}
use Rattle.rules.specs.Parts.{Word, Box}
use Rattle.rules.specs.Request.{store_word}
use Rattle.collector.specs.Boxed.{word_of}
use Rattle.lent.specs.Lent.{box_of}
use Rattle.requests.proofs.Findings.{stored}
use Rattle.requests.proofs.storing.store.Goals as goal

pub returns-in_err-slot-clause-answered : goal.returns-in_err-slot-clause-answered
returns-in_err-slot-clause-answered c =
    let a = c.args in
    let b : Box = box_of a.unit.now in
    let v : Word = word_of c.register-word.result in
    let p = err_from_is_err_and c.from_residual.result c.from_residual.ensures.1 in
    rw (p.1, p.2) (stored a.r a.s a.k b (word_of c.register-pointer.result) _ c.register-pointer.ensures v c.register-word.ensures (c.in_err-slot.ensures.found (λ h y. store_word v h y b)))

pub returns-clause-answered : goal.returns-clause-answered
returns-clause-answered c =
    let a = c.args in
    let b : Box = box_of a.unit.now in
    let v : Word = word_of c.register-word.result in
    c.store_word.ensures.answered ∙ stored a.r a.s a.k b (word_of c.register-pointer.result) _ c.register-pointer.ensures v c.register-word.ensures (c.in_ok-slot.ensures.found (λ h y. store_word v h y b))
