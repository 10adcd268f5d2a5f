-- `load` meets its contract: the definition at what `find_word` found. Assumes nothing.
use mathlib.Core.Path.{◌∙◌, ap}
use Rattle.std.proofs.lemmas.Result.{err_from_is_err_and}
use Rattle.rules.specs.Parts.{Word, Box}
use Rattle.rules.specs.Box.{put_register}
use Rattle.rules.specs.Place.{read}
use Rattle.rules.specs.Request.{done}
use Rattle.collector.specs.Boxed.{word_of}
use Rattle.lent.specs.Lent.{box_of}
use Rattle.requests.proofs.Findings.{loaded}
use Rattle.requests.proofs.reading.load.Goals as goal

pub returns-in_err-slot-clause-answered : goal.returns-in_err-slot-clause-answered
returns-in_err-slot-clause-answered c =
    let a = c.args in
    let b : Box = box_of a.unit.now in
    let p = err_from_is_err_and c.from_residual.result c.from_residual.ensures.1 in
    rw (p.1, p.2) (loaded a.r a.s a.k b (word_of c.register-pointer.result) _ c.register-pointer.ensures (c.in_err-slot.ensures.found (λ h y. done (put_register a.r (read y b) b))))

pub returns-clause-answered : goal.returns-clause-answered
returns-clause-answered c =
    let a = c.args in
    let b : Box = box_of a.unit.now in
    ap done c.put_register.ensures.written ∙ ap (λ (w : Word). done (put_register a.r w b)) c.read-word.ensures ∙ loaded a.r a.s a.k b (word_of c.register-pointer.result) _ c.register-pointer.ensures (c.in_ok-slot.ensures.found (λ h y. done (put_register a.r (read y b) b)))
