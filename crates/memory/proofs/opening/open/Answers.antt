-- `open` equals the definition `opening`: each part is as its call leaves it. Assumes nothing.
use mathlib.Core.Path.{sym, ◌∙◌}
use Rattle.lent.specs.Lent.{box_of}
use Rattle.memory.proofs.Opened.{links_short, open_done}
use Rattle.memory.proofs.opening.open.Goals as goal

pub link_all-requires : goal.link_all-requires
link_all-requires c = let a = c.args in links_short a.m a.h (box_of a.unit.now) (sym c.right_sizes.ensures ∙ c.if-not-right_sizes.false)

pub returns-clause-answered : goal.returns-clause-answered
returns-clause-answered c =
    let a = c.args in
    let s = c.new_state in
    open_done a.m a.h (box_of a.unit.now) (sym c.right_sizes.ensures ∙ c.if-not-right_sizes.false) s.new.numbers s.new.switches s.new.hold c.fill.new.self c.fill-2.new.self c.fill-3.new.self c.fill-4.new.self c.link_all.new.links c.fill-5.new.self c.fill-6.new.self s.ensures.0 s.ensures.1 s.ensures.2
    (c.fill.ensures.after (λ y e. e)) (c.fill-2.ensures.after (λ y e. e)) (c.fill-3.ensures.after (λ y e. e)) (c.fill-4.ensures.after (λ y e. e)) c.link_all.ensures (c.fill-5.ensures.after (λ y e. e)) (c.fill-6.ensures.after (λ y e. e))
