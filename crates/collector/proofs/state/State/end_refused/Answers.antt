-- `State::end_refused` equals the definition `end_refused`, by its cases. Assumes nothing.
use Rattle.collector.proofs.Ending.{ends_unheld, ends_roomless, ends_granted, refused_entry, refused_register}
use mathlib.Core.Path.{sym, ◌∙◌}
use Rattle.collector.proofs.state.State.end_refused.Goals as goal

pub returns-then-no_room : goal.returns-then-no_room
returns-then-no_room c q ws fs ads ss ls ms ds = ends_roomless _ c.if-self.true (sym (c.no_room.ensures q _ _ _ _ _ _ _) ∙ c.if-no_room.true)

pub returns-then-is_entry : goal.returns-then-is_entry
returns-then-is_entry c q ws fs ads ss ls ms ds = ends_granted _ c.if-self.true (sym (c.no_room.ensures q _ _ _ _ _ _ _) ∙ c.if-no_room.false) c.if-self-lt8.true (sym (c.is_entry.ensures q _ _ _ _ _ _ _) ∙ c.if-is_entry.true)

pub returns-then-self-lt8 : goal.returns-then-self-lt8
returns-then-self-lt8 c q ws fs ads ss ls ms ds = refused_entry _ c.if-self.true (sym (c.no_room.ensures q _ _ _ _ _ _ _) ∙ c.if-no_room.false) c.if-self-lt8.true (sym (c.is_entry.ensures q _ _ _ _ _ _ _) ∙ c.if-is_entry.false)

pub returns-then-self : goal.returns-then-self
returns-then-self c q ws fs ads ss ls ms ds = refused_register _ c.if-self.true (sym (c.no_room.ensures q _ _ _ _ _ _ _) ∙ c.if-no_room.false) c.if-self-lt8.false

pub returns : goal.returns
returns c q ws fs ads ss ls ms ds = ends_unheld _ c.if-self.false
