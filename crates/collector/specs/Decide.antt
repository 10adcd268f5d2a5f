-- What a step decides before it writes anything. Each of these is a part of a rule of crate rules, said by itself;
-- that it decides that rule is proved with the code.
use Rattle.std.specs.Prelude.{ℕ, ◌+◌, ◌<◌, ◌≤◌, Bool, not, cond, Option, None, Some, ◌&&◌, leb, ltb, eqb, ◌≡◌}
use Rattle.rules.specs.Parts.{Box, with_top}
use Rattle.collector.specs.declared.state.State.{State}
use Rattle.rules.specs.Box.{Reply, reply, is_entry}
use Rattle.rules.specs.Request.{is_register, no_room}
use Rattle.rules.specs.Collector.{Found, unmarked, damaged, nothing, after, granted}

-- the end of a cycle is refused: the held request would be granted, and its register or the free handle is wrong
unfoldable pub end_refused : Box → Bool
end_refused b =
    b.hold.held && not (no_room b.hold.size b) && not (is_register b.hold.register && is_entry b.free b)

-- a phase that grants the held request leaves the tuple itself to the step: what is left when the step has made it
unfoldable pub with_grant : Reply → Reply
with_grant r = cond (eqb r.answer 32) (reply (granted r.box) 32) r

-- where the answer is 32, the state is at Rest and its hold can be granted in a box of m words and h entries
abbrev pub Grants : ℕ → ℕ → State → ℕ → Type 0
Grants m h s a = a ≡ 32 → (s.m ≡ m) × (s.h ≡ h) × (s.phase ≡ 0) × (s.free < h) × (s.hold_register < 8) × (s.top + s.hold_size + 1 ≤ m)

-- the sweep can leave its tuple: what is behind it is in memory, or it is the last and the end of the cycle is not refused
unfoldable pub can_leave : Box → Bool
can_leave b =
    leb (after b) b.m && cond (eqb (after b) b.top)
    (not (end_refused (with_top b.collector.dest b)))
    (ltb (after b) b.m)

-- what a look at the registers has found: the handle of the first that is not passed over, or nothing
unfoldable pub found_as : Option ℕ → Box → Found
found_as None b = nothing
found_as (Some h) b = cond (is_entry h b) (unmarked h) damaged
