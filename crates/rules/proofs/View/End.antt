-- The view of the end of a cycle: for the box before the step and the box as its rule leaves it, which of the five outcomes the
-- cycle ends with, and the facts that led there. They speak of the box that the rule leaves: rest changes only live and the
-- phase, so they are the facts of the box at rest. Assumes nothing.
use Prim.Native.Nat.{◌+◌, ◌≤◌, ◌<◌}
use mathlib.Core.Bool.{true, false}
use mathlib.Core.Logic.{◌≢◌, ◌⊎◌, inl, inr}
use mathlib.Core.Path.{◌≡◌, refl, ◌∙◌}
use borrow.Author.Tests.{lt-ltb, le-ltb}
use Rattle.rules.specs.Limits.{register_count}
use Rattle.rules.specs.Parts.{Box}
use Rattle.rules.specs.Box.{reply}
use Rattle.rules.specs.Answers.{Entry, NoRoom}
use Rattle.rules.specs.Collector.{at_rest, unheld, granted, try_held, settle, end_cycle}
use Rattle.rules.proofs.View.Tests.{lt?, true?, entry?, Room, room?, no_room_true, no_room_false, can_make_rest, can_make_lost}

pub data Ending (found b : Box) : Type 0 where
  ends_free : b.hold.held ≡ false → end_cycle found b ≡ reply (at_rest b) 31 → Ending found b
  ends_held : b.hold.held ≡ true → NoRoom b.hold.size b → b.hold.begun ≡ false
      → end_cycle found b ≡ reply (at_rest b) 33 → Ending found b
  ends_dropped : b.hold.held ≡ true → NoRoom b.hold.size b → b.hold.begun ≡ true
      → end_cycle found b ≡ reply (unheld (at_rest b)) 8 → Ending found b
  ends_granted : b.hold.held ≡ true → b.free ≢ 0 → b.top + b.hold.size + 1 ≤ b.m
      → b.hold.register < register_count → Entry b.free b
      → end_cycle found b ≡ reply (granted (at_rest b)) 32 → Ending found b
  ends_lost : b.hold.held ≡ true → b.free ≢ 0 → b.top + b.hold.size + 1 ≤ b.m
      → (register_count ≤ b.hold.register) ⊎ (¬ Entry b.free b)
      → end_cycle found b ≡ reply found 9 → Ending found b

-- ---- the box at rest, and the held request tried again

settle_free : (found b : Box) → b.hold.held ≡ false → settle found b ≡ reply b 31
unfolding settle
settle_free found b f = simp f

settle_held : (found b : Box) → b.hold.held ≡ true → settle found b ≡ try_held found b
unfolding settle
settle_held found b h = simp h

try_again : (found b : Box) → NoRoom b.hold.size b → b.hold.begun ≡ false → try_held found b ≡ reply b 33
unfolding try_held
try_again found b n g = simp (no_room_true b.hold.size b n, g)

try_last : (found b : Box) → NoRoom b.hold.size b → b.hold.begun ≡ true → try_held found b ≡ reply (unheld b) 8
unfolding try_held
try_last found b n g = simp (no_room_true b.hold.size b n, g)

try_granted : (found b : Box) → Room b.hold.size b → b.hold.register < register_count → Entry b.free b
    → b.collector.phase ≡ 0 → try_held found b ≡ reply (granted b) 32
unfolding try_held
try_granted found b m r e p =
    simp (no_room_false b.hold.size b m, lt-ltb b.hold.register register_count r, can_make_rest b.hold.size b e p)

try_no_register : (found b : Box) → Room b.hold.size b → register_count ≤ b.hold.register → try_held found b ≡ reply found 9
unfolding try_held
try_no_register found b m r = simp (no_room_false b.hold.size b m, le-ltb b.hold.register register_count r)

try_no_entry : (found b : Box) → Room b.hold.size b → b.hold.register < register_count → ¬ Entry b.free b
    → try_held found b ≡ reply found 9
unfolding try_held
try_no_entry found b m r e =
    simp (no_room_false b.hold.size b m, lt-ltb b.hold.register register_count r, can_make_lost b.hold.size b e)

-- ---- the ends that leave the memory as the rule does

pub end_free : (found b : Box) → b.hold.held ≡ false → end_cycle found b ≡ reply (at_rest b) 31
unfolding end_cycle at_rest
end_free found b f = settle_free found (at_rest b) f

pub end_held : (found b : Box) → b.hold.held ≡ true → NoRoom b.hold.size b → b.hold.begun ≡ false → end_cycle found b ≡ reply (at_rest b) 33
unfolding end_cycle at_rest
end_held found b h n g = settle_held found (at_rest b) h ∙ try_again found (at_rest b) n g

end_dropped : (found b : Box) → b.hold.held ≡ true → NoRoom b.hold.size b → b.hold.begun ≡ true → end_cycle found b ≡ reply (unheld (at_rest b)) 8
unfolding end_cycle at_rest
end_dropped found b h n g = settle_held found (at_rest b) h ∙ try_last found (at_rest b) n g

-- ---- any end of a cycle

pub ending : (found b : Box) → Ending found b
unfolding end_cycle at_rest
ending found b = by_held (true? b.hold.held)
  where
    by_begun : b.hold.held ≡ true → NoRoom b.hold.size b → (b.hold.begun ≡ true) ⊎ (b.hold.begun ≡ false) → Ending found b
    by_begun h n (inl g) = ends_dropped h n g (end_dropped found b h n g)
    by_begun h n (inr g) = ends_held h n g (end_held found b h n g)

    by_register : b.hold.held ≡ true → Room b.hold.size b → Entry b.free b ⊎ (¬ Entry b.free b)
        → (b.hold.register < register_count) ⊎ (register_count ≤ b.hold.register) → Ending found b
    by_register h m (inl e) (inl r) = ends_granted h m.0 m.1 r e (settle_held found (at_rest b) h ∙ try_granted found (at_rest b) m r e refl)
    by_register h m (inr e) (inl r) = ends_lost h m.0 m.1 (inr e) (settle_held found (at_rest b) h ∙ try_no_entry found (at_rest b) m r e)
    by_register h m (inl e) (inr r) = ends_lost h m.0 m.1 (inl r) (settle_held found (at_rest b) h ∙ try_no_register found (at_rest b) m r)
    by_register h m (inr e) (inr r) = ends_lost h m.0 m.1 (inl r) (settle_held found (at_rest b) h ∙ try_no_register found (at_rest b) m r)

    by_room : b.hold.held ≡ true → NoRoom b.hold.size b ⊎ Room b.hold.size b → Ending found b
    by_room h (inl n) = by_begun h n (true? b.hold.begun)
    by_room h (inr m) = by_register h m (entry? b.free b) (lt? b.hold.register register_count)

    by_held : (b.hold.held ≡ true) ⊎ (b.hold.held ≡ false) → Ending found b
    by_held (inl h) = by_room h (room? b.hold.size b)
    by_held (inr f) = ends_free f (end_free found b f)
