-- What each call of the C interface promises of the ten lent parts before it, of those after it, and of the number r that it returns. The
-- contracts in src/lib.rt cite these, and so does the theorem on lists of C calls (crate callers).
use Rattle.std.specs.Prelude.{ℕ, Bool, List, ◌≡◌}
use Rattle.rules.specs.Parts.{Box}
use Rattle.rules.specs.Box.{reply}
use Rattle.rules.specs.Collector.{step}
use Rattle.rules.specs.Open.{opening}
use Rattle.lent.specs.declared.unit.MemoryUnit.{MemoryUnit}
use Rattle.lent.specs.Lent.{lent}
use Rattle.capi.specs.Calls.{c_request, c_run}

-- the ten lent parts, as a caller sees them before or after a call
pub record Lent : Type 0 where
  pub numbers : List ℕ
  pub switches : List Bool
  pub hold : List ℕ
  pub words : List ℕ
  pub flags : List Bool
  pub addresses : List ℕ
  pub sizes : List ℕ
  pub links : List ℕ
  pub marks : List Bool
  pub deeps : List Bool

abbrev pub parts : List ℕ → List Bool → List ℕ → List ℕ → List Bool → List ℕ → List ℕ → List ℕ → List Bool → List Bool → Lent
parts ns sw hd ws fs ads ss ls ms ds = record { numbers = ns; switches = sw; hold = hd; words = ws; flags = fs; addresses = ads; sizes = ss; links = ls; marks = ms; deeps = ds }

abbrev pub parts_of : MemoryUnit → Lent
parts_of u = parts u.numbers.now u.switches.now u.hold.now u.words.now u.flags.now u.addresses.now u.sizes.now u.links.now u.marks.now u.deeps.now

-- the box that the parts make
abbrev pub box_of : Lent → Box
box_of p = lent p.numbers p.switches p.hold p.words p.flags p.addresses p.sizes p.links p.marks p.deeps

abbrev pub Opens : ℕ → ℕ → Lent → Lent → ℕ → Type 0
Opens m h before after r = reply (box_of after) r ≡ opening m h (box_of before)

abbrev pub Asks : ℕ → ℕ → ℕ → ℕ → Lent → Lent → ℕ → Type 0
Asks kind a b c before after r = reply (box_of after) r ≡ c_request kind a b c (box_of before)

abbrev pub Steps : Lent → Lent → ℕ → Type 0
Steps before after r = reply (box_of after) r ≡ step (box_of before)

abbrev pub Runs : ℕ → Lent → Lent → ℕ → Type 0
Runs budget before after r = reply (box_of after) r ≡ c_run budget (box_of before)
