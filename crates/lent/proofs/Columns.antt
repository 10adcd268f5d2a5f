-- What calls need of the columns: a sound box has them, and what keeps a box's outline keeps them. Assumes nothing.
use Prim.Native.Nat.{◌<◌, ◌≤◌}
use mathlib.Core.Bool.{true}
use mathlib.Core.Path.{◌≡◌, sym, ap, subst}
use Rattle.rules.specs.Parts.{Box}
use Rattle.rules.specs.Box.{sound}
use Rattle.rules.proofs.Kept.{Outline, outline}
use Rattle.rules.proofs.Sizes.{sound_lengths, sound_ranges}
use Rattle.lent.specs.declared.unit.MemoryUnit.{MemoryUnit}
use Rattle.lent.specs.Lent.{box_of, HasWords, HasColumns}

-- ---- a sound box

pub sound_words : (u : MemoryUnit) → sound (box_of u) ≡ true → HasWords u
sound_words u s = let l = sound_lengths (box_of u) s in (l.words, l.flags, (sound_ranges (box_of u) s).words)

pub sound_columns : (u : MemoryUnit) → sound (box_of u) ≡ true → HasColumns u
sound_columns u s =
    let l = sound_lengths (box_of u) s in
    let r = sound_ranges (box_of u) s in
    (sound_words u s, l.addresses, l.sizes, l.links, l.marks, l.deeps, r.entries, r.some_words)

-- ---- a box of the same outline

-- `HasColumns`, of an outline
abbrev Columns : Outline → Type 0
Columns o = ((o.words ≡ o.m) × (o.flags ≡ o.m) × (o.m < 65536)) × (o.addresses ≡ o.h) × (o.sizes ≡ o.h) × (o.links ≡ o.h) × (o.marks ≡ o.h) × (o.deeps ≡ o.h) × (o.h ≤ 4096) × (0 < o.m)

pub columns_kept : (u v : MemoryUnit) → outline (box_of v) ≡ outline (box_of u) → HasColumns u → HasColumns v
columns_kept u v e k = subst Columns (sym e) k

-- what `MemoryUnit::put_back` asks for, of two outlines, and of two boxes
pub parts_kept : (o p : Outline) → p ≡ o → (p.m ≡ o.m) × (p.h ≡ o.h) × (p.register ≡ o.register) × (p.size ≡ o.size) × (p.tag ≡ o.tag)
parts_kept o p e = (ap (λ (y : Outline). y.m) e, ap (λ (y : Outline). y.h) e, ap (λ (y : Outline). y.register) e, ap (λ (y : Outline). y.size) e, ap (λ (y : Outline). y.tag) e)

abbrev pub Kept : Box → Box → Type 0
Kept b x = (x.m ≡ b.m) × (x.h ≡ b.h) × (x.hold.register ≡ b.hold.register) × (x.hold.size ≡ b.hold.size) × (x.hold.tag ≡ b.hold.tag)

pub outline_kept : (b x : Box) → outline x ≡ outline b → Kept b x
outline_kept b x e = parts_kept (outline b) (outline x) e
