-- What the code's reader meets at a place of the lent bytes: a byte, the end, a number found and one refused. Assumes nothing.
use Prim.Native.Nat.{ℕ, zero, suc, ◌+◌, ◌*◌, ◌^◌, ◌≤◌, ◌<◌}
use mathlib.Core.List.{List, [], ◌∷◌}
use mathlib.Core.Path.{◌≡◌, sym, ap, ◌∙◌}
use native.Mathlib.Omega.{arith}
use native.Mathlib.Numerals.{add-one}
use lib.ListN.{length, get_or, drop, length-drop, drop_of_length-le}
use lib.Seq.{drop-cons, get_or-drop}
use Rattle.record.specs.declared.number.Fault.{Fault}
use Rattle.record.specs.declared.number.Number as code
use Rattle.record.specs.declared.number.Number.TheVariants.{Found, Refused}
use Rattle.record.specs.Number.{Number, found, refused, more_groups}
use Rattle.record.specs.Found.{number_of, place_of, said, as_number}
use Rattle.record.proofs.Laws.{groups_bound}

-- ---- what the code found, and what it refused

pub is_found : (len : ℕ) (x : Number) (r : code.Number) → said r ≡ as_number len x → (n next : ℕ) → r ≡ Found n next → (rest : List ℕ) × (x ≡ found n rest) × (place_of len rest ≡ next)
is_found len (found v rest) r e n next u =
    let z : as_number len (found v rest) ≡ said (Found n next) = sym e ∙ ap said u in
    let y : ◌≡◌ {A = ℕ × ℕ} (v, place_of len rest) (n, next) = cc in
    (rest, ap (λ (p : ℕ × ℕ). found p.0 rest) y, ap (λ (p : ℕ × ℕ). p.1) y)
is_found len (refused a) r e n next u = let z : as_number len (refused a) ≡ said (Found n next) = sym e ∙ ap said u in absurd (cc)

pub is_refused : (len : ℕ) (x : Number) (r : code.Number) → said r ≡ as_number len x → (f : Fault) → r ≡ Refused f → x ≡ refused (number_of f)
is_refused len (found v rest) r e f u = let z : as_number len (found v rest) ≡ said (Refused f) = sym e ∙ ap said u in absurd (cc)
is_refused len (refused a) r e f u = let z : as_number len (refused a) ≡ said (Refused f) = sym e ∙ ap said u in cc

-- ---- the byte at a place, and the place behind it

pub byte_at : (bs : List ℕ) (at : ℕ) → at < length bs → drop at bs ≡ get_or bs at 0 ∷ drop (at + 1) bs
byte_at bs at h = rw (add-one at) (drop-cons bs at 0 h)

pub place_behind : (bs : List ℕ) (at : ℕ) → at < length bs → place_of (length bs) (drop (at + 1) bs) ≡ at + 1
place_behind bs at h = omega (arith, length-drop (at + 1) bs)

pub none_at : (bs : List ℕ) (at : ℕ) → length bs ≤ at → drop at bs ≡ []
none_at bs at h = drop_of_length-le bs h

-- ---- the groups that may still follow bound a number

limit_most : (k : ℕ) → k ≤ 3 → 16 * 128 ^ k ≤ 33554432
limit_most zero h = omega arith
limit_most (suc zero) h = omega arith
limit_most (suc (suc zero)) h = omega arith
limit_most (suc (suc (suc zero))) h = omega arith
limit_most (suc (suc (suc (suc k)))) h = absurd (omega arith)

fits_in : (k : ℕ) → k ≤ 3 → (len : ℕ) (x : Number) → ((v : ℕ) (rest : List ℕ) → x ≡ found v rest → v < 16 * 128 ^ k) → (r : code.Number) → said r ≡ as_number len x → (n next : ℕ) → r ≡ Found n next → n < 33554432
fits_in k h len x w r e n next u = let f = is_found len x r e n next u in omega (arith, w n f.0 f.1, limit_most k h)

-- where at most three more may follow, a further group before the number leaves it within 32 bits
pub found_fits : (bs : List ℕ) (at k : ℕ) → ((i : ℕ) → get_or bs i 0 < 256) → k ≤ 3 → (r : code.Number) → said r ≡ as_number (length bs) (more_groups k (drop at bs)) → (n next : ℕ) → r ≡ Found n next → n < 33554432
found_fits bs at k w h r e n next u = fits_in k h (length bs) (more_groups k (drop at bs)) (groups_bound k (drop at bs) (λ i j. rw (get_or-drop at bs i 0) (w (at + i)))) r e n next u

-- what the check needs where the code reads a number's bytes
pub ruleset bytes_read = (byte_at, place_behind, none_at, is_found, is_refused, found_fits)
