-- `layout_put::put_roll` meets its contract. Assumes nothing.
use Rattle.std.proofs.Common.{◌≡◌, ℕ, Bool, true, false, cond, ◌+◌, ◌≤◌, ◌++◌, length, refl, ap, ◌∙◌, arith}
use mir.Val.{bool_byte}
use Rattle.records.specs.Bytes.{le}
use Rattle.records.specs.Write.{place}
use Rattle.records.proofs.Bytes.{length-le}
use Rattle.records.proofs.Buffers.{place-place}
use Rattle.layout.specs.Layout.{front_size}
use Rattle.layout_put.proofs.put_roll.Goals as goal

-- a flag as a number
flag : (b : Bool) → bool_byte b ≡ cond b 1 0
flag true = refl
flag false = refl

pub returns : goal.returns
returns c =
    let a = c.args in
    let at = front_size a.w in
    let crews = a.roll.crews in
    let room : at ≤ length a.out.now = omega (arith, c.requires) in
    c.crews.ensures
    ∙ ap (place (at + 8) crews) c.number_at.ensures
    ∙ place-place at 8 (le 8 c.from.result) crews a.out.now room (length-le 8 c.from.result)
    ∙ ap (λ (n : ℕ). place at (le 8 n ++ crews) a.out.now) (c.from.ensures ∙ flag a.roll.there)
