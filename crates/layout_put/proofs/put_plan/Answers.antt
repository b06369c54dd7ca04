-- `layout_put::put_plan` meets its contract: after each call what is written so far stands at the front. Assumes nothing.
use Prim.Native.Nat.{ℕ, ◌*◌, ◌-◌, ◌<◌, ◌^◌}
use mathlib.Core.Bool.{true}
use mathlib.Core.List.{List, [], ◌++◌, flat_map}
use mathlib.Core.Path.{◌≡◌, refl, ap, sym, ◌∙◌}
use native.Mathlib.Omega.{arith}
use lib.ListN.{length, take, drop, get_or}
use borrow.Rule.Slice.PartMut.{put_mid}
use Rattle.held_state.specs.declared.Store.{Store}
use Rattle.records.specs.Bytes.{le}
use Rattle.records.specs.declared.RollArray.{RollArray}
use Rattle.records.specs.Write.{onto}
use Rattle.records.proofs.Bytes.{length-le}
use Rattle.records.proofs.Buffers.{Front, front-none, front-next, front-lent, length-flat}
use Rattle.layout.specs.Layout.{StoreFits}
use Rattle.layout_put.specs.Put.{PutFront}
use Rattle.layout_put.proofs.RoundTrip.{front-put}
use Rattle.layout_put.proofs.put_plan.Goals as goal
use Rattle.layout_put.proofs.put_plan.Goals.{After-put_numbers}

-- the groups are written
abbrev store : After-put_numbers → RollArray → Store
store d roll =
    let a = d.args in
    record { count = a.count; held = true; grouped = a.grouped; groups = a.groups.now; shares = a.shares.now; roll = roll }

abbrev out₄ : After-put_numbers → List ℕ
out₄ d =
    let o = d.number_at-3.new.out in
    put_mid 24 (length o - 24) o d.put_numbers.new.out

front : (d : After-put_numbers)
    → let a = d.args in Front (((([] ++ le 8 a.count) ++ le 8 1) ++ le 8 a.grouped) ++ flat_map (le 8) a.groups.now) a.out.now (out₄ d) 536
front d =
    let a = d.args in
    let f₁ = front-next (le 8 a.count) (length-le 8 a.count) (front-none a.out.now) d.number_at.ensures in
    let f₂ = front-next (le 8 1) (length-le 8 1) f₁ d.number_at-2.ensures in
    let f₃ = front-next (le 8 a.grouped) (length-le 8 a.grouped) f₂ d.number_at-3.ensures in
    front-lent (flat_map (le 8) a.groups.now) (length-flat (le 8) 8 (length-le 8) a.groups.now ∙ ap (λ (k : ℕ). 8 * k) d.requires.1) f₃ d.put_numbers.ensures

fits : (d : After-put_numbers) → ((i : ℕ) → get_or d.args.groups.now i 0 < 256 ^ 8) → (roll : RollArray) → ((i : ℕ) → get_or d.args.shares.now i 0 < 256 ^ d.args.w)
    → StoreFits d.args.w (store d roll)
fits d sets roll f = record { count = omega arith; grouped = omega arith; many = d.requires.1; sets = sets; each = d.requires.2; shares = f }

-- the shares are written behind them, by their width
written : (d : After-put_numbers) (w : ℕ) (ys : List ℕ) → d.args.w ≡ w
    → ys ≡ onto (flat_map (le w) d.args.shares.now) (take (length (out₄ d) - 536) (drop 536 (out₄ d)))
    → (roll : RollArray) → PutFront d.args.w (store d roll) d.args.out.now (put_mid 536 (length (out₄ d) - 536) (out₄ d) ys)
written d w ys e is roll =
    let v = d.args.w in
    let shares = d.args.shares.now in
    let lent = take (length (out₄ d) - 536) (drop 536 (out₄ d)) in
    let f₅ = front-lent (flat_map (le v) shares) (length-flat (le v) v (length-le v) shares ∙ ap (λ (k : ℕ). v * k) d.requires.2) (front d)
    (is ∙ ap (λ (k : ℕ). onto (flat_map (le k) shares) lent) (sym e)) in
    front-put v (store d roll) refl f₅

pub returns-in-4 : goal.returns-in-4
returns-in-4 c =
    let d = (goal.at.returns-in-4 c).After-put_numbers in
    (written d 4 c.put_numbers-in-4.new.out c.in-4.is c.put_numbers-in-4.ensures, fits d (λ i. (c.type_inv.groups i).fits))

pub returns-in_default : goal.returns-in_default
returns-in_default c =
    let d = (goal.at.returns-in_default c).After-put_numbers in
    (written d d.args.w c.put_numbers-in_default.new.out refl c.put_numbers-in_default.ensures, fits d (λ i. (c.type_inv.groups i).fits))
