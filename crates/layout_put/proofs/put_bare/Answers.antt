-- `layout_put::put_bare` meets its contract. Assumes nothing.
use Rattle.std.proofs.Common.{◌≡◌, ◌+◌, ◌*◌, ◌-◌, ◌≤◌, length, arith}
use Rattle.records.specs.Bytes.{le}
use Rattle.records.proofs.Bytes.{length-le}
use Rattle.records.proofs.Records.{zeros}
use Rattle.records.proofs.Buffers.{front-none, front-next}
use Rattle.layout_put.proofs.Places.{length-zeros, cleared, bare-put}
use Rattle.layout_put.proofs.put_bare.Goals as goal

pub returns : goal.returns
returns c =
    let a = c.args in
    let o = c.number_at.new.out in
    let end = 536 + a.w * 512 in
    let room : end ≤ length o = omega (arith, c.number_at.auto.out, c.requires) in
    let f₁ = front-next (le 8 a.n) (length-le 8 a.n) (front-none a.out.now) c.number_at.ensures in
    let f₂ = front-next (zeros (end - 8)) (length-zeros (end - 8)) f₁ (cleared 8 end o (omega arith) room (c.fill.ensures.after (λ y e. e))) in
    let rest : end - 8 ≡ 528 + a.w * 512 = omega arith in
    λ roll. bare-put a.w a.n roll rest f₂
