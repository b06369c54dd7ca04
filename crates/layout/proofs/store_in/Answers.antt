-- `layout::store_in` meets its contract. Assumes nothing.
use Rattle.std.proofs.Common.{◌≡◌, length, take, sym, ◌∙◌, arith}
use lib.Seq.{length-take-le}
use Rattle.layout.proofs.Reading.{front_read, behind-kept, store-read, store-none, store-wrong}
use Rattle.layout.proofs.store_in.Goals as goal

pub returns-then-held-gt1 : goal.returns-then-held-gt1
returns-then-held-gt1 c =
    let a = c.args in
    store-none a.w a.rolls a.s.now a.groups.now a.shares.now c.field-held.ensures c.if-held-gt1.true c.no_store.ensures

pub returns-then-is_roll_wrong : goal.returns-then-is_roll_wrong
returns-then-is_roll_wrong c =
    let a = c.args in
    store-wrong a.w a.rolls a.s.now a.groups.now a.shares.now (sym c.is_roll_wrong.ensures ∙ c.if-is_roll_wrong.true) c.no_store-then-is_roll_wrong.ensures

pub returns : goal.returns
returns c =
    let a = c.args in
    let s = a.s.now in
    let gs = c.numbers_in in
    let ss = c.numbers_in-2 in
    let g = c.field-grouped.result in
    let n = c.field-count.result in
    let few = c.min.ensures in
    let room = c.min-2.ensures in
    -- as many places are lent as there are, and no more than are asked for
    let groups : length (take c.min.result a.groups.now) ≡ c.min.result = length-take-le c.min.result a.groups.now (omega (arith, few, c.requires.2)) in
    let shares : length (take c.min-2.result a.shares.now) ≡ c.min-2.result = length-take-le c.min-2.result a.shares.now (omega (arith, room, c.requires.3)) in
    store-read a.w a.rolls s c.field-held.ensures c.if-held-gt1.false (sym c.is_roll_wrong.ensures ∙ c.if-is_roll_wrong.false)
    c.field-count.ensures c.field-grouped.ensures c.roll_in.ensures
    (front_read 8 g 64 24 s gs.new.out a.groups.now few groups gs.ensures)
    (front_read a.w n 512 536 s ss.new.out a.shares.now room shares ss.ensures)
    (behind-kept 8 g 64 24 s gs.new.out a.groups.now few groups gs.ensures)
    (behind-kept a.w n 512 536 s ss.new.out a.shares.now room shares ss.ensures)
