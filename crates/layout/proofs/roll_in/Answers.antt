-- `layout::roll_in` meets its contract. Assumes nothing.
use Rattle.std.proofs.Common.{ℕ, ◌+◌, Bool, List, drop, sym, ap, ap₂, ◌∙◌, arith}
use lib.Dec.{eqb}
use lib.ListN.{length-drop}
use lib.Seq.{take_all, drop-drop}
use Rattle.layout.specs.Layout.{roll_behind}
use Rattle.layout.proofs.Reading.{rolls-room}
use Rattle.layout.proofs.roll_in.Goals as goal

pub returns : goal.returns
returns c =
    let at = c.args.at in
    let bytes = c.args.s.now in
    let there = ap (λ (n : ℕ). eqb n 1) c.field.ensures.is in
    let room = rolls-room at bytes c.if-not-rolls.false c.requires in
    let crews = c.bytes_at.ensures ∙ take_all 64 (drop (at + 8) bytes) (rw length-drop (omega (arith, room))) ∙ sym (drop-drop 8 at bytes) in
    ap₂ (λ (t : Bool) (y : List ℕ). record { there = t; crews = y }) there crews ∙ sym (ap (λ (b : Bool). roll_behind b (drop at bytes)) c.if-not-rolls.false)
