-- `writers::both` meets its contract. Assumes nothing.
use Prim.Native.Nat.{ℕ, ◌+◌, ◌*◌}
use mathlib.Core.Path.{◌≡◌, ◌∙◌, ap₂, sym}
use native.Mathlib.Omega.{arith}
use lib.ListN.{length}
use lib.Seq.{length-take-le}
use borrow.Author.Rules.{rules}
use Rattle.records.specs.Format.{list_size, share_size}
use Rattle.records.specs.Values.{listing, plan_in}
use Rattle.records.specs.Write.{list_bytes, plan_bytes}
use Rattle.records.specs.Files.{Files, files}
use Rattle.records.proofs.Buffers.{length-list, length-plan}
use Rattle.records.proofs.Files.{list-short, plan-short, both-written}
use Rattle.writers.proofs.both.Goals as goal
use Rattle.writers.proofs.both.Goals.{After-roll_size, Start}

-- what is written
abbrev given : Start → Files
given s = files s.args.e (listing s.args.l) (plan_in s.args.p s.args.l.count)

-- the start, from where the list's length is added up
abbrev start : After-roll_size → Start
start c = (goal.at.After-roll_size c).Start

-- the lengths of it
list_length : (c : After-roll_size) → length (list_bytes (start c).args.e (listing (start c).args.l)) ≡ 4 + (4 + (start c).args.e.litres) * (start c).args.l.count + c.roll_size.result
list_length c =
    let s = start c in
    let wide : length s.args.l.sites ≡ 512 = search rules in
    let sites = length-take-le s.args.l.count s.args.l.sites (omega (arith, s.requires.2)) in
    length-list s.args.e (listing s.args.l) ∙ ap₂ (λ (k m : ℕ). list_size s.args.e k + m) sites (sym (c.roll_size.ensures.0 s.args.e))

plan-length : (s : Start) → length (plan_bytes s.args.e (plan_in s.args.p s.args.l.count)) ≡ 5 + 10 * s.args.p.count + (2 + s.args.e.share) * s.args.l.count
plan-length s =
    let deep : length s.args.p.groups ≡ 64 = search rules in
    let wide : length s.args.p.shares ≡ 512 = search rules in
    length-plan s.args.e (plan_in s.args.p s.args.l.count)
    ∙ ap₂ (λ (g n : ℕ). 5 + 10 * g + share_size s.args.e * n) (length-take-le s.args.p.count s.args.p.groups (omega (arith, s.requires.3)))
    (length-take-le s.args.l.count s.args.p.shares (omega (arith, s.requires.2)))

pub returns-then-out-first : goal.returns-then-out-first
returns-then-out-first c =
    let s = (goal.at.returns-then-out-first c).Start in
    list-short (given s) _ _ (list_length (goal.at.returns-then-out-first c).After-roll_size) (plan-length s) c.if-out-first.true

pub returns-then-other-second : goal.returns-then-other-second
returns-then-other-second c =
    let s = (goal.at.returns-then-other-second c).Start in
    let sized = list_length (goal.at.returns-then-other-second c).After-roll_size in
    plan-short (given s) _ _ sized (plan-length s) c.if-out-first.false c.if-other-second.true

pub returns : goal.returns
returns c =
    let s = (goal.at.returns c).Start in
    let sized = list_length (goal.at.returns c).After-roll_size in
    both-written (given s) _ _ sized (plan-length s) c.if-out-first.false c.if-other-second.false c.list.ensures c.plan.ensures
