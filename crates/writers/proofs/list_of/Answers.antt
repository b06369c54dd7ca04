-- `writers::list_of` meets its contract: the bytes stand at the front, after each call those written so far. Assumes nothing.
use Prim.Native.Nat.{ℕ, ◌≤◌, ◌+◌, ◌-◌, ◌*◌}
use borrow.Rule.Slice.PartMut.{put_mid}
use mathlib.Core.Path.{◌≡◌, ◌∙◌, ap, ap₂, sym}
use mathlib.Core.List.{List, [], ◌++◌, flat_map}
use native.Mathlib.Omega.{arith}
use lib.ListN.{length, take}
use lib.Seq.{length-take-le}
use Rattle.density.specs.Network.{Listing}
use Rattle.records.specs.Bytes.{le}
use Rattle.records.specs.Values.{roll_in}
use Rattle.records.specs.Format.{site_size, list_size}
use Rattle.records.specs.Write.{site_bytes, roll_bytes, list_bytes}
use Rattle.records.proofs.Bytes.{length-le}
use Rattle.records.proofs.Buffers.{Front, front-none, front-next, front-lent, list-front, length-list, length-flat, length-site, length-onto, written, too_short}
use Rattle.writers.proofs.list_of.Goals as goal
use Rattle.writers.proofs.list_of.Goals.{After-number_at, After-number_at-2, After-roll, After-roll_size, After-sites, After-slice_known-2-1, After-slice_known-3-1, After-slice_known-4-1, Start}

abbrev given : Start → Listing
given s = record { sites = take s.args.n s.args.table; roll = roll_in s.args.k }

-- the bytes written so far
abbrev marked : Start → List ℕ
marked s = [] ++ le 2 s.args.e.mark.list

abbrev headed : Start → List ℕ
headed s = marked s ++ le 2 s.args.n

abbrev listed : Start → List ℕ
listed s = headed s ++ flat_map (site_bytes s.args.e) (given s).sites

-- the places on the way to where the call has come to
abbrev start0 : After-roll_size → Start
start0 c = (goal.at.After-roll_size c).Start

abbrev sized : After-number_at → After-roll_size
sized c = (goal.at.After-number_at c).After-roll_size

abbrev start1 : After-number_at → Start
start1 c = start0 (sized c)

abbrev mark-put : After-number_at-2 → After-number_at
mark-put c = (goal.at.After-number_at-2 c).After-number_at

abbrev start2 : After-number_at-2 → Start
start2 c = start1 (mark-put c)

abbrev count-put : After-sites → After-number_at-2
count-put c = (goal.at.After-sites c).After-number_at-2

abbrev start3 : After-sites → Start
start3 c = start2 (count-put c)

taken : (s : Start) → length (given s).sites ≡ s.args.n
taken s = length-take-le _ _ (omega arith)

-- the length of the whole
total : (c : After-roll_size) → length (list_bytes (start0 c).args.e (given (start0 c))) ≡ 4 + (4 + (start0 c).args.e.litres) * (start0 c).args.n + c.roll_size.result
total c =
    let s = start0 c in
    length-list s.args.e (given s) ∙ ap₂ (λ (k m : ℕ). list_size s.args.e k + m) (taken s) (sym (c.roll_size.ensures.0 s.args.e))

-- the buffer, with what has been written at its front, after each call
front1 : (c : After-number_at) → Front (marked (start1 c)) (start1 c).args.out.now c.number_at.new.out 2
front1 c = front-next _ (length-le 2 (start1 c).args.e.mark.list) (front-none _) c.number_at.ensures

front2 : (c : After-number_at-2) → Front (headed (start2 c)) (start2 c).args.out.now c.number_at-2.new.out 4
front2 c = front-next _ (length-le 2 (start2 c).args.n) (front1 (mark-put c)) c.number_at-2.ensures

abbrev behind-sites : After-sites → List ℕ
behind-sites c = let out = (count-put c).number_at-2.new.out in put_mid 4 (length out - 4) out c.sites.new.out

front3 : (c : After-sites) → Front (listed (start3 c)) (start3 c).args.out.now (behind-sites c) (list_size (start3 c).args.e (start3 c).args.n)
front3 c =
    let s = start3 c in
    let f = site_bytes s.args.e in
    let n = length-flat f (site_size s.args.e) (length-site s.args.e) (given s).sites ∙ ap (λ (k : ℕ). site_size s.args.e * k) (taken s) in
    front-lent (flat_map f (given s).sites) n (front2 (count-put c)) c.sites.ensures

-- the room for the whole, and behind the sites for the roll
roomy : (c : After-sites) → list_size (start3 c).args.e (start3 c).args.n + (sized (mark-put (count-put c))).roll_size.result ≤ length (start3 c).args.out.now
roomy c = omega (arith, c.if-out-total.false)

roll-sized : (c : After-sites) → length (roll_bytes (start3 c).args.e (given (start3 c)).roll) ≡ (sized (mark-put (count-put c))).roll_size.result
roll-sized c = sym ((sized (mark-put (count-put c))).roll_size.ensures.0 (start3 c).args.e)

room : (c : After-sites) → list_size (start3 c).args.e (start3 c).args.n + length (roll_bytes (start3 c).args.e (given (start3 c)).roll) ≤ length (behind-sites c)
room c =
    let s = start3 c in
    let kept = ap length (front3 c).is ∙ length-onto (listed s) s.args.out.now (omega (arith, (front3 c).size, roomy c)) in
    omega (arith, kept, roomy c, roll-sized c)

pub returns-then-out-total : goal.returns-then-out-total
returns-then-out-total c =
    let s = start0 (goal.at.returns-then-out-total c).After-roll_size in
    too_short (list_bytes s.args.e (given s)) _ (total (goal.at.returns-then-out-total c).After-roll_size) c.if-out-total.true

pub roll-requires : goal.roll-requires
roll-requires c = room (goal.at.roll-requires c).After-sites

pub returns : goal.returns
returns c =
    let done = (goal.at.returns c).After-roll in
    let sites-put = (goal.at.After-roll done).After-sites in
    let s = start3 sites-put in
    written (roomy sites-put) (list-front s.args.e (given s) (taken s) (front-next (roll_bytes s.args.e (given s).roll) (roll-sized sites-put) (front3 sites-put) done.roll.ensures))
