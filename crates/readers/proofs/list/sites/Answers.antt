-- `readers::list::sites` meets its contract. Assumes nothing.
use Prim.Native.Nat.{ℕ, ◌≤◌, ◌+◌, ◌*◌}
use mathlib.Core.List.{map}
use mathlib.Core.Path.{◌≡◌, sym, ◌∙◌}
use native.Mathlib.Omega.{arith}
use lib.ListN.{length, drop}
use Rattle.records.specs.Bytes.{Bytes}
use Rattle.records.specs.Record.{records}
use Rattle.records.specs.Format.{body_of}
use Rattle.records.proofs.Records.{zeros-front}
use Rattle.readers.proofs.Bodies as bodies
use Rattle.readers.proofs.list.sites.Goals as goal
use Rattle.readers.proofs.list.sites.Goals.{After-all_bodies-end, After-shared_slice_known-1, After-sites_of, Start}

-- where the bodies have been read: the beginning, and what is known of the bytes
abbrev start : After-all_bodies-end → Start
start c = (goal.at.After-all_bodies-end c).Start

abbrev known : After-all_bodies-end → After-shared_slice_known-1
known c = (goal.at.After-all_bodies-end c).After-shared_slice_known-1

bytes : (c : After-all_bodies-end) → Bytes c.args.s.now
bytes c i = (c.shared_slice_known-1.given i).fits

room : (c : Start) → 4 + (4 + c.args.e.litres) * c.args.n ≤ length c.args.s.now
room c = c.requires.2

read : (c : After-all_bodies-end) → c.all_bodies-end.new.out ≡ map (body_of (2 + c.args.e.litres)) (records (4 + c.args.e.litres) c.args.n (drop 4 c.args.s.now))
read c =
    let a = c.args in
    bodies.read-bodies a.e.litres a.n a.s.now (bytes c) c.requires.0 c.requires.1 (room (goal.at.After-all_bodies-end c).Start) _ _ _ (zeros-front a.n 512 c.requires.1) (omega arith) c.all_bodies-end.ensures.bodies

pub slice_bounds-all_bodies-end-2 : goal.slice_bounds-all_bodies-end-2
slice_bounds-all_bodies-end-2 c = let s = (goal.at.slice_bounds-all_bodies-end-2 c).Start in sym (zeros-front s.args.n 512 s.requires.1)

pub all_bodies-end-requires : goal.all_bodies-end-requires
all_bodies-end-requires c =
    let s = (goal.at.all_bodies-end-requires c).Start in
    let g : (m size : ℕ) → m ≡ s.args.n → size ≡ 4 + s.args.e.litres → 4 + size * m ≤ length s.args.s.now = λ m size e f. rw (e, f) (room s) in
    (omega (arith, s.requires.0), g _ _ (zeros-front s.args.n 512 s.requires.1) (omega arith))

pub slice_bounds-bodies-end-2 : goal.slice_bounds-bodies-end-2
slice_bounds-bodies-end-2 c =
    let t = (goal.at.slice_bounds-bodies-end-2 c).After-all_bodies-end in
    let a = t.args in
    bodies.holds a.e.litres a.n a.s.now (bytes t) t.requires.0 t.requires.1 (room (goal.at.After-all_bodies-end t).Start) _ _ (read t)

pub slice_bounds-sites_of-end : goal.slice_bounds-sites_of-end
slice_bounds-sites_of-end c =
    let t = (goal.at.slice_bounds-sites_of-end c).After-all_bodies-end in
    let a = t.args in
    bodies.long a.e.litres a.n a.s.now (bytes t) t.requires.0 t.requires.1 (room (goal.at.After-all_bodies-end t).Start) _ _ (read t)

pub sites_of-requires : goal.sites_of-requires
sites_of-requires c =
    let t = (goal.at.sites_of-requires c).After-all_bodies-end in
    let a = t.args in
    bodies.asked a.e.litres a.n a.s.now (bytes t) t.requires.0 t.requires.1 (room (goal.at.After-all_bodies-end t).Start) _ (bodies.front a.e.litres a.n a.s.now (bytes t) t.requires.0 t.requires.1 (room (goal.at.After-all_bodies-end t).Start) _ _ (read t))

-- where the sites have been made of the bodies
abbrev done : After-sites_of → After-all_bodies-end
done c = (goal.at.After-sites_of c).After-all_bodies-end

pub returns : goal.returns
returns c =
    let t = (goal.at.returns c).After-all_bodies-end in
    let a = t.args in
    c.sites_of.ensures
    ∙ bodies.said a.e.litres a.n a.s.now (bytes t) t.requires.0 t.requires.1 (room (goal.at.After-all_bodies-end t).Start) a.e.mark.site _ _ (bodies.front a.e.litres a.n a.s.now (bytes t) t.requires.0 t.requires.1 (room (goal.at.After-all_bodies-end t).Start) _ _ (read t))
    (bodies.read-marks a.e.litres a.n a.s.now (bytes t) t.requires.0 t.requires.1 (room (goal.at.After-all_bodies-end t).Start) a.e.mark.group a.e.mark.site _ _ _ (zeros-front a.n 512 t.requires.1) (omega arith) t.all_bodies-end.ensures.wrong)
