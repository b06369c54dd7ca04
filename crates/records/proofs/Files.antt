-- What is written into one buffer or two, by what an entry found: from the writers' own promises, and what an answered length says of a buffer. Assumes nothing.
use Prim.Native.Nat.{ℕ, ◌<◌, ◌≤◌}
use mathlib.Core.Bool.{true, false}
use mathlib.Core.List.{List, [], ◌∷◌}
use mathlib.Core.Path.{◌≡◌, refl, sym, ap}
use native.Mathlib.Omega.{arith}
use borrow.Author.Tests.{lt-ltb, le-ltb, ltb-false}
use lib.ListN.{length, take, drop}
use lib.Seq.{take_at}
use Rattle.density.specs.Rows.{row, first_row}
use Rattle.std.specs.declared.result.Result.{Result}
use Rattle.std.specs.declared.result.Result.TheVariants.{Ok, Err}
use Rattle.records.specs.declared.Lengths.{Lengths}
use Rattle.records.specs.declared.refusal.Refusal.{Refusal}
use Rattle.records.specs.declared.refusal.Refusal.TheVariants as by
use Rattle.records.specs.Outcome.{Outcome, refused, passed}
use Rattle.records.specs.Write.{onto, is_short, fitted, wrote_of, WrittenOf, Written}
use Rattle.records.specs.Files.{Files, fitted_both, wrote_both_of, WrittenBoth}
use Rattle.records.proofs.Outcomes.{clear}

-- ---- two buffers

module _ (x : Files) (list-out plan-out : List ℕ) {n k : ℕ} (e : length x.list ≡ n) (f : length x.plan ≡ k) where
  -- the list's is too short
  pub list-short : length list-out < n → WrittenBoth (fitted_both x list-out plan-out) list-out plan-out (Err by.BufferShort) list-out plan-out
  unfolding first_row
  list-short h =
      let t : is_short list-out x.list ≡ true = lt-ltb (length list-out) (length x.list) (omega arith) in
      record { answer = rw t refl; list = rw t refl; plan = rw t refl }

  module _ (h : n ≤ length list-out) where
    list-long : is_short list-out x.list ≡ false
    list-long = le-ltb (length list-out) (length x.list) (omega arith)

    -- the plan's is
    pub plan-short : length plan-out < k → WrittenBoth (fitted_both x list-out plan-out) list-out plan-out (Err by.BufferShort) list-out plan-out
    unfolding first_row
    plan-short l =
        let u : is_short plan-out x.plan ≡ true = lt-ltb (length plan-out) (length x.plan) (omega arith) in
        record { answer = rw (list-long, u) refl; list = rw (list-long, u) refl; plan = rw (list-long, u) refl }

    -- both have room, and both are written
    pub both-written : k ≤ length plan-out → {r s : Result ℕ Refusal} {list-last plan-last : List ℕ} → Written x.list list-out r list-last → Written x.plan plan-out s plan-last
        → WrittenBoth (fitted_both x list-out plan-out) list-out plan-out (Ok (record { list = n; plan = k })) list-last plan-last
    unfolding first_row
    both-written l w v =
        let u : is_short plan-out x.plan ≡ false = le-ltb (length plan-out) (length x.plan) (omega arith) in
        record { answer = rw (list-long, u, e, f) refl; list = rw (list-long, u) (rw list-long at w.buffer); plan = rw (list-long, u) (rw u at v.buffer) }

-- ---- what an answered length says

onto-front : (bytes out last : List ℕ) (n : ℕ) → length bytes ≡ n → last ≡ onto bytes out → take n last ≡ bytes
onto-front bytes out last n h e = rw e (take_at bytes (drop (length bytes) out) n h)

-- bytes were found, and they stand at the buffer's front
pub front_of : (o : Outcome (List ℕ)) (out last : List ℕ) (n : ℕ) → WrittenOf o out (Ok n) last → o ≡ passed (take n last)
front_of (refused m) out last n w = let a = w.answer in let z : ◌≡◌ {A = ℕ} 0 1 = cc in absurd (omega arith)
front_of (passed bytes) out last n w =
    let a = w.answer in
    let h : length bytes ≡ n = cc in
    ap passed (sym (onto-front bytes out last n h w.buffer))

-- what a writer of these bytes left at the front is these
pub written-front : (bytes out last : List ℕ) (n : ℕ) → Written bytes out (Ok n) last → take n last ≡ bytes
written-front bytes out last n w = sym (clear (row 20 (is_short out bytes) ∷ []) (front_of (fitted bytes out) out last n w)).1

pub fronts-of : (o : Outcome Files) (list-out plan-out list-last plan-last : List ℕ) (n k : ℕ) → WrittenBoth o list-out plan-out (Ok (record { list = n; plan = k })) list-last plan-last
    → o ≡ passed (record { list = take n list-last; plan = take k plan-last })
fronts-of (refused m) list-out plan-out list-last plan-last n k w = let a = w.answer in let z : ◌≡◌ {A = ℕ} 0 1 = cc in absurd (omega arith)
fronts-of (passed x) list-out plan-out list-last plan-last n k w =
    let a = w.answer in
    let q : ◌≡◌ {A = Lengths} (record { list = n; plan = k }) (record { list = length x.list; plan = length x.plan }) = cc in
    let h : length x.list ≡ n = sym (ap (λ (y : Lengths). y.list) q) in
    let l : length x.plan ≡ k = sym (ap (λ (y : Lengths). y.plan) q) in
    rw (onto-front x.list list-out list-last n h w.list, onto-front x.plan plan-out plan-last k l w.plan) refl

-- ---- a length that is answered is one that the buffer has

pub length-held : (o : Outcome (List ℕ)) (out : List ℕ) {n : ℕ} → ((x : List ℕ) → o ≡ passed x → is_short out x ≡ false) → passed n ≡ wrote_of o → n ≤ length out
length-held (refused m) out f e = let z : ◌≡◌ {A = ℕ} 0 1 = cc in absurd (omega arith)
length-held (passed x) out {n} f e = let z : n ≡ length x = cc in let l = ltb-false (length out) (length x) (f x refl) in omega arith

pub lengths-held : (o : Outcome Files) (out : List ℕ) {n k : ℕ} → ((x : Files) → o ≡ passed x → is_short out x.list ≡ false) → passed (record { list = n; plan = k }) ≡ wrote_both_of o
    → n ≤ length out
lengths-held (refused m) out f e = let z : ◌≡◌ {A = ℕ} 0 1 = cc in absurd (omega arith)
lengths-held (passed x) out {n} {k} f e =
    let q : ◌≡◌ {A = Lengths} (record { list = n; plan = k }) (record { list = length x.list; plan = length x.plan }) = cc in
    let z : n ≡ length x.list = ap (λ (y : Lengths). y.list) q in
    let l = ltb-false (length out) (length x.list) (f x refl) in omega arith

-- bytes that were found have room
pub fitted-room : (bytes out : List ℕ) (x : List ℕ) → fitted bytes out ≡ passed x → is_short out x ≡ false
fitted-room bytes out x h = let (c, e) = clear (row 20 (is_short out bytes) ∷ []) h in rw (← e) c.0

pub both-room : (y : Files) (list-out plan-out : List ℕ) (x : Files) → fitted_both y list-out plan-out ≡ passed x → is_short list-out x.list ≡ false
both-room y list-out plan-out x h =
    let (c, e) = clear (row 20 (is_short list-out y.list) ∷ row 20 (is_short plan-out y.plan) ∷ []) h in
    rw (← e) c.0
