-- Laws of buffers that are written from the front. Assumes nothing.
use Prim.Native.Nat.{ℕ, ◌+◌, ◌*◌, ◌-◌, ◌<◌, ◌≤◌}
use mathlib.Core.List.{List, [], ◌∷◌, ◌++◌, append_assoc, append-nil, flat_map}
use mathlib.Core.Path.{◌≡◌, refl, ap, ◌∙◌}
use lib.ListN.{length, take, drop, get_or, length-append, length-drop, length-take, drop_of_length-le}
use lib.Seq.{take_at, drop-append-add, drop-drop, take-suc, length-take-le}
use native.Mathlib.Nat.{mul-suc, add_assoc, add-sub_cancel_left}
use native.Mathlib.Numerals.{add-one}
use native.Mathlib.Omega.{arith}
use borrow.Author.Tests.{le-ltb, lt-ltb}
use mathlib.Core.Bool.{Bool, true, false, cond}
use borrow.Rule.Slice.PartMut.{put_mid}
use Rattle.records.specs.Bytes.{le}
use Rattle.records.specs.Values.{Plan}
use Rattle.records.specs.Format.{site_size, list_size}
use Rattle.records.specs.Write.{place, onto, mark_bytes, site_bytes, roll_bytes, list_bytes, plan_bytes, is_short, wrote_of, Written}
use Rattle.density.specs.declared.Site.{Site}
use Rattle.density.specs.Network.{Listing}
use Rattle.density.specs.Rows.{row, first_row}
use Rattle.records.specs.declared.Edition.{Edition}
use Rattle.std.specs.declared.result.Result.{Result}
use Rattle.std.specs.declared.result.Result.TheVariants.{Ok, Err}
use Rattle.records.specs.declared.refusal.Refusal.{Refusal}
use Rattle.records.specs.declared.refusal.Refusal.TheVariants as by
use Rattle.records.specs.Outcome.{refused, passed, gate}
use Rattle.records.specs.Refusals.{outcome}
use Rattle.records.proofs.Bytes.{length-le}
use Rattle.records.proofs.Records.{from-part}

-- a part `&mut d[at..at + w]` that comes back as a number's bytes
pub number-part : (at w x : ℕ) (d : List ℕ) → at + w ≤ length d
    → put_mid at (at + w - at) d (le (length (take (at + w - at) (drop at d))) x) ≡ place at (le w x) d
number-part at w x d h =
    let k : w ≤ length (drop at d) = rw length-drop (omega arith) in
    rw (add-sub_cancel_left, length-take-le w (drop at d) k, drop-drop, length-le)

-- a part `&mut d[at..]` that comes back written at its front
pub front-part : (at : ℕ) (p d : List ℕ) → put_mid at (length d - at) d (onto p (take (length d - at) (drop at d))) ≡ place at p d
front-part at p d =
    let e : drop (length d - at) (drop at d) ≡ [] = drop_of_length-le (drop at d) {i = length d - at} (rw length-drop (omega arith)) in
    rw (from-part, e, append-nil, drop-drop)

-- q right behind p
pub behind : (n : ℕ) (p q d : List ℕ) → length p ≡ n → place n q (p ++ d) ≡ p ++ onto q d
behind n p q d h = rw (take_at p d n h, ← h, drop-append-add)

pub place-onto : (n : ℕ) (p q d : List ℕ) → length p ≡ n → place n q (onto p d) ≡ onto (p ++ q) d
place-onto n p q d h = rw (behind n p q (drop (length p) d) h, drop-drop, length-append, append_assoc)

pub place-place : (at k : ℕ) (p q d : List ℕ) → at ≤ length d → length p ≡ k → place (at + k) q (place at p d) ≡ place at (p ++ q) d
place-place at k p q d h e =
    rw (
      ← (append_assoc (take at d) p (drop (at + length p) d)),
      behind (at + k) (take at d ++ p) q (drop (at + length p) d) (rw (length-append, length-take-le, e)),
      drop-drop,
      append_assoc,
      length-append,
      add_assoc,
      append_assoc,
    )

pub length-onto : (p d : List ℕ) → length p ≤ length d → length (onto p d) ≡ length d
length-onto p d h = rw (length-append, length-drop) (omega arith)

pub length-place : (at : ℕ) (p d : List ℕ) → at + length p ≤ length d → length (place at p d) ≡ length d
length-place at p d h = rw (length-append, length-append, length-take, length-drop) (omega arith)

module _ {A : Type 0} (f : A → List ℕ) where
  pub flat_append : (xs ys : List A) → flat_map f (xs ++ ys) ≡ flat_map f xs ++ flat_map f ys
  unfolding flat_map
  flat_append [] ys = refl
  flat_append (x ∷ xs) ys = rw (flat_append xs ys, append_assoc)

  pub flat-one : (x : A) → flat_map f (x ∷ []) ≡ f x
  unfolding flat_map
  flat-one x = append-nil (f x)

  -- one element more
  pub flat_step : (xs : List A) (i : ℕ) (d : A) → i < length xs → flat_map f (take (i + 1) xs) ≡ flat_map f (take i xs) ++ f (get_or xs i d)
  flat_step xs i d h = rw (add-one, take-suc xs i d h, flat_append, flat-one)

  -- records of one size
  pub length-flat : (size : ℕ) → ((x : A) → length (f x) ≡ size) → (xs : List A) → length (flat_map f xs) ≡ size * length xs
  unfolding flat_map
  length-flat size h [] = omega arith
  length-flat size h (x ∷ xs) = rw (length-append, h x, length-flat size h xs, mul-suc) (omega arith)

  -- one record more, behind those written
  pub run_step : (size : ℕ) → ((x : A) → length (f x) ≡ size) → (xs : List A) (d : List ℕ) (i : ℕ) (z : A) → i < length xs
      → place (size * i) (f (get_or xs i z)) (onto (flat_map f (take i xs)) d) ≡ onto (flat_map f (take (i + 1) xs)) d
  run_step size len xs d i z h =
      let k : i ≤ length xs = omega arith in
      let e : length (flat_map f (take i xs)) ≡ size * i = rw (length-flat size len, length-take-le) in
      rw (flat_step xs i z, place-onto (size * i) (flat_map f (take i xs)) (f (get_or xs i z)) d e)

pub length-site : (e : Edition) (x : Site) → length (site_bytes e x) ≡ site_size e
length-site e x = simp (length-append, length-le) (omega arith)

pub length-mark : (mark w x : ℕ) → length (mark_bytes mark w x) ≡ 2 + w
length-mark mark w x = rw (length-append, length-le, length-le)

-- out is the buffer d with the bytes p, so many, written at its front
pub record Front (p d out : List ℕ) (at : ℕ) : Type 0 where
  pub is : out ≡ onto p d
  pub size : length p ≡ at

pub front-none : (d : List ℕ) → Front [] d d 0
front-none d = record { is = refl; size = refl }

-- k bytes more
pub front-next : {p d out out' : List ℕ} {at k : ℕ} (q : List ℕ) → length q ≡ k → Front p d out at → out' ≡ place at q out → Front (p ++ q) d out' (at + k)
front-next {p} {d} {at = at} q h f e =
    record {
      is = e ∙ ap (place at q) f.is ∙ place-onto at p q d f.size;
      size = rw (length-append, f.size, h);
    }

-- k bytes more, written by a callee that was lent `&mut out[at..]`
pub front-lent : {p d out ys : List ℕ} {at k : ℕ} (q : List ℕ) → length q ≡ k → Front p d out at
    → ys ≡ onto q (take (length out - at) (drop at out)) → Front (p ++ q) d (put_mid at (length out - at) out ys) (at + k)
front-lent {out = out} {at = at} q h f e = front-next q h f (ap (put_mid at (length out - at) out) e ∙ front-part at q out)

-- what a writer answers where the bytes fit, and where they do not
pub written : {bytes d out : List ℕ} {n : ℕ} → n ≤ length d → Front bytes d out n → Written bytes d (Ok n) out
unfolding first_row
written {bytes} {d} h f =
    let t : is_short d bytes ≡ false = le-ltb (length d) (length bytes) (omega (arith, f.size)) in
    record { answer = rw (t, f.size); buffer = rw t f.is }

pub too_short : (bytes : List ℕ) {d : List ℕ} (n : ℕ) → length bytes ≡ n → length d < n → Written bytes d (Err by.BufferShort) d
unfolding first_row
too_short bytes {d} n e h =
    let t : is_short d bytes ≡ true = lt-ltb (length d) (length bytes) (omega (arith, e)) in
    record { answer = rw t; buffer = rw t }

-- what it answered: row 20, or the length
pub answered : (bytes d : List ℕ) {r : Result ℕ Refusal} {out : List ℕ} → Written bytes d r out → outcome r ≡ cond (is_short d bytes) (refused 20) (passed (length bytes))
unfolding first_row
answered bytes d w = w.answer ∙ by-room (is_short d bytes)
  where
    by-room : (t : Bool) → wrote_of (gate (row 20 t ∷ []) bytes) ≡ cond t (refused 20) (passed (length bytes))
    by-room true = refl
    by-room false = refl

-- a plan's bytes, as they are written
pub plan-front : (e : Edition) (p : Plan) {g n k : ℕ} {d out : List ℕ} → length p.groups ≡ g → length p.shares ≡ n
    → Front
    ((((([] ++ le 2 e.mark.plan) ++ le 1 g) ++ le 2 n) ++ flat_map (mark_bytes e.mark.group 8) p.groups)
    ++ flat_map (mark_bytes e.mark.share e.share) p.shares) d out k
    → Front (plan_bytes e p) d out k
unfolding plan_bytes
plan-front e p h l f = rw (h, l) (simp append_assoc at f)

pub length-plan : (e : Edition) (p : Plan) → length (plan_bytes e p) ≡ 5 + 10 * length p.groups + (2 + e.share) * length p.shares
unfolding plan_bytes
length-plan e p =
    rw (
      length-append,
      length-append,
      length-append,
      length-append,
      length-le 2,
      length-le 1,
      length-le 2,
      length-flat (mark_bytes e.mark.group 8) 10 (length-mark e.mark.group 8),
      length-flat (mark_bytes e.mark.share e.share) (2 + e.share) (length-mark e.mark.share e.share),
    )
    (omega arith)

pub length-list : (e : Edition) (l : Listing) → length (list_bytes e l) ≡ list_size e (length l.sites) + length (roll_bytes e l.roll)
unfolding list_bytes
length-list e l = simp (length-append, length-le, length-flat (site_bytes e) (site_size e) (length-site e)) (omega arith)

-- a list's bytes, as they are written
pub list-front : (e : Edition) (l : Listing) {k n : ℕ} {d out : List ℕ} → length l.sites ≡ k
    → Front (((([] ++ le 2 e.mark.list) ++ le 2 k) ++ flat_map (site_bytes e) l.sites) ++ roll_bytes e l.roll) d out n → Front (list_bytes e l) d out n
unfolding list_bytes
list-front e l h f = rw h (simp append_assoc at f)
