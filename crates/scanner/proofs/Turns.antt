-- What holds after i records of n have been read: the reader's position, whether a mark is wrong, and the bodies in front of what stood in their places. Assumes nothing.
use Prim.Native.Nat.{ℕ, ◌+◌, ◌*◌, ◌≤◌, ◌<◌}
use mathlib.Core.Bool.{Bool, true, false, not, ◌||◌}
use mathlib.Core.List.{List, [], ◌++◌, map}
use mathlib.Core.Path.{◌≡◌, refl, ap, ap₂, sym, ◌∙◌}
use native.Mathlib.Nat.{mul-suc, mul-le-mul_left}
use native.Mathlib.Numerals.{add-one}
use native.Mathlib.Omega.{arith}
use lib.Dec.{eqb}
use lib.ListN.{length, take, drop, get_or, set, length-map, drop_of_length-le, get_or-map}
use Rattle.sets.specs.Sum.{any}
use Rattle.sets.proofs.Set.{any-start}
use Rattle.records.specs.Bytes.{field}
use Rattle.records.specs.Record.{records, any_of, wrong_mark}
use Rattle.records.specs.Format.{body_of}
use Rattle.records.proofs.Records.{mul-room, length-records, record-fields, test-next, test-all}
use Rattle.walks.proofs.Fronts.{front-next, front_length, front-all}
use Rattle.scanner.specs.Scan.{record_at, RecordsRead, AllRead}
use Rattle.scanner.specs.declared.Record.{Record}
use Rattle.scanner.specs.declared.End.{End}

or-none : (a : Bool) → a ≡ (a || false)
or-none true = refl
or-none false = refl

or-again : (a b c : Bool) → ((a || b) || c) ≡ (a || (b || c))
or-again true b c = refl
or-again false b c = refl

module _ (s : List ℕ) (from w m : ℕ) (before : Bool) (out : List ℕ) where
  abbrev recs : List (List ℕ)
  recs = records (2 + w) (length out) (drop from s)

  -- the position, the test and the places after i records
  abbrev pub at : ℕ → ℕ
  at i = from + (2 + w) * i

  abbrev pub wrong : ℕ → Bool
  wrong i = before || any (λ j. wrong_mark m (get_or recs j [])) i

  abbrev bodies : List ℕ
  bodies = map (body_of w) recs

  abbrev pub filled : ℕ → List ℕ
  filled i = take i bodies ++ drop i out

  many : length bodies ≡ length out
  many = length-map recs (body_of w) ∙ length-records (2 + w) (length out) (drop from s)

  abbrev pub answer : ℕ → End
  answer i = record { wrong = wrong i; at = at i }

  pub begins : from ≡ at 0
  begins = omega arith

  pub begun : ◌≡◌ {A = End} (record { wrong = before; at = from }) (answer 0)
  begun j = record { wrong = (or-none before ∙ ap (λ (b : Bool). before || b) (sym (any-start (λ k. wrong_mark m (get_or recs k []))))) j; at = begins j }

  pub long : (i : ℕ) → i ≤ length out → length (filled i) ≡ length out
  long i l = front_length bodies out i (omega (arith, many)) l

  -- a record more
  module _ (room : from + (2 + w) * length out ≤ length s) (i : ℕ) (l : i < length out) where
    pub there : at i + (2 + w) ≤ length s
    there = omega (arith, mul-room (2 + w) l)

    module _ (r : Record) (e : r ≡ record_at s (at i) w m (wrong i)) where
      pub moves : r.next ≡ at (i + 1)
      moves = ap (λ (x : Record). x.next) e ∙ rw (add-one, mul-suc) (omega arith)

      tests : r.wrong ≡ wrong (i + 1)
      tests =
          let found : Bool = not (eqb (field s (at i) 2) m) in
          ap (λ (x : Record). x.wrong) e
          ∙ or-again before (any (λ j. wrong_mark m (get_or recs j [])) i) found
          ∙ ap (λ (b : Bool). before || b) (test-next (wrong_mark m) recs i refl (ap (λ (k : ℕ). not (eqb k m)) (record-fields from w s l).0) refl)

      pub answers : ◌≡◌ {A = End} (record { wrong = r.wrong; at = r.next }) (answer (i + 1))
      answers j = record { wrong = tests j; at = moves j }

      pub fills : set (filled i) i r.body ≡ filled (i + 1)
      fills =
          let b : r.body ≡ get_or bodies i (body_of w []) = ap (λ (x : Record). x.body) e ∙ (record-fields from w s l).1 ∙ sym (get_or-map (body_of w) recs i []) in
          ap (set (filled i) i) b ∙ front-next bodies out i (body_of w []) (omega (arith, many)) l

  pub reach : from + (2 + w) * length out ≤ length s → (i : ℕ) → i ≤ length out → at i ≤ length s
  reach room i l = omega (arith, mul-le-mul_left (2 + w) l)

  -- all of them
  pub ends : (i : ℕ) → i ≡ length out → RecordsRead s from w m before (length out) (answer i) (filled i)
  ends i e =
      record {
        wrong = ap wrong e ∙ ap (λ (b : Bool). before || b) (test-all (wrong_mark m) recs (length-records (2 + w) (length out) (drop from s)) refl);
        at = ap at e;
        bodies = ap filled e ∙ front-all bodies out (length out) (omega (arith, many)) (omega arith);
      }

-- records of one kind, and behind them records of another
pub joined : {s : List ℕ} {from g k w m n : ℕ} {x y : End} {sets out : List ℕ} → RecordsRead s from 8 g false k x sets → RecordsRead s x.at w m x.wrong n y out → AllRead s from g k w m n y sets out
joined {s} {from} {g} {k} {w} {m} {n} e f =
    record {
      wrong = f.wrong ∙ ap₂ ◌||◌ e.wrong (ap (λ (p : ℕ). any_of (wrong_mark m) (records (2 + w) n (drop p s))) e.at);
      at = f.at ∙ ap (λ (p : ℕ). p + (2 + w) * n) e.at;
      groups = e.bodies;
      bodies = f.bodies ∙ ap (λ (p : ℕ). map (body_of w) (records (2 + w) n (drop p s))) e.at;
    }

-- "nothing follows the last": where the bytes have the length that their counts say, they end at the reader's last position
pub nothing-follows : {s : List ℕ} {from g k w m n : ℕ} {r : End} {sets out : List ℕ} → AllRead s from g k w m n r sets out → length s ≡ from + 10 * k + (2 + w) * n → drop r.at s ≡ []
nothing-follows {s} {r = r} x e =
    let all : length s ≤ r.at = omega (arith, x.at, e) in
    drop_of_length-le s all
