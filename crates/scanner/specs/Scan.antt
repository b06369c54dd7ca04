-- Document 01, "Records and their marks": "records are read one after another".
use Rattle.std.specs.Prelude.{ℕ, ◌+◌, ◌*◌, Bool, not, ◌||◌, List, map, ◌≡◌, eqb, drop}
use Rattle.records.specs.Bytes.{field}
use Rattle.records.specs.Record.{records, any_of, wrong_mark}
use Rattle.records.specs.Format.{body_of}
use Rattle.scanner.specs.declared.Record.{Record}
use Rattle.scanner.specs.declared.End.{End}

-- the record at a position, a mark and a body of w bytes: whether its mark is another than m, or one before it was wrong; its body; and the position behind it
abbrev pub record_at : List ℕ → ℕ → ℕ → ℕ → Bool → Record
record_at s at w m wrong = record { wrong = wrong || not (eqb (field s at 2) m); body = field s (at + 2) w; next = at + (2 + w) }

-- n records of one kind, each a mark and a body of w bytes, from a position of s on, were read: whether a mark is another than m, or one before them was wrong; the position behind the last; and the bodies
pub record RecordsRead (s : List ℕ) (from w m : ℕ) (before : Bool) (n : ℕ) (r : End) (out : List ℕ) : Type 0 where
  pub wrong : r.wrong ≡ (before || any_of (wrong_mark m) (records (2 + w) n (drop from s)))
  pub at : r.at ≡ from + (2 + w) * n
  pub bodies : out ≡ map (body_of w) (records (2 + w) n (drop from s))

-- k records with the mark g and a body of 8 bytes were read, and behind them n with the mark m and a body of w bytes
pub record AllRead (s : List ℕ) (from g k w m n : ℕ) (r : End) (sets out : List ℕ) : Type 0 where
  pub wrong : r.wrong ≡ (any_of (wrong_mark g) (records 10 k (drop from s)) || any_of (wrong_mark m) (records (2 + w) n (drop (from + 10 * k) s)))
  pub at : r.at ≡ from + 10 * k + (2 + w) * n
  pub groups : sets ≡ map (body_of 8) (records 10 k (drop from s))
  pub bodies : out ≡ map (body_of w) (records (2 + w) n (drop (from + 10 * k) s))
