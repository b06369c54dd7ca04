-- Document 01, "Entry points": what a desk call is given, and what it answers; document 02, e: what a history is made of.
use Rattle.std.specs.Prelude.{List, [], ℕ, ℤ, length}
use Rattle.std.specs.declared.result.Result.{Result}
use Rattle.std.specs.declared.result.Result.TheVariants.{Ok, Err}
use Rattle.density.specs.declared.Site.{Site}
use Rattle.records.specs.declared.refusal.Refusal.{Refusal}
use Rattle.records.specs.Refusals.{number}
use Rattle.records.specs.Write.{onto}
use Rattle.store.specs.declared.Request.{Request}
use Rattle.store.specs.declared.Answer.{Answer}
use Rattle.store.specs.declared.Answer.TheVariants as of

-- A call: its request with the figures that it names, its input and its buffer. "What else a call is lent is its own."
pub record Call : Type 0 where
  pub request : Request
  pub input : List ℕ
  pub buffer : List ℕ

-- What a call answers: "A refusal is its number and no other figure"; success; "a site's s and w × q"; "a depot's W and q"; the difference "with
-- the divisor"; the length written; a set of depots (document 02, a).
pub data Told : Type 0 where
  refused : ℕ → Told
  done : Told
  shared : ℕ → ℕ → Told
  loaded : ℕ → ℕ → Told
  differ : ℤ → ℕ → Told
  wrote : ℕ → Told
  reached : ℕ → Told

-- the paper's number and values for each case of the answer
abbrev pub told : Result Answer Refusal → Told
told (Err e) = refused (number e)
told (Ok of.Done) = done
told (Ok (of.Share s w)) = shared s w
told (Ok (of.Depot w q)) = loaded w q
told (Ok (of.Difference d q)) = differ d q
told (Ok (of.Length n)) = wrote n
told (Ok (of.Reached x)) = reached x

-- An answer, and the buffer as it then is.
pub record Reply : Type 0 where
  pub answer : Told
  pub buffer : List ℕ

-- an answer that leaves the buffer as it was
abbrev pub same : Call → Told → Reply
same c a = record { answer = a; buffer = c.buffer }

-- bytes put to the front of the buffer; document 02, b: "every writer answers the length it wrote"
abbrev pub put_out : Call → List ℕ → Reply
put_out c bytes = record { answer = wrote (length bytes); buffer = onto bytes c.buffer }

-- an answer without a buffer
abbrev pub unbuffered : Told → Reply
unbuffered a = record { answer = a; buffer = [] }

-- What a history is made of: a call, or document 02, e, the step of a store of edition 1 to edition 2, with the content of its new table ("A desk kept by the old widths is
-- turned into one by the new").
pub data Event : Type 0 where
  called : Call → Event
  migrate : List Site → Event
