-- Document 02, e: "only the list and the held plan written out are now in edition 2, the same figures in the longer records, with length and row 20 counted by those". What is
-- written out after the step to edition 2 is what the converter of document 02, d, makes of what was written out before.
use Rattle.std.specs.Prelude.{◌≡◌, false, List, ℕ, take}
use Rattle.records.specs.Outcome.{Outcome, refused, passed}
use Rattle.records.specs.Write.{is_short}
use Rattle.records.specs.Files.{plan_part}
use Rattle.held_state.specs.Held.{State}
use Rattle.store.specs.declared.Request.TheVariants.{Written, ListWritten}
use Rattle.store.specs.Calls.{Call, Reply, same, put_out, wrote}
use Rattle.store.specs.Calls as told
use Rattle.store.specs.State.{list_out}
use Rattle.store.specs.Trace.{Steps}
use Rattle.converter.specs.Convert.{upgrade, convert_list, convert_plan}

-- what a call that writes replies, by what the converter finds for its buffer: the row, or the bytes at the front and their length
abbrev pub writing : Call → Outcome (List ℕ) → Reply
writing c (refused n) = same c (told.refused n)
writing c (passed bytes) = put_out c bytes

-- of the state before the step and the state after it
pub record Converted (s s' : State) : Type 0 where
  -- the list: its answer, row 20 and every byte of the buffer
  pub list : (c c' : Call) (r r' : Reply) (t t' : State) (n : ℕ) → c.request ≡ ListWritten → Steps s c r t → r.answer ≡ wrote n
      → c'.request ≡ ListWritten → Steps s' c' r' t' → r' ≡ writing c' (convert_list upgrade (take n r.buffer) c'.buffer)
  -- the plan, "converted along with its list", whatever buffer with room the list goes to
  pub plan : (c d d' : Call) (r q q' : Reply) (t u u' : State) (n m : ℕ) → c.request ≡ ListWritten → Steps s c r t → r.answer ≡ wrote n
      → d.request ≡ Written → Steps s d q u → q.answer ≡ wrote m → (out : List ℕ) → is_short out (list_out s') ≡ false
      → d'.request ≡ Written → Steps s' d' q' u' → q' ≡ writing d' (plan_part (convert_plan upgrade (take n r.buffer) (take m q.buffer) out d'.buffer))
