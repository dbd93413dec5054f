-- What a frame on a lent record says, and what the record is then: those of the call by value.
use Rattle.entcode.specs.Said.{Said, answer, said}
use Rattle.entdec.specs.declared.Reader.{Reader}
use Rattle.stream.specs.Frame.{Framed}
use Rattle.stream.specs.declared.Record.{Record}
use Rattle.stream_lent.specs.declared.AppliedStep.{AppliedStep}

-- what is said, and the record after it
pub record Stepped : Type 0 where
  pub said : Said Reader
  pub rec : Record

-- from its parts
abbrev pub stepped : Said Reader → Record → Stepped
stepped a r = record { said = a; rec = r }

-- of a step struct
abbrev pub said_step : AppliedStep → Stepped
said_step r = stepped (said r.answer) r.rec

-- code 0: the reader after the frame; any other: that refusal. And the record after it
abbrev pub step_of : Framed → Stepped
step_of y = stepped (answer y.code y.next) y.rec
