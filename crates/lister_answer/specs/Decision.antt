-- What a request line is answered with, as values. Document 01, "The lister". How it is written is in Answer.
use Rattle.std.specs.Prelude.{Option, Some, None}
use Rattle.std.specs.Prelude.{ℕ, cond, List}
use Rattle.entcode.specs.Said.Said.{refused}
use Rattle.laws.specs.Signs.{clip}
use Rattle.entdec.specs.declared.Reader.{Reader}
use Rattle.entdec.specs.Read.{fresh_reader}
use Rattle.rate.specs.declared.AllocNumbers.{AllocNumbers}
use Rattle.rate.specs.Question.{lists, no_lists, numbers_ok}
use Rattle.rate.specs.Answer.{AfterRead, after_read}
use Rattle.lister_answer.specs.declared.decide.Decided.{Decided}
use Rattle.lister_answer.specs.Request.{request_of, packet_of}
use Rattle.lister_answer.specs.Answer.{allocated, listing_of_allocation}

-- the bands that are asked for, and what reading their allocation says and leaves in the lists
pub record Decision : Type 0 where
  pub start : ℕ
  pub end : ℕ
  pub read : AfterRead

-- what the code answers
abbrev pub decision : Decided → Decision
decision r = record { start = r.start; end = r.end; read = after_read r.said (lists r.pulses r.fine r.priorities) }

-- a refusal: no bands, and the lists as they were
abbrev pub refused_decision : ℕ → Decision
refused_decision why = record { start = 0; end = 0; read = record { said = refused why; lent = no_lists } }

-- the decision on numbers and a packet: no bands where the numbers are outside the domain
unfoldable pub decision_of_numbers : AllocNumbers → List ℕ → Reader → Decision
decision_of_numbers q packet d =
    record {
      start = cond (numbers_ok q) (clip q.start) 0;
      end = cond (numbers_ok q) (clip q.end) 0;
      read = allocated q packet d;
    }

-- the decision on what a line asks, with a fresh reader of its packet; a malformed line is refused as 1
abbrev pub decision_of_request : Option AllocNumbers → List ℕ → Decision
decision_of_request (Some q) packet = decision_of_numbers q packet (fresh_reader packet)
decision_of_request None packet = refused_decision 1

-- the decision on a line
unfoldable pub decision_of_line : List ℕ → Decision
decision_of_line line = decision_of_request (request_of line) (packet_of line)

-- the text of a decision
abbrev pub listing_of_decision : ℕ → Decision → List ℕ
listing_of_decision number d = listing_of_allocation number d.start d.end d.read.said d.read.lent
