-- What the lister answers to a line: the allocation that is read from the line's packet, or the number of the refusal.
use Rattle.std.specs.Prelude.{ℕ, ◌-◌, cond, List, ◌++◌, leb, length, Option, Some, None, Result}
use Rattle.entcode.specs.declared.reasons.Refusal.{Refusal}
use Rattle.std.proofs.lemmas.List.Edits.{sets}
use Rattle.laws.specs.Signs.{clip}
use Rattle.entcode.specs.Said.{Said, answer, lent_after, said}
use Rattle.entcode.specs.Said.Said.{done, refused}
use Rattle.entdec.specs.declared.Reader.{Reader}
use Rattle.entdec.specs.Read.{fresh_reader}
use Rattle.rate.specs.declared.AllocNumbers.{AllocNumbers}
use Rattle.rate.specs.Allocations.{ReadAllocation}
use Rattle.rate.specs.Question.{Lists, no_entries, no_lists}
use Rattle.rate.specs.Answer.{AfterRead, reading}
use Rattle.lister_answer.specs.Request.{request_of, packet_of}
use Rattle.lister_answer.specs.Caps.{caps_of}
use Rattle.lister_answer.specs.Lines.{head_line, band_lines, refused_line}

-- the allocation's reading side with a reader of the packet: offsets 0, the caps by the rule
unfoldable pub allocated : AllocNumbers → List ℕ → Reader → AfterRead
allocated q packet d = reading q no_entries (caps_of (clip q.c) (clip q.lm)) packet d no_lists

-- the listing of what reading an allocation said: R and a B for each band from start up to end - 1, or X
abbrev pub listing_of_allocation : ℕ → ℕ → ℕ → Said ReadAllocation → Lists → List ℕ
listing_of_allocation number start end (done y) l = head_line number y ++ band_lines start (end - start) l
listing_of_allocation number start end (refused why) l = refused_line number why

-- the listing of numbers and a packet, with a reader of it
unfoldable pub listing_of_numbers : ℕ → AllocNumbers → List ℕ → Reader → List ℕ
listing_of_numbers number q packet d = listing_of_allocation number (clip q.start) (clip q.end) (allocated q packet d).said (allocated q packet d).lent

-- the listing of what a line asks, with a fresh reader of its packet; a malformed line is refused as 1
abbrev pub listing_of_request : ℕ → Option AllocNumbers → List ℕ → List ℕ
listing_of_request number (Some q) packet = listing_of_numbers number q packet (fresh_reader packet)
listing_of_request number None packet = refused_line number 1

-- the listing of a line: the text that answers it
unfoldable pub listing_of_line : ℕ → List ℕ → List ℕ
listing_of_line number line = listing_of_request number (request_of line) (packet_of line)

-- a buffer of this many bytes holds every listing
abbrev pub room : ℕ
room = 1200

-- what is said, and the lent buffer after the call
pub record After : Type 0 where
  pub said : Said ℕ
  pub lent : List ℕ

-- both together
abbrev pub after : Result ℕ Refusal → List ℕ → After
after r l = record { said = said r; lent = l }

-- the number of the refusal, 0 for none, with so many bytes lent: a buffer that is too short (2)
abbrev pub refusal_list : ℕ → ℕ
refusal_list n = cond (leb room n) 0 2

-- a checked listing. Number 0: the listing stands at the start of the buffer, and its length is said; any other: that refusal, and the buffer as it was
unfoldable pub listing : ℕ → List ℕ → List ℕ → After
listing number line out =
    record {
      said = answer (refusal_list (length out)) (length (listing_of_line number line));
      lent = lent_after (refusal_list (length out)) (sets out 0 (listing_of_line number line)) out;
    }
