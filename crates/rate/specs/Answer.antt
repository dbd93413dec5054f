-- What an allocation says, by document 01's number of the refusal and the values, and what the lent lists and bytes then hold.
use Rattle.std.specs.Prelude.{ℕ, ◌-◌, Bool, cond, List, ℤ, pos, Result}
use Rattle.entcode.specs.declared.reasons.Refusal.{Refusal}
use Rattle.std.specs.Int.Signed.{lt_z}
use Rattle.laws.specs.Lists.{fill}
use Rattle.laws.specs.Signs.{clip}
use Rattle.entcode.specs.Said.{Said, answer, lent_after, said}
use Rattle.entdec.specs.declared.Reader.{Reader}
use Rattle.entenc.specs.Write.{Wr}
use Rattle.rate_spec.specs.Types.{Band, AllocIn, AllocOut}
use Rattle.rate_spec.specs.Alloc.{alloc}
use Rattle.rate_skip.specs.Asks.{read_ask, write_ask}
use Rattle.rate.specs.declared.AllocNumbers.{AllocNumbers}
use Rattle.rate.specs.declared.Wishes.{Wishes}
use Rattle.rate.specs.declared.Allocation.{Allocation}
use Rattle.rate.specs.declared.work.Worked.{Worked}
use Rattle.rate.specs.Allocations.{ReadAllocation, WrittenAllocation}
use Rattle.rate.specs.Question.{Lists, alloc_input, lists, refusal_read, refusal_write}

-- ---- the definition's answer as the call gives it

-- one of a band's figures in each of the places start..end-1, the others unchanged
abbrev pub with_figure : AllocIn → (Band → ℕ) → AllocOut → List ℤ → List ℤ
with_figure a figure o l = fill (λ j. pos (figure (o.band j))) a.start (a.end - a.start) l

-- the three lists
abbrev pub lists_of : AllocIn → AllocOut → Lists → Lists
lists_of a o l = lists (with_figure a (λ b. b.pulses) o l.pulses) (with_figure a (λ b. b.fine) o l.fine) (with_figure a (λ b. b.prio) o l.priorities)

-- what an allocation came to as counts, with the state of who answered
abbrev pub worked_of : {σ : Type 0} → AllocOut × σ → Worked × σ
worked_of (o, s) = (record { coded = o.coded; balance = o.balance; intensity = o.intensity; dual = o.dual }, s)

-- the numbers, with the coder after the call
abbrev pub numbers : {C : Type 0} → ℕ → ℕ → ℕ → Bool → C → Allocation C
numbers coded balance intensity dual next =
    record { coded = pos coded; balance = pos balance; intensity = pos intensity; dual = pos (cond dual 1 0); next = next }

-- what a decoder's allocation came to, as the answer has it
abbrev pub read_figures : AllocOut × Reader → ReadAllocation
read_figures (o, d) = numbers o.coded o.balance o.intensity o.dual d

-- what an encoder's allocation came to, as the answer has it
abbrev pub written_figures : AllocOut × Wr → WrittenAllocation
written_figures (o, w) = numbers o.coded o.balance o.intensity o.dual w.st

-- ---- reading

-- the allocation whose questions the packet s answers
abbrev pub read_alloc : AllocIn → List ℕ → Reader → AllocOut × Reader
read_alloc a s d = alloc a (read_ask s) d

-- what is said, and the lent lists after the call
pub record AfterRead : Type 0 where
  pub said : Said ReadAllocation
  pub lent : Lists

-- the answer and the lent lists after the call, as one
abbrev pub after_read : Result ReadAllocation Refusal → Lists → AfterRead
after_read r l = record { said = said r; lent = l }

-- number 0: the allocation, and its lists; any other: that refusal, and the lists as they were
unfoldable pub answer_read : ℕ → AllocIn → AllocOut × Reader → Lists → AfterRead
answer_read n a o l = record { said = answer n (read_figures o); lent = lent_after n (lists_of a o.0 l) l }

-- a checked read
abbrev pub reading : AllocNumbers → List ℤ → List ℤ → List ℕ → Reader → Lists → AfterRead
reading q offsets caps s d l =
    answer_read (refusal_read q offsets caps l s d) (alloc_input q offsets caps) (read_alloc (alloc_input q offsets caps) s d) l

-- ---- writing

-- the allocation of an encoder with this intensity and dual stereo, the band count of the frame before and the signal's bandwidth
abbrev pub write_alloc : AllocIn → ℕ → Bool → ℤ → ℤ → Wr → AllocOut × Wr
write_alloc a intensity dual previous bandwidth w = alloc a (write_ask a previous bandwidth intensity dual) w

-- the same, of its wishes as a call is handed them
abbrev pub write_wished : AllocIn → Wishes → Wr → AllocOut × Wr
write_wished a h w = write_alloc a (clip h.intensity) (lt_z (pos 0) h.dual) h.previous h.bandwidth w

-- what is said, and the lent lists and bytes after the call
pub record AfterWrite : Type 0 where
  pub said : Said WrittenAllocation
  pub lent : Lists
  pub bytes : List ℕ

-- the answer, the lent lists and the bytes after the call, as one
abbrev pub after_write : Result WrittenAllocation Refusal → Lists → List ℕ → AfterWrite
after_write r l b = record { said = said r; lent = l; bytes = b }

-- number 0: the allocation, its lists and the bytes; any other: that refusal, and lists and bytes as they were
unfoldable pub answer_written : ℕ → AllocIn → AllocOut × Wr → Lists → Wr → AfterWrite
answer_written n a o l w =
    record { said = answer n (written_figures o); lent = lent_after n (lists_of a o.0 l) l; bytes = lent_after n o.1.bytes w.bytes }

-- a checked write
abbrev pub writing : AllocNumbers → Wishes → List ℤ → List ℤ → Wr → Lists → AfterWrite
writing q h offsets caps w l =
    answer_written (refusal_write q offsets caps l h w) (alloc_input q offsets caps) (write_wished (alloc_input q offsets caps) h w) l w
