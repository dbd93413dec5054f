-- Document 01's known figures that are proved together: what each call is asked, and what it answers. Every call stands here as its contract
-- states it. The proof is in proofs/Figures.antt.
use Rattle.std.specs.Prelude.{ℕ, false, List, [], ◌∷◌, map, ◌≡◌, ℤ, pos, negsuc, Float, replicate, Ok}
use Rattle.std.specs.Float.{fin}
use Rattle.laws.specs.Lists.{fill}
use Rattle.laws.specs.Signs.{clip}
use Rattle.entcode.specs.Said.{Said}
use Rattle.entcode.specs.Said.Said.{done}
use Rattle.entcode.specs.Sym.Shape.{bit, raw, uint}
use Rattle.entdec.specs.declared.Reader.{Reader}
use Rattle.entdec.specs.Read.{fresh_reader}
use Rattle.entdec.specs.Symbols.{read_sym}
use Rattle.cwrs_counts.specs.Count.{Vn}
use Rattle.rate_cache.specs.Lookups.{pulses_at}
use Rattle.rate_spec.specs.Caps.{cap_of}
use Rattle.rate.specs.Question.{alloc_numbers, lists, no_entries, no_lists}
use Rattle.rate.specs.Answer.{AfterRead, after_read, numbers, reading}
use Rattle.quant_bands.specs.Answer.{After, after, finalise_reading}

-- ---- what is asked

-- a call, with the numbers that differ between the figures
pub data KnownRequest : Type 0 where
  -- get_pulses of an index
  pulses_of : ℤ → KnownRequest
  -- V(N,K), the count below which decode_pulses and encode_pulses code a number
  count_of : ℕ → ℕ → KnownRequest
  -- an allocation of band 0 alone, LM 0, trim 5, offsets 0, the lister's caps: the channels, the total, and the packet's one byte
  shares_of : ℤ → ℤ → ℕ → KnownRequest
  -- one last bit for band 0 of one channel: its fine bits, and the packet's one byte
  last_bit_of : ℤ → ℕ → KnownRequest

-- ---- what is answered

-- what it answers, and what it leaves in what it was lent
pub data KnownAnswer : Type 0 where
  -- a number of pulses, or a refusal
  found : Said ℕ → KnownAnswer
  -- how many words there are
  counted : ℕ → KnownAnswer
  -- an allocation with its lists
  allocated : AfterRead → KnownAnswer
  -- energies after the last bits
  spent : After → KnownAnswer

-- a packet of one byte
abbrev pub one_byte : ℕ → List ℕ
one_byte byte = byte ∷ []

-- a new reader of it
abbrev pub new_reader : ℕ → Reader
new_reader byte = fresh_reader (one_byte byte)

-- 21 entries that begin with n, the others 0
abbrev pub first_entry : ℕ → List ℤ
first_entry n = pos n ∷ replicate 20 (pos 0)

-- the caps of c channels
abbrev pub lister_caps : ℤ → List ℤ
lister_caps c = fill (λ j. pos (cap_of (clip c) 0 j)) 0 21 no_entries

-- 42 energies of which the first is e, the others 0
abbrev pub first_energy : Float → List Float
first_energy e = e ∷ replicate 41 (fin false 0 (pos 0))

-- as the contracts state the calls; what is lent for writing holds zeros before
unfoldable pub answered : KnownRequest → KnownAnswer
answered (KnownRequest.pulses_of i) = KnownAnswer.found (pulses_at i)
answered (KnownRequest.count_of n k) = KnownAnswer.counted (Vn n k)
answered (KnownRequest.shares_of c total byte) =
    KnownAnswer.allocated
    (reading (alloc_numbers c (pos 0) (pos 0) (pos 1) (pos 5) total) no_entries (lister_caps c) (one_byte byte) (new_reader byte) no_lists)
answered (KnownRequest.last_bit_of fine byte) =
    KnownAnswer.spent
    (finalise_reading (pos 1) (pos 0) (pos 1) (fine ∷ replicate 20 (pos 0)) no_entries (pos 1) (one_byte byte) (new_reader byte)
    (first_energy (fin false 0 (pos 0))))

-- ---- the figures

-- accepted: band 0's pulses, fine bits and priority, the balance, the intensity, and the reader after the call; one band is coded
abbrev pub gave : ℕ → ℕ → ℕ → ℕ → ℕ → Reader → KnownAnswer
gave pulses fine prio balance intensity next =
    KnownAnswer.allocated (after_read (Ok (numbers 1 balance intensity false next))
    (lists (first_entry pulses) (first_entry fine) (first_entry prio)))

-- the reader after intensity was read as one of two
abbrev pub after_intensity : ℕ → Reader
after_intensity byte = (read_sym (uint 2) (one_byte byte) (new_reader byte)).next

-- and then after dual stereo
abbrev pub after_dual : ℕ → Reader
after_dual byte = (read_sym (bit 1) (one_byte byte) (after_intensity byte)).next

-- the reader after a raw bit
abbrev pub after_bit : ℕ → Reader
after_bit byte = (read_sym (raw 1) (one_byte byte) (new_reader byte)).next

-- the calls that document 01 has figures for
abbrev pub known_requests : List KnownRequest
known_requests =
    KnownRequest.pulses_of (pos 7) ∷ KnownRequest.pulses_of (pos 8) ∷ KnownRequest.pulses_of (pos 23) ∷ KnownRequest.pulses_of (pos 40) ∷
    KnownRequest.count_of 2 1 ∷ KnownRequest.count_of 2 2 ∷ KnownRequest.count_of 3 2 ∷
    KnownRequest.shares_of (pos 1) (pos 71) 0 ∷ KnownRequest.shares_of (pos 1) (pos 100) 0 ∷ KnownRequest.shares_of (pos 1) (negsuc 4) 0 ∷
    KnownRequest.shares_of (pos 2) (pos 7) 0 ∷ KnownRequest.shares_of (pos 2) (pos 40) 0 ∷ KnownRequest.shares_of (pos 2) (pos 40) 128 ∷
    KnownRequest.last_bit_of (pos 7) 1 ∷ []

-- their figures; 1/512 is 2^-9
abbrev pub figures : List KnownAnswer
figures =
    KnownAnswer.found (done 7) ∷ KnownAnswer.found (done 8) ∷ KnownAnswer.found (done 30) ∷ KnownAnswer.found (done 128) ∷
    KnownAnswer.counted 4 ∷ KnownAnswer.counted 8 ∷ KnownAnswer.counted 18 ∷
    gave 8 7 0 7 0 (new_reader 0) ∷ gave 8 8 0 28 0 (new_reader 0) ∷ gave 0 0 1 0 0 (new_reader 0) ∷
    gave 7 0 1 0 0 (new_reader 0) ∷ gave 16 1 1 0 0 (after_intensity 0) ∷ gave 16 0 0 8 1 (after_dual 128) ∷
    KnownAnswer.spent (after (Ok (after_bit 1)) (first_energy (fin false 1 (negsuc 8)))) ∷ []

-- the statement: each call answers its figure
abbrev pub KnownFigures : Type 0
KnownFigures = map answered known_requests ≡ figures
