-- `unquant_energy_finalise` takes the fine bits and priorities that an allocation gave, where the entries that no band of it has were in range when
-- they were lent. The proofs are in proofs/Finalise.antt.
use Rattle.std.specs.Prelude.{ℕ, ◌≤◌, ◌<◌, true, List, ◌⊎◌, ◌≡◌, ℤ, pos, Float, get_or, length, replicate, Ok}
use Rattle.laws.specs.Signs.{clip, in_range}
use Rattle.entdec.specs.declared.Reader.{Reader}
use Rattle.entdec.specs.Rule.{read_refusal}
use Rattle.entenc.specs.Write.{Wr}
use Rattle.rate.specs.declared.AllocNumbers.{AllocNumbers}
use Rattle.rate.specs.declared.Wishes.{Wishes}
use Rattle.rate.specs.Allocations.{ReadAllocation, WrittenAllocation}
use Rattle.rate.specs.Question.{Lists, lists}
use Rattle.rate.specs.Answer.{after_read, after_write, reading, writing}
use Rattle.quant_bands.specs.Question.{bands_ok, energies_ok, energies_sized, fines_ok, refusal_finalise}

-- the entries outside the places start..end-1 are in 0..most
abbrev pub OthersIn : ℕ → ℕ → ℕ → List ℤ → Type 0
OthersIn most start end l = (i : ℕ) → (i < start) ⊎ (end ≤ i) → in_range (pos 0) (pos most) (get_or l i (pos 0)) ≡ true

-- of the lists lent to an allocation: fine bits 0..8 and priorities 0..1 where no band of it is
pub record LentFit (q : AllocNumbers) (l : Lists) : Type 0 where
  pub fine : OthersIn 8 (clip q.start) (clip q.end) l.fine
  pub priorities : OthersIn 1 (clip q.start) (clip q.end) l.priorities

-- of its lists after the call, whatever packet, reader and energies the last bits are handed beside them
pub record TakenByFinalise (q : AllocNumbers) (m : Lists) : Type 0 where
  -- every entry passes
  pub fits : fines_ok m.fine m.priorities ≡ true
  -- so the two lists decide nothing: the call is refused as it is for its bytes, state, numbers and energies alone
  pub pass : (c start end : ℤ) (s : List ℕ) (d : Reader) (es : List Float)
      → refusal_finalise c start end m.fine m.priorities s d es
      ≡ read_refusal (length s) d (energies_sized (length es)) (bands_ok c start end) (energies_ok es) 0
  -- and never as 3 where the energies are finite
  pub not_three : (c start end : ℤ) (s : List ℕ) (d : Reader) (es : List Float) → energies_ok es ≡ true
      → refusal_finalise c start end m.fine m.priorities s d es ≡ 3 → ⊥
  -- the allocation's own channels and bands pass too
  pub numbers : bands_ok q.c q.start q.end ≡ true

-- an allocation that was read
abbrev pub ReadIsTaken : Type 0
ReadIsTaken =
    (q : AllocNumbers) (offsets caps : List ℤ) (s : List ℕ) (d : Reader) (l m : Lists) (y : ReadAllocation) → LentFit q l
    → reading q offsets caps s d l ≡ after_read (Ok y) m → TakenByFinalise q m

-- and one that was written
abbrev pub WrittenIsTaken : Type 0
WrittenIsTaken =
    (q : AllocNumbers) (h : Wishes) (offsets caps : List ℤ) (w : Wr) (l m : Lists) (b : List ℕ) (y : WrittenAllocation) → LentFit q l
    → writing q h offsets caps w l ≡ after_write (Ok y) m b → TakenByFinalise q m

-- lists of zeros are such
abbrev pub ZerosFit : Type 0
ZerosFit = (q : AllocNumbers) (n : ℕ) → LentFit q (lists (replicate n (pos 0)) (replicate n (pos 0)) (replicate n (pos 0)))
