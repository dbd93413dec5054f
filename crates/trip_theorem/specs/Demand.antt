-- Document 01's third demand: what is written and closed without error is read back, and reader and writer come to the same allocation. Every
-- call stands here as its contract states it.
use Rattle.std.specs.Prelude.{ℕ, ◌≤◌, ◌<◌, ◌≡◌, false, List, ℤ, pos, get_or, length, Ok}
use Rattle.laws.specs.Lists.{Bytes}
use Rattle.entcode.specs.Said.Said.{done}
use Rattle.entdec.specs.declared.Reader.{Reader}
use Rattle.entdec.specs.Answer.{start_of as reader_over}
use Rattle.entenc.specs.declared.Writer.{Writer}
use Rattle.entenc.specs.Answer.{start_of as writer_over, after, closing}
use Rattle.entenc.specs.Write.{Wr, wr}
use Rattle.rate_spec.specs.Types.{AllocIn, AllocOut}
use Rattle.rate_spec.specs.Answers.{alloc_of_flags}
use Rattle.rate_spec.specs.Written.{written}
use Rattle.rate_skip.specs.Asks.{write_bit, write_below}
use Rattle.rate.specs.declared.AllocNumbers.{AllocNumbers}
use Rattle.rate.specs.declared.Wishes.{Wishes}
use Rattle.rate.specs.Allocations.{ReadAllocation, WrittenAllocation}
use Rattle.rate.specs.Question.{Lists, alloc_input}
use Rattle.rate.specs.Answer.{after_read, after_write, lists_of, read_figures, reading, write_wished, writing, written_figures}
use Rattle.trip_theorem.specs.Calls.{Symbol, Tells, tells_r, tells_w}
use Rattle.trip_theorem.specs.Rows.{write_all, read_all, kinds}
use Rattle.trip_theorem.specs.Rows.WriteRow.{write_row}
use Rattle.trip_theorem.specs.Rows.ReadRow.{read_row}

-- the same entry in each of the places start..end-1
abbrev pub SameIn : AllocIn → List ℤ → List ℤ → Type 0
SameIn a x y = (j : ℕ) → a.start ≤ j → j < a.end → get_or x j (pos 0) ≡ get_or y j (pos 0)

-- the reader's lists are as long as the writer's
pub record SameSizes (l m : Lists) : Type 0 where
  pub pulses : length m.pulses ≡ length l.pulses
  pub fine : length m.fine ≡ length l.fine
  pub priorities : length m.priorities ≡ length l.priorities

-- What was done: lent bytes, symbols, an allocation's numbers, offsets and caps, an encoder's wishes, and the lists lent for the answer
module _ (bytes : List ℕ) (ys : List Symbol) (q : AllocNumbers) (offsets caps : List ℤ) (h : Wishes) (l : Lists) where
  -- each call of the writer's side was accepted, in this order
  pub record Sent : Type 0 where
    -- a new writer over the bytes
    pub first : Writer
    pub new : writer_over (length bytes) ≡ done first
    -- the symbols were accepted: zs as they count as written, ts what the writer tells after each
    pub row : Wr
    pub zs : List Symbol
    pub ts : List Tells
    pub writes : write_all ys (wr first bytes) ≡ write_row row zs ts
    -- the allocation was accepted
    pub shares : WrittenAllocation
    pub lists : Lists
    pub filled : List ℕ
    pub allots : writing q h offsets caps row l ≡ after_write (Ok shares) lists filled
    -- close was accepted and reported no error
    pub last : Writer
    pub packet : List ℕ
    pub closes : closing (wr shares.next filled) ≡ after (Ok last) packet
    pub fits : last.sink.error ≡ false

  -- What then holds of a reader that is lent the lists m
  module _ (k : Sent) (m : Lists) where
    -- each call of the reader's side is accepted, and gives what the writer's side gave
    pub record Agreed : Type 0 where
      -- a new reader of those bytes, which has the new writer's storage and tells what that tells
      pub first : Reader
      pub new : reader_over k.packet ≡ done first
      pub storage : first.storage ≡ k.first.sink.storage
      pub begins : tells_r first ≡ tells_w k.first
      -- it accepts and reads the same symbols, and tells the same after each
      pub row : Reader
      pub reads : read_all (kinds ys) k.packet first ≡ read_row row k.zs k.ts
      -- it accepts the allocation with the same shared inputs
      pub shares : ReadAllocation
      pub lists : Lists
      pub allots : reading q offsets caps k.packet row m ≡ after_read (Ok shares) lists
      -- and gets the same
      pub coded : shares.coded ≡ k.shares.coded
      pub balance : shares.balance ≡ k.shares.balance
      pub intensity : shares.intensity ≡ k.shares.intensity
      pub dual : shares.dual ≡ k.shares.dual
      pub pulses : SameIn (alloc_input q offsets caps) lists.pulses k.lists.pulses
      pub fine : SameIn (alloc_input q offsets caps) lists.fine k.lists.fine
      pub priorities : SameIn (alloc_input q offsets caps) lists.priorities k.lists.priorities
      -- it still has the same storage and tells the same, and no read was out of range
      pub storage-last : shares.next.storage ≡ k.shares.next.sink.storage
      pub tells : tells_r shares.next ≡ tells_w k.shares.next
      pub error : shares.next.error ≡ false
      -- Both show the definition's allocation for the flags, the intensity and the dual stereo that were written: these are the symbols between
      -- the writer before the allocation and the writer after it
      pub out : AllocOut
      pub given : out ≡ alloc_of_flags (alloc_input q offsets caps) out.flags out.intensity out.dual
      pub symbols : wr k.shares.next k.filled ≡ written write_bit write_below (alloc_input q offsets caps) out k.row
      pub figures-written : k.shares ≡ written_figures (out, wr k.shares.next k.filled)
      pub lists-written : k.lists ≡ lists_of (alloc_input q offsets caps) out l
      pub figures-read : shares ≡ read_figures (out, shares.next)
      pub lists-read : lists ≡ lists_of (alloc_input q offsets caps) out m

-- The demand: over bytes, what was sent is agreed on, whatever lists of the same sizes the reader is lent
abbrev pub Demand3 : Type 0
Demand3 =
    (bytes : List ℕ) (ys : List Symbol) (q : AllocNumbers) (offsets caps : List ℤ) (h : Wishes) (l : Lists) (k : Sent bytes ys q offsets caps h l) (m : Lists)
    → Bytes bytes → SameSizes l m → Agreed bytes ys q offsets caps h l k m

-- ---- what was coded is in the writer and its bytes

module _ (bytes : List ℕ) (ys : List Symbol) (q : AllocNumbers) (offsets caps : List ℤ) (h : Wishes) (l : Lists) (k : Sent bytes ys q offsets caps h l) where
  -- the same bytes, symbols and question with other wishes and other lists: an accepted allocation after the same symbols, that leaves the same
  -- writer and the same bytes
  pub record SentAlike (g : Wishes) (m : Lists) : Type 0 where
    pub shares : WrittenAllocation
    pub lists : Lists
    pub filled : List ℕ
    pub allots : writing q g offsets caps k.row m ≡ after_write (Ok shares) lists filled
    pub same_writer : shares.next ≡ k.shares.next
    pub same_bytes : filled ≡ k.filled

-- what an encoder with these wishes comes to after the symbols
abbrev pub came_to : AllocNumbers → List ℤ → List ℤ → Wishes → Wr → AllocOut
came_to q offsets caps h w = (write_wished (alloc_input q offsets caps) h w).0

-- The flags, the intensity and dual stereo, and whether the last two were coded
pub record SameCoded (x y : AllocOut) : Type 0 where
  pub flags : x.flags ≡ y.flags
  pub intensity-coded : x.intensity_coded ≡ y.intensity_coded
  pub intensity : x.intensity ≡ y.intensity
  pub dual-coded : x.dual_coded ≡ y.dual_coded
  pub dual : x.dual ≡ y.dual

-- Where the close reports no error, the same writer with the same bytes after the allocation means that the same was coded: other flags, another
-- intensity or another dual stereo leave another writer or other bytes
abbrev pub CodedOnce : Type 0
CodedOnce =
    (bytes : List ℕ) (ys : List Symbol) (q : AllocNumbers) (offsets caps : List ℤ) (h g : Wishes) (l m : Lists) (k : Sent bytes ys q offsets caps h l)
    → Bytes bytes → SentAlike bytes ys q offsets caps h l k g m → SameCoded (came_to q offsets caps g k.row) (came_to q offsets caps h k.row)

-- ---- the same of symbols alone, with no allocation before the close

module _ (bytes : List ℕ) (ys : List Symbol) where
  -- a new writer, the symbols and the close were accepted
  pub record RowSent : Type 0 where
    pub first : Writer
    pub new : writer_over (length bytes) ≡ done first
    pub row : Wr
    pub zs : List Symbol
    pub ts : List Tells
    pub writes : write_all ys (wr first bytes) ≡ write_row row zs ts
    pub last : Writer
    pub packet : List ℕ
    pub closes : closing row ≡ after (Ok last) packet
    pub unmarked : last.sink.error ≡ false

  module _ (k : RowSent) where
    -- a new reader of the packet reads the same symbols, tells the same after each, and reports no error
    pub record RowAgreed : Type 0 where
      pub first : Reader
      pub new : reader_over k.packet ≡ done first
      pub storage : first.storage ≡ k.first.sink.storage
      pub begins : tells_r first ≡ tells_w k.first
      pub row : Reader
      pub reads : read_all (kinds ys) k.packet first ≡ read_row row k.zs k.ts
      pub storage-last : row.storage ≡ k.row.st.sink.storage
      pub error : row.error ≡ false

-- The demand of a row: over bytes, what was sent is agreed on
abbrev pub Row3 : Type 0
Row3 = (bytes : List ℕ) (ys : List Symbol) (k : RowSent bytes ys) → Bytes bytes → RowAgreed bytes ys k
