-- The packet read back and compared with what was written: a new reader, every symbol by its kind, the allocation.
use Rattle.std.specs.Prelude.{ℕ, Bool, false, ◌&&◌, List, ℤ}
use Rattle.entcode.specs.Said.{Said}
use Rattle.entcode.specs.Said.Said.{done, refused}
use Rattle.entdec.specs.declared.Reader.{Reader}
use Rattle.entdec.specs.Answer.{start_of as reader_over}
use Rattle.entenc.specs.declared.Writer.{Writer}
use Rattle.rate.specs.declared.AllocNumbers.{AllocNumbers}
use Rattle.rate.specs.Allocations.{ReadAllocation, WrittenAllocation}
use Rattle.rate.specs.Question.{Lists, no_lists}
use Rattle.rate.specs.Answer.{reading}
use Rattle.trip_theorem.specs.Calls.{Symbol, tells_r, tells_w}
use Rattle.trip_theorem.specs.Rows.{ReadRow, WriteRow, kinds, read_all}
use Rattle.trip_theorem.specs.Rows.WriteRow.{write_row, write_row_refused}
use Rattle.trip_theorem.specs.Rows.ReadRow.{read_row, read_row_refused}
use Rattle.trip_call.specs.Same.{alike, same_ints, same_numbers, same_tells, same_value}

-- y and the lists m are the allocation as it was written
module _ (q : AllocNumbers) (offsets caps : List ℤ) (y : WrittenAllocation) (m : Lists) where
  -- what the reader got is what was written: the four numbers, all entries, and what both tell after it
  abbrev pub same_shares : Said ReadAllocation → Lists → Bool
  same_shares (done x) n =
      same_numbers y x && same_ints m.pulses n.pulses && same_ints m.fine n.fine && same_ints m.priorities n.priorities
      && same_tells (tells_w y.next) (tells_r x.next)
  same_shares (refused k) n = false

  -- what the reader e gets from the packet s
  abbrev pub shares_agree : List ℕ → Reader → Bool
  shares_agree s e = same_shares (reading q offsets caps s e no_lists).said (reading q offsets caps s e no_lists).lent

  -- the symbols as they were written and as they were read: each value, and what both tell after each; then the allocation
  abbrev pub row_agrees : List ℕ → WriteRow → ReadRow → Bool
  row_agrees s (write_row v zs ts) (read_row e xs us) = alike same_value zs xs && alike same_tells ts us && shares_agree s e
  row_agrees s (write_row v zs ts) (read_row_refused i n) = false
  row_agrees s (write_row_refused i n) r = false

  -- a new reader, which knows the kinds alone; w is the new writer, and what both tell before the first symbol is compared too
  abbrev pub reader_agrees : List Symbol → Writer → WriteRow → List ℕ → Said Reader → Bool
  reader_agrees ys w a s (done d) = same_tells (tells_w w) (tells_r d) && row_agrees s a (read_all (kinds ys) s d)
  reader_agrees ys w a s (refused n) = false

-- The reader of the packet s agrees: w is the new writer, a the row as it was written, y and m the allocation
abbrev pub agrees : AllocNumbers → List ℤ → List ℤ → List Symbol → Writer → WriteRow → WrittenAllocation → Lists → List ℕ → Bool
agrees q offsets caps ys w a y m s = reader_agrees q offsets caps y m ys w a s (reader_over s)
