-- A coder's state as other languages hold it: eleven numbers, in the crate's order and encoding, and whether the writer is closed.
--
--      0 storage    1 end_offs   2 end_window   3 nend_bits   4 nbits_total   5 offs
--      6 rng        7 val        8 ext          9 rem        10 error        11 closed
use Rattle.std.specs.Prelude.{ℕ, Bool, cond, ◌&&◌, ◌||◌, List, [], ◌∷◌, eqb, ℤ, pos, negsuc, length, get_or, take}
use Rattle.std.specs.Int.Signed.{lt_z}
use Rattle.laws.specs.Lists.{every}
use Rattle.laws.specs.Signs.{clip, in_range}
use Rattle.entdec.specs.declared.Reader.{Reader}
use Rattle.entenc.specs.declared.Writer.{Writer}
use Rattle.entenc_sink.specs.Out.{sink_of}

-- ---- one number

-- it fits the 32 bits of a count
abbrev pub is_count : ℤ → Bool
is_count z = in_range (pos 0) (pos 4294967295) z

-- as a count: one that does not fit is read as the largest
unfoldable pub count_of : ℤ → ℕ
count_of z = cond (is_count z) (clip z) 4294967295

-- as a mark: every number but 0 is one
abbrev pub mark_of : ℤ → Bool
mark_of z = lt_z z (pos 0) || lt_z (pos 0) z

-- a writer's held byte: -1 outside, and 256 inside, where there is none
unfoldable pub held_of : ℤ → ℕ
held_of z = cond (in_range (pos 0) (pos 255) z) (clip z) 256

-- such a number is -1..255
abbrev pub held_fits : ℤ → Bool
held_fits z = in_range (negsuc 0) (pos 255) z

-- and back
unfoldable pub list_held : ℕ → ℤ
list_held rem = cond (eqb rem 256) (negsuc 0) (pos rem)

-- ---- a list

-- it has n numbers
abbrev pub is_long : {A : Type 0} → ℕ → List A → Bool
is_long n l = eqb (length l) n

-- it can hold a state
abbrev pub is_state : List ℤ → Bool
is_state l = is_long 12 l

-- the number at a place
abbrev pub entry : List ℤ → ℕ → ℤ
entry l i = get_or l i (pos 0)

-- it can hold a state whose storage the length of lent bytes can equal: a number that does not fit a count is unlike every length
abbrev pub is_stored : List ℤ → Bool
is_stored l = is_state l && is_count (entry l 0)

-- every count of a reader fits
abbrev pub reader_fits : List ℤ → Bool
reader_fits l = every is_count (take 10 l)

-- every count of a writer fits, and the held byte is -1..255
abbrev pub writer_fits : List ℤ → Bool
writer_fits l = every is_count (take 9 l) && held_fits (entry l 9)

-- the range of a state: 0, which breaks its rule, where a number of the list does not fit
unfoldable pub range_of : Bool → ℤ → ℕ
range_of fits z = cond fits (count_of z) 0

-- ---- a reader

-- the reader that a list holds
unfoldable pub reader_of : List ℤ → Reader
reader_of l =
    record {
      storage = count_of (entry l 0);
      offs = count_of (entry l 5);
      ends = count_of (entry l 1);
      window = count_of (entry l 2);
      waiting = count_of (entry l 3);
      total = count_of (entry l 4);
      rng = range_of (reader_fits l) (entry l 6);
      val = count_of (entry l 7);
      ext = count_of (entry l 8);
      rem = count_of (entry l 9);
      error = mark_of (entry l 10);
    }

-- and back: the error mark is 1, a reader is never closed
unfoldable pub list_of_reader : Reader → List ℤ
list_of_reader d =
    pos d.storage ∷ pos d.ends ∷ pos d.window ∷ pos d.waiting ∷ pos d.total ∷ pos d.offs ∷ pos d.rng ∷ pos d.val
    ∷ pos d.ext ∷ pos d.rem ∷ cond d.error (pos 1) (pos 0) ∷ pos 0 ∷ []

-- ---- a writer

-- the writer that a list holds
unfoldable pub writer_of : List ℤ → Writer
writer_of l =
    record {
      sink = sink_of (count_of (entry l 0)) (count_of (entry l 5)) (count_of (entry l 1)) (mark_of (entry l 10));
      rem = held_of (entry l 9);
      ext = count_of (entry l 8);
      val = count_of (entry l 7);
      rng = range_of (writer_fits l) (entry l 6);
      total = count_of (entry l 4);
      window = count_of (entry l 2);
      waiting = count_of (entry l 3);
      closed = mark_of (entry l 11);
    }

-- and back: the error mark is -1, as in the crate, and closed is 1
unfoldable pub list_of_writer : Writer → List ℤ
list_of_writer w =
    pos w.sink.storage ∷ pos w.sink.ends ∷ pos w.window ∷ pos w.waiting ∷ pos w.total ∷ pos w.sink.offs ∷ pos w.rng
    ∷ pos w.val ∷ pos w.ext ∷ list_held w.rem ∷ cond w.sink.error (negsuc 0) (pos 0) ∷ cond w.closed (pos 1) (pos 0) ∷ []
