-- The bit allocation, exported: rate's calls, over lists.
use Rattle.std.specs.Prelude.{ℕ, ◌&&◌, List, ℤ}
use Rattle.entenc.specs.Write.{wr}
use Rattle.rate.specs.Answer.{reading, writing}
use Rattle.rate.specs.Question.{Lists}
use Rattle.rate.specs.declared.AllocNumbers.{AllocNumbers}
use Rattle.rate.specs.declared.Wishes.{Wishes}
use Rattle.gurthapen_answer.specs.Result.{Result, exported}
use Rattle.gurthapen_state.specs.State.{reader_of, writer_of, is_stored, is_long}
use Rattle.gurthapen_answer.specs.Allocation.{lists_all_read, lists_all_wrote}

-- an allocation read from the packet s; v is where the four numbers go
abbrev pub reads : AllocNumbers → List ℤ → List ℤ → List ℕ → List ℤ → List ℤ → Lists → Result ((List ℤ × List ℤ) × Lists)
reads q offsets caps s l v bands =
    exported (is_stored l && is_long 4 v) (lists_all_read (reading q offsets caps s (reader_of l) bands)) ((l, v), bands)

-- an allocation written
abbrev pub writes : AllocNumbers → Wishes → List ℤ → List ℤ → List ℤ → List ℤ → Lists → List ℕ → Result ((List ℤ × List ℤ) × (Lists × List ℕ))
writes q h offsets caps l v bands b =
    exported (is_stored l && is_long 4 v) (lists_all_wrote (writing q h offsets caps (wr (writer_of l) b) bands)) ((l, v), (bands, b))
