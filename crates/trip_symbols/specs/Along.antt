-- A writer, and a reader of what it wrote, side by side through a row of symbols. No call is refused here: the gates stand with the calls.
use Rattle.std.specs.Prelude.{ℕ, ◌≡◌, true, false, List, [], ◌∷◌, length}
use Rattle.entcode.specs.Sym.{Sym, adjust}
use Rattle.entdec.specs.declared.Reader.{Reader}
use Rattle.entdec.specs.Symbols.{read_sym}
use Rattle.entdec.specs.Rule.{reader_ok}
use Rattle.entenc.specs.declared.Writer.{Writer}
use Rattle.entenc.specs.Write.{Wr}
use Rattle.entenc.specs.Symbols.{write_sym}
use Rattle.entenc.specs.Rule.{writer_ok}

-- The reader d of the bytes s stands where the writer w stood: the counts that tell looks at are the same, d keeps its rule where w kept its
-- own, and no read was out of range
pub record Meets (s : List ℕ) (w : Writer) (d : Reader) : Type 0 where
  pub storage : d.storage ≡ w.sink.storage
  pub len : d.storage ≡ length s
  pub total : d.total ≡ w.total
  pub range_is : d.rng ≡ w.rng
  pub rule : writer_ok w ≡ true → reader_ok d ≡ true
  pub error : d.error ≡ false

-- they meet before, between and after the symbols of a row, and each is read as it counts as written
abbrev pub Along : List Sym → List ℕ → Wr → Reader → Type 0
Along [] s w d = Meets s w.st d
Along (y ∷ ys) s w d =
    Meets s w.st d × ((read_sym y.shape s d).value ≡ adjust y.shape y.value)
    × Along ys s (write_sym y.shape y.value w) (read_sym y.shape s d).next
