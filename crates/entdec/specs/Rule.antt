-- What a reader that is handed in must meet, and what a read is refused with. Document 01, "When the answer is no".
use Rattle.std.specs.Prelude.{ℕ, List, Bool, true, ◌&&◌, length, ltb, leb, eqb}
use Rattle.entcode.specs.Counts.{counts_ok, tell_ok}
use Rattle.entcode.specs.Refusal.{refusal}
use Rattle.entcode.specs.Sym.{Shape, length_ok, shape_ok, list_ok}
use Rattle.entdec.specs.declared.Reader.{Reader}

-- the rule of a reader: what a writer's counts must meet too; the value is less than the range; no place is past the storage; rem is a byte
unfoldable pub reader_ok : Reader → Bool
reader_ok d =
    counts_ok d.storage d.rng d.waiting d.total && ltb d.val d.rng && leb d.offs d.storage
    && leb d.ends d.storage && leb d.rem 255

-- The refusal of a call that can read symbols, 0 for none. n bytes are lent. The call says whether its other lengths, its numbers and its
-- lists are right, and its special refusal from 5 to 11, 0 for none
unfoldable pub read_refusal : ℕ → Reader → Bool → Bool → Bool → ℕ → ℕ
read_refusal n d lengths numbers lists special =
    refusal (eqb d.storage n && lengths) (reader_ok d && numbers) lists special true (tell_ok d.storage d.total d.rng)

-- the refusal of reading one symbol of a kind
unfoldable pub refusal_r : Shape → List ℕ → Reader → ℕ
refusal_r h s d = read_refusal (length s) d (length_ok h) (shape_ok h) (list_ok h) 0
