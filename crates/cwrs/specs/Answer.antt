-- What the public calls say, by document 01's number of the refusal and the values, and what the lent places then hold.
use Rattle.std.specs.Prelude.{ℕ, Bool, true, cond, ◌&&◌, List, ◌++◌, ℤ, length, take, drop, ltb, leb, eqb, Result}
use Rattle.entcode.specs.declared.reasons.Refusal.{Refusal}
use Rattle.entcode.specs.Said.{Said, answer, lent_after, said}
use Rattle.entcode.specs.Sym.Shape.{uint}
use Rattle.entdec.specs.declared.Reader.{Reader}
use Rattle.entdec.specs.Coded.{ReadSymbol}
use Rattle.entdec.specs.Rule.{read_refusal}
use Rattle.entdec.specs.Symbols.{read_sym}
use Rattle.entenc.specs.Write.{Wr}
use Rattle.entenc.specs.Rule.{write_refusal}
use Rattle.entenc.specs.Symbols.{write_sym}
use Rattle.entenc.specs.Answer as wrote
use Rattle.cwrs_counts.specs.Count.{Vn}
use Rattle.cwrs.specs.Word.{pulses, energy, index, word}
use Rattle.cwrs.specs.declared.Found.{Found}

-- ---- the refusals that are these calls' own

-- N 2..176 and K 1..128 (1)
abbrev pub in_domain : ℕ → ℕ → Bool
in_domain n k = leb 2 n && leb n 176 && leb 1 k && leb k 128

-- lent are as many places as the longest vector takes, whatever n is (2)
abbrev pub places_sized : List ℤ → Bool
places_sized y = eqb (length y) 176

-- reading: V(N,K) is below 2^32, or 7
unfoldable pub special_read : ℕ → ℕ → ℕ
special_read n k = cond (ltb (Vn n k) 4294967296) 0 7

-- writing: 7 first, and then the first n places have k pulses, or 8
unfoldable pub special_write : List ℤ → ℕ → ℕ → ℕ
special_write y n k = cond (ltb (Vn n k) 4294967296) (cond (eqb (pulses (take n y)) k) 0 8) 7

-- ---- reading

-- the number read, below V(N,K)
abbrev pub read_index : ℕ → ℕ → List ℕ → Reader → ReadSymbol
read_index n k s d = read_sym (uint (Vn n k)) s d

-- its vector
abbrev pub read_word : ℕ → ℕ → List ℕ → Reader → List ℤ
read_word n k s d = word n k (read_index n k s d).value

-- the vector's energy, and the reader after it
abbrev pub found_of : ℕ → ℕ → List ℕ → Reader → Found
found_of n k s d = record { energy = energy (read_word n k s d); next = (read_index n k s d).next }

-- the refusal of reading, 0 for none
unfoldable pub refusal_read : ℕ → ℕ → List ℕ → Reader → List ℤ → ℕ
refusal_read n k s d y = read_refusal (length s) d (places_sized y) (in_domain n k) true (special_read n k)

-- what is said, and the lent places after the call
pub record AfterRead : Type 0 where
  pub said : Said Found
  pub places : List ℤ

-- made of its two parts
abbrev pub after_read : Result Found Refusal → List ℤ → AfterRead
after_read r y = record { said = said r; places = y }

-- number 0: what was found, with its places; any other: that refusal, and the places as they were
abbrev pub answer_r : ℕ → Found → List ℤ → List ℤ → AfterRead
answer_r m f v y = record { said = answer m f; places = lent_after m v y }

-- a checked read: the vector stands in the first n places, and the others stay
abbrev pub reading : ℕ → ℕ → List ℕ → Reader → List ℤ → AfterRead
reading n k s d y = answer_r (refusal_read n k s d y) (found_of n k s d) (read_word n k s d ++ drop n y) y

-- ---- writing

-- the number of the first n places, as one below V(N,K)
abbrev pub write_word : ℕ → ℕ → List ℤ → Wr → Wr
write_word n k y w = write_sym (uint (Vn n k)) (index (take n y)) w

-- the refusal of writing, 0 for none
unfoldable pub refusal_write : ℕ → ℕ → List ℤ → Wr → ℕ
refusal_write n k y w = write_refusal (length w.bytes) w.st (places_sized y) (in_domain n k) true (special_write y n k)

-- a checked write
abbrev pub writing : ℕ → ℕ → List ℤ → Wr → wrote.After
writing n k y w = wrote.answer_w (refusal_write n k y w) w (write_word n k y w)
