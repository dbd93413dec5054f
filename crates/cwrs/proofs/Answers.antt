-- The answers of reading a vector, by the number, and what the two workers did in the contracts' terms. Assumes nothing.
use Rattle.std.specs.Prelude.{Ok}
use Prim.Native.Nat.{ℕ, zero, suc, ◌<◌}
use mathlib.Core.Path.{◌≡◌, refl, ap, ◌∙◌}
use mathlib.Core.List.{List, ◌++◌}
use lib.IntN.{ℤ}
use lib.ListN.{take, drop}
use Rattle.entcode.specs.Said.Said.{refused}
use Rattle.entcode.specs.Said.{answer, lent_after}
use Rattle.entcode.specs.Sym.Shape.{uint}
use Rattle.entdec.specs.declared.Reader.{Reader}
use Rattle.entdec.specs.Coded.{ReadSymbol}
use Rattle.entdec.specs.Symbols.{read_sym}
use Rattle.entenc.specs.Write.{Wr}
use Rattle.entenc.specs.Symbols.{write_sym}
use Rattle.cwrs_counts.specs.Count.{Vn, count32}
use Rattle.cwrs.specs.Word.{energy, index, word}
use Rattle.cwrs.specs.declared.Found.{Found}
use Rattle.cwrs.specs.Answer.{read_word, write_word, found_of, after_read, answer_r}
use Rattle.cwrs_counts.proofs.Recurrence.{count-is}
use Rattle.cwrs.proofs.Back.{word_first}

-- number 0: what was found, and its places
pub answer_got : (m : ℕ) (f : Found) (v y : List ℤ) → m ≡ 0 → after_read (Ok f) v ≡ answer_r m f v y
unfolding answer lent_after
answer_got m f v y e = rw e

-- any other: the refusal, and the places as they were
pub answer-refused : (m : ℕ) (f : Found) (v y : List ℤ) → (m ≡ 0 → ⊥) → record { said = refused m; places = y } ≡ answer_r m f v y
unfolding answer lent_after
answer-refused zero f v y h = absurd (h refl)
answer-refused (suc m) f v y h = refl

-- ---- the worker that reads: v is the count, r what was read, y what stands in the places after it
module _ (n k : ℕ) (s : List ℕ) (d : Reader) (y₀ : List ℤ) {v : ℕ} {r : ReadSymbol} {y : List ℤ} (small : Vn n k < 4294967296)
    (counted : v ≡ count32 n k) (read : r ≡ read_sym (uint v) s d) (wrote : y ≡ word n k r.value ++ drop n y₀) where
  -- the number is read below the count
  same : r ≡ read_sym (uint (Vn n k)) s d
  same = read ∙ ap (λ (f : ℕ). read_sym (uint f) s d) (count-is n k counted small)

  -- so the vector stands there
  pub places : y ≡ read_word n k s d ++ drop n y₀
  places = wrote ∙ ap (λ (x : ReadSymbol). word n k x.value ++ drop n y₀) same

  -- and this is answered
  pub found : {e : ℕ} → e ≡ energy (take n y) → record { energy = e; next = r.next } ≡ found_of n k s d
  found {e} h =
      let w : e ≡ energy (read_word n k s d) = h ∙ ap (λ (l : List ℤ). energy (take n l)) places ∙ ap energy (word_first n k _ (drop n y₀)) in
      rw (w, same)

-- ---- the worker that writes: v is the count, i the number
pub wrote : (n k : ℕ) (y : List ℤ) (w : Wr) {v i : ℕ} {x : Wr} → Vn n k < 4294967296 → v ≡ count32 n k → i ≡ index (take n y)
    → x ≡ write_sym (uint v) i w → x ≡ write_word n k y w
wrote n k y w h c e g =
    let f = count-is n k c h in
    rw (f, e) at g
