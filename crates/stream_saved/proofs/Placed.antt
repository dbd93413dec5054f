-- The text of a record's line, and what saving answers. Assumes nothing.
use Rattle.std.specs.Prelude.{Ok}
use Prim.Native.Nat.{ℕ, zero, suc, ◌≤◌}
use mathlib.Core.Path.{◌≡◌, refl}
use mathlib.Core.Bool.{true}
use mathlib.Core.List.{List, ◌∷◌, ◌++◌, map}
use native.Mathlib.Nat.{zero-add}
use native.Mathlib.Omega.{arith}
use lib.Ieee.Scale.{finite}
use lib.ListN.{length, set}
use borrow.Author.Tests.{leb-true}
use Rattle.laws.specs.Lists.{every}
use Rattle.entcode.specs.Said.Said.{refused}
use Rattle.entcode.specs.Said.{answer, lent_after}
use Rattle.entcode.proofs.Refusals.{passed}
use Rattle.text.specs.Fields.{tabbed}
use Rattle.text.specs.Written.{decimal_of, PlacedText}
use Rattle.text.proofs.Texts.{put_byte, put-join}
use Rattle.stream.specs.declared.Record.{Record}
use Rattle.stream_saved.specs.Fields.{energy_text}
use Rattle.stream_saved.specs.Lines.{saved_line, refusal_save, after, answer_saved}

-- the whole line
pub put-line : (rec : Record) (buf : List ℕ) {mid last : List ℕ} {r q : ℕ} → PlacedText 11 (set buf 0 69) 1 (9 ∷ decimal_of rec.next) r mid
    → PlacedText 378 mid r (tabbed (map energy_text rec.energies)) q last
    → PlacedText 390 buf 0 (saved_line rec) q last
unfolding tabbed
put-line rec buf p w =
    put_byte 389 69 (9 ∷ decimal_of rec.next ++ tabbed (map energy_text rec.energies)) buf 0
    (put-join 11 378 (9 ∷ decimal_of rec.next) (tabbed (map energy_text rec.energies)) p w)

-- ---- what saving answers

-- number 0 says that the tests of 2, 1 and 3 pass
pub save-opens : (n : ℕ) (r : Record) → refusal_save n r ≡ 0 → (390 ≤ n) × (r.next ≤ 4294967295) × (every finite r.energies ≡ true)
unfolding refusal_save
save-opens n r h =
    let p = passed _ _ _ _ _ _ h in
    (leb-true 390 n p.no_2, leb-true r.next 4294967295 p.no_1, p.no_3)

-- number 0: the line stands at the front, and its length is answered
pub said-line : (no : ℕ) (line buf : List ℕ) {n : ℕ} {last : List ℕ} → no ≡ 0 → PlacedText 390 buf 0 line n last → after (Ok n) last
    ≡ answer_saved no line buf
unfolding answer lent_after
said-line zero line buf h p = rw (p.next, p.bytes, zero-add (length line))
said-line (suc n) line buf h p = absurd (omega arith)

-- any other: that refusal, and the bytes as they were
pub said-refused : (no : ℕ) (line buf : List ℕ) → (no ≡ 0 → ⊥) → record { said = refused no; bytes = buf } ≡ answer_saved no line buf
unfolding answer lent_after
said-refused zero line buf h = absurd (h refl)
said-refused (suc n) line buf h = refl
