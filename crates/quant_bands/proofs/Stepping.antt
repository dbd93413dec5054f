-- A coarse energy's step: what its three small forms come to, how large it can be, and that it leaves the reader ready for one symbol less.
-- Assumes nothing.
use Prim.Native.Nat.{ℕ, suc, ◌+◌, ◌/◌, ◌^◌, ◌≤◌, ◌<◌}
use mathlib.Core.Path.{◌≡◌, refl}
use mathlib.Core.Bool.{true}
use mathlib.Core.List.{List}
use native.Mathlib.Omega.{arith}
use lib.Dec.{leb, eqb}
use lib.IntN.{ℤ, pos, nat_abs}
use lib.ListN.{length}
use Rattle.laws.specs.Signs.{with_sign}
use Rattle.laws.proofs.Signs.{nat_abs-neg, range_size}
use Rattle.laws.proofs.Tables.{few-at, ◌&◌, end}
use Rattle.laws.proofs.Tests.{cond-by}
use Rattle.modes.specs.Laplace.{legal}
use Rattle.modes.specs.SmallEnergy.{small_energy}
use Rattle.modes.proofs.Laplace.{legal_parts}
use Rattle.entcode.specs.Sym.{falls, length_ok, list_ok, shape_ok}
use Rattle.entcode.specs.Sym.Shape.{bit, table}
use Rattle.entdec.specs.declared.Reader.{Reader}
use Rattle.entdec.specs.Coded.{ReadSymbol}
use Rattle.entdec.specs.Read.{decoded_place}
use Rattle.entdec.specs.Ready.{Ready}
use Rattle.entdec.specs.Symbols.{read_sym}
use Rattle.entdec.proofs.Chain as chain
use Rattle.entdec.proofs.Chain.{ready_after, ready_less}
use Rattle.entdec.proofs.Places.{place_less}
use Rattle.entdec.proofs.Steps.{one_step}
use Rattle.entdec.proofs.Values.{bit-value, table-value}
use Rattle.laplace.specs.Coded.{LapSym}
use Rattle.laplace.specs.Chain.{locate}
use Rattle.laplace.specs.Signed.{value_in}
use Rattle.laplace.specs.Model.{value_at, lap_model}
use Rattle.laplace.specs.Answer.{read_lap}
use Rattle.laplace.proofs.Values.{value_code, locate_domain}
use Rattle.laplace.proofs.Lawful.{lap-found}
use Rattle.quant_bands.specs.Steps.{bits_left, step_read, read_small, read_minus, read_step}

-- ---- the three-way table

-- the table obeys the rule of a table that is read with ftb 2
pub small-table : (0 < length small_energy) × (falls (2 ^ 2) small_energy ≡ true)
unfolding small_energy falls
small-table = (omega arith, refl)

-- so its symbols are 0, 1 and 2
pub small-below : (s : List ℕ) (d : Reader) → (read_sym (table small_energy 2) s d).value < 3
unfolding small_energy
small-below s d = table-value small_energy 2 s d small-table.0 small-table.1 (omega arith)

-- the value of a symbol by its sign and size
pub small-value : (v : ℕ) → v < 3 → with_sign (eqb v 1) ((v + 1) / 2) ≡ value_at v
unfolding value_at
small-value = few-at (λ v. with_sign (eqb v 1) ((v + 1) / 2) ≡ value_at v) 3 (refl & refl & refl & end)

-- the code's value is the definition's
pub small_is : (s : List ℕ) (d : Reader) {y : ReadSymbol} {z : ℤ} → y ≡ read_sym (table small_energy 2) s d → z ≡ with_sign (eqb y.value 1) ((y.value + 1) / 2)
    → step_read z y.next ≡ read_small s d
small_is s d e f = rw (f, e, small-value _ (small-below s d))

-- ---- minus a bit

-- ---- sizes

-- a Laplace value is one of the domain
lap-size : (fs dec : ℕ) (s : List ℕ) (d : Reader) → legal fs dec ≡ true → nat_abs (read_lap fs dec s d).value ≤ 32768
unfolding read_sym
lap-size fs dec s d ok =
    let f = decoded_place 32768 d in
    let z = value_in (locate f fs dec) in
    rw (value_code z) (range_size 32767 32767 z (locate_domain fs dec (legal_parts fs dec ok) f (place_less 32768 d (omega arith))))

-- of a symbol of the three-way table
small-most : (v : ℕ) → v < 3 → nat_abs (value_at v) ≤ 32768
unfolding value_at
small-most = few-at (λ v. nat_abs (value_at v) ≤ 32768) 3 (omega arith & omega arith & omega arith & end)

-- of minus a bit
minus-size : (s : List ℕ) (d : Reader) → nat_abs (read_minus s d).value ≤ 32768
minus-size s d = rw (nat_abs-neg (pos (read_sym (bit 1) s d).value)) (omega (arith, bit-value 1 s d))

-- no step is larger than 32,768
pub step-size : (fs dec : ℕ) (s : List ℕ) (d : Reader) → legal fs dec ≡ true → nat_abs (read_step fs dec s d).value ≤ 32768
unfolding read_step
step-size fs dec s d ok =
    cond-by (λ (y : LapSym). nat_abs y.value ≤ 32768) (leb 15 (bits_left d)) (λ e. lap-size fs dec s d ok)
    (λ e.
    cond-by (λ (y : LapSym). nat_abs y.value ≤ 32768) (leb 2 (bits_left d)) (λ e. small-most _ (small-below s d))
    (λ e. cond-by (λ (y : LapSym). nat_abs y.value ≤ 32768) (leb 1 (bits_left d)) (λ e. minus-size s d) (λ e. omega arith)))

-- ---- the reader after it

-- after a symbol of the table
small_ready : (k : ℕ) (s : List ℕ) (d : Reader) → Ready (suc k) d → Ready k (read_small s d).next
unfolding length_ok shape_ok list_ok small_energy falls
small_ready k s d r = ready_after k (table small_energy 2) s d r refl refl refl tt

-- after a bit
minus_ready : (k : ℕ) (s : List ℕ) (d : Reader) → Ready (suc k) d → Ready k (read_minus s d).next
unfolding length_ok shape_ok list_ok
minus_ready k s d r = ready_after k (bit 1) s d r refl refl refl tt

-- after a Laplace value
lap_ready : (k fs dec : ℕ) (s : List ℕ) (d : Reader) → legal fs dec ≡ true → Ready (suc k) d → Ready k (read_lap fs dec s d).next
unfolding read_sym
lap_ready k fs dec s d ok r =
    chain.step_ready s 24 k d _ (omega arith) r
    (one_step (lap_model fs dec) s d (chain.ready_good (suc k) d r) (lap-found fs dec (legal_parts fs dec ok) d))

-- by the bits that were left
pub step_ready : (k fs dec : ℕ) (s : List ℕ) (d : Reader) → legal fs dec ≡ true → Ready (suc k) d → Ready k (read_step fs dec s d).next
unfolding read_step
step_ready k fs dec s d ok r =
    cond-by (λ (y : LapSym). Ready k y.next) (leb 15 (bits_left d)) (λ e. lap_ready k fs dec s d ok r)
    (λ e.
    cond-by (λ (y : LapSym). Ready k y.next) (leb 2 (bits_left d)) (λ e. small_ready k s d r)
    (λ e.
    cond-by (λ (y : LapSym). Ready k y.next) (leb 1 (bits_left d)) (λ e. minus_ready k s d r) (λ e. ready_less k (suc k) d (omega arith) r)))
