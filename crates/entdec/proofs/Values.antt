-- What is read of each kind is one of its values. Assumes nothing.
use Prim.Native.Nat.{ℕ, ◌-◌, ◌^◌, ◌≤◌, ◌<◌}
use mathlib.Core.Path.{◌≡◌}
use mathlib.Core.Bool.{true}
use mathlib.Core.List.{List}
use native.Mathlib.Omega.{arith}
use lib.Dec.{ltb, leb, eqb}
use lib.ListN.{length}
use borrow.Author.Tests.{leb-true}
use Rattle.laws.proofs.Tests.{cond-by, cond-le}
use Rattle.entcode.specs.Sym.{falls, low_bits}
use Rattle.entcode.specs.Sym.Shape.{bit, table, uint, raw}
use Rattle.entdec.specs.declared.Reader.{Reader}
use Rattle.entdec.specs.Coded.{ReadSymbol}
use Rattle.entdec.specs.Read.{decoded_place}
use Rattle.entdec.specs.Symbols.{within, read_long, read_sym}
use Rattle.entdec.proofs.Places.{place_less}
use Rattle.entdec.proofs.Found.{table_hit_value}
use Rattle.entdec.proofs.Uniform.{raw-lt}

-- a bit is 0 or 1
pub bit-value : (k : ℕ) (s : List ℕ) (d : Reader) → (read_sym (bit k) s d).value ≤ 1
unfolding read_sym
bit-value k s d = cond-le (ltb (decoded_place (2 ^ k) d) (2 ^ k - 1)) (λ e. omega arith) (λ e. omega arith)

-- a table's symbol has an entry
pub table-value : (t : List ℕ) (k : ℕ) (s : List ℕ) (d : Reader) → 0 < length t → falls (2 ^ k) t ≡ true → 1 ≤ k → (read_sym (table t k) s d).value < length t
unfolding read_sym
table-value t k s d n e p = table_hit_value t k d n e p

-- a value held to the last one
within-le : (m : ℕ) (y : ReadSymbol) → (within m y).value ≤ m
within-le m y = cond-by (λ (z : ReadSymbol). z.value ≤ m) (leb y.value m) (λ e. leb-true y.value m e) (λ e. omega arith)

-- a number of two pieces
long-le : (m b : ℕ) (s : List ℕ) (d : Reader) → (read_long m b s d).value ≤ m
long-le m b s d = within-le m _

-- a uniform number is below ft
pub uint-value : (ft : ℕ) (s : List ℕ) (d : Reader) → 1 ≤ ft → (read_sym (uint ft) s d).value < ft
unfolding read_sym
uint-value ft s d h =
    cond-by (λ (y : ReadSymbol). y.value < ft) (eqb (low_bits ft) 0) (λ e. place_less ft d h)
    (λ e. omega (arith, long-le (ft - 1) (low_bits ft) s d))

-- b raw bits are below 2^b
pub raw-value : (b : ℕ) (s : List ℕ) (d : Reader) → (read_sym (raw b) s d).value < 2 ^ b
unfolding read_sym
raw-value b s d = raw-lt s d b
