-- What is asked of a model that stands outside the coder, so that its symbols can be read back.
use Rattle.std.specs.Prelude.{ℕ, ◌≤◌, ◌<◌, ◌≡◌, true}
use Rattle.entcode.specs.Sym.{Model, Shape}
use Rattle.entcode.specs.Sym.Shape.{bit, table, uint, raw, modelled}

-- v has places of its own, of at most 2^15, and each of them shows v
pub record Lawful (m : Model) (v : ℕ) : Type 0 where
  pub lo-lt : m.lo v < m.hi v
  pub hi-le : m.hi v ≤ m.ft
  pub ft-le : m.ft ≤ 32768
  pub shows : (f : ℕ) → m.lo v ≤ f → f < m.hi v → m.locate f ≡ v

-- a model whose numbers are in the domain is lawful at what counts as written of any value in the domain; other kinds need nothing
abbrev pub LawfulShape : Shape → Type 0
LawfulShape (bit k) = Unit {0}
LawfulShape (table t k) = Unit {0}
LawfulShape (uint ft) = Unit {0}
LawfulShape (raw b) = Unit {0}
LawfulShape (modelled m) = m.known ≡ true → (v : ℕ) → m.ok v ≡ true → Lawful m (m.adjust v)
