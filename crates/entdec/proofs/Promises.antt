-- The promises of specs/Promises.antt, each from the lemma that says more. Assumes nothing.
use mathlib.Core.Path.{ap₂}
use native.Mathlib.Omega.{arith}
use Rattle.entcode.specs.Sym.{Shape}
use Rattle.entcode.specs.Sym.Shape.{bit, table, uint, raw, modelled}
use Rattle.entcode.specs.Tell.{tell_of, tell_frac_of}
use Rattle.entdec.specs.declared.Reader.{Reader}
use Rattle.entdec.specs.Promises.{NewAccepted, Locates, StaysAccepted, TellsAlike}
use Rattle.entdec.proofs.Found.{ShapeFound}
use Rattle.entdec.proofs.Kept.{stays, fresh_ok}
use Rattle.entdec.proofs.Same.{read_same}

-- the same as facts by name
located : (h : Shape) (d : Reader) → Locates h d → ShapeFound h d
located (bit k) d l = tt
located (table t k) d l = tt
located (uint ft) d l = tt
located (raw b) d l = tt
located (modelled m) d l = record { ok = record { lt = omega (arith, l.0, l.1); le = l.2; ft-le = l.3 }; from = l.0; to = l.1 }

-- the numbers of a new reader meet the rule
pub new_accepted : NewAccepted
new_accepted = fresh_ok

-- refusal 4 leaves the counts room for one symbol
pub stays_accepted : StaysAccepted
stays_accepted h s d b l z = stays h s d b z (located h d l)

-- the bit count and the range after a symbol are the same for all bytes
pub tells_alike : TellsAlike
tells_alike h s t d =
    let a = read_same s t h d in
    (ap₂ tell_of a.total a.rng, ap₂ tell_frac_of a.total a.rng)
