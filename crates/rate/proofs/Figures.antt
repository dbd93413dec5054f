-- The answer's figures and lists are the definition's, where its numbers are. Assumes nothing.
use mathlib.Core.List.{List}
use mathlib.Core.Path.{◌≡◌, ap}
use lib.IntN.{ℤ}
use Rattle.entdec.specs.declared.Reader.{Reader}
use Rattle.entenc.specs.Write.{Wr}
use Rattle.rate_spec.specs.Types.{AllocOut}
use Rattle.rate.specs.declared.work.Worked.{Worked}
use Rattle.rate.specs.Question.{lists}
use Rattle.rate.specs.Answer.{numbers, read_figures, worked_of, written_figures}
use Rattle.rate.proofs.Joined.{Numbered}

-- the numbers as counts
pub worked-is : {σ : Type 0} {x : AllocOut × σ} {y : Worked} {w : σ} → Numbered x y.coded y.balance y.intensity y.dual w
    → ◌≡◌ {A = Worked × σ} (y, w) (worked_of x)
worked-is n = rw (n.coded-is, n.balance-is, n.intensity-is, n.dual-is, n.state_is)

-- the answer of a decoder
pub figures-read : (x : AllocOut × Reader) {y : Worked} {d : Reader} → ◌≡◌ {A = Worked × Reader} (y, d) (worked_of x)
    → numbers y.coded y.balance y.intensity y.dual d ≡ read_figures x
figures-read x e = ap (λ (p : Worked × Reader). numbers p.0.coded p.0.balance p.0.intensity p.0.dual p.1) e

-- the answer of an encoder
pub figures-written : (x : AllocOut × Wr) {y : Worked} {w : Wr} → ◌≡◌ {A = Worked × Wr} (y, w) (worked_of x)
    → numbers y.coded y.balance y.intensity y.dual w.st ≡ written_figures x
figures-written x e = ap (λ (p : Worked × Wr). numbers p.0.coded p.0.balance p.0.intensity p.0.dual p.1.st) e

-- three lists that are the same make the same lists
pub lists-same : {p q f g r s : List ℤ} → p ≡ q → f ≡ g → r ≡ s → lists p f r ≡ lists q g s
lists-same a b c = rw (a, b, c)
