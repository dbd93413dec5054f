-- `entcode::reasons::ResultUnitRefusalVerdict::accepts`: no refusal has number 0. Assumes nothing.
use mathlib.Core.Path.{◌≡◌, refl, sym, ◌∙◌}
use lib.Dec.{eqb}
use Rattle.std.specs.Prelude.{Result, Ok, Err}
use Rattle.std.specs.Result.{is_ok}
use Rattle.entcode.specs.declared.reasons.Refusal.{Refusal}
use Rattle.entcode.specs.Said.{verdict}
use Rattle.entcode.proofs.Said.{number_of-some}
use Rattle.entcode.proofs.reasons.ResultUnitRefusalVerdict.accepts.Goals as goal

-- a Result refuses nothing exactly where its number is 0
by_number : (r : Result (Unit {0}) Refusal) → is_ok r ≡ eqb (verdict r) 0
by_number (Ok u) = refl
by_number (Err why) = sym (number_of-some why)

pub returns : goal.returns
returns c = c.is_ok.ensures.value ∙ by_number c.args.self
