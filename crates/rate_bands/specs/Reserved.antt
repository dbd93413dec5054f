-- What is reserved, as the definition has it.
use Rattle.std.specs.Prelude.{◌≡◌}
use Rattle.rate_spec.specs.Types.{AllocIn}
use Rattle.rate_spec.specs.Reserves.{budget, dual_reserve, intensity_reserve, skip_reserve}
use Rattle.rate_bands.specs.declared.Reserves.{Reserves}

-- each part of r is that of the definition
pub record Reserved (a : AllocIn) (r : Reserves) : Type 0 where
  pub skip_is : r.skip ≡ skip_reserve a
  pub intensity-is : r.intensity ≡ intensity_reserve a
  pub dual-is : r.dual ≡ dual_reserve a
  pub budget-is : r.budget ≡ budget a
