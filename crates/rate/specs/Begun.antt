-- What stands before a symbol is coded, as the definition has it.
use Rattle.std.specs.Prelude.{◌≡◌}
use Rattle.rate_spec.specs.Types.{AllocIn}
use Rattle.rate_spec.specs.Alloc.{first_round}
use Rattle.rate_spec.specs.Skips.{skip_start}
use Rattle.rate_spec.specs.Trials.{bits_of}
use Rattle.rate_bands.specs.Reserved.{Reserved}
use Rattle.rate.specs.declared.Begun.{Begun}

-- what is reserved, what no band has yet and where skipping ends are the definition's for a
pub record BeginsAt (a : AllocIn) (r : Begun) : Type 0 where
  pub reserved : Reserved a r.reserves
  pub left_is : r.left ≡ (first_round a (bits_of a)).left
  pub low-is : r.low ≡ skip_start a
