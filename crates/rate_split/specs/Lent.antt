-- The lists that an allocation writes, as they are lent.
use Rattle.std.specs.Prelude.{◌≡◌}
use Rattle.rate_split.specs.declared.Lists.{Lists}

-- the same three lists, whatever stands in them
pub record SameLists (a b : Lists) : Type 0 where
  pub pulses_are : a.pulses.ghost_name ≡ b.pulses.ghost_name
  pub fine_are : a.fine.ghost_name ≡ b.fine.ghost_name
  pub priorities_are : a.priorities.ghost_name ≡ b.priorities.ghost_name
