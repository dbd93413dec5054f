-- The caps that a decoder allocates with, RFC 6716, section 4.3.3, and document 01, "The lister".
use Rattle.std.specs.Prelude.{ℕ, ◌+◌, ◌*◌, ◌/◌, ◌^◌}
use Rattle.modes.specs.Edges.{width}
use Rattle.modes.specs.Caps.{cap_entry}

-- band j's cap (init_caps): ⌊(table entry + 64) · C · N / 4⌋, N the band's coefficients
unfoldable pub cap_of : ℕ → ℕ → ℕ → ℕ
cap_of C LM j = (cap_entry C LM j + 64) * C * (width j * 2 ^ LM) / 4
