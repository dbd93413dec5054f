-- Where a frame's bits went.
use Rattle.std.specs.Prelude.{ℕ, ◌+◌, ◌-◌, ◌*◌, Bool, cond, List, [], ◌∷◌}
use Rattle.laws.specs.Places.{sum_of}
use Rattle.rate_spec.specs.Types.{Band, AllocIn, AllocOut}

-- what a band takes: its pulses, and a bit for each channel for each of its fine bits
abbrev pub price : ℕ → Band → ℕ
price C b = b.pulses + 8 * C * b.fine

-- how many of the skip flags said go on
unfoldable pub go_ons : List Bool → ℕ
go_ons [] = 0
go_ons (f ∷ fs) = cond f 0 1 + go_ons fs

-- what the bands have, what is left over, 8 for each flag that said go on, and the reservations still held at the end: for skipping where a flag
-- said stop, for intensity at its last figure, for dual stereo where it was coded
unfoldable pub spent : AllocIn → AllocOut → ℕ
spent a o =
    sum_of (λ j. price a.C (o.band j)) a.start (a.end - a.start) + o.balance
    + 8 * go_ons o.flags + cond o.stopped 8 0 + o.reserve + cond o.dual_coded 8 0
