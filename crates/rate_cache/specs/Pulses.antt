-- The number of pulses that an index stands for (get_pulses): each number below 16, then every second one below 32, every fourth below 64, and so on.
use Rattle.std.specs.Prelude.{ℕ, ◌+◌, ◌-◌, ◌*◌, ◌/◌, ◌%◌, ◌^◌, cond, ltb}

-- an index below 8 is its own number; then each eight of them run through 8..15, the first eight as they are, every further eight doubled once more
unfoldable pub get_pulses : ℕ → ℕ
get_pulses i = cond (ltb i 8) i ((8 + i % 8) * 2 ^ (i / 8 - 1))
