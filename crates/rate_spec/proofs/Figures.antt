-- A band over its cap, computed through every step of the definition. Assumes nothing.
use mathlib.Core.Path.{refl}
use Rattle.laws.specs.Places.{sum_of}
use Rattle.modes.specs.Edges.{edges, edge, width}
use Rattle.modes.specs.Vectors.{vectors, vector_entry}
use Rattle.modes.specs.Fractions.{fractions, fraction}
use Rattle.modes.specs.LogWidths.{log_widths, log_width}
use Rattle.modes.specs.Caps.{caps, cap_entry}
use Rattle.rate_spec.specs.Reserves.{skip_reserve, stereo_fits, intensity_reserve, dual_reserve, budget}
use Rattle.rate_spec.specs.Vectors.{threshold, slope, trim_up, trim_down, trimmed, vector_bits, lower_bits, upper_bits, interpolated}
use Rattle.rate_spec.specs.Trials.{halve, reached, floored, trial_takes, over, vector, sixtyfourths, kept_bits, bits_of}
use Rattle.rate_spec.specs.Skips.{last_boost, skip_start, width_up_to, reserve_next, top_bits, asks, paid, keep, dropped, flag_of, skip}
use Rattle.rate_spec.specs.Split.{with_offset, wanted, extra, spill, fine_of, prio_of, split_of}
use Rattle.rate_spec.specs.Alloc.{skipped, degrees, spread, split_band, carried, band_of, first_round, dual_asked, left_of, finish, ask_intensity, ask_dual}
use Rattle.rate_spec.specs.Alloc.{alloc_from, alloc}
use Rattle.rate_spec.specs.Answers.{flags_ask, alloc_of_flags}
use Rattle.rate_spec.specs.Caps.{cap_of}
use Rattle.rate_spec.specs.Laws.{OverTheCap}

-- its pulses and fine bits take more than the cap together
pub over_the_cap : OverTheCap
unfolding edges edge width vectors vector_entry fractions fraction log_widths log_width caps cap_entry sum_of skip_reserve stereo_fits
    intensity_reserve dual_reserve
    budget threshold slope trim_up trim_down trimmed vector_bits lower_bits upper_bits interpolated halve reached floored trial_takes over vector sixtyfourths
    kept_bits bits_of last_boost skip_start width_up_to reserve_next top_bits asks paid keep dropped flag_of skip with_offset wanted extra spill
    fine_of prio_of split_of
    skipped degrees spread split_band carried band_of first_round dual_asked left_of finish ask_intensity ask_dual alloc_from alloc flags_ask
    alloc_of_flags cap_of
over_the_cap = (refl, refl, refl)
