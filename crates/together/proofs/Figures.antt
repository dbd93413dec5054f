-- Document 01's known figures, computed through every definition that the calls' contracts cite. Assumes nothing.
use mathlib.Core.Path.{refl}
use lib.Count.{count_leading_zeros}
use lib.Ieee.{add, div, mul, of_int, sub}
use Rattle.laws.specs.Lists.{every, fill}
use Rattle.laws.specs.Places.{over_places, sum_of}
use Rattle.modes.specs.Edges.{edges, edge, width}
use Rattle.modes.specs.Vectors.{vectors, vector_entry}
use Rattle.modes.specs.Fractions.{fractions, fraction}
use Rattle.modes.specs.LogWidths.{log_widths, log_width}
use Rattle.modes.specs.Caps.{caps as cap_table, cap_entry}
use Rattle.entcode.specs.Counts.{counts_ok}
use Rattle.entcode.specs.Range.{renorm_steps, cut_start, cut_width}
use Rattle.entcode.specs.Refusal.{refusal}
use Rattle.entcode.specs.Said.{answer, lent_after}
use Rattle.entdec.specs.Read.{pull, pulls, decoded_place, update, byte_back, fetch, fetches, read_bits, fresh_reader}
use Rattle.entdec.specs.Symbols.{read_sym}
use Rattle.entdec.specs.Rule.{reader_ok, read_refusal}
use Rattle.cwrs_counts.specs.Count.{Vn}
use Rattle.rate_cache.specs.Lookups.{pulses_at}
use Rattle.rate_cache.specs.Pulses.{get_pulses}
use Rattle.rate_spec.specs.Caps.{cap_of}
use Rattle.rate_spec.specs.Reserves.{skip_reserve, stereo_fits, intensity_reserve, dual_reserve, budget}
use Rattle.rate_spec.specs.Vectors.{threshold, slope, trim_up, trim_down, trimmed, vector_bits, lower_bits, upper_bits, interpolated}
use Rattle.rate_spec.specs.Trials.{halve, reached, floored, trial_takes, over, vector, sixtyfourths, kept_bits, bits_of}
use Rattle.rate_spec.specs.Skips.{last_boost, skip_start, width_up_to, reserve_next, top_bits, asks, paid, keep, dropped, flag_of, skip}
use Rattle.rate_spec.specs.Split.{with_offset, wanted, extra, spill, fine_of, prio_of, split_of}
use Rattle.rate_spec.specs.Alloc.{
  skipped,
  degrees,
  spread,
  split_band,
  carried,
  band_of,
  first_round,
  dual_asked,
  left_of,
  finish,
  ask_intensity,
  ask_dual,
  alloc_from,
}
use Rattle.rate_spec.specs.Alloc.{alloc}
use Rattle.rate_spec.specs.Answers.{decoder_ask as decoder}
use Rattle.rate.specs.Question.{alloc_counts, no_entries, numbers_ok, refusal_read}
use Rattle.rate.specs.Answer.{answer_read}
use Rattle.quant_bands.specs.Finalise.{offset_of, spend_at, takes_bit as takes_bit, spend_band, spend_pass, finalise}
use Rattle.quant_bands.specs.Question.{bands_ok, refusal_finalise}
use Rattle.together.specs.Figures.{KnownFigures, answered}

-- every figure at once
pub known : KnownFigures
unfolding answered count_leading_zeros every fill sum_of over_places edges edge width vectors vector_entry fractions fraction log_widths log_width
    cap_table cap_entry
    counts_ok renorm_steps cut_start cut_width refusal pull pulls decoded_place update byte_back fetch fetches read_bits fresh_reader read_sym
    reader_ok read_refusal Vn
    answer lent_after pulses_at get_pulses cap_of skip_reserve stereo_fits intensity_reserve dual_reserve budget threshold slope trim_up trim_down
    trimmed vector_bits
    lower_bits upper_bits interpolated halve reached floored trial_takes over vector sixtyfourths kept_bits bits_of last_boost skip_start width_up_to
    reserve_next top_bits
    asks paid keep dropped flag_of skip with_offset wanted extra spill fine_of prio_of split_of skipped degrees spread split_band carried band_of
    first_round dual_asked
    left_of finish ask_intensity ask_dual alloc_from alloc decoder alloc_counts no_entries numbers_ok refusal_read answer_read bands_ok
    refusal_finalise finalise spend_pass
    spend_band
    takes_bit spend_at offset_of add sub mul div of_int
known = refl
