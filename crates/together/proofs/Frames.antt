-- Allocations over whole frames, computed through every definition that the call's contract cites. Assumes nothing.
use mathlib.Core.Path.{refl}
use lib.Count.{count_leading_zeros}
use Rattle.laws.specs.Lists.{every, fill}
use Rattle.laws.specs.Places.{sum_of}
use Rattle.modes.specs.Edges.{edges, edge, width}
use Rattle.modes.specs.Vectors.{vectors, vector_entry}
use Rattle.modes.specs.Fractions.{fractions, fraction}
use Rattle.modes.specs.LogWidths.{log_widths, log_width}
use Rattle.entcode.specs.Counts.{counts_ok}
use Rattle.entcode.specs.Range.{renorm_steps, cut_start, cut_width}
use Rattle.entcode.specs.Refusal.{refusal}
use Rattle.entcode.specs.Said.{answer, lent_after}
use Rattle.entdec.specs.Read.{pull, pulls, decoded_place, update, fresh_reader}
use Rattle.entdec.specs.Symbols.{read_sym}
use Rattle.entdec.specs.Rule.{reader_ok, read_refusal}
use Rattle.rate_spec.specs.Reserves.{skip_reserve, stereo_fits, intensity_reserve, dual_reserve, budget}
use Rattle.rate_spec.specs.Vectors.{threshold, slope, trim_up, trim_down, trimmed, vector_bits, lower_bits, upper_bits, interpolated}
use Rattle.rate_spec.specs.Trials.{halve, reached, floored, trial_takes, over, vector, sixtyfourths, kept_bits, bits_of}
use Rattle.rate_spec.specs.Skips.{last_boost, skip_start, width_up_to, reserve_next, top_bits, asks, paid, keep, dropped, flag_of, skip}
use Rattle.rate_spec.specs.Split.{with_offset, wanted, extra, spill, fine_of, prio_of, split_of}
use Rattle.rate_spec.specs.Alloc.{
  skipped,
  degrees,
  spread,
  split_band,
  carried,
  band_of,
  first_round,
  dual_asked,
  left_of,
  finish,
  ask_intensity,
  ask_dual,
  alloc_from,
}
use Rattle.rate_spec.specs.Alloc.{alloc}
use Rattle.rate_spec.specs.Answers.{decoder_ask as decoder}
use Rattle.rate.specs.Question.{alloc_counts, no_entries, numbers_ok, refusal_read}
use Rattle.rate.specs.Answer.{answer_read}
use Rattle.together.specs.Frames.{OneBand, RecordedFrames, Same, alone, boosted, small, stereo}

-- two channels, six bands skipped
stereo-same : Same stereo
unfolding stereo count_leading_zeros every fill sum_of edges edge width vectors vector_entry fractions fraction log_widths log_width counts_ok
    renorm_steps cut_start cut_width
    refusal pull pulls decoded_place update fresh_reader read_sym reader_ok read_refusal skip_reserve stereo_fits intensity_reserve dual_reserve
    budget threshold slope
    trim_up trim_down trimmed vector_bits lower_bits upper_bits interpolated halve reached floored trial_takes over vector sixtyfourths kept_bits
    bits_of last_boost
    skip_start width_up_to reserve_next top_bits asks paid keep dropped flag_of skip with_offset wanted extra spill fine_of prio_of split_of skipped
    degrees spread
    split_band carried band_of first_round dual_asked left_of finish ask_intensity ask_dual alloc_from alloc decoder alloc_counts no_entries
    numbers_ok refusal_read
    answer_read answer
    lent_after
stereo-same = refl

-- one channel, bands of one coefficient
small_same : Same small
unfolding small count_leading_zeros every fill sum_of edges edge width vectors vector_entry fractions fraction log_widths log_width counts_ok
    renorm_steps cut_start cut_width
    refusal pull pulls decoded_place update fresh_reader read_sym reader_ok read_refusal skip_reserve stereo_fits intensity_reserve dual_reserve
    budget threshold slope
    trim_up trim_down trimmed vector_bits lower_bits upper_bits interpolated halve reached floored trial_takes over vector sixtyfourths kept_bits
    bits_of last_boost
    skip_start width_up_to reserve_next top_bits asks paid keep dropped flag_of skip with_offset wanted extra spill fine_of prio_of split_of skipped
    degrees spread
    split_band carried band_of first_round dual_asked left_of finish ask_intensity ask_dual alloc_from alloc decoder alloc_counts no_entries
    numbers_ok refusal_read
    answer_read answer
    lent_after
small_same = refl

-- one channel with boosts
boosted-same : Same boosted
unfolding boosted count_leading_zeros every fill sum_of edges edge width vectors vector_entry fractions fraction log_widths log_width counts_ok
    renorm_steps cut_start
    cut_width refusal pull pulls decoded_place update fresh_reader read_sym reader_ok read_refusal skip_reserve stereo_fits intensity_reserve
    dual_reserve budget
    threshold slope trim_up trim_down trimmed vector_bits lower_bits upper_bits interpolated halve reached floored trial_takes over vector
    sixtyfourths kept_bits
    bits_of last_boost skip_start width_up_to reserve_next top_bits asks paid keep dropped flag_of skip with_offset wanted extra spill fine_of prio_of
    split_of skipped
    degrees spread split_band carried band_of first_round dual_asked left_of finish ask_intensity ask_dual alloc_from alloc decoder alloc_counts
    no_entries numbers_ok
    refusal_read answer_read answer lent_after
boosted-same = refl

-- the three that were recorded
pub recorded-frames : RecordedFrames
recorded-frames = (stereo-same, small_same, boosted-same)

-- the branches that they do not run
pub one_band : OneBand
unfolding alone count_leading_zeros every fill sum_of edges edge width vectors vector_entry fractions fraction log_widths log_width counts_ok
    renorm_steps cut_start cut_width
    refusal pull pulls decoded_place update fresh_reader read_sym reader_ok read_refusal skip_reserve stereo_fits intensity_reserve dual_reserve
    budget threshold slope
    trim_up trim_down trimmed vector_bits lower_bits upper_bits interpolated halve reached floored trial_takes over vector sixtyfourths kept_bits
    bits_of last_boost
    skip_start width_up_to reserve_next top_bits asks paid keep dropped flag_of skip with_offset wanted extra spill fine_of prio_of split_of skipped
    degrees spread
    split_band carried band_of first_round dual_asked left_of finish ask_intensity ask_dual alloc_from alloc decoder alloc_counts no_entries
    numbers_ok refusal_read
    answer_read answer
    lent_after
one_band = refl
