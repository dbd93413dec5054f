-- Document 01's example, computed through every definition. Assumes nothing.
use mathlib.Core.Path.{refl}
use lib.Count.{count_leading_zeros}
use Rattle.laws.specs.Lists.{every, fill}
use Rattle.laws.specs.Places.{sum_of}
use Rattle.modes.specs.Edges.{edges, edge, width}
use Rattle.modes.specs.Vectors.{vectors, vector_entry}
use Rattle.modes.specs.Fractions.{fractions, fraction}
use Rattle.modes.specs.LogWidths.{log_widths, log_width}
use Rattle.modes.specs.Caps.{caps, cap_entry}
use Rattle.text.specs.Fields.{glue, separated, tabbed}
use Rattle.text.specs.Digits.{digit_of, all_digits, value_after, glyph_of, last_digits}
use Rattle.text.specs.Numbers.{no_needless_zero, bytes_of, hex_bytes}
use Rattle.text.specs.Written.{figures_of}
use Rattle.entcode.specs.Counts.{counts_ok}
use Rattle.entcode.specs.Range.{renorm_steps, cut_start, cut_width}
use Rattle.entcode.specs.Refusal.{refusal}
use Rattle.entcode.specs.Said.{answer, lent_after}
use Rattle.entcode.specs.Sym.{find_sym}
use Rattle.entdec.specs.Read.{pull, pulls, decoded_place, update, byte_back, fetch, fetches, read_bits, fresh_reader}
use Rattle.entdec.specs.Symbols.{read_sym}
use Rattle.entdec.specs.Rule.{reader_ok, read_refusal}
use Rattle.rate_spec.specs.Caps.{cap_of}
use Rattle.rate_spec.specs.Reserves.{skip_reserve, stereo_fits, intensity_reserve, dual_reserve, budget}
use Rattle.rate_spec.specs.Vectors.{threshold, slope, trim_up, trim_down, trimmed, vector_bits, lower_bits, upper_bits, interpolated}
use Rattle.rate_spec.specs.Trials.{halve, reached, floored, trial_takes, over, vector, sixtyfourths, kept_bits, bits_of}
use Rattle.rate_spec.specs.Skips.{last_boost, skip_start, width_up_to, reserve_next, top_bits, asks, paid, keep, dropped, flag_of, skip}
use Rattle.rate_spec.specs.Split.{with_offset, wanted, extra, spill, fine_of, prio_of, split_of}
use Rattle.rate_spec.specs.Alloc.{
  skipped,
  degrees,
  spread,
  split_band,
  carried,
  band_of,
  first_round,
  dual_asked,
  left_of,
  finish,
  ask_intensity,
  ask_dual,
  alloc_from,
}
use Rattle.rate_spec.specs.Alloc.{alloc}
use Rattle.rate.specs.Question.{alloc_counts, numbers_ok, refusal_read, no_entries}
use Rattle.rate.specs.Answer.{answer_read}
use Rattle.lister_answer.specs.Request.{asks_of, request_numbers, well_formed, request_of}
use Rattle.lister_answer.specs.Caps.{caps_of}
use Rattle.lister_answer.specs.Lines.{answer_line, head_line, band_line, band_lines, refused_line}
use Rattle.lister_answer.specs.Answer.{allocated, listing_of_numbers, listing_of_line}
use Rattle.lister_answer.specs.Example.{Example}

-- by computing both sides
pub example : Example
unfolding count_leading_zeros every fill sum_of edges edge width vectors vector_entry fractions fraction log_widths log_width caps cap_entry glue
    separated tabbed digit_of
    all_digits value_after glyph_of last_digits no_needless_zero bytes_of hex_bytes figures_of counts_ok renorm_steps cut_start cut_width refusal pull
    pulls decoded_place
    update byte_back fetch fetches read_bits fresh_reader read_sym find_sym reader_ok read_refusal cap_of skip_reserve stereo_fits intensity_reserve
    dual_reserve budget
    threshold slope trim_up trim_down trimmed vector_bits lower_bits upper_bits interpolated halve reached floored trial_takes over vector
    sixtyfourths kept_bits
    bits_of last_boost skip_start width_up_to reserve_next top_bits asks paid keep dropped flag_of skip with_offset wanted extra spill fine_of prio_of
    split_of skipped
    degrees spread split_band carried band_of first_round dual_asked left_of finish ask_intensity ask_dual alloc_from alloc alloc_counts numbers_ok
    refusal_read answer_read
    answer lent_after asks_of request_numbers well_formed request_of no_entries caps_of answer_line head_line band_line band_lines refused_line allocated
    listing_of_numbers listing_of_line
example = refl
