-- The example is sent: every call of it computed, from the new writer to a close without error. Assumes nothing.
use Rattle.std.specs.Prelude.{Ok}
use mathlib.Core.Path.{◌≡◌, refl, ap, sym}
use mathlib.Core.Bool.{Bool, true, false, true≢false}
use mathlib.Core.List.{List, []}
use lib.Count.{count_leading_zeros}
use lib.ListN.{length}
use Rattle.laws.specs.Lists.{every, fill}
use Rattle.laws.specs.Places.{over_places, sum_of}
use Rattle.modes.specs.Edges.{edges, edge, width}
use Rattle.modes.specs.EnergyModel.{energy_model, zero_at, decay_at, pair_index}
use Rattle.modes.specs.Fractions.{fractions, fraction}
use Rattle.modes.specs.LogWidths.{log_widths, log_width}
use Rattle.modes.specs.Vectors.{vectors, vector_entry}
use Rattle.entcode.specs.Counts.{counts_ok}
use Rattle.entcode.specs.Range.{renorm_steps, cut_start, cut_width}
use Rattle.entcode.specs.Refusal.{refusal}
use Rattle.entcode.specs.Said.{Said, answer, lent_after}
use Rattle.entcode.specs.Said.Said.{done, refused}
use Rattle.entcode.specs.Sym.{find_sym, falls, pieces_of, adjust, shape_ok, value_ok, length_ok, list_ok}
use Rattle.entcode.specs.Tell.{eighths}
use Rattle.entenc.specs.Close.{rounded, tail_bits, tail_end, end_w, close_out, close_w}
use Rattle.entenc.specs.Rule.{writer_ok, write_refusal, refusal_w, refusal_close}
use Rattle.entenc.specs.Symbols.{write_pieces}
use Rattle.entenc.specs.Write.{shift_w, shifts_w, cut_w, bits_w}
use Rattle.entenc_sink.specs.Gap.{zeroed, finished}
use Rattle.entenc_sink.specs.Out.{put_front, put_end, emit, flushed, left_of}
use Rattle.laplace.specs.Chain.{walk, span_of}
use Rattle.laplace.specs.Model.{value_at}
use Rattle.laplace.specs.Pairs.{among, pair_known}
use Rattle.laplace.specs.Rows.{decay_rows, decays_in, decays_for}
use Rattle.laplace.specs.Signed.{span_z}
use Rattle.rate_spec.specs.Alloc.{
  skipped,
  degrees,
  spread,
  split_band,
  carried,
  band_of,
  first_round,
  dual_asked,
  left_of as left_of_alloc,
  finish,
  ask_intensity,
}
use Rattle.rate_spec.specs.Alloc.{ask_dual, alloc_from, alloc}
use Rattle.rate_spec.specs.Answers.{depth, stops, encoder_ask as deciding}
use Rattle.rate_spec.specs.Reserves.{skip_reserve, stereo_fits, intensity_reserve, dual_reserve, budget}
use Rattle.rate_spec.specs.Skips.{last_boost, skip_start, width_up_to, reserve_next, top_bits, asks, paid, keep, dropped, flag_of, skip}
use Rattle.rate_spec.specs.Split.{with_offset, wanted, extra, spill, fine_of, prio_of, split_of}
use Rattle.rate_spec.specs.Trials.{halve, reached, floored, trial_takes, over, vector, sixtyfourths, kept_bits, bits_of}
use Rattle.rate_spec.specs.Vectors.{threshold, slope, trim_up, trim_down, trimmed, vector_bits, lower_bits, upper_bits, interpolated}
use Rattle.rate.specs.Question.{alloc_counts, no_entries, numbers_ok, stereo_ok, refusal_write}
use Rattle.trip_theorem.specs.Calls.{write_call}
use Rattle.trip_theorem.specs.Rows.{write_all}
use Rattle.trip_theorem.specs.Example.{example_bytes, example_lists, example_symbols, example_numbers, example_boosts, example_caps, example_wishes}
use Rattle.entenc.specs.declared.Writer.{Writer}
use Rattle.entenc.specs.Answer.{start_of as writer_over, After, after, closing}
use Rattle.entenc.specs.Write.{Wr, fresh_writer, wr}
use Rattle.rate.specs.Allocations.{WrittenAllocation}
use Rattle.rate_spec.specs.Types.{AllocOut}
use Rattle.rate.specs.Answer.{AfterWrite, after_write, answer_written, writing, numbers}
use Rattle.trip_theorem.specs.Calls.{Symbol, Tells}
use Rattle.trip_theorem.specs.Rows.{WriteRow}
use Rattle.trip_theorem.specs.Rows.WriteRow.{write_row, write_row_refused}
use Rattle.trip_theorem.specs.Demand.{came_to}
use Rattle.trip_theorem.specs.Example.{ExampleSent}

-- ---- a call that was accepted, and what it gave; anything for a refusal

-- whether a call was accepted
abbrev accepted : Said Writer → Bool
accepted (done w) = true
accepted (refused n) = false

-- its writer
abbrev writer_in : Said Writer → Writer
writer_in (done w) = w
writer_in (refused n) = fresh_writer 0

-- an accepted call gave its writer
answer-is : (r : Said Writer) → accepted r ≡ true → r ≡ done (writer_in r)
answer-is (done w) e = refl
answer-is (refused n) e = absurd (true≢false (sym e))

-- an accepted close gave its writer and its bytes
close-is : (x : After) → accepted x.said ≡ true → x ≡ after (Ok (writer_in x.said)) x.bytes
close-is x e = ap (λ (r : Said Writer). record { said = r; bytes = x.bytes }) (answer-is x.said e)

-- whether a row was accepted
abbrev row_accepted_lem : WriteRow → Bool
row_accepted_lem (write_row w zs ts) = true
row_accepted_lem (write_row_refused i n) = false

-- the writer after it
abbrev row_in : WriteRow → Wr
row_in (write_row w zs ts) = w
row_in (write_row_refused i n) = wr (fresh_writer 0) []

-- its symbols as they count as written
abbrev symbols_in : WriteRow → List Symbol
symbols_in (write_row w zs ts) = zs
symbols_in (write_row_refused i n) = []

-- what the writer tells after each
abbrev tells_in : WriteRow → List Tells
tells_in (write_row w zs ts) = ts
tells_in (write_row_refused i n) = []

-- an accepted row gave these
row_is : (x : WriteRow) → row_accepted_lem x ≡ true → x ≡ write_row (row_in x) (symbols_in x) (tells_in x)
row_is (write_row w zs ts) e = refl
row_is (write_row_refused i n) e = absurd (true≢false (sym e))

-- whether an allocation was accepted
abbrev allotted : Said WrittenAllocation → Bool
allotted (done y) = true
allotted (refused n) = false

-- its figures
abbrev shares_in : Said WrittenAllocation → WrittenAllocation
shares_in (done y) = y
shares_in (refused n) = numbers 0 0 0 false (fresh_writer 0)

-- an accepted allocation gave its figures
shares-is : (r : Said WrittenAllocation) → allotted r ≡ true → r ≡ done (shares_in r)
shares-is (done y) e = refl
shares-is (refused n) e = absurd (true≢false (sym e))

-- and its lists and bytes
written_is : (x : AfterWrite) → allotted x.said ≡ true → x ≡ after_write (Ok (shares_in x.said)) x.lent x.bytes
written_is x e = ap (λ (r : Said WrittenAllocation). record { said = r; lent = x.lent; bytes = x.bytes }) (shares-is x.said e)

-- ---- the calls of the example

-- the new writer
unfoldable example_first : Said Writer
example_first = writer_over (length example_bytes)

-- the symbols
unfoldable example_row : WriteRow
example_row = write_all example_symbols (wr (writer_in example_first) example_bytes)

-- the allocation
unfoldable example_written : AfterWrite
example_written = writing example_numbers example_wishes example_boosts example_caps (row_in example_row) example_lists

-- the close
unfoldable example_closed : After
example_closed = closing (wr (shares_in example_written.said).next example_written.bytes)

-- what the encoder comes to
unfoldable example_out : AllocOut
example_out = came_to example_numbers example_boosts example_caps example_wishes (row_in example_row)

-- each is accepted, the close reports no error, and intensity and dual stereo are coded
record Computed : Type 0 where
  first : accepted example_first ≡ true
  row : row_accepted_lem example_row ≡ true
  allocation : allotted example_written.said ≡ true
  close : accepted example_closed.said ≡ true
  fits : (writer_in example_closed.said).sink.error ≡ false
  intensity : example_out.intensity_coded ≡ true
  dual : example_out.dual_coded ≡ true

-- computed through every definition
computed : Computed
unfolding every fill over_places sum_of edges edge width energy_model zero_at decay_at pair_index fractions fraction log_widths log_width vectors
    vector_entry counts_ok
    renorm_steps cut_start cut_width refusal find_sym falls pieces_of adjust shape_ok value_ok length_ok list_ok eighths answer lent_after rounded
    tail_bits tail_end end_w
    close_out close_w writer_ok write_refusal refusal_w refusal_close write_pieces shift_w shifts_w cut_w bits_w zeroed finished put_front put_end
    emit flushed left_of walk
    span_of value_at among pair_known decay_rows decays_in decays_for span_z skipped degrees spread split_band carried band_of first_round dual_asked
    left_of_alloc finish
    ask_intensity ask_dual alloc_from alloc depth stops deciding skip_reserve stereo_fits intensity_reserve dual_reserve budget last_boost skip_start
    width_up_to
    reserve_next top_bits asks paid keep dropped flag_of skip with_offset wanted extra spill fine_of prio_of split_of halve reached floored
    trial_takes over vector
    sixtyfourths kept_bits bits_of threshold slope trim_up trim_down trimmed vector_bits lower_bits upper_bits interpolated answer_written
    alloc_counts no_entries
    numbers_ok
    stereo_ok refusal_write write_call write_all example_bytes example_lists example_symbols example_numbers example_boosts example_caps
    example_wishes count_leading_zeros
    example_first example_row example_written example_closed example_out
computed = record { first = refl; row = refl; allocation = refl; close = refl; fits = refl; intensity = refl; dual = refl }

-- so the example was sent
pub example_sent : ExampleSent
unfolding example_first example_row example_written example_closed
example_sent =
    record {
      first = writer_in example_first;
      new = answer-is example_first computed.first;
      row = row_in example_row;
      zs = symbols_in example_row;
      ts = tells_in example_row;
      writes = row_is example_row computed.row;
      shares = shares_in example_written.said;
      lists = example_written.lent;
      filled = example_written.bytes;
      allots = written_is example_written computed.allocation;
      last = writer_in example_closed.said;
      packet = example_closed.bytes;
      closes = close-is example_closed computed.close;
      fits = computed.fits;
    }

-- intensity and dual stereo are among what it coded
pub example-stereo
    : ((came_to example_numbers example_boosts example_caps example_wishes example_sent.row).intensity_coded ≡ true)
    × ((came_to example_numbers example_boosts example_caps example_wishes example_sent.row).dual_coded ≡ true)
unfolding example_sent example_out
example-stereo = (computed.intensity, computed.dual)
