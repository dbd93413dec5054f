-- `rate_cache::packed::four_marks`: each arm is computed. Assumes nothing.
use mathlib.Core.Path.{refl}
use native.Mathlib.Omega.{arith}
use Rattle.modes.specs.CacheBits.{row_length, cache_bits}
use Rattle.modes.specs.CacheIndex.{cache_index}
use Rattle.rate_cache.specs.Packed.{mark_at, four_marks}
use Rattle.rate_cache.proofs.Packings.{hit}
use Rattle.rate_cache.proofs.packed.four_marks.Goals as goal

pub returns-in-0 : goal.returns-in-0
unfolding four_marks mark_at row_length cache_index cache_bits
returns-in-0 c = hit four_marks c.args.k c.in-0.is refl

pub returns-in-1 : goal.returns-in-1
unfolding four_marks mark_at row_length cache_index cache_bits
returns-in-1 c = hit four_marks c.args.k c.in-1.is refl

pub returns-in-2 : goal.returns-in-2
unfolding four_marks mark_at row_length cache_index cache_bits
returns-in-2 c = hit four_marks c.args.k c.in-2.is refl

pub returns-in-3 : goal.returns-in-3
unfolding four_marks mark_at row_length cache_index cache_bits
returns-in-3 c = hit four_marks c.args.k c.in-3.is refl

pub returns-in-4 : goal.returns-in-4
unfolding four_marks mark_at row_length cache_index cache_bits
returns-in-4 c = hit four_marks c.args.k c.in-4.is refl

pub returns-in-5 : goal.returns-in-5
unfolding four_marks mark_at row_length cache_index cache_bits
returns-in-5 c = hit four_marks c.args.k c.in-5.is refl

pub returns-in-6 : goal.returns-in-6
unfolding four_marks mark_at row_length cache_index cache_bits
returns-in-6 c = hit four_marks c.args.k c.in-6.is refl

pub returns-in-7 : goal.returns-in-7
unfolding four_marks mark_at row_length cache_index cache_bits
returns-in-7 c = hit four_marks c.args.k c.in-7.is refl

pub returns-in-8 : goal.returns-in-8
unfolding four_marks mark_at row_length cache_index cache_bits
returns-in-8 c = hit four_marks c.args.k c.in-8.is refl

pub returns-in-9 : goal.returns-in-9
unfolding four_marks mark_at row_length cache_index cache_bits
returns-in-9 c = hit four_marks c.args.k c.in-9.is refl

pub returns-in-10 : goal.returns-in-10
unfolding four_marks mark_at row_length cache_index cache_bits
returns-in-10 c = hit four_marks c.args.k c.in-10.is refl

pub returns-in-11 : goal.returns-in-11
unfolding four_marks mark_at row_length cache_index cache_bits
returns-in-11 c = hit four_marks c.args.k c.in-11.is refl

pub returns-in-12 : goal.returns-in-12
unfolding four_marks mark_at row_length cache_index cache_bits
returns-in-12 c = hit four_marks c.args.k c.in-12.is refl

pub returns-in-13 : goal.returns-in-13
unfolding four_marks mark_at row_length cache_index cache_bits
returns-in-13 c = hit four_marks c.args.k c.in-13.is refl

pub returns-in-14 : goal.returns-in-14
unfolding four_marks mark_at row_length cache_index cache_bits
returns-in-14 c = hit four_marks c.args.k c.in-14.is refl

pub returns-in-15 : goal.returns-in-15
unfolding four_marks mark_at row_length cache_index cache_bits
returns-in-15 c = hit four_marks c.args.k c.in-15.is refl

pub returns-in-16 : goal.returns-in-16
unfolding four_marks mark_at row_length cache_index cache_bits
returns-in-16 c = hit four_marks c.args.k c.in-16.is refl

pub returns-in-17 : goal.returns-in-17
unfolding four_marks mark_at row_length cache_index cache_bits
returns-in-17 c = hit four_marks c.args.k c.in-17.is refl

pub returns-in-18 : goal.returns-in-18
unfolding four_marks mark_at row_length cache_index cache_bits
returns-in-18 c = hit four_marks c.args.k c.in-18.is refl

pub returns-in-19 : goal.returns-in-19
unfolding four_marks mark_at row_length cache_index cache_bits
returns-in-19 c = hit four_marks c.args.k c.in-19.is refl

pub returns-in-20 : goal.returns-in-20
unfolding four_marks mark_at row_length cache_index cache_bits
returns-in-20 c = hit four_marks c.args.k c.in-20.is refl

pub returns-in-21 : goal.returns-in-21
unfolding four_marks mark_at row_length cache_index cache_bits
returns-in-21 c = hit four_marks c.args.k c.in-21.is refl

pub returns-in-22 : goal.returns-in-22
unfolding four_marks mark_at row_length cache_index cache_bits
returns-in-22 c = hit four_marks c.args.k c.in-22.is refl

pub returns-in-23 : goal.returns-in-23
unfolding four_marks mark_at row_length cache_index cache_bits
returns-in-23 c = hit four_marks c.args.k c.in-23.is refl

pub returns-in-24 : goal.returns-in-24
unfolding four_marks mark_at row_length cache_index cache_bits
returns-in-24 c = hit four_marks c.args.k c.in-24.is refl

pub returns-in-25 : goal.returns-in-25
unfolding four_marks mark_at row_length cache_index cache_bits
returns-in-25 c = hit four_marks c.args.k c.in-25.is refl

pub returns-in_default : goal.returns-in_default
unfolding four_marks mark_at row_length cache_index cache_bits
returns-in_default c = hit four_marks c.args.k {n = 26} (omega arith) refl
