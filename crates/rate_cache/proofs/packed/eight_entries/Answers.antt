-- `rate_cache::packed::eight_entries`: each arm is computed. Assumes nothing.
use mathlib.Core.Path.{refl}
use native.Mathlib.Omega.{arith}
use Rattle.modes.specs.CacheBits.{cache_bits}
use Rattle.rate_cache.specs.Packed.{eight_entries}
use Rattle.rate_cache.proofs.Packings.{hit}
use Rattle.rate_cache.proofs.packed.eight_entries.Goals as goal

pub returns-in-0 : goal.returns-in-0
unfolding eight_entries cache_bits
returns-in-0 c = hit eight_entries c.args.k c.in-0.is refl

pub returns-in-1 : goal.returns-in-1
unfolding eight_entries cache_bits
returns-in-1 c = hit eight_entries c.args.k c.in-1.is refl

pub returns-in-2 : goal.returns-in-2
unfolding eight_entries cache_bits
returns-in-2 c = hit eight_entries c.args.k c.in-2.is refl

pub returns-in-3 : goal.returns-in-3
unfolding eight_entries cache_bits
returns-in-3 c = hit eight_entries c.args.k c.in-3.is refl

pub returns-in-4 : goal.returns-in-4
unfolding eight_entries cache_bits
returns-in-4 c = hit eight_entries c.args.k c.in-4.is refl

pub returns-in-5 : goal.returns-in-5
unfolding eight_entries cache_bits
returns-in-5 c = hit eight_entries c.args.k c.in-5.is refl

pub returns-in-6 : goal.returns-in-6
unfolding eight_entries cache_bits
returns-in-6 c = hit eight_entries c.args.k c.in-6.is refl

pub returns-in-7 : goal.returns-in-7
unfolding eight_entries cache_bits
returns-in-7 c = hit eight_entries c.args.k c.in-7.is refl

pub returns-in-8 : goal.returns-in-8
unfolding eight_entries cache_bits
returns-in-8 c = hit eight_entries c.args.k c.in-8.is refl

pub returns-in-9 : goal.returns-in-9
unfolding eight_entries cache_bits
returns-in-9 c = hit eight_entries c.args.k c.in-9.is refl

pub returns-in-10 : goal.returns-in-10
unfolding eight_entries cache_bits
returns-in-10 c = hit eight_entries c.args.k c.in-10.is refl

pub returns-in-11 : goal.returns-in-11
unfolding eight_entries cache_bits
returns-in-11 c = hit eight_entries c.args.k c.in-11.is refl

pub returns-in-12 : goal.returns-in-12
unfolding eight_entries cache_bits
returns-in-12 c = hit eight_entries c.args.k c.in-12.is refl

pub returns-in-13 : goal.returns-in-13
unfolding eight_entries cache_bits
returns-in-13 c = hit eight_entries c.args.k c.in-13.is refl

pub returns-in-14 : goal.returns-in-14
unfolding eight_entries cache_bits
returns-in-14 c = hit eight_entries c.args.k c.in-14.is refl

pub returns-in-15 : goal.returns-in-15
unfolding eight_entries cache_bits
returns-in-15 c = hit eight_entries c.args.k c.in-15.is refl

pub returns-in-16 : goal.returns-in-16
unfolding eight_entries cache_bits
returns-in-16 c = hit eight_entries c.args.k c.in-16.is refl

pub returns-in-17 : goal.returns-in-17
unfolding eight_entries cache_bits
returns-in-17 c = hit eight_entries c.args.k c.in-17.is refl

pub returns-in-18 : goal.returns-in-18
unfolding eight_entries cache_bits
returns-in-18 c = hit eight_entries c.args.k c.in-18.is refl

pub returns-in-19 : goal.returns-in-19
unfolding eight_entries cache_bits
returns-in-19 c = hit eight_entries c.args.k c.in-19.is refl

pub returns-in-20 : goal.returns-in-20
unfolding eight_entries cache_bits
returns-in-20 c = hit eight_entries c.args.k c.in-20.is refl

pub returns-in-21 : goal.returns-in-21
unfolding eight_entries cache_bits
returns-in-21 c = hit eight_entries c.args.k c.in-21.is refl

pub returns-in-22 : goal.returns-in-22
unfolding eight_entries cache_bits
returns-in-22 c = hit eight_entries c.args.k c.in-22.is refl

pub returns-in-23 : goal.returns-in-23
unfolding eight_entries cache_bits
returns-in-23 c = hit eight_entries c.args.k c.in-23.is refl

pub returns-in-24 : goal.returns-in-24
unfolding eight_entries cache_bits
returns-in-24 c = hit eight_entries c.args.k c.in-24.is refl

pub returns-in-25 : goal.returns-in-25
unfolding eight_entries cache_bits
returns-in-25 c = hit eight_entries c.args.k c.in-25.is refl

pub returns-in-26 : goal.returns-in-26
unfolding eight_entries cache_bits
returns-in-26 c = hit eight_entries c.args.k c.in-26.is refl

pub returns-in-27 : goal.returns-in-27
unfolding eight_entries cache_bits
returns-in-27 c = hit eight_entries c.args.k c.in-27.is refl

pub returns-in-28 : goal.returns-in-28
unfolding eight_entries cache_bits
returns-in-28 c = hit eight_entries c.args.k c.in-28.is refl

pub returns-in-29 : goal.returns-in-29
unfolding eight_entries cache_bits
returns-in-29 c = hit eight_entries c.args.k c.in-29.is refl

pub returns-in-30 : goal.returns-in-30
unfolding eight_entries cache_bits
returns-in-30 c = hit eight_entries c.args.k c.in-30.is refl

pub returns-in-31 : goal.returns-in-31
unfolding eight_entries cache_bits
returns-in-31 c = hit eight_entries c.args.k c.in-31.is refl

pub returns-in-32 : goal.returns-in-32
unfolding eight_entries cache_bits
returns-in-32 c = hit eight_entries c.args.k c.in-32.is refl

pub returns-in-33 : goal.returns-in-33
unfolding eight_entries cache_bits
returns-in-33 c = hit eight_entries c.args.k c.in-33.is refl

pub returns-in-34 : goal.returns-in-34
unfolding eight_entries cache_bits
returns-in-34 c = hit eight_entries c.args.k c.in-34.is refl

pub returns-in-35 : goal.returns-in-35
unfolding eight_entries cache_bits
returns-in-35 c = hit eight_entries c.args.k c.in-35.is refl

pub returns-in-36 : goal.returns-in-36
unfolding eight_entries cache_bits
returns-in-36 c = hit eight_entries c.args.k c.in-36.is refl

pub returns-in-37 : goal.returns-in-37
unfolding eight_entries cache_bits
returns-in-37 c = hit eight_entries c.args.k c.in-37.is refl

pub returns-in-38 : goal.returns-in-38
unfolding eight_entries cache_bits
returns-in-38 c = hit eight_entries c.args.k c.in-38.is refl

pub returns-in-39 : goal.returns-in-39
unfolding eight_entries cache_bits
returns-in-39 c = hit eight_entries c.args.k c.in-39.is refl

pub returns-in-40 : goal.returns-in-40
unfolding eight_entries cache_bits
returns-in-40 c = hit eight_entries c.args.k c.in-40.is refl

pub returns-in-41 : goal.returns-in-41
unfolding eight_entries cache_bits
returns-in-41 c = hit eight_entries c.args.k c.in-41.is refl

pub returns-in-42 : goal.returns-in-42
unfolding eight_entries cache_bits
returns-in-42 c = hit eight_entries c.args.k c.in-42.is refl

pub returns-in-43 : goal.returns-in-43
unfolding eight_entries cache_bits
returns-in-43 c = hit eight_entries c.args.k c.in-43.is refl

pub returns-in-44 : goal.returns-in-44
unfolding eight_entries cache_bits
returns-in-44 c = hit eight_entries c.args.k c.in-44.is refl

pub returns-in-45 : goal.returns-in-45
unfolding eight_entries cache_bits
returns-in-45 c = hit eight_entries c.args.k c.in-45.is refl

pub returns-in-46 : goal.returns-in-46
unfolding eight_entries cache_bits
returns-in-46 c = hit eight_entries c.args.k c.in-46.is refl

pub returns-in-47 : goal.returns-in-47
unfolding eight_entries cache_bits
returns-in-47 c = hit eight_entries c.args.k c.in-47.is refl

pub returns-in_default : goal.returns-in_default
unfolding eight_entries cache_bits
returns-in_default c = hit eight_entries c.args.k {n = 48} (omega arith) refl
