-- `cwrs_counts::stored::row_7`: each arm has its two numbers, and the last one is past the row's end. Assumes nothing.
use mathlib.Core.Path.{refl}
use native.Mathlib.Omega.{arith}
use Rattle.cwrs_counts.specs.Table.{counts}
use Rattle.cwrs_counts.specs.Rows.{packed_at}
use Rattle.cwrs_counts.proofs.Arms.{hit, missed}
use Rattle.cwrs_counts.proofs.stored.row_7.Goals as goal

pub returns-in-0 : goal.returns-in-0
unfolding counts packed_at
returns-in-0 c = hit 7 c.args.g c.in-0.is refl

pub returns-in-1 : goal.returns-in-1
unfolding counts packed_at
returns-in-1 c = hit 7 c.args.g c.in-1.is refl

pub returns-in-2 : goal.returns-in-2
unfolding counts packed_at
returns-in-2 c = hit 7 c.args.g c.in-2.is refl

pub returns-in-3 : goal.returns-in-3
unfolding counts packed_at
returns-in-3 c = hit 7 c.args.g c.in-3.is refl

pub returns-in-4 : goal.returns-in-4
unfolding counts packed_at
returns-in-4 c = hit 7 c.args.g c.in-4.is refl

pub returns-in-5 : goal.returns-in-5
unfolding counts packed_at
returns-in-5 c = hit 7 c.args.g c.in-5.is refl

pub returns-in-6 : goal.returns-in-6
unfolding counts packed_at
returns-in-6 c = hit 7 c.args.g c.in-6.is refl

pub returns-in-7 : goal.returns-in-7
unfolding counts packed_at
returns-in-7 c = hit 7 c.args.g c.in-7.is refl

pub returns-in-8 : goal.returns-in-8
unfolding counts packed_at
returns-in-8 c = hit 7 c.args.g c.in-8.is refl

pub returns-in-9 : goal.returns-in-9
unfolding counts packed_at
returns-in-9 c = hit 7 c.args.g c.in-9.is refl

pub returns-in-10 : goal.returns-in-10
unfolding counts packed_at
returns-in-10 c = hit 7 c.args.g c.in-10.is refl

pub returns-in-11 : goal.returns-in-11
unfolding counts packed_at
returns-in-11 c = hit 7 c.args.g c.in-11.is refl

pub returns-in-12 : goal.returns-in-12
unfolding counts packed_at
returns-in-12 c = hit 7 c.args.g c.in-12.is refl

pub returns-in-13 : goal.returns-in-13
unfolding counts packed_at
returns-in-13 c = hit 7 c.args.g c.in-13.is refl

pub returns-in-14 : goal.returns-in-14
unfolding counts packed_at
returns-in-14 c = hit 7 c.args.g c.in-14.is refl

pub returns-in-15 : goal.returns-in-15
unfolding counts packed_at
returns-in-15 c = hit 7 c.args.g c.in-15.is refl

pub returns-in-16 : goal.returns-in-16
unfolding counts packed_at
returns-in-16 c = hit 7 c.args.g c.in-16.is refl

pub returns-in-17 : goal.returns-in-17
unfolding counts packed_at
returns-in-17 c = hit 7 c.args.g c.in-17.is refl

pub returns-in-18 : goal.returns-in-18
unfolding counts packed_at
returns-in-18 c = hit 7 c.args.g c.in-18.is refl

pub returns-in-19 : goal.returns-in-19
unfolding counts packed_at
returns-in-19 c = hit 7 c.args.g c.in-19.is refl

pub returns-in-20 : goal.returns-in-20
unfolding counts packed_at
returns-in-20 c = hit 7 c.args.g c.in-20.is refl

pub returns-in-21 : goal.returns-in-21
unfolding counts packed_at
returns-in-21 c = hit 7 c.args.g c.in-21.is refl

pub returns-in-22 : goal.returns-in-22
unfolding counts packed_at
returns-in-22 c = hit 7 c.args.g c.in-22.is refl

pub returns-in-23 : goal.returns-in-23
unfolding counts packed_at
returns-in-23 c = hit 7 c.args.g c.in-23.is refl

pub returns-in-24 : goal.returns-in-24
unfolding counts packed_at
returns-in-24 c = hit 7 c.args.g c.in-24.is refl

pub returns-in-25 : goal.returns-in-25
unfolding counts packed_at
returns-in-25 c = hit 7 c.args.g c.in-25.is refl

pub returns-in-26 : goal.returns-in-26
unfolding counts packed_at
returns-in-26 c = hit 7 c.args.g c.in-26.is refl

pub returns-in-27 : goal.returns-in-27
unfolding counts packed_at
returns-in-27 c = hit 7 c.args.g c.in-27.is refl

pub returns-in-28 : goal.returns-in-28
unfolding counts packed_at
returns-in-28 c = hit 7 c.args.g c.in-28.is refl

pub returns-in-29 : goal.returns-in-29
unfolding counts packed_at
returns-in-29 c = hit 7 c.args.g c.in-29.is refl

pub returns-in-30 : goal.returns-in-30
unfolding counts packed_at
returns-in-30 c = hit 7 c.args.g c.in-30.is refl

pub returns-in_default : goal.returns-in_default
unfolding counts packed_at
returns-in_default c = missed 7 31 refl c.args.g (omega arith)
