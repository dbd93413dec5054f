-- `cwrs_counts::stored::row_5`: each arm has its two numbers, and the last one is past the row's end. Assumes nothing.
use mathlib.Core.Path.{refl}
use native.Mathlib.Omega.{arith}
use Rattle.cwrs_counts.specs.Table.{counts}
use Rattle.cwrs_counts.specs.Rows.{packed_at}
use Rattle.cwrs_counts.proofs.Arms.{hit, missed}
use Rattle.cwrs_counts.proofs.stored.row_5.Goals as goal

pub returns-in-0 : goal.returns-in-0
unfolding counts packed_at
returns-in-0 c = hit 5 c.args.g c.in-0.is refl

pub returns-in-1 : goal.returns-in-1
unfolding counts packed_at
returns-in-1 c = hit 5 c.args.g c.in-1.is refl

pub returns-in-2 : goal.returns-in-2
unfolding counts packed_at
returns-in-2 c = hit 5 c.args.g c.in-2.is refl

pub returns-in-3 : goal.returns-in-3
unfolding counts packed_at
returns-in-3 c = hit 5 c.args.g c.in-3.is refl

pub returns-in-4 : goal.returns-in-4
unfolding counts packed_at
returns-in-4 c = hit 5 c.args.g c.in-4.is refl

pub returns-in-5 : goal.returns-in-5
unfolding counts packed_at
returns-in-5 c = hit 5 c.args.g c.in-5.is refl

pub returns-in-6 : goal.returns-in-6
unfolding counts packed_at
returns-in-6 c = hit 5 c.args.g c.in-6.is refl

pub returns-in-7 : goal.returns-in-7
unfolding counts packed_at
returns-in-7 c = hit 5 c.args.g c.in-7.is refl

pub returns-in-8 : goal.returns-in-8
unfolding counts packed_at
returns-in-8 c = hit 5 c.args.g c.in-8.is refl

pub returns-in-9 : goal.returns-in-9
unfolding counts packed_at
returns-in-9 c = hit 5 c.args.g c.in-9.is refl

pub returns-in-10 : goal.returns-in-10
unfolding counts packed_at
returns-in-10 c = hit 5 c.args.g c.in-10.is refl

pub returns-in-11 : goal.returns-in-11
unfolding counts packed_at
returns-in-11 c = hit 5 c.args.g c.in-11.is refl

pub returns-in-12 : goal.returns-in-12
unfolding counts packed_at
returns-in-12 c = hit 5 c.args.g c.in-12.is refl

pub returns-in-13 : goal.returns-in-13
unfolding counts packed_at
returns-in-13 c = hit 5 c.args.g c.in-13.is refl

pub returns-in-14 : goal.returns-in-14
unfolding counts packed_at
returns-in-14 c = hit 5 c.args.g c.in-14.is refl

pub returns-in-15 : goal.returns-in-15
unfolding counts packed_at
returns-in-15 c = hit 5 c.args.g c.in-15.is refl

pub returns-in-16 : goal.returns-in-16
unfolding counts packed_at
returns-in-16 c = hit 5 c.args.g c.in-16.is refl

pub returns-in-17 : goal.returns-in-17
unfolding counts packed_at
returns-in-17 c = hit 5 c.args.g c.in-17.is refl

pub returns-in-18 : goal.returns-in-18
unfolding counts packed_at
returns-in-18 c = hit 5 c.args.g c.in-18.is refl

pub returns-in-19 : goal.returns-in-19
unfolding counts packed_at
returns-in-19 c = hit 5 c.args.g c.in-19.is refl

pub returns-in-20 : goal.returns-in-20
unfolding counts packed_at
returns-in-20 c = hit 5 c.args.g c.in-20.is refl

pub returns-in-21 : goal.returns-in-21
unfolding counts packed_at
returns-in-21 c = hit 5 c.args.g c.in-21.is refl

pub returns-in-22 : goal.returns-in-22
unfolding counts packed_at
returns-in-22 c = hit 5 c.args.g c.in-22.is refl

pub returns-in-23 : goal.returns-in-23
unfolding counts packed_at
returns-in-23 c = hit 5 c.args.g c.in-23.is refl

pub returns-in-24 : goal.returns-in-24
unfolding counts packed_at
returns-in-24 c = hit 5 c.args.g c.in-24.is refl

pub returns-in-25 : goal.returns-in-25
unfolding counts packed_at
returns-in-25 c = hit 5 c.args.g c.in-25.is refl

pub returns-in-26 : goal.returns-in-26
unfolding counts packed_at
returns-in-26 c = hit 5 c.args.g c.in-26.is refl

pub returns-in-27 : goal.returns-in-27
unfolding counts packed_at
returns-in-27 c = hit 5 c.args.g c.in-27.is refl

pub returns-in-28 : goal.returns-in-28
unfolding counts packed_at
returns-in-28 c = hit 5 c.args.g c.in-28.is refl

pub returns-in-29 : goal.returns-in-29
unfolding counts packed_at
returns-in-29 c = hit 5 c.args.g c.in-29.is refl

pub returns-in-30 : goal.returns-in-30
unfolding counts packed_at
returns-in-30 c = hit 5 c.args.g c.in-30.is refl

pub returns-in-31 : goal.returns-in-31
unfolding counts packed_at
returns-in-31 c = hit 5 c.args.g c.in-31.is refl

pub returns-in-32 : goal.returns-in-32
unfolding counts packed_at
returns-in-32 c = hit 5 c.args.g c.in-32.is refl

pub returns-in-33 : goal.returns-in-33
unfolding counts packed_at
returns-in-33 c = hit 5 c.args.g c.in-33.is refl

pub returns-in-34 : goal.returns-in-34
unfolding counts packed_at
returns-in-34 c = hit 5 c.args.g c.in-34.is refl

pub returns-in-35 : goal.returns-in-35
unfolding counts packed_at
returns-in-35 c = hit 5 c.args.g c.in-35.is refl

pub returns-in-36 : goal.returns-in-36
unfolding counts packed_at
returns-in-36 c = hit 5 c.args.g c.in-36.is refl

pub returns-in-37 : goal.returns-in-37
unfolding counts packed_at
returns-in-37 c = hit 5 c.args.g c.in-37.is refl

pub returns-in-38 : goal.returns-in-38
unfolding counts packed_at
returns-in-38 c = hit 5 c.args.g c.in-38.is refl

pub returns-in-39 : goal.returns-in-39
unfolding counts packed_at
returns-in-39 c = hit 5 c.args.g c.in-39.is refl

pub returns-in-40 : goal.returns-in-40
unfolding counts packed_at
returns-in-40 c = hit 5 c.args.g c.in-40.is refl

pub returns-in-41 : goal.returns-in-41
unfolding counts packed_at
returns-in-41 c = hit 5 c.args.g c.in-41.is refl

pub returns-in-42 : goal.returns-in-42
unfolding counts packed_at
returns-in-42 c = hit 5 c.args.g c.in-42.is refl

pub returns-in-43 : goal.returns-in-43
unfolding counts packed_at
returns-in-43 c = hit 5 c.args.g c.in-43.is refl

pub returns-in-44 : goal.returns-in-44
unfolding counts packed_at
returns-in-44 c = hit 5 c.args.g c.in-44.is refl

pub returns-in-45 : goal.returns-in-45
unfolding counts packed_at
returns-in-45 c = hit 5 c.args.g c.in-45.is refl

pub returns-in-46 : goal.returns-in-46
unfolding counts packed_at
returns-in-46 c = hit 5 c.args.g c.in-46.is refl

pub returns-in-47 : goal.returns-in-47
unfolding counts packed_at
returns-in-47 c = hit 5 c.args.g c.in-47.is refl

pub returns-in-48 : goal.returns-in-48
unfolding counts packed_at
returns-in-48 c = hit 5 c.args.g c.in-48.is refl

pub returns-in-49 : goal.returns-in-49
unfolding counts packed_at
returns-in-49 c = hit 5 c.args.g c.in-49.is refl

pub returns-in-50 : goal.returns-in-50
unfolding counts packed_at
returns-in-50 c = hit 5 c.args.g c.in-50.is refl

pub returns-in-51 : goal.returns-in-51
unfolding counts packed_at
returns-in-51 c = hit 5 c.args.g c.in-51.is refl

pub returns-in-52 : goal.returns-in-52
unfolding counts packed_at
returns-in-52 c = hit 5 c.args.g c.in-52.is refl

pub returns-in-53 : goal.returns-in-53
unfolding counts packed_at
returns-in-53 c = hit 5 c.args.g c.in-53.is refl

pub returns-in-54 : goal.returns-in-54
unfolding counts packed_at
returns-in-54 c = hit 5 c.args.g c.in-54.is refl

pub returns-in-55 : goal.returns-in-55
unfolding counts packed_at
returns-in-55 c = hit 5 c.args.g c.in-55.is refl

pub returns-in-56 : goal.returns-in-56
unfolding counts packed_at
returns-in-56 c = hit 5 c.args.g c.in-56.is refl

pub returns-in-57 : goal.returns-in-57
unfolding counts packed_at
returns-in-57 c = hit 5 c.args.g c.in-57.is refl

pub returns-in-58 : goal.returns-in-58
unfolding counts packed_at
returns-in-58 c = hit 5 c.args.g c.in-58.is refl

pub returns-in-59 : goal.returns-in-59
unfolding counts packed_at
returns-in-59 c = hit 5 c.args.g c.in-59.is refl

pub returns-in-60 : goal.returns-in-60
unfolding counts packed_at
returns-in-60 c = hit 5 c.args.g c.in-60.is refl

pub returns-in-61 : goal.returns-in-61
unfolding counts packed_at
returns-in-61 c = hit 5 c.args.g c.in-61.is refl

pub returns-in-62 : goal.returns-in-62
unfolding counts packed_at
returns-in-62 c = hit 5 c.args.g c.in-62.is refl

pub returns-in-63 : goal.returns-in-63
unfolding counts packed_at
returns-in-63 c = hit 5 c.args.g c.in-63.is refl

pub returns-in-64 : goal.returns-in-64
unfolding counts packed_at
returns-in-64 c = hit 5 c.args.g c.in-64.is refl

pub returns-in-65 : goal.returns-in-65
unfolding counts packed_at
returns-in-65 c = hit 5 c.args.g c.in-65.is refl

pub returns-in-66 : goal.returns-in-66
unfolding counts packed_at
returns-in-66 c = hit 5 c.args.g c.in-66.is refl

pub returns-in-67 : goal.returns-in-67
unfolding counts packed_at
returns-in-67 c = hit 5 c.args.g c.in-67.is refl

pub returns-in-68 : goal.returns-in-68
unfolding counts packed_at
returns-in-68 c = hit 5 c.args.g c.in-68.is refl

pub returns-in-69 : goal.returns-in-69
unfolding counts packed_at
returns-in-69 c = hit 5 c.args.g c.in-69.is refl

pub returns-in-70 : goal.returns-in-70
unfolding counts packed_at
returns-in-70 c = hit 5 c.args.g c.in-70.is refl

pub returns-in-71 : goal.returns-in-71
unfolding counts packed_at
returns-in-71 c = hit 5 c.args.g c.in-71.is refl

pub returns-in-72 : goal.returns-in-72
unfolding counts packed_at
returns-in-72 c = hit 5 c.args.g c.in-72.is refl

pub returns-in-73 : goal.returns-in-73
unfolding counts packed_at
returns-in-73 c = hit 5 c.args.g c.in-73.is refl

pub returns-in-74 : goal.returns-in-74
unfolding counts packed_at
returns-in-74 c = hit 5 c.args.g c.in-74.is refl

pub returns-in-75 : goal.returns-in-75
unfolding counts packed_at
returns-in-75 c = hit 5 c.args.g c.in-75.is refl

pub returns-in-76 : goal.returns-in-76
unfolding counts packed_at
returns-in-76 c = hit 5 c.args.g c.in-76.is refl

pub returns-in-77 : goal.returns-in-77
unfolding counts packed_at
returns-in-77 c = hit 5 c.args.g c.in-77.is refl

pub returns-in-78 : goal.returns-in-78
unfolding counts packed_at
returns-in-78 c = hit 5 c.args.g c.in-78.is refl

pub returns-in-79 : goal.returns-in-79
unfolding counts packed_at
returns-in-79 c = hit 5 c.args.g c.in-79.is refl

pub returns-in-80 : goal.returns-in-80
unfolding counts packed_at
returns-in-80 c = hit 5 c.args.g c.in-80.is refl

pub returns-in-81 : goal.returns-in-81
unfolding counts packed_at
returns-in-81 c = hit 5 c.args.g c.in-81.is refl

pub returns-in-82 : goal.returns-in-82
unfolding counts packed_at
returns-in-82 c = hit 5 c.args.g c.in-82.is refl

pub returns-in-83 : goal.returns-in-83
unfolding counts packed_at
returns-in-83 c = hit 5 c.args.g c.in-83.is refl

pub returns-in-84 : goal.returns-in-84
unfolding counts packed_at
returns-in-84 c = hit 5 c.args.g c.in-84.is refl

pub returns-in-85 : goal.returns-in-85
unfolding counts packed_at
returns-in-85 c = hit 5 c.args.g c.in-85.is refl

pub returns-in-86 : goal.returns-in-86
unfolding counts packed_at
returns-in-86 c = hit 5 c.args.g c.in-86.is refl

pub returns-in-87 : goal.returns-in-87
unfolding counts packed_at
returns-in-87 c = hit 5 c.args.g c.in-87.is refl

pub returns-in-88 : goal.returns-in-88
unfolding counts packed_at
returns-in-88 c = hit 5 c.args.g c.in-88.is refl

pub returns-in_default : goal.returns-in_default
unfolding counts packed_at
returns-in_default c = missed 5 89 refl c.args.g (omega arith)
