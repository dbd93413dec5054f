-- What the two calls give.
use Rattle.std.specs.Prelude.{ℤ}
use Rattle.entcode.specs.declared.Coded.{Coded}
use Rattle.entdec.specs.declared.Reader.{Reader}
use Rattle.entenc.specs.declared.Writer.{Writer}

-- a value that was read, and the reader after it
abbrev pub LapSym : Type 0
LapSym = Coded ℤ Reader

-- the value that counts as written, and the writer after it
abbrev pub LapDone : Type 0
LapDone = Coded ℤ Writer
