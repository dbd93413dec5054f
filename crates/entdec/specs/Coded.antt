-- What a read gives.
use Rattle.std.specs.Prelude.{ℕ}
use Rattle.entcode.specs.declared.Coded.{Coded}
use Rattle.entdec.specs.declared.Reader.{Reader}

-- a value, and the reader after it
abbrev pub ReadSymbol : Type 0
ReadSymbol = Coded ℕ Reader
