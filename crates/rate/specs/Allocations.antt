-- What an allocation gives, at each coder.
use Rattle.entdec.specs.declared.Reader.{Reader}
use Rattle.entenc.specs.declared.Writer.{Writer}
use Rattle.rate.specs.declared.Allocation.{Allocation}

-- read, with the reader after the call
abbrev pub ReadAllocation : Type 0
ReadAllocation = Allocation Reader

-- written, with the writer after the call
abbrev pub WrittenAllocation : Type 0
WrittenAllocation = Allocation Writer
