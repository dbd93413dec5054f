-- What the answers of entdec say, in lists.
use Rattle.std.specs.Prelude.{ℕ, List, ℤ}
use Rattle.entcode.specs.Said.{Said}
use Rattle.entdec.specs.Coded.{ReadSymbol}
use Rattle.entdec.specs.declared.Reader.{Reader}
use Rattle.gurthapen_answer.specs.Coder.{lists_coder, lists_coded}
use Rattle.gurthapen_state.specs.State.{list_of_reader}

-- of a start, and of a call that gives the reader after it and nothing else: that reader's list
abbrev pub lists_reader : Said Reader → Said (List ℤ)
lists_reader a = lists_coder list_of_reader a

-- of a read: the next reader's list, and the value
abbrev pub lists_read : Said ReadSymbol → Said (List ℤ × List ℕ)
lists_read a = lists_coded list_of_reader a
