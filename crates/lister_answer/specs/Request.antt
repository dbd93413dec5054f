-- What a request line asks: six numbers and a packet, in seven fields. Document 01, "The lister".
use Rattle.std.specs.Prelude.{ℤ, Option, Some, None}
use Rattle.rate.specs.declared.AllocNumbers.{AllocNumbers}
use Rattle.std.specs.Prelude.{ℕ, ◌*◌, ◌/◌, Bool, cond, ◌&&◌, List, leb, eqb, pos, length}
use Rattle.std.proofs.lemmas.List.Edits.{sets}
use Rattle.text.specs.Fields.{fields_of, field_of}
use Rattle.text.specs.Numbers.{whole_of, hex_bytes, bytes_of}
use Rattle.rate.specs.Question.{alloc_numbers}

-- the trim that a field gives: 5 where it is empty
abbrev pub trim_of : List ℕ → Option ℤ
trim_of f = cond (eqb (length f) 0) (Some (pos 5)) (whole_of f)

-- the total that a field gives: where it is empty, 8 bits, which are 64 eighths, for each byte of the packet
abbrev pub total_of : List ℕ → ℕ → Option ℤ
total_of f bytes = cond (eqb (length f) 0) (Some (pos (64 * bytes))) (whole_of f)

-- a request of six numbers, malformed where one of them is none
unfoldable pub asks_of : Option ℤ → Option ℤ → Option ℤ → Option ℤ → Option ℤ → Option ℤ → Option AllocNumbers
asks_of (Some c) (Some lm) (Some start) (Some end) (Some trim) (Some total) = Some (alloc_numbers c lm start end trim total)
asks_of (Some c) (Some lm) (Some start) (Some end) (Some trim) None = None
asks_of (Some c) (Some lm) (Some start) (Some end) None total = None
asks_of (Some c) (Some lm) (Some start) None trim total = None
asks_of (Some c) (Some lm) None end trim total = None
asks_of (Some c) None start end trim total = None
asks_of None lm start end trim total = None

-- the last field of a line: its packet in hex
abbrev pub packet_hex : List ℕ → List ℕ
packet_hex s = field_of s 6

-- the packet's bytes
abbrev pub packet_of : List ℕ → List ℕ
packet_of s = bytes_of (packet_hex s)

-- the numbers of a line
unfoldable pub request_numbers : List ℕ → Option AllocNumbers
request_numbers s =
    asks_of (whole_of (field_of s 0)) (whole_of (field_of s 1)) (whole_of (field_of s 2)) (whole_of (field_of s 3)) (trim_of (field_of s 4))
    (total_of (field_of s 5) (length (packet_hex s) / 2))

-- a line of at most 2,600 bytes and seven fields, of which the last writes at most 1,275 bytes
unfoldable pub well_formed : List ℕ → Bool
well_formed s = leb (length s) 2600 && (eqb (length (fields_of s)) 7 && hex_bytes 1275 (packet_hex s))

-- what a line asks
unfoldable pub request_of : List ℕ → Option AllocNumbers
request_of s = cond (well_formed s) (request_numbers s) None

-- how many bytes the packet of a line has, if the line is well formed
abbrev pub packet_size : List ℕ → Option ℕ
packet_size s = cond (well_formed s) (Some (length (packet_hex s) / 2)) None

-- a list with these bytes at its start
abbrev pub packet_into : List ℕ → List ℕ → List ℕ
packet_into s out = cond (well_formed s) (sets out 0 (packet_of s)) out
