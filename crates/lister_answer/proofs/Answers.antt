-- The answer's parts: the allocation, the reader, the packet, the call, and a line that is too long. Assumes nothing.
use Rattle.std.specs.Prelude.{Option, Some, None, Result, Ok, Err}
use Rattle.entcode.specs.declared.reasons.Refusal.{Refusal}
use Prim.Native.Nat.{ℕ, ◌+◌, ◌/◌, ◌%◌, ◌≤◌, ◌<◌}
use mathlib.Core.Path.{◌≡◌, refl, sym, ap, ◌∙◌}
use mathlib.Core.Bool.{Bool, true, false, cond, ◌&&◌, and-eq-true_iff}
use mathlib.Core.List.{List, [], ◌∷◌}
use native.Mathlib.Omega.{arith}
use lib.Dec.{leb, eqb}
use lib.IntN.{ℤ, pos}
use lib.ListN.{length, take, drop}
use lib.Seq.{sets, length-sets, sets-eq, take_all, take-append_seam, length-take-le}
use borrow.Author.Tests.{le-leb, lt-leb, eq-eqb, leb-true}
use Rattle.laws.specs.Signs.{clip}
use Rattle.laws.proofs.Lists.{fill-length}
use Rattle.laws.proofs.Tests.{by_le}
use Rattle.text.specs.Fields.{fields_of}
use Rattle.text.specs.Digits.{all_digits}
use Rattle.text.specs.Numbers.{bytes_of, hex_bytes}
use Rattle.text.specs.Written.{PlacedText}
use Rattle.text.proofs.Values.{and-false}
use Rattle.entcode.specs.Refusal.{refusal}
use Rattle.entcode.specs.Said.{answer, lent_after, said}
use Rattle.entcode.specs.Refusal.{number_of}
use Rattle.entcode.specs.Said.Said.{done, refused}
use Rattle.entdec.specs.declared.Reader.{Reader}
use Rattle.entdec.specs.Read.{pull, pulls, fresh_reader}
use Rattle.entdec.specs.Rule.{reader_ok, read_refusal}
use Rattle.entdec.specs.Answer.{start_of}
use Rattle.rate.specs.declared.AllocNumbers.{AllocNumbers}
use Rattle.rate.specs.Question.{lengths_ok, numbers_ok, refusal_read, no_entries, no_lists}
use Rattle.rate.specs.Answer.{AfterRead, reading}
use Rattle.rate.proofs.Accepts.{refused-read}
use Rattle.lister_answer.specs.Request.{packet_hex, packet_of, well_formed, request_of, packet_size, packet_into}
use Rattle.rate_spec.specs.Caps.{cap_of}
use Rattle.lister_answer.specs.Caps.{caps_of}
use Rattle.lister_answer.specs.Lines.{refused_line}
use Rattle.lister_answer.proofs.Requests.{long-malformed}
use Rattle.lister_answer.specs.Answer.{allocated, listing_of_line, after, listing}

-- ---- the allocation

-- reading with the lister's caps is the lister's allocation
pub allocated-is : (q : AllocNumbers) (s : List ℕ) (d : Reader) {caps : List ℤ} {x : AfterRead} → caps ≡ caps_of (clip q.c) (clip q.lm)
    → x ≡ reading q no_entries caps s d no_lists → x ≡ allocated q s d
unfolding allocated
allocated-is q s d e p = p ∙ rw e

-- a fresh reader is as long as its packet
fresh-storage : (s : List ℕ) → (fresh_reader s).storage ≡ length s
unfolding fresh_reader pulls pull
fresh-storage s = refl

-- there are 21 caps
caps-length : (c lm : ℕ) → length (caps_of c lm) ≡ 21
unfolding caps_of no_entries
caps-length c lm = fill-length (λ j. pos (cap_of c lm j)) 21 0 no_entries

no_entries-length : length no_entries ≡ 21
unfolding no_entries
no_entries-length = refl

-- good lengths and numbers outside their domain: refusal 1, whatever the entries are
numbers-refused : (n : ℕ) (d : Reader) (lengths alloc_numbers entries : Bool) → d.storage ≡ n → lengths ≡ true → alloc_numbers ≡ false
    → read_refusal n d lengths alloc_numbers entries 0 ≡ 1
unfolding read_refusal refusal
numbers-refused n d lengths alloc_numbers entries p q r = rw (q, r, and-false (reader_ok d), eq-eqb d.storage n p)

-- lists of 21 have the lengths that an allocation asks for
all-sized : (offsets caps : List ℤ) → length offsets ≡ 21 → length caps ≡ 21
    → lengths_ok (length offsets) (length caps) (length offsets) (length offsets) (length offsets) ≡ true
all-sized offsets caps p q = rw (p, q)

-- the lister's allocation of numbers outside their domain is refused as 1
refused_one : (q : AllocNumbers) (s : List ℕ) → numbers_ok q ≡ false
    → refusal_read q no_entries (caps_of (clip q.c) (clip q.lm)) no_lists s (fresh_reader s) ≡ 1
unfolding refusal_read
refused_one q s h =
    numbers-refused (length s) (fresh_reader s) _ _ _ (fresh-storage s)
    (all-sized no_entries (caps_of (clip q.c) (clip q.lm)) no_entries-length (caps-length (clip q.c) (clip q.lm))) h

-- numbers outside their domain are refused as 1
pub unknown_read : (q : AllocNumbers) (s : List ℕ) → numbers_ok q ≡ false → record { said = refused 1; lent = no_lists } ≡ allocated q s (fresh_reader s)
unfolding allocated
unknown_read q s h =
    ap (λ (n : ℕ). record { said = refused n; lent = no_lists }) (sym (refused_one q s h))
    ∙ refused-read (refusal_read q no_entries (caps_of (clip q.c) (clip q.lm)) no_lists s (fresh_reader s)) _ _ _
    (λ (z : refusal_read q no_entries (caps_of (clip q.c) (clip q.lm)) no_lists s (fresh_reader s) ≡ 0). omega (arith, refused_one q s h))

-- ---- the reader

-- a new reader of a packet that is not too long is the definition's fresh one
pub new-reader : (s : List ℕ) {d : Reader} {r : Result Reader Refusal} → length s ≤ 1275 → said r ≡ start_of s → r ≡ Ok d → d ≡ fresh_reader s
unfolding answer
new-reader s {d} h p q =
    let e : start_of s ≡ done (fresh_reader s) = rw (le-leb (length s) 1275 h) in
    let f : done d ≡ start_of s = rw q at p in
    cc

-- and is never refused
pub new-reader_never_refused : (s : List ℕ) {why : Refusal} {r : Result Reader Refusal} → length s ≤ 1275 → said r ≡ start_of s → r ≡ Err why → ⊥
unfolding answer
new-reader_never_refused s {why} h p q =
    let e : start_of s ≡ done (fresh_reader s) = rw (le-leb (length s) 1275 h) in
    let f : refused (number_of why) ≡ start_of s = rw q at p in
    let z : ◌≡◌ {A = ℕ} 0 1 = cc in
    omega arith

-- ---- the packet

-- two digits a byte
bytes-length : (t : List ℕ) → length (bytes_of t) ≡ length t / 2
unfolding bytes_of
bytes-length [] = refl
bytes-length (a ∷ []) = refl
bytes-length (a ∷ b ∷ t) = let e : length (bytes_of t) ≡ length t / 2 = bytes-length t in omega arith

-- the packet's field in a well-formed line
packet-hex-length : (s : List ℕ) → well_formed s ≡ true → length (packet_hex s) ≤ 2550
unfolding well_formed hex_bytes
packet-hex-length s h =
    let f = packet_hex s in
    let a = (and-eq-true_iff (leb (length s) 2600) (eqb (length (fields_of s)) 7 && hex_bytes 1275 f)).0 h in
    let b = (and-eq-true_iff (eqb (length (fields_of s)) 7) (hex_bytes 1275 f)).0 a.1 in
    leb-true (length f) 2550 ((and-eq-true_iff (leb (length f) 2550) (eqb (length f % 2) 0 && all_digits 16 f)).0 b.1).0

-- how many bytes the packet of a line has
pub record PacketLength (s packet : List ℕ) : Type 0 where
  pub most : length packet ≤ 1275
  pub half : length packet ≡ length (packet_hex s) / 2

-- by the length of its field
pub packet-length : (s packet : List ℕ) → well_formed s ≡ true → packet ≡ packet_of s → PacketLength s packet
packet-length s packet h e =
    let l : length packet ≡ length (packet_hex s) / 2 = ap length e ∙ bytes-length (packet_hex s) in
    let m = packet-hex-length s h in
    record { most = omega arith; half = l }

-- ---- the packet in its buffer

-- the packet of a well-formed line stands in the first n bytes of a buffer
pub record PacketRead (s : List ℕ) (n : ℕ) (last : List ℕ) : Type 0 where
  pub good : well_formed s ≡ true
  pub fits : n ≤ length last
  pub bytes : take n last ≡ packet_of s

-- bytes that were written to the start of the buffer stand there
bytes_in : (s out : List ℕ) → length out ≡ 1275 → well_formed s ≡ true → take (length (packet_hex s) / 2) (sets out 0 (packet_of s)) ≡ packet_of s
bytes_in s out h g =
    let w = packet-length s (packet_of s) g refl in
    sym (ap (λ (k : ℕ). take k (sets out 0 (packet_of s))) w.half) ∙ ap (take (length (packet_of s))) (sets-eq (packet_of s) out 0 (omega (arith, w.most)))
    ∙ take-append_seam (packet_of s) (drop (0 + length (packet_of s)) out)

-- what reading the packet answered, where it answered with a length
pub packet-read : (s out last : List ℕ) {n : ℕ} {r : Option ℕ} → length out ≡ 1275 → (r ≡ packet_size s) × (last ≡ packet_into s out) → r ≡ Some n
    → PacketRead s n last
packet-read s out last {n} {r} h p g = go (well_formed s) refl (sym p.0 ∙ g) p.1
  where
    go : (b : Bool) → well_formed s ≡ b → cond b (Some (length (packet_hex s) / 2)) None ≡ Some n → last ≡ cond b (sets out 0 (packet_of s)) out
        → PacketRead s n last
    go true e f k =
        let m : length (packet_hex s) / 2 ≡ n = cc in
        let w = packet-length s (packet_of s) e refl in
        record {
          good = e;
          fits = omega (arith, w.half, w.most, ap length k, length-sets out 0 (packet_of s));
          bytes = ap (take n) k ∙ sym (ap (λ (j : ℕ). take j (sets out 0 (packet_of s))) m) ∙ bytes_in s out h e;
        }
    go false e f k = absurd (let z : ◌≡◌ {A = ℕ} 0 1 = cc in omega arith)

-- ---- the call

-- fewer than 1,200 bytes are refused as 2
pub list-refused : (number : ℕ) (line out : List ℕ) → length out < 1200 → record { said = refused 2; lent = out } ≡ listing number line out
unfolding listing answer lent_after
list-refused number line out h = rw (lt-leb 1200 (length out) h)

-- else the text stands at the start of the buffer
pub list_done : (number : ℕ) (line out : List ℕ) {n : ℕ} {last : List ℕ} → 1200 ≤ length out → PlacedText 1200 out 0 (listing_of_line number line) n last
    → after (Ok n) last ≡ listing number line out
unfolding listing answer lent_after
list_done number line out h p =
    let e : 0 + length (listing_of_line number line) ≡ length (listing_of_line number line) = omega arith in
    rw (le-leb 1200 (length out) h, p.next ∙ e, p.bytes)

-- ---- a line that is too long

-- a malformed line is refused as 1
malformed-listing : (number : ℕ) (s : List ℕ) → well_formed s ≡ false → listing_of_line number s ≡ refused_line number 1
unfolding listing_of_line request_of
malformed-listing number s e = rw e

-- the first 2,601 bytes of a line are answered as the line is
pub cut-listing : (number : ℕ) (s : List ℕ) → listing_of_line number (take 2601 s) ≡ listing_of_line number s
cut-listing number s =
    by_le (length s) 2600 (λ h. ap (listing_of_line number) (take_all 2601 s (omega arith)))
    (λ h.
    let l : length (take 2601 s) ≡ 2601 = length-take-le 2601 s h in
    malformed-listing number (take 2601 s) (long-malformed (take 2601 s) (omega arith)) ∙ sym (malformed-listing number s (long-malformed s h)))
