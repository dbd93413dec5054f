-- What a request line asks, by its fields, and what reading its packet answers. Assumes nothing.
use Rattle.std.specs.Prelude.{Option, Some, None}
use Prim.Native.Nat.{ℕ, ◌/◌, ◌≤◌, ◌<◌}
use mathlib.Core.Path.{◌≡◌, refl, sym, ap, ◌∙◌}
use mathlib.Core.Bool.{Bool, true, false, ◌&&◌, and-eq-true_iff}
use mathlib.Core.List.{List}
use lib.Dec.{leb, eqb}
use lib.ListN.{length}
use borrow.Author.Tests.{le-leb, lt-leb, eq-eqb, ne_eqb}
use Rattle.text.specs.Fields.{fields_of}
use Rattle.text.specs.Numbers.{hex_bytes, bytes_into}
use Rattle.text.proofs.Values.{and-false}
use Rattle.lister_answer.specs.Request.{packet_hex, well_formed, packet_size, packet_into}

-- ---- the packet

-- what reading the packet answers, and the buffer after it
abbrev pub PacketAnswer : List ℕ → List ℕ → Option ℕ → List ℕ → Type 0
PacketAnswer s out r last = (r ≡ packet_size s) × (last ≡ packet_into s out)

-- a malformed line has no packet, and the buffer stays
malformed-answer : (s out : List ℕ) → well_formed s ≡ false → PacketAnswer s out None out
malformed-answer s out e = rw e (refl, refl)

-- a line of more than 2,600 bytes is malformed
pub long-malformed : (s : List ℕ) → 2600 < length s → well_formed s ≡ false
unfolding well_formed
long-malformed s h = rw (lt-leb (length s) 2600 h)

-- so is one with another count of fields
fields-malformed : (s : List ℕ) → (length (fields_of s) ≡ 7 → ⊥) → well_formed s ≡ false
unfolding well_formed
fields-malformed s h = rw (ne_eqb (length (fields_of s)) 7 h, and-false)

-- and one whose last field writes no bytes, or more than 1,275
hex-malformed : (s : List ℕ) → hex_bytes 1275 (packet_hex s) ≡ false → well_formed s ≡ false
unfolding well_formed
hex-malformed s h = go (leb (length s) 2600) (eqb (length (fields_of s)) 7) (hex_bytes 1275 (packet_hex s)) h
  where
    go : (a b c : Bool) → c ≡ false → (a && (b && c)) ≡ false
    go a b c e = rw (e, and-false b, and-false a)

-- a line that is none of these is well formed
well_formed_lem : (s : List ℕ) → length s ≤ 2600 → length (fields_of s) ≡ 7 → hex_bytes 1275 (packet_hex s) ≡ true → well_formed s ≡ true
unfolding well_formed
well_formed_lem s h g k =
    (and-eq-true_iff (leb (length s) 2600) (eqb (length (fields_of s)) 7 && hex_bytes 1275 (packet_hex s))).1
    (le-leb (length s) 2600 h, (and-eq-true_iff (eqb (length (fields_of s)) 7) (hex_bytes 1275 (packet_hex s))).1 (eq-eqb (length (fields_of s)) 7 g, k))

module _ (s out : List ℕ) where
  -- the packet of a line that is too long
  pub packet-long : 2600 < length s → PacketAnswer s out None out
  packet-long h = malformed-answer s out (long-malformed s h)

  -- the packet of a line with another count of fields
  pub packet-fields : {n : ℕ} → n ≡ length (fields_of s) → (n ≡ 7 → ⊥) → PacketAnswer s out None out
  packet-fields e h = malformed-answer s out (fields-malformed s (λ z. h (e ∙ z)))

  module _ (size : length out ≡ 1275) where
    -- a packet whose bytes were read into the buffer
    pub packet_good : {n : ℕ} {b : Bool} {f last : List ℕ} {k : ℕ} → length s ≤ 2600 → n ≡ length (fields_of s) → n ≡ 7 → f ≡ packet_hex s
        → (b ≡ hex_bytes (length out) f) × (last ≡ bytes_into f out) → b ≡ true → k ≡ length (packet_hex s) → PacketAnswer s out (Some (k / 2)) last
    unfolding bytes_into
    packet_good h e g p q t k =
        let w : hex_bytes (length out) (packet_hex s) ≡ true = ap (hex_bytes (length out)) (sym p) ∙ sym q.0 ∙ t in
        let x : hex_bytes 1275 (packet_hex s) ≡ true = rw size at w in
        rw (well_formed_lem s h (sym e ∙ g) x) (ap (λ (m : ℕ). Some (m / 2)) k, q.1 ∙ ap (λ (l : List ℕ). bytes_into l out) p ∙ rw w)

    -- a packet that is not bytes in hex
    pub packet_bad : {b : Bool} {f last : List ℕ} → f ≡ packet_hex s → (b ≡ hex_bytes (length out) f) × (last ≡ bytes_into f out) → b ≡ false
        → PacketAnswer s out None last
    unfolding bytes_into
    packet_bad p q t =
        let w : hex_bytes (length out) (packet_hex s) ≡ false = ap (hex_bytes (length out)) (sym p) ∙ sym q.0 ∙ t in
        let x : hex_bytes 1275 (packet_hex s) ≡ false = rw size at w in
        rw (hex-malformed s x) (refl, q.1 ∙ ap (λ (l : List ℕ). bytes_into l out) p ∙ rw w)
