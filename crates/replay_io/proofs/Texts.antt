-- Laws of a text that grows in a buffer. Assumes nothing.
use Rattle.std.proofs.Common.{
  ◌≡◌,
  ℕ,
  ◌+◌,
  ◌/◌,
  ◌%◌,
  ◌<◌,
  ◌≤◌,
  List,
  [],
  ◌∷◌,
  ◌++◌,
  length,
  get_or,
  take,
  drop,
  sym,
  refl,
  ap,
  ◌∙◌,
  append_assoc,
  append-nil,
  arith,
  length-take,
  length-take-le,
  take_all,
  take-take,
}
use lib.Seq.{sets-eq, take-append_seam, take-append-le}
use Rattle.text.specs.Digits.{glyph_of}
use Rattle.text.specs.Written.{PlacedText}
use Rattle.laws.proofs.Tests.{by_le}
use Rattle.laws.proofs.Lists.{take_next}
use Rattle.replay_io.specs.Text.{appended, hex_bytes_of}

-- what was cut stays cut
pub cut_again : (room : ℕ) (t s : List ℕ) → appended room (take room t) s ≡ appended room t s
cut_again room t s =
    by_le (length t) room
    (λ h. ap (λ (u : List ℕ). take room (u ++ s)) (take_all room t h))
    (λ h.
    let g : room ≤ length t = omega arith in
    let e : room ≤ length (take room t) = omega (arith, length-take-le room t g) in
    take-append-le room (take room t) s e ∙ take-take room room t (omega arith) ∙ sym (take-append-le room t s g))

-- nothing of s yet
pub none : (l : List ℕ) (n : ℕ) (s : List ℕ) → take n l ≡ appended (length l) (take n l) (take 0 s)
none l n s =
    sym (ap (take (length l)) (append-nil (take n l)) ∙ take_all (length l) (take n l) (simp length-take (omega arith)))

-- a text twice joined is joined once
pub joined_twice : (room : ℕ) (t a b : List ℕ) {u v : List ℕ} → u ≡ appended room t a → v ≡ appended room u b → v ≡ appended room t (a ++ b)
joined_twice room t a b p q = rw (q, p) (cut_again room (t ++ a) b ∙ ap (take room) (append_assoc t a b))

-- a text that was placed at the start of a buffer stands there
pub placed_first : (most : ℕ) (text : List ℕ) {l last : List ℕ} {n : ℕ} → PlacedText most l 0 text n last → most ≤ length l → take n last ≡ text
placed_first most text {l} {last} {n} p h =
    let m : n ≡ length text = p.next ∙ (omega arith) in
    ap (λ (k : ℕ). take k last) m
    ∙ ap (take (length text)) (p.bytes ∙ sets-eq text l 0 (omega (arith, p.next, p.short)))
    ∙ take-append_seam text (drop (0 + length text) l)

-- ---- hex

-- the hex of two parts
pub hex_append : (s t : List ℕ) → hex_bytes_of (s ++ t) ≡ hex_bytes_of s ++ hex_bytes_of t
unfolding hex_bytes_of
hex_append [] t = refl
hex_append (b ∷ s) t = ap (λ (u : List ℕ). glyph_of (b / 16 % 16) ∷ glyph_of (b % 16) ∷ u) (hex_append s t)

-- nothing of s yet
pub hex-none : (l : List ℕ) (n : ℕ) (s : List ℕ) → take n l ≡ appended (length l) (take n l) (hex_bytes_of (take 0 s))
unfolding hex_bytes_of
hex-none l n s = none l n s

-- two figures more, in buffers of the same length
pub hex-more : (room : ℕ) (t s : List ℕ) (i : ℕ) {m n : ℕ} {u v w : List ℕ} {a b : ℕ} → i < length s → m ≡ room → n ≡ room
    → u ≡ appended room t (hex_bytes_of (take i s))
    → a ≡ glyph_of (get_or s i 0 / 16 % 16)
    → b ≡ glyph_of (get_or s i 0 % 16)
    → v ≡ appended m u (a ∷ [])
    → w ≡ appended n v (b ∷ [])
    → w ≡ appended room t (hex_bytes_of (take (i + 1) s))
unfolding hex_bytes_of
hex-more room t s i {u = u} {v = v} {a = a} {b = b} h e f p x y q r =
    rw (take_next s i 0, hex_append, ← x, ← y)
    (joined_twice room t (hex_bytes_of (take i s)) (a ∷ b ∷ []) p
    (joined_twice room u (a ∷ []) (b ∷ []) (rw e at q) (rw f at r)))
