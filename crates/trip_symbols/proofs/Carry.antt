-- The bytes that are out, the held byte and its run of 255s as one number: whatever settles, the next byte is plain addition, a carry too.
use Prim.Native.Nat.{ℕ, ◌+◌, ◌*◌, ◌/◌, ◌%◌, ◌≤◌, ◌<◌}
use mathlib.Core.Path.{◌≡◌, refl, ap, ◌∙◌}
use mathlib.Core.Bool.{cond}
use native.Mathlib.Omega.{arith}
use native.Mathlib.Numerals.{add-one}
use lib.ListN.{length, replicate, length-replicate}
use lib.Dec.{ltb, eqb}
use borrow.Author.Tests.{lt-ltb, ltb-true, ltb-false, ne_eqb, eqb-true, eqb-false}
use Rattle.laws.proofs.Tests.{split_on, by_le, cond-le}
use Rattle.entenc_sink.specs.Carry.{settled, held_by, run_by}
use Rattle.trip_symbols.proofs.Front.{horner, ones, horner_ones, horner_carry}

-- a is the number of the bytes that are out; the held byte 256 is none
unfoldable pub so_far : ℕ → ℕ → ℕ → ℕ
so_far a rem ext = ones (cond (ltb rem 256) (a * 256 + rem) a) ext

-- how many bytes wait
unfoldable pub held_count : ℕ → ℕ → ℕ
held_count rem ext = cond (ltb rem 256) 1 0 + ext

-- val + rng is at most this: no carry comes where there is no byte to take it
unfoldable pub limit : ℕ → ℕ
limit rem = cond (ltb rem 255) 4294967295 2147483648

-- c comes next: what settles, what is held then, and the run
pub record Settles (a rem ext c : ℕ) : Type 0 where
  pub number : so_far (horner a (settled rem ext c)) (held_by rem c) (run_by ext c) ≡ so_far a rem ext * 256 + c
  pub count : length (settled rem ext c) + held_count (held_by rem c) (run_by ext c) ≡ held_count rem ext + 1

-- c is 255: the run is one longer
settles_run : (a rem ext c : ℕ) → c ≡ 255 → Settles a rem ext c
unfolding so_far held_count horner ones
settles_run a rem ext c h = rw h (record { number = rw add-one; count = omega arith })

-- c is below 255: what is held settles as it is
settles_low : (a rem ext c : ℕ) → c < 255 → Settles a rem ext c
unfolding so_far held_count horner ones
settles_low a rem ext c h =
    let z : c / 256 ≡ 0 = omega arith in
    let e : (255 + 0) % 256 ≡ 255 = omega arith in
    let f : c % 256 ≡ c = omega arith in
    split_on (ltb rem 256)
    (λ t.
    let r = ltb-true rem 256 t in
    let g : (rem + 0) % 256 ≡ rem = omega arith in
    record {
      number = simp (ne_eqb c 255 (λ z. omega arith), t, z, f, g, lt-ltb c 256 (omega arith)) (omega (arith, horner_ones ext (a * 256 + rem)));
      count = simp (ne_eqb c 255 (λ z. omega arith), t, z, f, lt-ltb c 256 (omega arith)) (omega (arith, length-replicate {A = ℕ} ext 255));
    })
    (λ t.
    record {
      number = simp (ne_eqb c 255 (λ z. omega arith), t, z, f, lt-ltb c 256 (omega arith)) (omega (arith, horner_ones ext a));
      count = simp (ne_eqb c 255 (λ z. omega arith), t, z, f, lt-ltb c 256 (omega arith)) (omega (arith, length-replicate {A = ℕ} ext 255));
    })

-- c has a carry: the held byte takes it, and the run becomes zeros
settles_carry : (a rem ext c : ℕ) → 256 ≤ c → c < 512 → rem < 255 → Settles a rem ext c
unfolding so_far held_count horner ones
settles_carry a rem ext c l h r =
    let z : c / 256 ≡ 1 = omega arith in
    let g : (rem + 1) % 256 ≡ rem + 1 = omega arith in
    let q : a * 256 + (rem + 1) ≡ a * 256 + rem + 1 = omega arith in
    record {
      number =
          simp (ne_eqb c 255 (λ z. omega arith), lt-ltb rem 256 (omega arith), z, g, lt-ltb (c % 256) 256 (omega arith))
          (omega (arith, ap (λ (x : ℕ). horner x (replicate ext 0)) q ∙ horner_carry ext (a * 256 + rem)));
      count = simp (ne_eqb c 255 (λ z. omega arith), lt-ltb rem 256 (omega arith), z, lt-ltb (c % 256) 256 (omega arith))
          (omega (arith, length-replicate {A = ℕ} ext 0));
    }

-- by whether c is 255, below it, or has a carry
pub settles : (a rem ext c : ℕ) → c < 512 → (256 ≤ c → rem < 255) → Settles a rem ext c
settles a rem ext c h k =
    by_le 255 c
    (λ u. by_le 256 c (λ l. settles_carry a rem ext c l h (k l)) (λ l. settles_run a rem ext c (omega arith)))
    (λ u. settles_low a rem ext c u)

-- it fits in 32 bits
pub limit_most : (rem : ℕ) → limit rem ≤ 4294967295
unfolding limit
limit_most rem = cond-le (ltb rem 255) (λ t. omega arith) (λ t. omega arith)

-- a carry finds a byte that takes it
pub limit_carry : (rem val rng : ℕ) → val + rng ≤ limit rem → 0 < rng → 256 ≤ val / 8388608 → rem < 255
unfolding limit
limit_carry rem val rng h p c =
    split_on (ltb rem 255)
    (λ t. ltb-true rem 255 t)
    (λ t. let k : val + rng ≤ 2147483648 = simp t at h in absurd (omega arith))

-- ---- a step keeps the bound: where 255 came, and where another byte did

-- 255 came
limit_run : (rem val rng : ℕ) → val + rng ≤ limit rem → rng ≤ 8388608 → val / 8388608 ≡ 255 → val % 8388608 * 256 + rng * 256 ≤ limit rem
unfolding limit
limit_run rem val rng h q e =
    split_on (ltb rem 255) (λ t. simp t (omega arith)) (λ t. let k : val + rng ≤ 2147483648 = simp t at h in simp t (omega arith))

-- another byte did
limit_next : (c val rng : ℕ) → (c ≡ 255 → ⊥) → val + rng ≤ 4294967295 → rng ≤ 8388608 → val / 8388608 ≡ c
    → val % 8388608 * 256 + rng * 256 ≤ limit (c % 256)
unfolding limit
limit_next c val rng n k q e =
    split_on (ltb (c % 256) 255)
    (λ u. simp u (omega arith))
    (λ u. let m = ltb-false (c % 256) 255 u in by_le 256 c (λ l. simp u (omega arith)) (λ l. absurd (n (omega arith))))

-- by whether 255 came
pub limit_shift : (rem val rng : ℕ) → val + rng ≤ limit rem → rng ≤ 8388608 → val % 8388608 * 256 + rng * 256 ≤ limit (held_by rem (val / 8388608))
limit_shift rem val rng h q =
    split_on (eqb (val / 8388608) 255)
    (λ e. simp e (limit_run rem val rng h q (eqb-true (val / 8388608) 255 e)))
    (λ e. simp e (limit_next (val / 8388608) val rng (eqb-false (val / 8388608) 255 e) (omega (arith, limit_most rem)) q refl))
