-- The split of one band's bits between fine energy and pulses. The band has n coefficients (N), den degrees of freedom over all channels (den), and
-- lg is the logarithm of n in eighths; den · lg is NClogN. The RFC's offset, den · lg / 2 - 21 · den (21 is FINE_OFFSET), can be negative: 21 · den
-- stands on the other side throughout, and Signed states that the result is the same.
use Rattle.std.specs.Prelude.{ℕ, ◌+◌, ◌-◌, ◌*◌, ◌/◌, min, cond, leb, ltb, eqb}
use Rattle.rate_spec.specs.Types.{Band}

module _ (n den lg : ℕ) where
  -- b bits + offset + 21 · den, with a correction for two coefficients, and one for less than 2 or 3 bits for each degree of freedom (offset)
  unfoldable pub with_offset : ℕ → ℕ
  with_offset b =
      let x = b + den * lg / 2 + cond (eqb n 2) (2 * den) 0 in
      x + cond (ltb x (37 * den)) (den * lg / 4) (cond (ltb x (45 * den)) (den * lg / 8) 0)

  -- the fine bits of a channel, rounded: (b + offset + 4 · den) / (8 · den)
  unfoldable pub wanted : ℕ → ℕ
  wanted b = (with_offset b - 17 * den) / den / 8

module _ (C : ℕ) where
  -- how many further fine bits the excess over the cap (excess) pays for, up to 8 in all (extra_fine; 8 is MAX_FINE_BITS)
  unfoldable pub extra : ℕ → ℕ → ℕ
  extra fine excess = min (excess / (8 * C)) (8 - fine)

  -- a band with its excess over the cap spent on further fine bits (extra_bits), and the rest handed on. `balance` is what the band below handed on
  unfoldable pub spill : ℕ → ℕ → ℕ → ℕ → ℕ → Band
  spill pulses fine prio excess balance =
      cond (eqb excess 0) (record { pulses = pulses; fine = fine; prio = prio; balance = 0 })
      (record {
        pulses = pulses;
        fine = fine + extra fine excess;
        prio = cond (leb excess (8 * C * extra fine excess + balance)) 1 0;
        balance = excess - 8 * C * extra fine excess;
      })

module _ (C n den lg : ℕ) where
  -- the fine bits of b bits (ebits): at most what they pay for, and at most 8
  unfoldable pub fine_of : ℕ → ℕ
  fine_of b = let e = wanted n den lg b in min 8 (cond (ltb (b / 8) (C * e)) (b / (8 * C)) e)

  -- 1 where the fine bits were rounded up: the band comes last when bits are left over (fine_priority)
  unfoldable pub prio_of : ℕ → ℕ
  prio_of b = cond (leb (with_offset n den lg b) (8 * den * fine_of b + 21 * den)) 1 0

  -- x bits (bit), of which `balance` came from the band below; a band of one coefficient takes no more than a sign for each channel
  unfoldable pub split_of : ℕ → ℕ → ℕ → Band
  split_of cap x balance =
      let b = min x cap in
      cond (ltb 1 n) (spill C (b - 8 * C * fine_of b) (fine_of b) (prio_of b) (x - cap) balance) (spill C (min x (8 * C)) 0 1 (x - 8 * C) balance)
