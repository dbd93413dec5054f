-- When two figures make a Laplace model, RFC 6716, section 4.3.2.1. The 32,768 places are dealt out to the whole numbers: zero has the first
-- fs; then come 1, 2, 3 .., each with f + 1 places for its negative and as many for its positive, where f falls from one to the next.
-- Once f is 0 each value has one place, up to the last.
use Rattle.std.specs.Prelude.{ℕ, zero, suc, ◌+◌, ◌-◌, ◌*◌, ◌/◌, Bool, cond, ◌&&◌, leb, ltb, eqb}

-- the f of 1 (ec_laplace_get_freq1): 32 places are kept back, two for each of 16 values
abbrev pub freq1 : ℕ → ℕ → ℕ
freq1 fs dec = (32736 - fs) * (16384 - dec) / 32768

-- where the places of the next value begin
abbrev pub next_start : ℕ → ℕ → ℕ
next_start fl f = fl + 2 * f + 2

-- the f of the next value
abbrev pub lowered : ℕ → ℕ → ℕ
lowered dec f = 2 * f * dec / 32768

-- from the value whose places begin at fl, f comes to 0 within k steps, and then two places are left at least
unfoldable pub runs_out : ℕ → ℕ → ℕ → ℕ → Bool
runs_out zero dec fl f = eqb f 0 && leb fl 32766
runs_out (suc k) dec fl f = cond (ltb 0 f) (runs_out k dec (next_start fl f) (lowered dec f)) (leb fl 32766)

-- fs places for zero and the decay dec
unfoldable pub legal : ℕ → ℕ → Bool
legal fs dec = ltb 0 fs && leb fs 32736 && leb dec 16384 && runs_out 32 dec fs (freq1 fs dec)
