-- How many bits a coder has used: whole bits, and eighths. RFC 6716, section 4.1.6.
use Rattle.std.specs.Prelude.{ℕ, ◌+◌, ◌-◌, ◌*◌, ◌/◌, ◌^◌}
use Rattle.entcode.specs.Range.{ilog}

-- section 4.1.6.1, ec_tell: the bit count less the digits of the range, which are still undecided
abbrev pub tell_of : ℕ → ℕ → ℕ
tell_of total rng = total - ilog rng

-- section 4.1.6.2: a squaring of r, which stands for r / 2^15, in 1..2
abbrev pub squared : ℕ → ℕ
squared r = r * r / 32768

-- the next binary digit of its logarithm: whether the square is 2 or more
abbrev pub digit : ℕ → ℕ
digit r = squared r / 65536

-- the square, brought back into 1..2
abbrev pub rest : ℕ → ℕ
rest r = squared r / (1 + digit r)

-- three digits after the point, by three squarings
unfoldable pub eighths : ℕ → ℕ
eighths r = digit r * 4 + digit (rest r) * 2 + digit (rest (rest r))

-- the range's top sixteen digits
abbrev pub top : ℕ → ℕ
top rng = rng / 2 ^ (ilog rng - 16)

-- ec_tell_frac: the bit count less the logarithm of the range, both in eighths
abbrev pub tell_frac_of : ℕ → ℕ → ℕ
tell_frac_of total rng = 8 * total - (8 * ilog rng + eighths (top rng))
