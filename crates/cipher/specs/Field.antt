-- The byte field of FIPS 197: a byte's bits are the coefficients of a polynomial, taken modulo x^8 + x^4 + x^3 + x + 1. Assumes nothing.
use Rattle.std.specs.Prelude.{ℕ, zero, suc, ◌*◌, ◌/◌, ◌%◌, true, false, ◌==◌, bit_xor}

-- a byte times {02}
abbrev pub xtime : ℕ → ℕ
xtime b = bit_xor (b * 2) (b / 128 % 2 * 0x11b)

-- a times the lowest n bits of b, and a times a byte
abbrev pub times_low : ℕ → ℕ → ℕ → ℕ
times_low zero a b = 0
times_low (suc n) a b = bit_xor (b % 2 * a) (times_low n (xtime a) (b / 2))

unfoldable pub times : ℕ → ℕ → ℕ
times a b = times_low 8 a b

-- the number below n whose product with b is 1, and 0 where there is none; and the inverse of a byte
abbrev pub inverse_below : ℕ → ℕ → ℕ
inverse_below zero b = 0
inverse_below (suc n) b = elim (times_low 8 b n == 1) [ true ↦ n | false ↦ inverse_below n b ]

unfoldable pub inverse : ℕ → ℕ
inverse b = inverse_below 256 b
