-- The rule of the S-box of FIPS 197: the inverse in the byte field, and then an affine map. Assumes nothing.
use Rattle.std.specs.Prelude.{ℕ, ◌+◌, ◌*◌, ◌/◌, ◌%◌, ◌^◌, sum_by}
use Rattle.std.specs.List.{range_with_len}
use Rattle.cipher.specs.Field.{inverse}

-- bit i of a byte, counted in a ring
abbrev pub bit : ℕ → ℕ → ℕ
bit b i = b / 2 ^ (i % 8) % 2

-- each bit with the four above it, in a ring, and the bit of {63}
abbrev pub affine : ℕ → ℕ
affine b = sum_by (λ i. (bit b i + bit b (i + 4) + bit b (i + 5) + bit b (i + 6) + bit b (i + 7) + bit 0x63 i) % 2 * 2 ^ i) (range_with_len 0 8)

-- what the S-box has for a byte: the affine map of its inverse
unfoldable pub sub : ℕ → ℕ
sub b = affine (inverse b)
