-- The four steps of a round of AES, under the names of FIPS 197. A state has 16 bytes, one column after the other. Assumes nothing.
use Rattle.std.specs.Prelude.{ℕ, ◌+◌, ◌*◌, ◌/◌, ◌%◌, List, bit_xor, slice_index}
use Rattle.arith.specs.Rows.{by_place}
use Rattle.cipher.specs.Field.{xtime}
use Rattle.cipher.specs.SubByte.{sub}

-- each byte by the S-box
abbrev pub sub_at : List ℕ → ℕ → ℕ
sub_at s i = sub (slice_index s i)

unfoldable pub sub_bytes : List ℕ → List ℕ
sub_bytes s = by_place 16 (sub_at s)

-- row r of the state moves r columns left
abbrev pub shifted_at : List ℕ → ℕ → ℕ
shifted_at s i = slice_index s ((i + 4 * (i % 4)) % 16)

unfoldable pub shift_rows : List ℕ → List ℕ
shift_rows s = by_place 16 (shifted_at s)

-- the byte j below that at i in its column, in a ring
abbrev pub in_column : List ℕ → ℕ → ℕ → ℕ
in_column s i j = slice_index s (i / 4 * 4 + (i + j) % 4)

-- {02} a + {03} b + c + d
abbrev pub mixed : ℕ → ℕ → ℕ → ℕ → ℕ
mixed a b c d = bit_xor (bit_xor (bit_xor (bit_xor (xtime a) (xtime b)) b) c) d

-- each byte and the three below it, mixed
abbrev pub mixed_at : List ℕ → ℕ → ℕ
mixed_at s i = mixed (in_column s i 0) (in_column s i 1) (in_column s i 2) (in_column s i 3)

unfoldable pub mix_columns : List ℕ → List ℕ
mix_columns s = by_place 16 (mixed_at s)

-- each byte plus that of the round key r, which stands at 16 r of the round keys w
abbrev pub keyed_at : List ℕ → ℕ → List ℕ → ℕ → ℕ
keyed_at w r s i = bit_xor (slice_index s i) (slice_index w (16 * r + i))

unfoldable pub add_round_key : List ℕ → ℕ → List ℕ → List ℕ
add_round_key w r s = by_place 16 (keyed_at w r s)
