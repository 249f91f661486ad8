-- Rows of bytes, and the numbers that they write, the highest byte first. Assumes nothing.
use Rattle.std.specs.Prelude.{◌≡◌, ℕ, zero, suc, ◌*◌, ◌/◌, ◌%◌, ◌^◌, ◌<◌, Bool, true, ◌&&◌, List, [], ◌∷◌, map, length, ◌==◌, bit_xor, slice_index}
use Rattle.std.specs.List.{range_with_len}
use Rattle.std.specs.Int.Digits.{number_from_digits}

-- numbers that are bytes, and a row of n of them
abbrev pub Bytes : List ℕ → Type 0
Bytes s = (i : ℕ) → slice_index s i < 256

abbrev pub Row : ℕ → List ℕ → Type 0
Row n s = (length s ≡ n) × Bytes s

-- the n lowest bytes of x
unfoldable pub bytes_of : ℕ → ℕ → List ℕ
bytes_of zero x = []
bytes_of (suc n) x = x / 2 ^ (8 * n) % 256 ∷ bytes_of n x

-- the number of n bits that a row writes
abbrev pub value : ℕ → List ℕ → ℕ
value n s = number_from_digits 256 s % 2 ^ n

-- n numbers, each by its place
abbrev pub by_place : ℕ → (ℕ → ℕ) → List ℕ
by_place n f = map f (range_with_len 0 n)

-- the first n bytes of a row, with zeros behind them where it has fewer
unfoldable pub fitted : ℕ → List ℕ → List ℕ
fitted n s = by_place n (λ i. slice_index s i)

-- the sum of two rows: byte by byte, as far as the second row goes
abbrev pub xor_rows : List ℕ → List ℕ → List ℕ
xor_rows [] ys = []
xor_rows (x ∷ xs) [] = x ∷ xs
xor_rows (x ∷ xs) (y ∷ ys) = bit_xor x y ∷ xor_rows xs ys

-- whether every byte is zero
abbrev pub zeros : List ℕ → Bool
zeros [] = true
zeros (x ∷ xs) = x == 0 && zeros xs

-- no two rows of n bytes are taken to one
abbrev pub OneToOne : ℕ → (List ℕ → List ℕ) → Type 0
OneToOne n f = (a b : List ℕ) → Row n a → Row n b → f a ≡ f b → a ≡ b
