-- Rows of bytes within an area. Assumes nothing.
use Rattle.std.specs.Prelude.{ℕ, ◌+◌, Bool, List, ◌++◌, length, take, drop, nat_le}

-- whether n bytes from the byte `at` on lie in an area of so many bytes
abbrev pub lies_in : ℕ → ℕ → ℕ → Bool
lies_in at n len = nat_le (at + n) len

-- the area with the bytes bs from the byte `at` on
abbrev pub written : ℕ → List ℕ → List ℕ → List ℕ
written at bs area = take at area ++ (bs ++ drop (at + length bs) area)

-- the n bytes of the area from the byte `at` on
abbrev pub row_at : ℕ → ℕ → List ℕ → List ℕ
row_at n at area = take n (drop at area)
