-- What is computed of n and c to show that no product of two elements other than 0 is 0.
use Rattle.std.specs.Prelude.{ℕ, zero, suc, ◌*◌, ◌/◌, ◌%◌, ◌^◌, Bool, true, ◌&&◌, List, [], ◌∷◌, ◌++◌, map, ◌==◌, bit_xor, nat_lt}
use Rattle.arith.specs.Field.{pick, doubled, product_low, product}

-- `f` done k times
abbrev pub times : {B : Type 0} → (B → B) → ℕ → B → B
times f zero a = a
times f (suc k) a = f (times f k a)

-- the additive map that takes the i-th digit to the i-th entry
abbrev pub lin : List ℕ → ℕ → ℕ
lin [] v = 0
lin (e ∷ es) v = bit_xor (pick 0 (v % 2) e) (lin es (v / 2))

-- ---- a table for `lin` that takes a² + a to a less its lowest digit, found by elimination. The test below holds it to that.

-- for k elements from a on, each the double of the one before: a² + a in the n low digits, and a above
rows : ℕ → ℕ → ℕ → ℕ → List ℕ
rows n c zero a = []
rows n c (suc k) a = bit_xor (bit_xor (product n c a a) a) (a * 2 ^ n) ∷ rows n c k (doubled n c a)

-- the first row that has the digit d, or 0
first : ℕ → List ℕ → ℕ
first d [] = 0
first d (r ∷ rs) = pick (first d rs) (r / d % 2) r

-- p added to each row that has the digit d
clear : ℕ → ℕ → List ℕ → List ℕ
clear d p [] = []
clear d p (r ∷ rs) = bit_xor r (pick 0 (r / d % 2) p) ∷ clear d p rs

solve : ℕ → ℕ → List ℕ → List ℕ → List ℕ
solve zero d rs used = used
solve (suc k) d rs used = let p = first d rs in solve k (d * 2) (clear d p rs) (clear d p used ++ (p ∷ []))

unfoldable pub table : ℕ → ℕ → List ℕ
unfolding rows first clear solve product_low
table m c = map (λ r. r / 2 ^ suc m) (solve (suc m) 1 (rows (suc m) c m (doubled (suc m) c 1)) [])

-- ---- the test

abbrev pub finds : ℕ → ℕ → List ℕ → ℕ → ℕ → Bool
finds n c es zero a = true
finds n c es (suc k) a = lin es (bit_xor (product n c a a) a) == a && finds n c es k (doubled n c a)

-- c has n = m + 1 digits, the table finds 2, 4, .. 2 ^ m again, and n squarings take 2 back to 2
abbrev pub passes : ℕ → ℕ → Bool
passes m c =
    nat_lt c (2 ^ suc m)
    && (finds (suc m) c (table m c) m (doubled (suc m) c 1) && times (λ a. product (suc m) c a a) (suc m) (doubled (suc m) c 1) == doubled (suc m) c 1)
