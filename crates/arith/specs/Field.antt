-- Numbers below 2 ^ n as polynomials over the field of two elements: bit i of a number is the coefficient of power i.
-- The sum is `bit_xor`. Products are taken modulo x ^ n + c, where c is a polynomial of lower powers. Assumes nothing.
use Rattle.std.specs.Prelude.{◌≡◌, ℕ, zero, suc, ◌*◌, ◌/◌, ◌%◌, ◌^◌, cond, T, List, [], ◌∷◌, bit_xor, nat_lt}
use Rattle.arith.specs.Domain.{Domain}

-- a times x: a goes one place up within its n places, and where a 1 falls out, c is added
abbrev pub doubled : ℕ → ℕ → ℕ → ℕ
doubled n c a = cond (nat_lt (a * 2) (2 ^ n)) (a * 2 % 2 ^ n) (bit_xor (a * 2 % 2 ^ n) c)

-- the k lowest bits of b, the lowest first
abbrev pub digits : ℕ → ℕ → List ℕ
digits zero b = []
digits (suc k) b = b % 2 ∷ digits k (b / 2)

-- a where the bit t is 1, and z where it is 0
abbrev pub pick : {B : Type 0} → B → ℕ → B → B
pick z zero a = z
pick z (suc t) a = a

-- the sum of a doubled i times over every place i whose bit is 1
abbrev pub doublings : {B : Type 0} → B → (B → B → B) → (B → B) → List ℕ → B → B
doublings z add dbl [] a = z
doublings z add dbl (t ∷ ts) a = add (pick z t a) (doublings z add dbl ts (dbl a))

-- a times the k lowest bits of b: the sum of a doubled i times over every power i below k whose bit in b is 1
unfoldable pub product_low : ℕ → ℕ → ℕ → ℕ → ℕ → ℕ
product_low n c k a b = doublings 0 bit_xor (doubled n c) (digits k b) a

-- the product a × b of numbers of n bits
abbrev pub product : ℕ → ℕ → ℕ → ℕ → ℕ
product n c a b = product_low n c n a b

-- the numbers of n bits
abbrev pub Elem : ℕ → Type 0
Elem n = (x : ℕ) × T (nat_lt x (2 ^ n))

-- With that sum and that product they keep the laws of `Domain`; 0 and 1 are the numbers 0 and 1.
pub record Field (n c : ℕ) : Type 0 where
  pub domain : Domain (Elem n)
  pub zero_is : domain.zero.0 ≡ 0
  pub one_is : domain.one.0 ≡ 1
  pub add_is : (a b : Elem n) → (domain.add a b).0 ≡ bit_xor a.0 b.0
  pub mul_is : (a b : Elem n) → (domain.mul a b).0 ≡ product n c a.0 b.0
