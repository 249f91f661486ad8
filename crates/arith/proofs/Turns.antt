-- A turn of the loop that multiplies: the lowest bit of b adds a to the sum, or nothing; then a is doubled, and b halved.
use Rattle.std.proofs.Common.{◌≡◌, ℕ, suc, ◌+◌, ◌-◌, ◌/◌, ◌%◌, ◌<◌, ◌≤◌, ap, sym, ◌∙◌, arith}
use lib.Bits.{bit_xor, xor_assoc, xor_zero_r}
use Rattle.arith.specs.Field.{pick, doubled, product_low}

pub turn : (n c i s a b s' a' b' p : ℕ) → i < n → s' ≡ bit_xor s (pick 0 (b % 2) a) → a' ≡ doubled n c a → b' ≡ b / 2
    → bit_xor s (product_low n c (n - i) a b) ≡ p → bit_xor s' (product_low n c (n - (i + 1)) a' b') ≡ p
unfolding product_low
turn n c i s a b s' a' b' p h es ea eb inv =
    let step : suc (n - (i + 1)) ≡ n - i = omega arith in
    rw (es, ea, eb, xor_assoc) (ap (λ k. bit_xor s (product_low n c k a b)) step ∙ inv)

pub turns_all : (n c i s a b p : ℕ) → n ≤ i → bit_xor s (product_low n c (n - i) a b) ≡ p → s ≡ p
unfolding product_low
turns_all n c i s a b p h inv =
    let none : 0 ≡ n - i = omega arith in
    sym (xor_zero_r s) ∙ ap (λ k. bit_xor s (product_low n c k a b)) none ∙ inv
