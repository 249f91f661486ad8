-- XOR: sums that are sorted, and of which equal terms cancel. Assumes nothing.
use Rattle.std.proofs.Common.{◌≡◌, ℕ, sym, ap, ◌∙◌}
use lib.Bits.{bit_xor, xor_assoc, xor_comm, xor_self, xor_zero_r, xor_zero_l}

pub xor_left_comm : (a b c : ℕ) → bit_xor a (bit_xor b c) ≡ bit_xor b (bit_xor a c)
xor_left_comm a b c = sym (xor_assoc a b c) ∙ ap (λ x. bit_xor x c) (xor_comm a b) ∙ xor_assoc b a c

pub xor_twice : (a b : ℕ) → bit_xor a (bit_xor a b) ≡ b
xor_twice a b = sym (xor_assoc a a b) ∙ ap (λ x. bit_xor x b) (xor_self a)

pub ruleset xors = (xor_assoc, xor_comm, xor_left_comm, xor_self, xor_twice, xor_zero_r, xor_zero_l)

pub xor_back : (a b k : ℕ) → bit_xor a k ≡ bit_xor b k → a ≡ b
xor_back a b k e = simp xors at (ap (λ x. bit_xor x k) e)

pub xor_same : (a b : ℕ) → bit_xor a b ≡ 0 → a ≡ b
xor_same a b e = xor_back a b b (simp xors e)
