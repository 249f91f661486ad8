-- The mixing of a column by a map f that is linear in XOR: equal mixed columns are of equal columns. Assumes nothing.
use Rattle.std.proofs.Common.{◌≡◌, ℕ, sym, ap, ◌∙◌, ap₂}
use lib.Bits.{bit_xor, xor_comm, xor_self}
use Rattle.cipher.specs.Xor.{xors, xor_same}

module _ (f : ℕ → ℕ) (lin : (a b : ℕ) → f (bit_xor a b) ≡ bit_xor (f a) (f b)) where
  abbrev mix : ℕ → ℕ → ℕ → ℕ → ℕ
  mix a b c d = bit_xor (bit_xor (bit_xor (bit_xor (f a) (f b)) b) c) d

  apart : (a b c d p q r s : ℕ) → mix a b c d ≡ mix p q r s → mix (bit_xor a p) (bit_xor b q) (bit_xor c r) (bit_xor d s) ≡ 0
  apart a b c d p q r s h = simp (lin, xors) (simp xors at (ap (λ x. bit_xor x (mix p q r s)) h))

  -- a column that is mixed to zeros: its sum is 0, so a = f a + f b, and so on round; hence a = c and b = d, then a = b, and a = f a + f a
  zeros : (a b c d : ℕ) → mix a b c d ≡ 0 → mix b c d a ≡ 0 → mix c d a b ≡ 0 → mix d a b c ≡ 0 → (a ≡ 0) × (b ≡ 0) × (c ≡ 0) × (d ≡ 0)
  zeros a b c d h i j k =
      let all : bit_xor (bit_xor (mix a b c d) (mix b c d a)) (bit_xor (mix c d a b) (mix d a b c)) ≡ 0 = rw (h, i, j, k) in
      let t : bit_xor (bit_xor a b) (bit_xor c d) ≡ 0 = simp xors (simp xors at all) in
      let u : bit_xor (bit_xor (f a) (f b)) (bit_xor (f c) (f d)) ≡ 0 = simp lin at (ap f t) ∙ lin 0 0 ∙ xor_self (f 0) in
      let a-is : a ≡ bit_xor (f a) (f b) = xor_same _ _ (simp xors at (ap₂ bit_xor h t)) in
      let b-is : b ≡ bit_xor (f b) (f c) = xor_same _ _ (simp xors at (ap₂ bit_xor i t)) in
      let c-is : c ≡ bit_xor (f c) (f d) = xor_same _ _ (simp xors at (ap₂ bit_xor j t)) in
      let d-is : d ≡ bit_xor (f d) (f a) = xor_same _ _ (simp xors (simp xors at (ap₂ bit_xor k t))) in
      let ac : a ≡ c = a-is ∙ xor_same _ _ u ∙ sym c-is in
      let ab : a ≡ b = cc (xor_comm (f a) (f b)) in
      let a0 : a ≡ 0 = cc (xor_self (f a)) in
      (a0, cc, cc, cc)

  pub column_back : (a b c d p q r s : ℕ) → mix a b c d ≡ mix p q r s → mix b c d a ≡ mix q r s p → mix c d a b ≡ mix r s p q → mix d a b c ≡ mix s p q r
      → (a ≡ p) × (b ≡ q) × (c ≡ r) × (d ≡ s)
  column_back a b c d p q r s h i j k =
      let z = zeros _ _ _ _ (apart a b c d p q r s h) (apart b c d a q r s p i) (apart c d a b r s p q j) (apart d a b c s p q r k) in
      (xor_same a p z.0, xor_same b q z.1, xor_same c r z.2, xor_same d s z.3)
