-- Records of equal length, one after another. Assumes nothing.
use Rattle.std.proofs.Common.{◌≡◌, ℕ, ◌+◌, ◌*◌, ◌<◌, ◌≤◌, ◌≢◌, ◌⊎◌, inl, inr, ⊎_elim, mul-le-mul_right, add-mul, arith}
use Rattle.std.proofs.lemmas.Bool.{cases_order}

-- record i of s lies within them
pub within : (i s w len : ℕ) → i < s → s * w ≤ len → i * w + w ≤ len
within i s w len h f =
    let a : (i + 1) * w ≤ s * w = mul-le-mul_right w (omega arith) in
    let b = add-mul i 1 w in omega arith

pub apart : (i k w : ℕ) → k ≢ i → (k * w + w ≤ i * w) ⊎ (i * w + w ≤ k * w)
apart i k w ne =
    ⊎_elim
    (λ (h : k < i). inl (within k i w (i * w) h (omega arith)))
    (λ (h : i < k). inr (within i k w (k * w) h (omega arith)))
    (⊎_elim (λ (e : k ≡ i). absurd (ne e)) (λ (o : (k < i) ⊎ (i < k)). o) (cases_order k i))
