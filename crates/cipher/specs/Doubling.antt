-- Doubling in the byte field: it keeps bytes, and is linear in XOR. Assumes nothing.
use Rattle.std.proofs.Common.{◌≡◌, ℕ, zero, suc, ◌*◌, ◌/◌, ◌%◌, ◌<◌, sym, refl, ap, ◌∙◌, add-zero, arith}
use lib.Bits.{bit_xor, xor_block, xor_shr, xor_mod}
use Rattle.cipher.specs.Field.{xtime}
use Rattle.cipher.specs.Every.{under_below}
use Rattle.cipher.specs.Xor.{xors}

pub xtime_is_byte : (b : ℕ) → b < 256 → xtime b < 256
xtime_is_byte = under_below xtime 256 256 refl

digit : (u v : ℕ) → u < 2 → v < 2 → bit_xor u v * 0x11b ≡ bit_xor (u * 0x11b) (v * 0x11b)
digit zero v h g = refl
digit (suc zero) zero h g = refl
digit (suc zero) (suc zero) h g = refl
digit (suc zero) (suc (suc v)) h g = absurd (omega arith)
digit (suc (suc u)) v h g = absurd (omega arith)

pub xtime_xor : (a b : ℕ) → xtime (bit_xor a b) ≡ bit_xor (xtime a) (xtime b)
xtime_xor a b =
    let d : bit_xor a b * 2 ≡ bit_xor (a * 2) (b * 2) = sym (simp add-zero at (xor_block 1 a b 0 0 (omega arith) (omega arith))) in
    let q : bit_xor a b / 128 % 2 ≡ bit_xor (a / 128 % 2) (b / 128 % 2) = ap (λ x. x % 2) (xor_shr a b 7) ∙ xor_mod (a / 128) (b / 128) 1 in
    rw (d, q, digit (a / 128 % 2) (b / 128 % 2) (omega arith) (omega arith)) (simp xors)
