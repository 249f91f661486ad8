-- The round keys of AES are bytes. Assumes nothing.
use Rattle.std.proofs.Common.{ℕ, zero, suc, ◌+◌, ◌*◌, ◌/◌, ◌%◌, ◌<◌, ◌&&◌, eqb, ltb, List, length, lit<}
use lib.Bits.{xor_lt}
use Rattle.std.specs.List.{AllByRecursion}
use Rattle.std.proofs.ByRecursion.{All-push}
use Rattle.std.proofs.lemmas.Bool.{cond_both}
use Rattle.arith.specs.Rows.{Bytes}
use Rattle.cipher.specs.Schedule.{rcon, key_byte, expanded, aes_rounds, round_keys}
use Rattle.arith.proofs.Rows.{bytes_under}
use Rattle.cipher.specs.Doubling.{xtime_is_byte}
use Rattle.cipher.specs.SboxApart.{sub_is_byte}

abbrev Byte : ℕ → Type 0
Byte b = b < 256

rcon_is_byte : (n : ℕ) → Byte (rcon n)
unfolding rcon
rcon_is_byte zero = lit< tt
rcon_is_byte (suc n) = xtime_is_byte (rcon n) (rcon_is_byte n)

key_byte_is_byte : (nk : ℕ) (key w : List ℕ) (j : ℕ) → Bytes key → Bytes w → Byte (key_byte nk key w j)
key_byte_is_byte nk key w j hk hw =
    cond_both (ltb j (4 * nk)) _ _ Byte (λ t. hk j)
    (λ t. xor_lt 8 _ _ (hw _)
    (cond_both (eqb (j / 4 % nk) 0) _ _ Byte
    (λ t. xor_lt 8 _ _ (sub_is_byte _ (hw _)) (cond_both (eqb (j % 4) 0) _ _ Byte (λ t. rcon_is_byte _) (λ t. lit< tt)))
    (λ t. cond_both (ltb 6 nk && eqb (j / 4 % nk) 4) _ _ Byte (λ t. sub_is_byte _ (hw _)) (λ t. hw _))))

expanded_bytes : (nk : ℕ) (key : List ℕ) → Bytes key → (n : ℕ) → AllByRecursion Byte (expanded nk key n)
unfolding expanded
expanded_bytes nk key h zero = tt
expanded_bytes nk key h (suc n) =
    let w = expanded_bytes nk key h n in
    All-push Byte (expanded nk key n) _ w (key_byte_is_byte nk key _ n h (bytes_under _ w))

pub round_keys_bytes : (key : List ℕ) → Bytes key → Bytes (round_keys key)
round_keys_bytes key h = bytes_under _ (expanded_bytes (length key / 4) key h (16 * aes_rounds (length key) + 16))
