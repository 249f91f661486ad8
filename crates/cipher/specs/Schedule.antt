-- The key expansion of FIPS 197. A key has nk words of 4 bytes, 4 or 8 words. Assumes nothing.
use Rattle.std.specs.Prelude.{◌≡◌, ℕ, zero, suc, ◌+◌, ◌-◌, ◌*◌, ◌/◌, ◌%◌, cond, ◌&&◌, List, [], ◌∷◌, ◌++◌, length, take, ◌==◌, bit_xor, nat_lt, slice_index}
use Rattle.cipher.specs.Field.{xtime}
use Rattle.cipher.specs.SubByte.{sub}

-- the round constant: {02} to the n
unfoldable pub rcon : ℕ → ℕ
rcon zero = 1
rcon (suc n) = xtime (rcon n)

-- byte r of what word i - 1 gives to word i: turned by a byte, through the S-box and with a round constant at each
-- multiple of nk; through the S-box in the middle of a key of 8 words; else as it is
abbrev pub given : ℕ → List ℕ → ℕ → ℕ → ℕ
given nk w i r =
    cond (i % nk == 0) (bit_xor (sub (slice_index w (4 * i - 4 + (r + 1) % 4))) (cond (r == 0) (rcon (i / nk - 1)) 0))
    (cond (nat_lt 6 nk && i % nk == 4) (sub (slice_index w (4 * i - 4 + r))) (slice_index w (4 * i - 4 + r)))

-- byte j of the round keys, from those before it: the key's, and then byte r of word i, where j = 4 i + r
abbrev pub key_byte : ℕ → List ℕ → List ℕ → ℕ → ℕ
key_byte nk key w j = cond (nat_lt j (4 * nk)) (slice_index key j) (bit_xor (slice_index w (j - 4 * nk)) (given nk w (j / 4) (j % 4)))

-- the first n bytes of the round keys
unfoldable pub expanded : ℕ → List ℕ → ℕ → List ℕ
expanded nk key zero = []
expanded nk key (suc n) = let w = expanded nk key n in w ++ key_byte nk key w n ∷ []

-- the rounds for a key of so many bytes, 10 for 16 and 14 for 32; each has a round key, and one stands before them
abbrev pub aes_rounds : ℕ → ℕ
aes_rounds n = n / 4 + 6

abbrev pub round_keys : List ℕ → List ℕ
round_keys key = expanded (length key / 4) key (16 * aes_rounds (length key) + 16)

-- w begins with the round keys of a key
abbrev pub Scheduled : List ℕ → List ℕ → Type 0
Scheduled key w = take (16 * aes_rounds (length key) + 16) w ≡ round_keys key
