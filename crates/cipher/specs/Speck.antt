-- Speck64/128, encryption. Words have 32 bits, and sums drop the carry. Assumes nothing.
use Rattle.std.specs.Prelude.{ℕ, zero, suc, ◌+◌, ◌-◌, ◌*◌, ◌/◌, ◌%◌, ◌^◌, Bool, List, [], ◌∷◌, ◌++◌, ◌==◌, bit_or, bit_xor, slice_index}

-- the key lengths that are taken, in bytes
abbrev pub speck_takes : ℕ → Bool
speck_takes n = n == 16

-- a word rotated right and left by r bits
abbrev pub ror : ℕ → ℕ → ℕ
ror r w = bit_or (w / 2 ^ r) ((w * 2 ^ (32 - r)) % 2 ^ 32)

abbrev pub rol : ℕ → ℕ → ℕ
rol r w = bit_or ((w * 2 ^ r) % 2 ^ 32) (w / 2 ^ (32 - r))

-- a round under k takes x to `mixed x y k`, and then y to `turned y` of that
abbrev pub mixed : ℕ → ℕ → ℕ → ℕ
mixed x y k = bit_xor ((ror 8 x + y) % 2 ^ 32) k

abbrev pub turned : ℕ → ℕ → ℕ
turned y x = bit_xor (rol 3 y) x

-- the word whose lowest byte stands at i, and a word's bytes, lowest first
abbrev pub word : List ℕ → ℕ → ℕ
word s i = slice_index s i + slice_index s (i + 1) * 256 + slice_index s (i + 2) * 65536 + slice_index s (i + 3) * 16777216

abbrev pub word_bytes : ℕ → List ℕ
word_bytes w = w % 256 ∷ w / 256 % 256 ∷ w / 65536 % 256 ∷ w / 16777216 % 256 ∷ []

-- the n round keys from k, the i-th, on: each gives the next by a round, under i, on the word a, and b and c are the words after a
unfoldable pub keys_from : ℕ → ℕ → ℕ → ℕ → ℕ → ℕ → List ℕ
keys_from zero i k a b c = []
keys_from (suc n) i k a b c = k ∷ keys_from n (i + 1) (turned k (mixed a k i)) b c (mixed a k i)

-- the 27 round keys of a key
abbrev pub speck_keys : List ℕ → List ℕ
speck_keys key = keys_from 27 0 (word key 0) (word key 4) (word key 8) (word key 12)

-- the rounds under these keys, and then the block, y before x
unfoldable pub rounds : List ℕ → ℕ → ℕ → List ℕ
rounds [] x y = word_bytes y ++ word_bytes x
rounds (k ∷ ks) x y = rounds ks (mixed x y k) (turned y (mixed x y k))

-- a block under a key
abbrev pub speck : List ℕ → List ℕ → List ℕ
speck key s = rounds (speck_keys key) (word s 4) (word s 0)
