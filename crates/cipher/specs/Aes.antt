-- AES, encryption (FIPS 197). Assumes nothing.
use Rattle.std.specs.Prelude.{ℕ, zero, suc, ◌-◌, Bool, ◌||◌, List, length, ◌==◌}
use Rattle.cipher.specs.Steps.{sub_bytes, shift_rows, mix_columns, add_round_key}
use Rattle.cipher.specs.Schedule.{aes_rounds, round_keys}

-- the key lengths that are taken, in bytes
abbrev pub aes_takes : ℕ → Bool
aes_takes n = n == 16 || n == 32

-- a round, and the last one, which mixes no columns
abbrev pub middle_round : List ℕ → ℕ → List ℕ → List ℕ
middle_round w r s = add_round_key w r (mix_columns (shift_rows (sub_bytes s)))

abbrev pub last_round : List ℕ → ℕ → List ℕ → List ℕ
last_round w r s = add_round_key w r (shift_rows (sub_bytes s))

-- the state after the first n rounds, of the round keys w
unfoldable pub after : ℕ → List ℕ → List ℕ → List ℕ
after zero w s = add_round_key w 0 s
after (suc n) w s = middle_round w (suc n) (after n w s)

-- nr rounds of the round keys w
abbrev pub aes_by : ℕ → List ℕ → List ℕ → List ℕ
aes_by nr w s = last_round w nr (after (nr - 1) w s)

-- a block under a key
abbrev pub aes : List ℕ → List ℕ → List ℕ
aes key s = aes_by (aes_rounds (length key)) (round_keys key) s
