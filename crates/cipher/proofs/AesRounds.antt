-- AES: a step of each recursion, and what the rounds read of the round keys
use Rattle.std.proofs.Common.{◌≡◌, ℕ, zero, suc, ◌+◌, ◌-◌, ◌*◌, ◌/◌, ◌%◌, ◌<◌, List, [], ◌∷◌, ◌++◌, length, get_or, take, drop, sym, ap, ◌∙◌, ⊎_elim, add-one, zero-add, arith}
use lib.Bits.{bit_xor}
use Rattle.std.proofs.lemmas.List.{get_or-take, get_or-drop}
use Rattle.std.specs.Simd.{first_chunks}
use Rattle.std.proofs.lemmas.Bool.{cases_lt, lt-ltb}
use Rattle.cipher.specs.Field.{xtime}
use Rattle.cipher.specs.Steps.{keyed_at, add_round_key}
use Rattle.cipher.specs.Schedule.{rcon, key_byte, expanded, aes_rounds, round_keys, Scheduled}
use Rattle.cipher.specs.Aes.{middle_round, after, aes_by, aes}
use Rattle.arith.proofs.Places.{by_place_same}
use Rattle.cipher.proofs.Places.{chunk}

pub after_more : (n : ℕ) (w s : List ℕ) → after (n + 1) w s ≡ middle_round w (n + 1) (after n w s)
unfolding after
after_more n w s = rw add-one

pub rcon_more : (n : ℕ) → rcon (n + 1) ≡ xtime (rcon n)
unfolding rcon
rcon_more n = rw add-one

pub expanded_more : (nk : ℕ) (key : List ℕ) (n : ℕ) → expanded nk key (n + 1) ≡ expanded nk key n ++ key_byte nk key (expanded nk key n) n ∷ []
unfolding expanded
expanded_more nk key n = rw (add-one n)

-- a byte of the round keys reads only those before it
pub key_byte_take : (nk : ℕ) (key w : List ℕ) (j : ℕ) → 0 < nk → key_byte nk key (take j w) j ≡ key_byte nk key w j
key_byte_take nk key w j h =
    ⊎_elim (λ l. rw (lt-ltb j (4 * nk) l))
    (λ l.
    let a = get_or-take j w (j - 4 * nk) 0 (omega arith) in
    let b = get_or-take j w (4 * (j / 4) - 4 + (j % 4 + 1) % 4) 0 (omega arith) in
    let d = get_or-take j w (4 * (j / 4) - 4 + j % 4) 0 (omega arith) in
    rw (a, b, d))
    (cases_lt j (4 * nk))

-- rounds of round keys that agree as far as the rounds read
module _ (w v s : List ℕ) where
  add_same : (r : ℕ) (t : List ℕ) → ((i : ℕ) → i < 16 * r + 16 → get_or w i 0 ≡ get_or v i 0) → add_round_key w r t ≡ add_round_key v r t
  unfolding add_round_key
  add_same r t h = by_place_same 16 (keyed_at w r t) (keyed_at v r t) (λ k l. rw (h (16 * r + k) (omega arith)))

  after_same : (n : ℕ) → ((i : ℕ) → i < 16 * n + 16 → get_or w i 0 ≡ get_or v i 0) → after n w s ≡ after n v s
  unfolding after
  after_same zero h = add_same 0 s h
  after_same (suc n) h = rw (after_same n (λ i l. h i (omega arith))) (add_same (suc n) _ h)

  by_same : (nr : ℕ) → 0 < nr → ((i : ℕ) → i < 16 * nr + 16 → get_or w i 0 ≡ get_or v i 0) → aes_by nr w s ≡ aes_by nr v s
  by_same nr p h = rw (after_same (nr - 1) (λ i l. h i (omega arith))) (add_same nr _ h)

-- a schedule gives what its key gives
pub aes_scheduled : (key w s : List ℕ) → Scheduled key w → aes_by (aes_rounds (length key)) w s ≡ aes key s
aes_scheduled key w s h =
    by_same w (round_keys key) s (aes_rounds (length key)) (omega arith)
    (λ i l. sym (get_or-take (16 * aes_rounds (length key) + 16) w i 0 l) ∙ ap (λ v. get_or v i 0) h)

-- the round key r of round keys that are cut into chunks
pub round_key : (w s : List ℕ) (keys : List (List ℕ)) (m r : ℕ) → keys ≡ first_chunks 16 m w → r < m → add_round_key (get_or keys r []) 0 s ≡ add_round_key w r s
unfolding add_round_key
round_key w s keys m r e h =
    let c : get_or keys r [] ≡ take 16 (drop (16 * r) w) = rw e (chunk 16 m w r h) in
    let K = take 16 (drop (16 * r) w) in
    rw c (by_place_same 16 (keyed_at K 0 s) (keyed_at w r s)
    (λ k l. ap (bit_xor (get_or s k 0)) (ap (λ i. get_or K i 0) (zero-add k) ∙ get_or-take 16 (drop (16 * r) w) k 0 l ∙ get_or-drop (16 * r) w k 0)))
