-- Speck: how long its keys are; and under one key each round can be undone, and so can all of them. Assumes nothing.
use Rattle.std.proofs.Common.{◌≡◌, ℕ, zero, suc, ◌+◌, ◌*◌, ◌/◌, ◌%◌, ◌^◌, ◌<◌, ◌≤◌, true, List, [], ◌∷◌, ◌++◌, length, get_or, refl, ap, arith}
use lib.Bits.{xor_lt, or_shifted_r, or_shifted}
use Rattle.cipher.specs.Xor.{xor_back}
use Rattle.arith.proofs.Rows.{bytes_under}
use Rattle.std.proofs.lemmas.Bool.{eqb-true}
use Rattle.std.specs.List.{AllByRecursion}
use Rattle.std.proofs.lemmas.List.FromFn.{fill_by_all}
use Rattle.arith.specs.Rows.{Bytes, Row, OneToOne}
use Rattle.cipher.specs.Speck.{speck_takes, ror, rol, mixed, turned, word, word_bytes, keys_from, speck_keys, rounds, speck}

abbrev W : ℕ → Type 0
W w = w < 2 ^ 32

ror_is : (w : ℕ) → W w → ror 8 w ≡ w % 256 * 2 ^ 24 + w / 256
ror_is w h = let e : w * 2 ^ 24 % 2 ^ 32 ≡ w % 256 * 2 ^ 24 = omega arith in rw e (or_shifted_r (w % 256) 24 (w / 256) (omega arith))

rol_is : (w : ℕ) → W w → rol 3 w ≡ w % 2 ^ 29 * 2 ^ 3 + w / 2 ^ 29
rol_is w h = let e : w * 2 ^ 3 % 2 ^ 32 ≡ w % 2 ^ 29 * 2 ^ 3 = omega arith in rw e (or_shifted (w % 2 ^ 29) 3 (w / 2 ^ 29) (omega arith))

mixed_W : (x y k : ℕ) → W k → W (mixed x y k)
mixed_W x y k h = xor_lt 32 _ k (omega arith) h

turned-W : (y m : ℕ) → W y → W m → W (turned y m)
turned-W y m h g = xor_lt 32 (rol 3 y) m (omega (arith, rol_is y h)) g

add_back : (a b y : ℕ) → W a → W b → W y → (a + y) % 2 ^ 32 ≡ (b + y) % 2 ^ 32 → a ≡ b
add_back a b y ha hb hy e = omega arith

-- one round can be undone
round_back : (k x y u v : ℕ) → W x → W y → W u → W v
    → mixed x y k ≡ mixed u v k → turned y (mixed x y k) ≡ turned v (mixed u v k) → (x ≡ u) × (y ≡ v)
round_back k x y u v hx hy hu hv e f =
    let r : rol 3 y ≡ rol 3 v = xor_back _ _ _ (rw e at f) in
    let same : y ≡ v = omega (arith, rol_is y hy, rol_is v hv) in
    let s = add_back (ror 8 x) (ror 8 u) v (omega (arith, ror_is x hx)) (omega (arith, ror_is u hu)) hv (rw same at (xor_back _ _ k e)) in
    (omega (arith, ror_is x hx, ror_is u hu), same)

rounds_back : (ks : List ℕ) (x y u v : ℕ) → AllByRecursion W ks → W x → W y → W u → W v → rounds ks x y ≡ rounds ks u v → (x ≡ u) × (y ≡ v)
unfolding rounds
rounds_back [] x y u v hk hx hy hu hv e =
    (omega (arith, ap (λ s. word s 4) e), omega (arith, ap (λ s. word s 0) e))
rounds_back (k ∷ ks) x y u v hk hx hy hu hv e =
    let p = mixed_W x y k hk.0 in
    let q = mixed_W u v k hk.0 in
    let b = rounds_back ks _ _ _ _ hk.1 p (turned-W y _ hy p) q (turned-W v _ hv q) e in
    round_back k x y u v hx hy hu hv b.0 b.1

keys_W : (n i k a b c : ℕ) → i + n < 2 ^ 32 → W k → W a → W b → W c → AllByRecursion W (keys_from n i k a b c)
unfolding keys_from
keys_W zero i k a b c hi hk ha hb hc = tt
keys_W (suc n) i k a b c hi hk ha hb hc =
    let m = mixed_W a k i (omega arith) in
    (hk, keys_W n (i + 1) _ b c _ (omega arith) (turned-W k _ hk m) hb hc m)

word-W : (s : List ℕ) (i : ℕ) → Bytes s → W (word s i)
word-W s i h = omega (arith, h)

same_row : (a b : List ℕ) → Row 8 a → Row 8 b → word a 0 ≡ word b 0 → word a 4 ≡ word b 4 → a ≡ b
same_row a b ra rb p q =
    let u : (get_or a 0 0 ≡ get_or b 0 0) × (get_or a 1 0 ≡ get_or b 1 0) × (get_or a 2 0 ≡ get_or b 2 0) × (get_or a 3 0 ≡ get_or b 3 0) = omega (arith, ra.1, rb.1) in
    let w : (get_or a 4 0 ≡ get_or b 4 0) × (get_or a 5 0 ≡ get_or b 5 0) × (get_or a 6 0 ≡ get_or b 6 0) × (get_or a 7 0 ≡ get_or b 7 0) = omega (arith, ra.1, rb.1) in
    let e = fill_by_all (λ i. get_or a i 0) a 8 0 ra.0 (λ k h. refl) in
    let f = fill_by_all (λ i. get_or b i 0) b 8 0 rb.0 (λ k h. refl) in
    cc

rounds_row : (ks : List ℕ) (x y : ℕ) → Row 8 (rounds ks x y)
unfolding rounds
rounds_row [] x y = (refl, bytes_under (word_bytes y ++ word_bytes x) (omega arith))
rounds_row (k ∷ ks) x y = rounds_row ks _ _

pub speck_row : (key s : List ℕ) → Row 8 (speck key s)
speck_row key s = rounds_row (speck_keys key) _ _

pub speck_one_to_one : (key : List ℕ) → Bytes key → OneToOne 8 (speck key)
speck_one_to_one key h a b ra rb e =
    let ks = keys_W 27 0 _ _ _ _ (omega arith) (word-W key 0 h) (word-W key 4 h) (word-W key 8 h) (word-W key 12 h) in
    let z = rounds_back (speck_keys key) _ _ _ _ ks (word-W a 4 ra.1) (word-W a 0 ra.1) (word-W b 4 rb.1) (word-W b 0 rb.1) e in
    same_row a b ra rb z.1 z.0

pub speck_most : (n : ℕ) → speck_takes n ≡ true → n ≤ 32
speck_most n h = let e = eqb-true n 16 h in omega arith

pub speck_taken : (key : List ℕ) → length key ≡ 16 → speck_takes (length key) ≡ true
speck_taken key e = ap speck_takes e
