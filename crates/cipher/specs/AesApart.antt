-- AES: how long its keys are; and under one key each step takes rows to rows and can be undone, and so does the whole. Assumes nothing.
use Rattle.std.proofs.Common.{◌≡◌, ℕ, zero, suc, ◌+◌, ◌-◌, ◌*◌, ◌%◌, ◌<◌, ◌≤◌, true, eqb, ◌⊎◌, List, length, get_or, sym, refl, ◌∙◌, subst, inl, inr, ⊎_elim, zero-add, arith, lit<}
use Rattle.std.proofs.lemmas.Bool.{or_cases, eqb-true}
use lib.Bits.{xor_lt}
use Rattle.std.specs.List.{range_with_len, AllByRecursion}
use Rattle.std.proofs.lemmas.List.{ext_get_or}
use Rattle.std.proofs.ByRecursion.{All-get_or}
use Rattle.std.proofs.lemmas.List.FromFn.{length-range_with_len, get_or-range_with_len}
use Rattle.arith.specs.Rows.{Bytes, Row, by_place, OneToOne}
use Rattle.cipher.specs.Field.{xtime}
use Rattle.cipher.specs.Steps.{sub_at, shifted_at, in_column, mixed, mixed_at, keyed_at, sub_bytes, shift_rows, mix_columns, add_round_key}
use Rattle.cipher.specs.Schedule.{aes_rounds, round_keys}
use Rattle.cipher.specs.Aes.{aes_takes, after, aes_by, aes}
use Rattle.arith.proofs.Places.{row_by_place, by_place_back}
use Rattle.cipher.specs.Every.{same_below}
use Rattle.cipher.specs.SboxApart.{sub_is_byte, sub_one_to_one}
use Rattle.cipher.specs.Xor.{xor_back}
use Rattle.cipher.specs.Doubling.{xtime_is_byte, xtime_xor}
use Rattle.cipher.specs.Mixing.{column_back}
use Rattle.cipher.specs.ScheduleBytes.{round_keys_bytes}

-- a step takes rows to rows, and no two to one
abbrev Good : (List ℕ → List ℕ) → Type 0
Good F = ((s : List ℕ) → Row 16 s → Row 16 (F s)) × OneToOne 16 F

-- a step by places
by_places : (f : List ℕ → ℕ → ℕ)
    → ((s : List ℕ) → Bytes s → (k : ℕ) → k < 16 → f s k < 256)
    → ((a b : List ℕ) → Bytes a → Bytes b → ((k : ℕ) → k < 16 → f a k ≡ f b k) → (k : ℕ) → k < 16 → get_or a k 0 ≡ get_or b k 0)
    → Good (λ s. by_place 16 (f s))
by_places f p q = (
  λ s r. row_by_place 16 (f s) (p s r.1),
  λ a b ra rb e. ext_get_or 0 a b (ra.0 ∙ sym rb.0) (λ k l. q a b ra.1 rb.1 (by_place_back 16 (f a) (f b) e) k (omega arith)),
)

sub_good : Good sub_bytes
unfolding sub_bytes
sub_good =
    by_places sub_at (λ s h k l. sub_is_byte (get_or s k 0) (h k))
    (λ a b ha hb e k l. sub_one_to_one (get_or a k 0) (get_or b k 0) (ha k) (hb k) (e k l))

shift_good : Good shift_rows
unfolding shift_rows
shift_good =
    by_places shifted_at (λ s h k l. h _)
    (λ a b ha hb e k l.
    rw (same_below (λ j. (13 * j % 16 + 4 * (13 * j % 16 % 4)) % 16) (λ j. j) 16 refl k l) at (e (13 * k % 16) (omega arith)))

key_good : (w : List ℕ) (r : ℕ) → Bytes w → Good (add_round_key w r)
unfolding add_round_key
key_good w r hw =
    by_places (keyed_at w r) (λ s h k l. xor_lt 8 (get_or s k 0) _ (h k) (hw _))
    (λ a b ha hb e k l. xor_back (get_or a k 0) (get_or b k 0) _ (e k l))

-- what holds at each of n places, one by one
each : (P : ℕ → Type 0) (n : ℕ) → AllByRecursion P (range_with_len 0 n) → (k : ℕ) → k < n → P k
each P n h k l =
    let e = length-range_with_len 0 n in
    subst P (get_or-range_with_len 0 n k 0 l ∙ zero-add k) (All-get_or P (range_with_len 0 n) k 0 (omega arith) h)

unmixed : (x y : ℕ → ℕ) → mixed (x 0) (x 1) (x 2) (x 3) ≡ mixed (y 0) (y 1) (y 2) (y 3) → mixed (x 1) (x 2) (x 3) (x 0) ≡ mixed (y 1) (y 2) (y 3) (y 0)
    → mixed (x 2) (x 3) (x 0) (x 1) ≡ mixed (y 2) (y 3) (y 0) (y 1) → mixed (x 3) (x 0) (x 1) (x 2) ≡ mixed (y 3) (y 0) (y 1) (y 2)
    → (x 0 ≡ y 0) × (x 1 ≡ y 1) × (x 2 ≡ y 2) × (x 3 ≡ y 3)
unmixed x y = column_back xtime xtime_xor (x 0) (x 1) (x 2) (x 3) (y 0) (y 1) (y 2) (y 3)

mix_good : Good mix_columns
unfolding mix_columns
mix_good =
    by_places mixed_at
    (λ s h k l. xor_lt 8 _ _ (xor_lt 8 _ _ (xor_lt 8 _ _ (xor_lt 8 _ _ (xtime_is_byte _ (h _)) (xtime_is_byte _ (h _))) (h _)) (h _)) (h _))
    (λ a b ha hb e.
    let p = unmixed (in_column a 0) (in_column b 0) (e 0 (lit< tt)) (e 1 (lit< tt)) (e 2 (lit< tt)) (e 3 (lit< tt)) in
    let q = unmixed (in_column a 4) (in_column b 4) (e 4 (lit< tt)) (e 5 (lit< tt)) (e 6 (lit< tt)) (e 7 (lit< tt)) in
    let r = unmixed (in_column a 8) (in_column b 8) (e 8 (lit< tt)) (e 9 (lit< tt)) (e 10 (lit< tt)) (e 11 (lit< tt)) in
    let s = unmixed (in_column a 12) (in_column b 12) (e 12 (lit< tt)) (e 13 (lit< tt)) (e 14 (lit< tt)) (e 15 (lit< tt)) in
    each (λ k. get_or a k 0 ≡ get_or b k 0) 16
    (p.0, (p.1, (p.2, (p.3, (q.0, (q.1, (q.2, (q.3, (r.0, (r.1, (r.2, (r.3, (s.0, (s.1, (s.2, (s.3, tt)))))))))))))))))

-- one step and then another
then : (F G : List ℕ → List ℕ) → Good F → Good G → Good (λ s. G (F s))
then F G p q = (λ s r. q.0 (F s) (p.0 s r), λ a b ra rb e. p.1 a b ra rb (q.1 (F a) (F b) (p.0 a ra) (p.0 b rb) e))

after_good : (n : ℕ) (w : List ℕ) → Bytes w → Good (after n w)
unfolding after
after_good zero w h = key_good w 0 h
after_good (suc n) w h =
    then (after n w) _ (after_good n w h) (then sub_bytes _ sub_good (then shift_rows _ shift_good (then mix_columns _ mix_good (key_good w (suc n) h))))

by_good : (nr : ℕ) (w : List ℕ) → Bytes w → Good (aes_by nr w)
by_good nr w h = then (after (nr - 1) w) _ (after_good (nr - 1) w h) (then sub_bytes _ sub_good (then shift_rows _ shift_good (key_good w nr h)))

aes_good : (key : List ℕ) → Bytes key → Good (aes key)
aes_good key h = by_good (aes_rounds (length key)) (round_keys key) (round_keys_bytes key h)

pub aes_row : (key block : List ℕ) → Bytes key → Row 16 block → Row 16 (aes key block)
aes_row key block h = (aes_good key h).0 block

pub aes_one_to_one : (key : List ℕ) → Bytes key → OneToOne 16 (aes key)
aes_one_to_one key h = (aes_good key h).1

-- the lengths of keys that are taken
pub taken_lengths : (n : ℕ) → aes_takes n ≡ true → (n ≡ 16) ⊎ (n ≡ 32)
taken_lengths n h = ⊎_elim (λ e. inl (eqb-true n 16 e)) (λ e. inr (eqb-true n 32 e)) (or_cases (eqb n 16) (eqb n 32) h)

pub aes_most : (n : ℕ) → aes_takes n ≡ true → n ≤ 32
aes_most n h = let p = taken_lengths n h in omega arith
