-- Two digits to a byte, one step on. Assumes nothing.
use Rattle.std.proofs.Common.{◌≡◌, ℕ, zero, suc, ◌+◌, ◌-◌, ◌*◌, ◌/◌, ◌%◌, ◌<◌, ◌≤◌, Bool, true, false, cond, ◌&&◌, List, [], ◌∷◌, ◌++◌, length, get_or, take, drop, set, Some, None, sym, refl, ap, ◌∙◌, arith, rules}
use Rattle.std.specs.Simd.{first_chunks}
use borrow.Rule.Slice.PartMut.{put_mid}
use Rattle.std.proofs.lemmas.List.{places, append_assoc, drop_more, take_more, take_more_set}
use Rattle.std.proofs.lemmas.Slice.{take-put_mid}
use Rattle.std.proofs.Math.Bool.{and-true}
use Rattle.fault.specs.declared.line.LineCause.{LineCause}
use Rattle.fault.specs.declared.line.LineCause.TheVariants.{NotDigits}
use Rattle.std.specs.Int.{w32, w64, to_be_bytes, from_be_bytes}
use Rattle.listing.specs.Lines.{address_bytes, address_from}
use Rattle.listing.specs.Digits.{hex, is_hex, hex_value, digits_of, all_hex, row_of, not_hex}

pub digits_append : (xs ys : List ℕ) → digits_of (xs ++ ys) ≡ digits_of xs ++ digits_of ys
digits_append [] ys = refl
digits_append (x ∷ xs) ys = ap (λ z. hex (x / 16) ∷ (hex (x % 16) ∷ z)) (digits_append xs ys)

-- one byte more is written
pub write_more : (row out pair : List ℕ) (i : ℕ) → i < length row → length out ≡ 2 * length row → pair ≡ digits_of (get_or row i 0 ∷ []) → take (2 * i) out ≡ digits_of (take i row)
    → take (2 * (i + 1)) (put_mid (2 * i) (2 * i + 2 - 2 * i) out pair) ≡ digits_of (take (i + 1) row)
write_more row out pair i h len ep inv =
    let lp : length pair ≡ 2 = ap length ep in
    let e = take-put_mid (2 * i) (2 * i + 2 - 2 * i) out pair (2 * (i + 1)) (omega arith) (omega arith) in
    let d = digits_append (take i row) (get_or row i 0 ∷ []) in
    e ∙ (ap (λ z. z ++ pair) inv ∙ (ap (λ z. digits_of (take i row) ++ z) ep ∙ (sym d ∙ ap digits_of (sym (take_more row i 0 h)))))

-- the pairs of a text
chunks_at : (k i : ℕ) (xs : List ℕ) (d : List ℕ) → i < k → 2 * k ≤ length xs → get_or (first_chunks 2 k xs) i d ≡ get_or xs (2 * i) 0 ∷ (get_or xs (2 * i + 1) 0 ∷ [])
chunks_at zero i xs d lt le = absurd (omega arith)
chunks_at (suc k) i [] d lt le = absurd (omega arith)
chunks_at (suc k) i (a ∷ []) d lt le = absurd (omega arith)
chunks_at (suc k) zero (a ∷ (b ∷ xs)) d lt le = refl
chunks_at (suc k) (suc i) (a ∷ (b ∷ xs)) d lt le =
    let e : 2 * suc i ≡ suc (suc (2 * i)) = omega arith in
    let f : 2 * suc i + 1 ≡ suc (suc (2 * i + 1)) = omega arith in
    chunks_at k i xs d (omega arith) (omega arith)
    ∙ (ap (λ z. get_or (a ∷ (b ∷ xs)) z 0 ∷ (get_or xs (2 * i + 1) 0 ∷ [])) (sym e) ∙ ap (λ z. get_or (a ∷ (b ∷ xs)) (2 * suc i) 0 ∷ (get_or (a ∷ (b ∷ xs)) z 0 ∷ [])) (sym f))

two : (xs : List ℕ) (i : ℕ) → 2 * i + 1 < length xs → drop (2 * i) xs ≡ get_or xs (2 * i) 0 ∷ (get_or xs (2 * i + 1) 0 ∷ drop (2 * (i + 1)) xs)
two xs i h =
    let a = drop_more xs (2 * i) 0 (omega arith) in
    let b = drop_more xs (2 * i + 1) 0 h in
    let e : 2 * i + 1 + 1 ≡ 2 * (i + 1) = omega arith in
    a ∙ ap (λ z. get_or xs (2 * i) 0 ∷ z) (b ∙ ap (λ z. get_or xs (2 * i + 1) 0 ∷ drop z xs) e)

-- what a test says by whether 12 follows from it
pub told_true : (b : Bool) → cond b None (Some NotDigits) ≡ None → b ≡ true
told_true true e = refl
told_true false e = cc

pub told_false : (b : Bool) (f : LineCause) → cond b None (Some NotDigits) ≡ Some f → (b ≡ false) × (Some NotDigits ≡ Some f)
told_false true f e = cc
told_false false f e = (refl, e)

hex_one : (c : ℕ) → not_hex (c ∷ []) ≡ None → is_hex c ≡ true
hex_one c e = sym (and-true (is_hex c)) ∙ told_true (is_hex c && true) e

not_one : (c : ℕ) (f : LineCause) → not_hex (c ∷ []) ≡ Some f → (is_hex c ≡ false) × (Some NotDigits ≡ Some f)
not_one c f e = let t = told_false (is_hex c && true) f e in (sym (and-true (is_hex c)) ∙ t.0, t.1)

-- a pair more is read; `chunks` are the text's pairs, and what comes before this one is digits alone
module _ (text : List ℕ) (chunks : List (List ℕ)) (i : ℕ) (d : List ℕ) (ec : chunks ≡ first_chunks 2 (length text / 2) text) (h : i < length text / 2) (left : all_hex (drop (2 * i) text) ≡ all_hex text) where
  pair : get_or chunks i d ≡ get_or text (2 * i) 0 ∷ (get_or text (2 * i + 1) 0 ∷ [])
  pair = ap (λ z. get_or z i d) ec ∙ chunks_at (length text / 2) i text d h (omega arith)

  high_is : get_or (get_or chunks i d) 0 0 ≡ get_or text (2 * i) 0
  high_is = ap (λ z. get_or z 0 0) pair

  low_is : get_or (get_or chunks i d) 1 0 ≡ get_or text (2 * i + 1) 0
  low_is = ap (λ z. get_or z 1 0) pair

  hex_step : all_hex text ≡ (is_hex (get_or (get_or chunks i d) 0 0) && (is_hex (get_or (get_or chunks i d) 1 0) && all_hex (drop (2 * (i + 1)) text)))
  hex_step = rw (high_is, low_is) (sym left ∙ ap all_hex (two text i (omega arith)))

  pub high_stops : (f : LineCause) → not_hex (get_or (get_or chunks i d) 0 0 ∷ []) ≡ Some f → not_hex text ≡ Some f
  high_stops f e = let n = not_one (get_or (get_or chunks i d) 0 0) f e in let s : all_hex text ≡ false = hex_step ∙ rw n.0 in rw s n.1

  pub low_stops : (f : LineCause) → not_hex (get_or (get_or chunks i d) 0 0 ∷ []) ≡ None → not_hex (get_or (get_or chunks i d) 1 0 ∷ []) ≡ Some f → not_hex text ≡ Some f
  low_stops f g e = let n = not_one (get_or (get_or chunks i d) 1 0) f e in let s : all_hex text ≡ false = hex_step ∙ rw (hex_one (get_or (get_or chunks i d) 0 0) g, n.0) in rw s n.1

  pub hex_more : not_hex (get_or (get_or chunks i d) 0 0 ∷ []) ≡ None → not_hex (get_or (get_or chunks i d) 1 0 ∷ []) ≡ None → all_hex (drop (2 * (i + 1)) text) ≡ all_hex text
  hex_more p q = sym (hex_step ∙ rw (hex_one (get_or (get_or chunks i d) 0 0) p, hex_one (get_or (get_or chunks i d) 1 0) q))

  pub read_more : (row all : List ℕ) (x y : ℕ) → i < length row → x ≡ hex_value (get_or (get_or chunks i d) 0 0) → y ≡ hex_value (get_or (get_or chunks i d) 1 0)
      → take i row ++ row_of (drop (2 * i) text) ≡ all → take (i + 1) (set row i (x * 16 + y)) ++ row_of (drop (2 * (i + 1)) text) ≡ all
  read_more row all x y lt ex ey inv =
      let e : x * 16 + y ≡ hex_value (get_or text (2 * i) 0) * 16 + hex_value (get_or text (2 * i + 1) 0) = rw (ex, ey, high_is, low_is) in
      ap (λ z. z ++ row_of (drop (2 * (i + 1)) text)) (take_more_set row i (x * 16 + y) lt)
      ∙ (append_assoc (take i row) ((x * 16 + y) ∷ []) _ ∙ (ap (λ z. take i row ++ (z ∷ row_of (drop (2 * (i + 1)) text))) e ∙ (ap (λ z. take i row ++ z) (sym (ap row_of (two text i (omega arith)))) ∙ inv)))

pub length_digits : (bs : List ℕ) → length (digits_of bs) ≡ 2 * length bs
length_digits [] = refl
length_digits (b ∷ bs) = let h = length_digits bs in omega arith

pub length_address : (a : ℕ) → length (digits_of (address_bytes a)) ≡ 8
unfolding address_bytes
length_address a = refl

-- the lowest four bytes of a word, and the word of four bytes
pub low_bytes : (a : ℕ) → take 4 (drop 4 (to_be_bytes w64 a)) ≡ address_bytes a
unfolding address_bytes
low_bytes a = refl

pub word_is : (bs : List ℕ) → from_be_bytes w32 bs ≡ address_from bs
word_is bs = refl

pub length_mid : (a k : ℕ) (xs bs : List ℕ) → a + k ≤ length xs → length bs ≡ k → length (put_mid a k xs bs) ≡ length xs
length_mid a k xs bs h e = search (rules, places)
