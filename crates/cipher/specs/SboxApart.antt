-- The S-box: one test of the inverses of all the bytes, which antt computes, and what it says of each byte. Assumes nothing.
use Rattle.std.proofs.Common.{◌≡◌, ℕ, suc, pred, ◌<◌, Bool, true, false, ◌&&◌, eqb, ltb, List, [], ◌∷◌, map, get_or, sym, refl, ap, ◌∙◌, arith}
use Rattle.std.proofs.lemmas.List.{get_or-map}
use Rattle.std.proofs.lemmas.List.FromFn.{length-map-range_with_len, get_or-map-range_with_len}
use Rattle.std.proofs.lemmas.Bool.{and_parts, eqb-true, ltb-true}
use Rattle.arith.specs.Rows.{by_place}
use Rattle.cipher.specs.Field.{times, inverse_below, inverse}
use Rattle.cipher.specs.SubByte.{affine, sub}
use Rattle.cipher.specs.Every.{every, every_at}

-- where x first stands in a list
abbrev place_of : ℕ → List ℕ → ℕ
place_of x [] = 0
place_of x (y ∷ ys) = elim (eqb x y) [ true ↦ 0 | false ↦ suc (place_of x ys) ]

-- of the inverses u: each times its byte is 1, and under the affine map g each is a byte that stands nowhere before
abbrev one : List ℕ → ℕ → Bool
one u k = eqb (times (suc k) (get_or u (suc k) 0)) 1

abbrev first : List ℕ → ℕ → Bool
first t k = ltb (get_or t k 0) 256 && eqb (place_of (get_or t k 0) t) k

abbrev passes : (ℕ → ℕ) → List ℕ → Bool
passes g u = let t = map g u in every (one u) 255 && every (first t) 256

inverses : List ℕ
inverses = by_place 256 inverse

passed : passes affine inverses ≡ true
unfolding inverses inverse times
passed = refl

-- what the test says, of any u that passes
module _ (g : ℕ → ℕ) (u : List ℕ) (p : passes g u ≡ true) where
  parts : (every (one u) 255 ≡ true) × (every (first (map g u)) 256 ≡ true)
  parts = and_parts _ _ p

  ones : (k : ℕ) → k < 255 → times (suc k) (get_or u (suc k) 0) ≡ 1
  ones k h = eqb-true _ 1 (every_at (one u) 255 parts.0 k h)

  firsts : (k : ℕ) → k < 256 → (get_or (map g u) k 0 < 256) × (place_of (get_or (map g u) k 0) (map g u) ≡ k)
  firsts k h =
      let q = and_parts _ _ (every_at (first (map g u)) 256 parts.1 k h) in
      (ltb-true _ 256 q.0, eqb-true _ k q.1)

inverse_at : (k : ℕ) → k < 256 → get_or inverses k 0 ≡ inverse k
unfolding inverses
inverse_at k h = get_or-map-range_with_len inverse 0 256 k k 0 h (omega arith)

sub_at : (k : ℕ) → k < 256 → get_or (map affine inverses) k 0 ≡ sub k
unfolding inverses sub
sub_at k h =
    let n = length-map-range_with_len inverse 0 256 in
    get_or-map affine inverses k 0 0 (omega arith) ∙ ap affine (inverse_at k h)

pub times_inverse : (b : ℕ) → 0 < b → b < 256 → times b (inverse b) ≡ 1
times_inverse b h l =
    let e : suc (pred b) ≡ b = omega arith in
    rw (e, inverse_at b l) at (ones affine inverses passed (pred b) (omega arith))

pub sub_is_byte : (b : ℕ) → b < 256 → sub b < 256
sub_is_byte b h = rw (sub_at b h) at (firsts affine inverses passed b h).0

pub sub_one_to_one : (a b : ℕ) → a < 256 → b < 256 → sub a ≡ sub b → a ≡ b
sub_one_to_one a b ha hb e =
    let f = λ (k : ℕ) (h : k < 256). rw (sub_at k h) at (firsts affine inverses passed k h).1 in
    sym (f a ha) ∙ ap (λ x. place_of x (map affine inverses)) e ∙ f b hb

-- the rule with its parts written out
pub sub_is : (b : ℕ) → affine (inverse_below 256 b) ≡ sub b
unfolding sub inverse
sub_is b = refl
