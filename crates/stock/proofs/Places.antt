-- Rows of places, and filling the first empty one. Assumes nothing.
use Rattle.std.proofs.Common.{◌≡◌, ℕ, zero, suc, ◌<◌, ◌≤◌, ◌≢◌, Bool, true, false, cond, List, [], ◌∷◌, ◌++◌, length, get_or, set, Some, None, Option, is_none, position, refl, sym, ap, ◌∙◌, ⊎_elim, arith, ltb-false}
use Rattle.std.specs.List.{position_or_len}
use Rattle.std.proofs.lemmas.List.{get_or-set_same, get_or-set_other}
use Rattle.std.proofs.lemmas.List.Quantifiers.{position-Some}
use Rattle.std.proofs.lemmas.Bool.{cases_eq}
use Rattle.stock.specs.Places.{numbers, Packed}

behind : (p : Option ℕ) (ps : List (Option ℕ)) → Packed (p ∷ ps) → Packed ps
behind p ps h = λ j k l e. h (suc j) (suc k) (omega arith) e

numbers_empty : (ps : List (Option ℕ)) → ((k : ℕ) → get_or ps k None ≡ None) → numbers ps ≡ []
numbers_empty [] h = refl
numbers_empty (None ∷ ps) h = refl
numbers_empty (Some x ∷ ps) h = let z = h 0 in cc

pub numbers_long : (ps : List (Option ℕ)) → length (numbers ps) ≡ position_or_len is_none ps
numbers_long [] = refl
numbers_long (None ∷ ps) = refl
numbers_long (Some x ∷ ps) = let e = numbers_long ps in omega arith

of_position : (b : Bool) (n i : ℕ) → cond b (Some n) None ≡ Some i → n ≡ i
of_position true n i e = cc
of_position false n i e = cc

of_no_position : (b : Bool) (n : ℕ) → cond b (Some n) None ≡ None → b ≡ false
of_no_position true n e = cc
of_no_position false n e = refl

pub room : (ps : List (Option ℕ)) (i : ℕ) → position is_none ps ≡ Some i → length (numbers ps) < length ps
room ps i e = let l = numbers_long ps ∙ of_position _ _ i e in let h = (position-Some is_none ps i None e).0 in omega arith

pub no_room : (ps : List (Option ℕ)) → position is_none ps ≡ None → length ps ≤ length (numbers ps)
no_room ps e = let t = ltb-false _ _ (of_no_position _ _ e) in let l = numbers_long ps in omega arith

is_empty : (p : Option ℕ) → is_none p ≡ true → p ≡ None
is_empty None e = refl
is_empty (Some x) e = cc

numbers_set_at : (ps : List (Option ℕ)) (i y : ℕ) → Packed ps → i < length ps → get_or ps i None ≡ None → ((k : ℕ) → k < i → is_none (get_or ps k None) ≡ false) → numbers (set ps i (Some y)) ≡ numbers ps ++ y ∷ []
numbers_set_at [] i y h lt e before = absurd (omega arith)
numbers_set_at (None ∷ ps) zero y h lt e before = ap (λ z. y ∷ z) (numbers_empty ps (λ k. h 0 (suc k) (omega arith) refl))
numbers_set_at (Some x ∷ ps) zero y h lt e before = cc
numbers_set_at (None ∷ ps) (suc i) y h lt e before = let z = before 0 (omega arith) in cc
numbers_set_at (Some x ∷ ps) (suc i) y h lt e before = ap (λ z. x ∷ z) (numbers_set_at ps i y (behind (Some x) ps h) (omega arith) e (λ k l. before (suc k) (omega arith)))

-- place i is the first empty one
module _ (ps : List (Option ℕ)) (i y : ℕ) (h : Packed ps) (at : position is_none ps ≡ Some i) where
  lt : i < length ps
  lt = (position-Some is_none ps i None at).0

  before : (k : ℕ) → k < i → is_none (get_or ps k None) ≡ false
  before = (position-Some is_none ps i None at).2

  pub packed_set : Packed (set ps i (Some y))
  packed_set j k l e =
      ⊎_elim
      (λ (s : j ≡ i). let z = get_or-set_same ps i (Some y) None lt in let w = ap (λ q. get_or (set ps i (Some y)) q None) s in cc)
      (λ (nj : j ≢ i).
      let ej : get_or ps j None ≡ None = sym (get_or-set_other ps i j (Some y) None nj) ∙ e in
      ⊎_elim
      (λ (s : k ≡ i). let z = before j (omega arith) in let w = ap is_none ej in cc)
      (λ (nk : k ≢ i). get_or-set_other ps i k (Some y) None nk ∙ h j k l ej)
      (cases_eq k i))
      (cases_eq j i)

  pub numbers_set : numbers (set ps i (Some y)) ≡ numbers ps ++ y ∷ []
  numbers_set = numbers_set_at ps i y h lt (is_empty _ (position-Some is_none ps i None at).1) before
