-- Lists in which no number stands twice. Assumes nothing.
use Rattle.std.proofs.Common.{◌≡◌, ℕ, zero, suc, ◌<◌, ◌≤◌, Bool, true, false, cond, eqb, List, [], ◌∷◌, ◌++◌, length, get_or, sym, ◌∙◌, ⊎_elim, arith, eq-eqb}
use Rattle.std.proofs.lemmas.List.{get_or_at, get_or_append_left, length_push}
use Rattle.std.proofs.lemmas.Bool.{cases_lt}
use Rattle.stock.specs.Sizes.{listed, Distinct}

-- what is not listed stands at no place
pub unlisted_at : (xs : List ℕ) (y j : ℕ) → listed xs y ≡ false → j < length xs → get_or xs j 0 ≡ y → ⊥
unlisted_at [] y j e h z = omega arith
unlisted_at (x ∷ xs) y zero e h z = let t : cond (eqb x y) true (listed xs y) ≡ true = rw (eq-eqb x y z) in cc
unlisted_at (x ∷ xs) y (suc j) e h z = unlisted_at xs y j (by_test (eqb x y) e) (omega arith) z
  where
    by_test : (b : Bool) → cond b true (listed xs y) ≡ false → listed xs y ≡ false
    by_test true f = cc
    by_test false f = f

pub distinct_push : (xs : List ℕ) (y : ℕ) → Distinct xs → listed xs y ≡ false → Distinct (xs ++ y ∷ [])
distinct_push xs y d e j k h =
    let l = length_push xs y in
    ⊎_elim
    (λ (lj : j < length xs). ⊎_elim
    (λ (lk : k < length xs). d j k (lj, lk, sym (before j lj) ∙ (h.2 ∙ before k lk)))
    (λ (gk : length xs ≤ k). absurd (unlisted_at xs y j e lj (sym (before j lj) ∙ (h.2 ∙ there k (omega arith)))))
    (cases_lt k (length xs)))
    (λ (gj : length xs ≤ j). ⊎_elim
    (λ (lk : k < length xs). absurd (unlisted_at xs y k e lk (sym (before k lk) ∙ (sym h.2 ∙ there j (omega arith)))))
    (λ (gk : length xs ≤ k). omega arith)
    (cases_lt k (length xs)))
    (cases_lt j (length xs))
  where
    before : (i : ℕ) → i < length xs → get_or (xs ++ y ∷ []) i 0 ≡ get_or xs i 0
    before i l = get_or_append_left xs (y ∷ []) 0 i l

    there : (i : ℕ) → i ≡ length xs → get_or (xs ++ y ∷ []) i 0 ≡ y
    there i l = get_or_at xs y [] 0 i (sym l)
