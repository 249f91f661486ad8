-- Rows that a function of the place gives, and loops that fill them. Assumes nothing.
use Rattle.std.proofs.Common.{◌≡◌, ℕ, ◌+◌, ◌-◌, ◌<◌, ◌≤◌, List, ◌++◌, length, get_or, take, replicate, sym, ap, ◌∙◌, ⊎_elim, arith, lit<, length-append, length-take}
use Rattle.std.proofs.lemmas.List.{ext_get_or, get_or_append_left, get_or-append_right, get_or-replicate, get_or-take, get_or_past, length-replicate}
use Rattle.std.proofs.lemmas.Bool.{cases_lt}
use Rattle.std.proofs.lemmas.List.FromFn.{fill_by_all, length-map-range_with_len, get_or-map-range_with_len}
use Rattle.arith.specs.Rows.{Row, by_place, fitted}

-- a row of n numbers, of which those below i are given by f
abbrev pub Filled : ℕ → (ℕ → ℕ) → ℕ → List ℕ → Type 0
Filled n f i xs = (length xs ≡ n) × ((k : ℕ) → k < i → get_or xs k 0 ≡ f k)

pub filled_all : (n : ℕ) (f : ℕ → ℕ) (i : ℕ) (xs : List ℕ) → n ≤ i → Filled n f i xs → xs ≡ by_place n f
filled_all n f i xs h inv = fill_by_all f xs n 0 inv.0 (λ k l. inv.1 k (omega arith))

pub length_by_place : (n : ℕ) (f : ℕ → ℕ) → length (by_place n f) ≡ n
length_by_place n f = length-map-range_with_len f 0 n

pub get_or-by_place : (n : ℕ) (f : ℕ → ℕ) (k : ℕ) → k < n → get_or (by_place n f) k 0 ≡ f k
get_or-by_place n f k l = get_or-map-range_with_len f 0 n k k 0 l (omega arith)

-- a row of bytes that a function of the place gives, and back
pub row_by_place : (n : ℕ) (f : ℕ → ℕ) → ((k : ℕ) → k < n → f k < 256) → Row n (by_place n f)
row_by_place n f h =
    let e = length_by_place n f in
    (e, λ i. ⊎_elim (λ l. rw (get_or-by_place n f i l) (h i l)) (λ l. rw (get_or_past (by_place n f) i 0 (omega arith)) (lit< tt)) (cases_lt i n))

pub by_place_back : (n : ℕ) (f g : ℕ → ℕ) → by_place n f ≡ by_place n g → (k : ℕ) → k < n → f k ≡ g k
by_place_back n f g e k l = sym (get_or-by_place n f k l) ∙ ap (λ s. get_or s k 0) e ∙ get_or-by_place n g k l

pub by_place_same : (n : ℕ) (f g : ℕ → ℕ) → ((k : ℕ) → k < n → f k ≡ g k) → by_place n f ≡ by_place n g
by_place_same n f g h = filled_all n g n (by_place n f) (omega arith) (length_by_place n f, λ k l. get_or-by_place n f k l ∙ h k l)

-- what is fitted has the row itself in front, and is the row where the lengths are the same
pub take_fitted : (n : ℕ) (s : List ℕ) → length s ≤ n → take (length s) (fitted n s) ≡ s
unfolding fitted
take_fitted n s h =
    let f : ℕ → ℕ = λ i. get_or s i 0 in
    let e = length_by_place n f in
    let l : length (take (length s) (by_place n f)) ≡ length s = simp length-take (omega arith) in
    ext_get_or 0 _ s l (λ k g. get_or-take (length s) (by_place n f) k 0 (omega arith) ∙ get_or-by_place n f k (omega arith))

pub fitted_same : (n : ℕ) (s : List ℕ) → length s ≡ n → fitted n s ≡ s
unfolding fitted
fitted_same n s h = ext_get_or 0 _ s (length_by_place n _ ∙ sym h) (λ k g. get_or-by_place n _ k (rw (length_by_place n (λ i. get_or s i 0)) at g))

-- the front of a row with zeros behind it
pub front_fitted : (n k : ℕ) (s : List ℕ) → n ≤ length s → (0 < k → length s ≤ n) → take n s ++ replicate k 0 ≡ fitted (n + k) s
unfolding fitted
front_fitted n k s h past =
    let l : length (take n s) ≡ n = simp length-take (omega arith) in
    filled_all (n + k) (λ i. get_or s i 0) (n + k) _ (omega arith) (
      simp (length-append, length-take, length-replicate) (omega arith),
      λ i p. ⊎_elim
          (λ q. get_or_append_left (take n s) _ 0 i (omega arith) ∙ get_or-take n s i 0 q)
          (λ q. get_or-append_right (take n s) _ n i 0 l q ∙ get_or-replicate k (i - n) 0 0 (omega arith) ∙ sym (get_or_past s i 0 (omega arith)))
          (cases_lt i n),
    )
