-- Arrays of numbers that a closure makes, each by its place, and lists that are cut into chunks. Assumes nothing.
use Rattle.std.proofs.Common.{◌≡◌, ℕ, zero, suc, ◌+◌, ◌*◌, ◌<◌, ◌≤◌, List, [], get_or, take, drop, refl, ap, ◌∙◌, subst, ⊎_elim, arith}
use native.Mathlib.Nat.{mul-suc}
use Rattle.std.proofs.lemmas.Bool.{cases_eq}
use Rattle.std.proofs.lemmas.List.{drop-drop}
use Rattle.std.proofs.lemmas.List.FromFn.{fill_by_all}
use Rattle.std.specs.Array.{IsFromFnResult, IsFromFnResultFrom}
use Rattle.std.specs.Simd.{first_chunks}
use denote.Param.Members.{Mut, Called}
use Rattle.arith.specs.Rows.{by_place}

-- a closure f that gives h of each place below n, and stays as it is
module _ {F : Type 0} {g : Mut F (ℕ × Unit {0}) ℕ} {f : F} (h : ℕ → ℕ) (n : ℕ) (says : (i y : ℕ) (q : F) → i < n → Called g f (i, tt) y q → (y ≡ h i) × (q ≡ f)) where
  at_place : (ys : List ℕ) (i m : ℕ) → i + m ≡ n → IsFromFnResultFrom g f ys i m → (k : ℕ) → i ≤ k → k < n → get_or ys k 0 ≡ h k
  at_place ys i zero e r k l b = absurd (omega arith)
  at_place ys i (suc m) e r k l b =
      let s = says i r.1 r.0 (omega arith) r.3 in
      ⊎_elim (λ p. rw p (r.2.1 0 ∙ s.0))
      (λ p. at_place ys (i + 1) m (omega arith) (subst (λ q. IsFromFnResultFrom g q ys (i + 1) m) s.1 r.4) k (omega arith) b) (cases_eq k i)

  pub made_by_place : {ys : List ℕ} → IsFromFnResult g f ys n → ys ≡ by_place n h
  made_by_place {ys} r = fill_by_all h ys n 0 r.long (λ k l. at_place ys 0 n (omega arith) r.each k (omega arith) l)

-- the chunk j of the first k chunks of n elements
pub chunk : (n k : ℕ) (xs : List ℕ) (j : ℕ) → j < k → get_or (first_chunks n k xs) j [] ≡ take n (drop (n * j) xs)
chunk n zero xs j h = absurd (omega arith)
chunk n (suc k) xs zero h = let e : n * 0 ≡ 0 = omega arith in rw e refl
chunk n (suc k) xs (suc j) h =
    let e : n * suc j ≡ n + n * j = mul-suc n j ∙ omega arith in
    rw e (chunk n k (drop n xs) j (omega arith) ∙ ap (take n) (drop-drop (n * j) n xs))
