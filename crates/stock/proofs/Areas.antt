-- An area with bytes written into it, one byte or a row at a time. Assumes nothing.
use Rattle.std.proofs.Common.{◌≡◌, ℕ, ◌+◌, ◌<◌, ◌≤◌, ◌⊎◌, List, [], ◌∷◌, ◌++◌, length, get_or, set, append_assoc, take, drop, sym, ap, ◌∙◌, inl, inr, arith, rules}
use borrow.Rule.Slice.PartMut.{put_mid}
use Rattle.std.proofs.lemmas.List.{places, drop-drop, get_or-take, get_or-drop, length-take-le, length-take, length-drop, ext_get_or, take_at, drop_at, take_more}
use Rattle.std.proofs.Math.Seq.{set-append_seam}
use Rattle.stock.specs.Areas.{written}

pub written_mid : (at k : ℕ) (bs ps area : List ℕ) → ps ≡ bs → k ≡ length bs → put_mid at k area ps ≡ written at bs area
written_mid at k bs ps area e l = ap (put_mid at k area) e ∙ (ap (λ z. put_mid at z area bs) l ∙ ap (λ z. take at area ++ (bs ++ z)) (drop-drop (length bs) at area))

module _ (at : ℕ) (bs area : List ℕ) (fits : at + length bs ≤ length area) where
  pub length_written : length (written at bs area) ≡ length area
  length_written = search (rules, places)

  pub written_other : (j : ℕ) → (j < at) ⊎ (at + length bs ≤ j) → get_or (written at bs area) j 0 ≡ get_or area j 0
  written_other j (inl l) = search (rules, places)
  written_other j (inr l) = search (rules, places)

  pub written_row : (n : ℕ) → length bs ≡ n → take n (drop at (written at bs area)) ≡ bs
  written_row n e = let le : at ≤ length area = omega arith in let lt = length-take-le at area le in
      ap (take n) (drop_at (take at area) (bs ++ drop (at + length bs) area) at lt) ∙ take_at bs _ n e

pub row_long : (n at : ℕ) (xs : List ℕ) → at + n ≤ length xs → length (take n (drop at xs)) ≡ n
row_long n at xs h = simp (length-take, length-drop) (omega arith)

-- rows cut out of two areas that agree there
pub same_row : (n at : ℕ) (xs ys : List ℕ) → at + n ≤ length xs → length ys ≡ length xs → ((j : ℕ) → at ≤ j → j < at + n → get_or ys j 0 ≡ get_or xs j 0) → take n (drop at ys) ≡ take n (drop at xs)
same_row n at xs ys h len same =
    let hy : at + n ≤ length ys = omega arith in
    let ly = row_long n at ys hy in
    ext_get_or 0 _ _ (ly ∙ sym (row_long n at xs h)) (λ i hi. let hn : i < n = omega arith in simp (get_or-take, get_or-drop) (same (at + i) (omega arith) (omega arith)))

-- a byte and then bytes written where it stands: the bytes are written behind it, and then the byte is set
pub written_behind : (at m : ℕ) (bs area : List ℕ) → at + 1 + length bs ≤ length area → set (written (at + 1) bs area) at m ≡ written at (m ∷ bs) area
written_behind at m bs area fits =
    let l : length (take at area) ≡ at = length-take-le at area (omega arith) in
    ap (λ z. set (z ++ (bs ++ drop (at + 1 + length bs) area)) at m) (take_more area at 0 (omega arith))
    ∙ (ap (λ z. set z at m) (append_assoc (take at area) (get_or area at 0 ∷ []) (bs ++ drop (at + 1 + length bs) area))
    ∙ (ap (λ z. set (take at area ++ (get_or area at 0 ∷ (bs ++ drop (at + 1 + length bs) area))) z m) (sym l)
    ∙ (set-append_seam (take at area) (get_or area at 0) (bs ++ drop (at + 1 + length bs) area) m
    ∙ (let e : at + 1 + length bs ≡ at + length (m ∷ bs) = omega arith in ap (λ z. take at area ++ (m ∷ (bs ++ drop z area))) e))))
