use Rattle.std.proofs.Common.{◌≡◌, ℕ, ◌+◌, ◌-◌, ◌*◌, List, [], ◌∷◌, ◌++◌, length, take, drop, set, sym, refl, ap, ◌∙◌, arith}
use borrow.Rule.Slice.PartMut.{put_mid, post_of}
use Rattle.std.proofs.lemmas.List.{append_assoc, take_at, take_all, take_more_set, length-set, length-append, length-drop}
use Rattle.std.proofs.lemmas.Slice.{take-put_mid}
use Rattle.listing.specs.Digits.{digits_of}
use Rattle.listing.specs.Lines.{address_bytes}
use Rattle.listing.proofs.Pairs.{length_mid, length_digits, length_address, low_bytes}
use Rattle.listing.proofs.line.write_line.Goals as goal

-- an area filled from its front, part after part
filled_up : (xs h b : List ℕ) (n m : ℕ) → length xs ≡ 10 + n → length h ≡ 8 → length b ≡ n → m ≡ length xs - 1
    → set (put_mid 9 (m - 9) (set (h ++ post_of 0 8 xs) 8 32) b) m 10 ≡ h ++ (32 ∷ (b ++ 10 ∷ []))
filled_up xs h b n m lx lh lb em =
    let x1 : List ℕ = h ++ post_of 0 8 xs in
    let x2 : List ℕ = set x1 8 32 in
    let x3 : List ℕ = put_mid 9 (m - 9) x2 b in
    let l1 : length x1 ≡ length xs = simp (length-append, length-drop) (omega arith) in
    let l2 : length x2 ≡ length xs = length-set x1 8 32 ∙ l1 in
    let l3 : length x3 ≡ length xs = length_mid 9 (m - 9) x2 b (omega arith) (omega arith) ∙ l2 in
    let t1 : take 8 x1 ≡ h = take_at h (post_of 0 8 xs) 8 lh in
    let t2 : take 9 x2 ≡ take 8 x1 ++ 32 ∷ [] = take_more_set x1 8 32 (omega arith) in
    let t3 : take (9 + n) x3 ≡ take 9 x2 ++ b = take-put_mid 9 (m - 9) x2 b (9 + n) (omega arith) (omega arith) in
    let e : m ≡ 9 + n = omega arith in
    let t4 : take (9 + n + 1) (set x3 (9 + n) 10) ≡ take (9 + n) x3 ++ 10 ∷ [] = take_more_set x3 (9 + n) 10 (omega arith) in
    let all : take (9 + n + 1) (set x3 (9 + n) 10) ≡ set x3 (9 + n) 10 = take_all (9 + n + 1) (set x3 (9 + n) 10) (let q = length-set x3 (9 + n) 10 in omega arith) in
    ap (λ z. set x3 z 10) e ∙ (sym all ∙ (t4 ∙ (ap (λ z. z ++ 10 ∷ []) (t3 ∙ ap (λ z. z ++ b) (t2 ∙ ap (λ z. z ++ 32 ∷ []) t1)) ∙ simp append_assoc)))

pub returns-clause-line : goal.returns-clause-line
returns-clause-line c =
    let a : c.write_row.new.out ≡ digits_of (address_bytes c.args.address) = c.write_row.ensures ∙ ap digits_of (ap (λ z. take 4 (drop 4 z)) c.to_be_bytes.ensures ∙ low_bytes c.args.address) in
    let b = c.write_row-2.ensures in
    let lh : length c.write_row.new.out ≡ 8 = ap length a ∙ length_address c.args.address in
    let lb : length c.write_row-2.new.out ≡ 2 * length c.args.frame.now = ap length b ∙ length_digits c.args.frame.now in
    filled_up c.args.out.now _ _ (2 * length c.args.frame.now) _ c.requires lh lb refl ∙ (ap (λ z. z ++ (32 ∷ (c.write_row-2.new.out ++ 10 ∷ []))) a ∙ ap (λ z. digits_of (address_bytes c.args.address) ++ (32 ∷ (z ++ 10 ∷ []))) b)
