-- Where a text is cut into lines. Assumes nothing.
use Rattle.std.proofs.Common.{◌≡◌, ℕ, zero, suc, ◌+◌, ◌-◌, ◌<◌, ◌≤◌, true, false, List, [], ◌∷◌, ◌++◌, length, get_or, take, drop, eqb, min, sym, refl, ap, ◌∙◌, ⊎_elim, arith, eq-eqb, ne_eqb}
use Rattle.std.proofs.lemmas.List.{take-append-drop, take-append-le, take_at, take_rest, drop_more, take_all, length-drop, at_drop_all, get_or_append_left}
use Rattle.std.proofs.lemmas.Bool.{cases_lt, eqb-true, eqb-false}
use Rattle.std.specs.List.{IsFirstMatchOrLen}
use Rattle.listing.specs.Lines.{lines, line_of, ended_line, IsFirstLine}

-- no line feed in it
abbrev pub Clean : List ℕ → Type 0
Clean [] = Unit {0}
Clean (c ∷ cs) = (c ≡ 10 → ⊥) × Clean cs

pub clean_append : (xs ys : List ℕ) → Clean xs → Clean ys → Clean (xs ++ ys)
clean_append [] ys p q = q
clean_append (x ∷ xs) ys p q = (p.0, clean_append xs ys p.1 q)

clean_take : (xs : List ℕ) (e : ℕ) → e ≤ length xs → ((k : ℕ) → k < e → get_or xs k 0 ≡ 10 → ⊥) → Clean (take e xs)
clean_take xs zero h f = tt
clean_take [] (suc e) h f = tt
clean_take (x ∷ xs) (suc e) h f = (f 0 (omega arith), clean_take xs e (omega arith) (λ k l. f (suc k) (omega arith)))

-- a line, and what follows it
pub lines_cut : (t rest : List ℕ) → Clean t → lines (t ++ 10 ∷ rest) ≡ record { text = t; ended = true } ∷ lines rest
lines_cut [] rest p = refl
lines_cut (c ∷ cs) rest p = rw (ne_eqb c 10 p.0, lines_cut cs rest p.1)

-- a text that ends without a line feed
lines_open : (c : ℕ) (cs : List ℕ) → Clean (c ∷ cs) → lines (c ∷ cs) ≡ record { text = c ∷ cs; ended = false } ∷ []
lines_open c [] p = rw (ne_eqb c 10 p.0)
lines_open c (d ∷ ds) p = rw (ne_eqb c 10 p.0, lines_open d ds p.1)

module _ (xs : List ℕ) (e : ℕ) (free : (k : ℕ) → k < e → get_or xs k 0 ≡ 10 → ⊥) where
  pub cut_at : e < length xs → get_or xs e 0 ≡ 10 → lines xs ≡ record { text = take e xs; ended = true } ∷ lines (drop (e + 1) xs)
  cut_at h f =
      let s : take e xs ++ 10 ∷ drop (e + 1) xs ≡ xs = ap (λ z. take e xs ++ z ∷ drop (e + 1) xs) (sym f) ∙ (ap (λ z. take e xs ++ z) (sym (drop_more xs e 0 h)) ∙ take-append-drop e xs) in
      ap lines (sym s) ∙ lines_cut (take e xs) (drop (e + 1) xs) (clean_take xs e (omega arith) free)

pub cut_none : (xs : List ℕ) → 0 < length xs → ((k : ℕ) → k < length xs → get_or xs k 0 ≡ 10 → ⊥) → lines xs ≡ record { text = xs; ended = false } ∷ []
cut_none [] h f = absurd (omega arith)
cut_none (x ∷ xs) h f =
    let p = clean_take xs (length xs) (omega arith) (λ k l. f (suc k) (omega arith)) in
    lines_open x xs (f 0 (omega arith), rw (take_all (length xs) xs (omega arith)) at p)

pub lines_none : (xs : List ℕ) → length xs ≡ 0 → lines xs ≡ []
lines_none [] h = refl
lines_none (x ∷ xs) h = absurd (omega arith)

pub ended_is : (p : List ℕ) → get_or p (length p - 1) 0 ≡ 10 → line_of p ≡ ended_line (take (length p - 1) p)
ended_is p e = rw (eq-eqb _ _ e)

open_is : (p : List ℕ) → (get_or p (length p - 1) 0 ≡ 10 → ⊥) → line_of p ≡ record { text = p; ended = false }
open_is p ne = rw (ne_eqb _ _ ne)

-- a text cut after its first line feed, which stands at i, or at its end where it has none
pub first_line : (text line more : List ℕ) (i : ℕ) → text ≡ line ++ more → length line ≡ min (i + 1) (length text) → 0 < length text → IsFirstMatchOrLen (λ c. eqb c 10) text i
    → IsFirstLine text line (take (length text - length line) (drop (length line) text))
first_line text line more i et el pos stops = ⊎_elim fed unfed (cases_lt i (length text))
  where
    front : take (length line) text ≡ line
    front = ap (take (length line)) et ∙ take_at line more (length line) refl

    after : take (length text - length line) (drop (length line) text) ≡ drop (length line) text
    after = take_rest text (length line)

    shorter : length (take (length text - length line) (drop (length line) text)) < length text
    shorter = let a = ap length after ∙ length-drop (length line) text in omega (arith, el)

    fed : i < length text → IsFirstLine text line (take (length text - length line) (drop (length line) text))
    fed lt =
        let e : length line ≡ i + 1 = omega (arith, el) in
        let free : (k : ℕ) → k < i → get_or text k 0 ≡ 10 → ⊥ = λ k l. eqb-false _ _ (stops.0 k 0 (omega arith) l) in
        let feed : get_or text i 0 ≡ 10 = eqb-true _ _ (stops.1 lt 0) in
        let m : length line - 1 ≡ i = omega arith in
        let g : get_or line (length line - 1) 0 ≡ 10 = ap (λ z. get_or line z 0) m ∙ (sym (get_or_append_left line more 0 i (omega arith)) ∙ (ap (λ z. get_or z i 0) (sym et) ∙ feed)) in
        let t : take (length line - 1) line ≡ take i text = ap (λ z. take z line) m ∙ (sym (take-append-le i line more (omega arith)) ∙ ap (take i) (sym et)) in
        let d : drop (i + 1) text ≡ drop (length line) text = ap (λ z. drop z text) (sym e) in
        (cut_at text i free lt feed ∙ (ap (λ z. ended_line z ∷ lines (drop (i + 1) text)) (sym t) ∙ (ap (λ z. z ∷ lines (drop (i + 1) text)) (sym (ended_is line g)) ∙ ap (λ z. line_of line ∷ lines z) (d ∙ sym after))), shorter)

    unfed : length text ≤ i → IsFirstLine text line (take (length text - length line) (drop (length line) text))
    unfed ge =
        let e : length line ≡ length text = omega (arith, el) in
        let whole : line ≡ text = sym front ∙ take_all (length line) text (omega arith) in
        let free : (k : ℕ) → k < length text → get_or text k 0 ≡ 10 → ⊥ = λ k l. eqb-false _ _ (stops.0 k 0 (omega arith) (omega arith)) in
        let none : lines (drop (length line) text) ≡ [] = at_drop_all lines text (length line) (omega arith) in
        (cut_none text pos free ∙ (ap (λ z. z ∷ []) (sym (ap line_of whole ∙ open_is text (free (length text - 1) (omega arith)))) ∙ ap (λ z. line_of line ∷ z) (sym (ap lines after ∙ none))), shorter)
