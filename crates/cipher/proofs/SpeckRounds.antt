-- Speck: a step of each recursion
use Rattle.std.proofs.Common.{◌≡◌, ℕ, suc, ◌+◌, ◌*◌, ◌<◌, ◌≤◌, List, [], ◌∷◌, ◌++◌, length, get_or, take, drop, refl, ◌∙◌, add-zero, lit<}
use Rattle.std.proofs.lemmas.List.{get_or-take, get_or-drop, at_drop_more, at_drop_all}
use Rattle.std.specs.Simd.{first_chunks}
use Rattle.cipher.proofs.Places.{chunk}
use Rattle.cipher.specs.Speck.{mixed, turned, word, word_bytes, keys_from, rounds}

pub keys_none : (i k a b c : ℕ) → keys_from 0 i k a b c ≡ []
unfolding keys_from
keys_none i k a b c = refl

pub keys_more : (n i k a b c : ℕ) → keys_from (suc n) i k a b c ≡ k ∷ keys_from n (i + 1) (turned k (mixed a k i)) b c (mixed a k i)
unfolding keys_from
keys_more n i k a b c = refl

pub rounds_all : (ks : List ℕ) (i x y : ℕ) → length ks ≤ i → rounds (drop i ks) x y ≡ word_bytes y ++ word_bytes x
unfolding rounds
rounds_all ks i x y h = at_drop_all (λ ks. rounds ks x y) ks i h

pub rounds_more : (ks : List ℕ) (i x y : ℕ) → i < length ks
    → rounds (drop i ks) x y ≡ rounds (drop (i + 1) ks) (mixed x y (get_or ks i 0)) (turned y (mixed x y (get_or ks i 0)))
unfolding rounds
rounds_more ks i x y h = at_drop_more (λ ks. rounds ks x y) ks i 0 h

-- the word of a row that is cut into chunks of four bytes
pub word_of_chunk : (s : List ℕ) (chunks : List (List ℕ)) (m i : ℕ) → chunks ≡ first_chunks 4 m s → i < m → word (get_or chunks i []) 0 ≡ word s (4 * i)
word_of_chunk s chunks m i e h =
    let c : get_or chunks i [] ≡ take 4 (drop (4 * i) s) = rw e (chunk 4 m s i h) in
    let at : (k : ℕ) → k < 4 → get_or (get_or chunks i []) k 0 ≡ get_or s (4 * i + k) 0 = λ k l. rw c (get_or-take 4 (drop (4 * i) s) k 0 l ∙ get_or-drop (4 * i) s k 0) in
    rw (at 0 (lit< tt), at 1 (lit< tt), at 2 (lit< tt), at 3 (lit< tt), add-zero) refl
