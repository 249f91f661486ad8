-- What rows and words stand for. Assumes nothing.
use Rattle.std.proofs.Common.{◌≡◌, ℕ, ◌*◌, ◌%◌, ◌^◌, ◌<◌, List, sym, ap, ◌∙◌, ap₂, mod-lt, mod-eq_of_lt, pow_pos}
use Rattle.std.specs.Int.Digits.{number_from_digits}
use Rattle.arith.specs.Field.{Elem, product}
use Rattle.arith.specs.Rows.{bytes_of, value}
use Rattle.arith.specs.Elems.{elem_path}
use Rattle.arith.specs.Fields.{field64}
use Rattle.suites.specs.Numbers.{at, read_at, row_back}

-- a row that writes the number of an element stands for it
pub meant : (n x : ℕ) (e : Elem (8 * n)) (s : List ℕ) → s ≡ bytes_of n x → e.0 ≡ x → read_at n s ≡ e
meant n x e s es ex = ap (read_at n) es ∙ ap (λ z. read_at n (bytes_of n z)) (sym ex) ∙ row_back n e

-- a product of words
pub product_meant : (a b r : ℕ) → a < 2 ^ 64 → b < 2 ^ 64 → r < 2 ^ 64 → r ≡ product 64 0x1b a b → at 8 r ≡ field64.domain.mul (at 8 a) (at 8 b)
product_meant a b r la lb lr e =
    elem_path 64 (mod-eq_of_lt lr ∙ e ∙ ap₂ (product 64 0x1b) (sym (mod-eq_of_lt la)) (sym (mod-eq_of_lt lb)) ∙ sym (field64.mul_is (at 8 a) (at 8 b)))

-- a word that is read of a row
pub word_meant : (s : List ℕ) (r : ℕ) → r ≡ value 64 s → at 8 r ≡ read_at 8 s
word_meant s r e = elem_path 64 (ap (λ x. x % 2 ^ 64) e ∙ mod-eq_of_lt (mod-lt (number_from_digits 256 s) (pow_pos 64)))
