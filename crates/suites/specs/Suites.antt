-- What a suite makes of rows of bytes, whatever the form of its blocks and keys. Assumes nothing.
use Rattle.std.specs.Prelude.{◌≡◌, ℕ, ◌*◌, ◌≤◌, Bool, List}
use Rattle.std.proofs.Common.{ap, ◌∙◌, refl}
use Rattle.arith.specs.Field.{Elem, Field, product}
use Rattle.arith.specs.Rows.{Bytes, Row, bytes_of, value}
use Rattle.arith.proofs.Rows.{row_bytes_of, bytes_of_number}
use Rattle.ciphersuite.specs.Meaning.{Meaning}
use Rattle.suites.specs.Numbers.{Cipher, Telling, over, read_at}

-- A suite of rows of n bytes: which lengths of cipher keys it takes, that its products are those of the field in which c is added
-- where doubling drops a 1, and which cipher it has.
pub record SuiteOf (n c : ℕ) (takes : ℕ → Bool) (enciphered : List ℕ → List ℕ → List ℕ) {B K : Type 0} (m : Meaning B K) : Type 0 where
  pub size : m.size ≡ n
  pub lengths : (k : ℕ) → m.takes k ≡ takes k
  pub products : (a b : List ℕ) → m.row (m.field.mul (m.reads a) (m.reads b)) ≡ bytes_of n (product (8 * n) c (value (8 * n) a) (value (8 * n) b))
  pub ciphers : (key block : List ℕ) → Bytes key → Row n block → m.row (m.cipher key (m.reads block)) ≡ enciphered key block

-- a suite of numbers is one of its rows
pub suite_of : (n : ℕ) {c : ℕ} (low : 8 ≤ n) (high : n ≤ 32) (f : Field (8 * n) c) {B K : Type 0} (means : B → Elem (8 * n)) (takes : ℕ → Bool)
    (enciphered : List ℕ → List ℕ → List ℕ) (good : Cipher n takes enciphered) (keys : Telling n takes K) →
    SuiteOf n c takes enciphered (over n low high f means takes enciphered good keys)
suite_of n low high f means takes enciphered good keys = record {
  size = refl;
  lengths = λ k. refl;
  products = λ a b. ap (bytes_of n) (f.mul_is (read_at n a) (read_at n b));
  ciphers = λ key block h r. bytes_of_number n _ (good.rows key _ h (row_bytes_of n _)) ∙ ap (enciphered key) (bytes_of_number n block r);
}
