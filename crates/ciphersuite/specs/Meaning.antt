-- What a suite is: blocks as rows of bytes, their arithmetic, a cipher, and keys. Assumes nothing.
use Rattle.std.specs.Prelude.{◌≡◌, ℕ, ◌≤◌, Bool, true, false, List, length}
use Rattle.arith.specs.Domain.{Domain}
use Rattle.arith.specs.Rows.{Bytes, Row, bytes_of, xor_rows, zeros}

-- What every suite shows of its blocks, of type B, and of its accepted keys, of type K. Nothing else of a suite is used above it.
pub record Meaning (B K : Type 0) : Type 1 where
  -- the length of a block in bytes
  pub size : ℕ
  pub low : 8 ≤ size
  pub high : size ≤ 32
  -- the values that blocks stand for, and their arithmetic with its laws
  pub elem : Type 0
  pub means : B → elem
  pub field : Domain elem
  -- each value has its row of bytes, and each row its value
  pub row : elem → List ℕ
  pub reads : List ℕ → elem
  pub row_is : (e : elem) → Row size (row e)
  pub reads_row : (e : elem) → reads (row e) ≡ e
  pub row_reads : (s : List ℕ) → Row size s → row (reads s) ≡ s
  -- the sum is the XOR of the rows, zero is all zeros, and the number 1 is neutral in products
  pub row_add : (a b : elem) → row (field.add a b) ≡ xor_rows (row a) (row b)
  pub zero_is : field.zero ≡ reads (bytes_of size 0)
  pub one_is : field.one ≡ reads (bytes_of size 1)
  -- the cipher, of cipher-key bytes and a block alone; which lengths of cipher keys are taken; under one key distinct blocks
  -- give distinct blocks
  pub takes : ℕ → Bool
  pub takes_most : (n : ℕ) → takes n ≡ true → n ≤ 32
  pub cipher : List ℕ → elem → elem
  pub one_to_one : (key : List ℕ) → takes (length key) ≡ true → Bytes key → (a b : elem) → cipher key a ≡ cipher key b → a ≡ b
  -- the bytes that accepted keys came from: a cipher key of a length that is taken, and a hash key of one block that is not zero
  pub cipher_key : K → List ℕ
  pub cipher_taken : (k : K) → takes (length (cipher_key k)) ≡ true
  pub cipher_bytes : (k : K) → Bytes (cipher_key k)
  pub hash_key : K → List ℕ
  pub hash_row : (k : K) → Row size (hash_key k)
  pub hash_some : (k : K) → zeros (hash_key k) ≡ false

-- the number j as a block: the highest byte first, and zeros in front
abbrev pub numbered : {B K : Type 0} (m : Meaning B K) → ℕ → m.elem
numbered m j = m.reads (bytes_of m.size j)
