-- A suite whose blocks stand for the numbers of n bytes: a row is the number that it writes, the highest byte first. Both suites
-- are one of this kind; each states only its arithmetic, its cipher and its keys. Assumes nothing.
use Rattle.std.specs.Prelude.{◌≡◌, ℕ, ◌*◌, ◌%◌, ◌^◌, ◌≤◌, Bool, true, false, List, length}
use Rattle.std.proofs.Common.{sym, ap, ◌∙◌, mod-lt, mod-eq_of_lt, pow_pos}
use Rattle.std.specs.Int.Digits.{number_from_digits}
use Rattle.arith.specs.Field.{Elem, Field}
use Rattle.arith.specs.Rows.{Bytes, Row, bytes_of, zeros}
use Rattle.arith.specs.Elems.{elem_path, below, inside}
use Rattle.arith.proofs.Rows.{row_bytes_of, number_bytes_of, bytes_of_number, bytes_of_xor}
use Rattle.ciphersuite.specs.Meaning.{Meaning}

-- the number x, as far as n bytes hold it
abbrev pub at : (n : ℕ) → ℕ → Elem (8 * n)
at n x = (x % 2 ^ (8 * n), inside (8 * n) (x % 2 ^ (8 * n)) (mod-lt x (pow_pos (8 * n))))

-- the number that a row of n bytes writes
abbrev pub read_at : (n : ℕ) → List ℕ → Elem (8 * n)
read_at n s = at n (number_from_digits 256 s)

-- A cipher on rows of n bytes, under keys of the lengths that it takes: it takes rows to rows, and no two rows to one.
pub record Cipher (n : ℕ) (takes : ℕ → Bool) (cipher : List ℕ → List ℕ → List ℕ) : Type 0 where
  pub most : (k : ℕ) → takes k ≡ true → k ≤ 32
  pub rows : (ck s : List ℕ) → Bytes ck → Row n s → Row n (cipher ck s)
  pub apart : (ck a b : List ℕ) → Bytes ck → Row n a → Row n b → cipher ck a ≡ cipher ck b → a ≡ b

-- Keys that tell the bytes they came from.
pub record Telling (n : ℕ) (takes : ℕ → Bool) (K : Type 0) : Type 0 where
  pub cipher_key : K → List ℕ
  pub cipher_taken : (k : K) → takes (length (cipher_key k)) ≡ true
  pub cipher_bytes : (k : K) → Bytes (cipher_key k)
  pub hash_key : K → List ℕ
  pub hash_row : (k : K) → Row n (hash_key k)
  pub hash_some : (k : K) → zeros (hash_key k) ≡ false

module _ (n : ℕ) where
  pub row_back : (e : Elem (8 * n)) → read_at n (bytes_of n e.0) ≡ e
  row_back e =
      let l = mod-eq_of_lt (below (8 * n) e) in
      elem_path (8 * n) (ap (λ x. x % 2 ^ (8 * n)) (number_bytes_of n e.0 ∙ l) ∙ l)

  -- the element whose number is j
  pub number_back : (e : Elem (8 * n)) (j : ℕ) → e.0 ≡ j → e ≡ read_at n (bytes_of n j)
  number_back e j h = sym (row_back e) ∙ ap (λ x. read_at n (bytes_of n x)) h

  abbrev pub over : {c : ℕ} → 8 ≤ n → n ≤ 32 → Field (8 * n) c → {B K : Type 0} → (B → Elem (8 * n)) →
      (takes : ℕ → Bool) (cipher : List ℕ → List ℕ → List ℕ) → Cipher n takes cipher → Telling n takes K → Meaning B K
  over low high f means takes cipher good keys = record {
    size = n;
    low = low;
    high = high;
    elem = Elem (8 * n);
    means = means;
    field = f.domain;
    row = λ e. bytes_of n e.0;
    reads = read_at n;
    row_is = λ e. row_bytes_of n e.0;
    reads_row = row_back;
    row_reads = bytes_of_number n;
    row_add = λ a b. ap (bytes_of n) (f.add_is a b) ∙ bytes_of_xor n a.0 b.0;
    zero_is = number_back f.domain.zero 0 f.zero_is;
    one_is = number_back f.domain.one 1 f.one_is;
    takes = takes;
    takes_most = good.most;
    cipher = λ ck e. read_at n (cipher ck (bytes_of n e.0));
    one_to_one = λ ck ok h a b e.
        let ra = row_bytes_of n a.0 in
        let rb = row_bytes_of n b.0 in
        let same = sym (bytes_of_number n _ (good.rows ck _ h ra)) ∙ ap (λ x. bytes_of n x.0) e ∙ bytes_of_number n _ (good.rows ck _ h rb) in
        sym (row_back a) ∙ ap (read_at n) (good.apart ck _ _ h ra rb same) ∙ row_back b;
    cipher_key = keys.cipher_key;
    cipher_taken = keys.cipher_taken;
    cipher_bytes = keys.cipher_bytes;
    hash_key = keys.hash_key;
    hash_row = keys.hash_row;
    hash_some = keys.hash_some;
  }
