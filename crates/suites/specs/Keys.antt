-- The keys of a suite, as its meaning speaks of them. Assumes nothing.
use Rattle.std.specs.Prelude.{◌≡◌, ℕ, ◌≤◌, Bool, true, List, length}
use Rattle.arith.specs.Rows.{Bytes, Row, OneToOne}
use Rattle.suites.specs.declared.keys.Keys.{Keys}
use Rattle.suites.specs.Numbers.{Cipher, Telling}

module _ (n : ℕ) (takes : ℕ → Bool) where
  -- a cipher with what every block cipher shows
  abbrev pub cipher_of : (enciphered : List ℕ → List ℕ → List ℕ) → ((k : ℕ) → takes k ≡ true → k ≤ 32) →
      ((key block : List ℕ) → Bytes key → Row n block → Row n (enciphered key block)) →
      ((key : List ℕ) → Bytes key → OneToOne n (enciphered key)) → Cipher n takes enciphered
  cipher_of enciphered most rows apart = record { most = most; rows = rows; apart = λ ck a b h ra rb e. apart ck h a b ra rb e }

  -- keys of a cipher whose values tell their key
  abbrev pub telling : {C : Type 0} (key_of : C → List ℕ) → ((c : C) → takes (length (key_of c)) ≡ true) → ((c : C) → Bytes (key_of c)) →
      Telling n takes (Keys C n)
  telling key_of taken bytes = record {
    cipher_key = λ k. key_of k.cipher;
    cipher_taken = λ k. taken k.cipher;
    cipher_bytes = λ k. bytes k.cipher;
    hash_key = λ k. k.hash.row;
    hash_row = λ k. (k.hash.long, k.hash.bytes);
    hash_some = λ k. k.hash.some;
  }
