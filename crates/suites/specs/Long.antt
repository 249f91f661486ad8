-- The long suite: rows of 16 bytes, the field of 2 ^ 128 elements, and AES. Assumes nothing.
use Rattle.std.specs.Prelude.{ℕ, List}
use Rattle.std.proofs.Common.{lit≤}
use Rattle.arith.specs.Fields.{field128}
use Rattle.cipher.specs.declared.aes.Aes.{Aes}
use Rattle.cipher.specs.Aes.{aes, aes_takes}
use Rattle.cipher.specs.AesKey.{aes_key}
use Rattle.cipher.specs.AesApart.{aes_most, aes_row, aes_one_to_one}
use Rattle.ciphersuite.specs.Meaning.{Meaning}
use Rattle.suites.specs.declared.keys.Keys.{Keys}
use Rattle.suites.specs.Numbers.{Cipher, Telling, over, read_at}
use Rattle.suites.specs.Keys.{cipher_of, telling}
use Rattle.suites.specs.Suites.{SuiteOf, suite_of}

pub aes_cipher : Cipher 16 aes_takes aes
aes_cipher = cipher_of 16 aes_takes aes aes_most aes_row aes_one_to_one

abbrev pub long_telling : Telling 16 aes_takes (Keys Aes 16)
long_telling = telling 16 aes_takes aes_key (λ a. a.taken) (λ a. a.bytes)

abbrev pub long : Meaning (List ℕ) (Keys Aes 16)
long = over 16 (lit≤ tt) (lit≤ tt) field128 (read_at 16) aes_takes aes aes_cipher long_telling

pub long_rows : SuiteOf 16 0x87 aes_takes aes long
long_rows = suite_of 16 (lit≤ tt) (lit≤ tt) field128 (read_at 16) aes_takes aes aes_cipher long_telling
