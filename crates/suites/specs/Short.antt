-- The short suite: words of eight bytes, the field of 2 ^ 64 elements, and Speck64/128. Assumes nothing.
use Rattle.std.specs.Prelude.{ℕ}
use Rattle.std.proofs.Common.{lit≤}
use Rattle.arith.specs.Fields.{field64}
use Rattle.cipher.specs.declared.speck.Speck.{Speck}
use Rattle.cipher.specs.Speck.{speck, speck_takes}
use Rattle.cipher.specs.SpeckKey.{speck_key}
use Rattle.cipher.specs.SpeckApart.{speck_most, speck_taken, speck_row, speck_one_to_one}
use Rattle.ciphersuite.specs.Meaning.{Meaning}
use Rattle.suites.specs.declared.keys.Keys.{Keys}
use Rattle.suites.specs.Numbers.{Cipher, Telling, over, at}
use Rattle.suites.specs.Keys.{cipher_of, telling}
use Rattle.suites.specs.Suites.{SuiteOf, suite_of}

pub speck_cipher : Cipher 8 speck_takes speck
speck_cipher = cipher_of 8 speck_takes speck speck_most (λ key block _ _. speck_row key block) speck_one_to_one

abbrev pub short_telling : Telling 8 speck_takes (Keys Speck 8)
short_telling = telling 8 speck_takes speck_key (λ s. speck_taken (speck_key s) s.within) (λ s. s.bytes)

abbrev pub short : Meaning ℕ (Keys Speck 8)
short = over 8 (lit≤ tt) (lit≤ tt) field64 (at 8) speck_takes speck speck_cipher short_telling

pub short_rows : SuiteOf 8 0x1b speck_takes speck short
short_rows = suite_of 8 (lit≤ tt) (lit≤ tt) field64 (at 8) speck_takes speck speck_cipher short_telling
