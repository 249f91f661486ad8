-- The key of an `Aes`. Assumes nothing.
use Rattle.std.specs.Prelude.{ℕ, List}
use Rattle.cipher.specs.declared.aes.Aes.{Aes}
use Rattle.cipher.specs.KeyBytes.{bytes_kept}

-- the bytes that it was made from
abbrev pub aes_key : Aes → List ℕ
aes_key a = bytes_kept a.key
