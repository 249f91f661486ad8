-- The bytes of a key in a row of 32. Assumes nothing.
use Rattle.std.specs.Prelude.{ℕ, List, length, take}
use Rattle.arith.specs.Rows.{fitted}
use Rattle.cipher.specs.declared.key_bytes.KeyBytes.{KeyBytes}

-- a key of at most 32 bytes as it is kept: zeros behind it, and its length beside it
abbrev pub kept : List ℕ → KeyBytes
kept s = record { row = fitted 32 s; len = length s }

-- the bytes that are kept
abbrev pub bytes_kept : KeyBytes → List ℕ
bytes_kept k = take k.len k.row
