-- A key that is kept in a row of 32 bytes. Assumes nothing.
use Rattle.std.proofs.Common.{◌≡◌, ℕ, ◌≤◌, true, List, length}
use Rattle.arith.proofs.Places.{take_fitted}
use Rattle.cipher.specs.KeyBytes.{kept, bytes_kept}
use Rattle.cipher.specs.Aes.{aes_takes}
use Rattle.cipher.specs.AesApart.{aes_most}

pub kept_whole : (s : List ℕ) → length s ≤ 32 → bytes_kept (kept s) ≡ s
kept_whole s h = take_fitted 32 s h

-- a key that AES takes
pub kept_taken : (key : List ℕ) → aes_takes (length key) ≡ true → bytes_kept (kept key) ≡ key
kept_taken key h = kept_whole key (aes_most (length key) h)
