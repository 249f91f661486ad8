-- The key of a `Speck`. Assumes nothing.
use Rattle.std.specs.Prelude.{ℕ, List}
use Rattle.cipher.specs.declared.speck.Speck.{Speck}

-- the bytes that it was made from
abbrev pub speck_key : Speck → List ℕ
speck_key s = s.key
