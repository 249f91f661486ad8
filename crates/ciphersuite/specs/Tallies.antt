-- How often products and squares were asked for. Assumes nothing.
use Rattle.std.specs.Prelude.{ℕ, ◌+◌, ◌%◌, ◌^◌, ◌<◌}
use Rattle.ciphersuite.specs.declared.tally.Tally.{Tally}

-- the two tallies of an arithmetic, which run modulo 2 ^ 64
pub record Tallies : Type 0 where
  pub products : ℕ
  pub squarings : ℕ

abbrev pub Within : Tallies → Type 0
Within t = (t.products < 2 ^ 64) × (t.squarings < 2 ^ 64)

-- nothing was asked for
abbrev pub none_asked : Tallies
none_asked = record { products = 0; squarings = 0 }

-- p products and s squares more
abbrev pub raised : ℕ → ℕ → Tallies → Tallies
raised p s t = record { products = (t.products + p) % 2 ^ 64; squarings = (t.squarings + s) % 2 ^ 64 }

-- the tallies that a `Tally` keeps
abbrev pub tallied : Tally → Tallies
tallied t = record { products = t.products % 2 ^ 64; squarings = t.squarings % 2 ^ 64 }
