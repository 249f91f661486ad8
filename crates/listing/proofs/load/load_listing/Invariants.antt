use Rattle.std.proofs.Common.{◌≡◌, ◌+◌, ◌^◌, ◌≤◌, length}
use Rattle.listing.specs.Lines.{lines}
use Rattle.listing.specs.Loadings.{loading}
use Rattle.listing.proofs.load.load_listing.Given as goal

-- what is left to load gives the whole
abbrev pub invariant-loop-line : goal.invariant-loop-line
invariant-loop-line g l =
    (loading g.R.Loadable.block (g.R.Loadable.book l.reel) l.loaded l.low (lines l.rest)
    ≡ loading g.R.Loadable.block (g.R.Loadable.book l.initial.reel) 0 0 (lines l.text))
    × (length l.row ≡ (g.R.Loadable.book l.reel).held.frame)
    × (l.loaded + length l.rest ≤ length l.text)
    × (l.low ≤ 2 ^ 32)
    × (g.R.Loadable.rest l.reel ≡ g.R.Loadable.rest l.initial.reel)

abbrev pub decreases-loop-line : goal.decreases-loop-line
decreases-loop-line g l = length l.rest
