use Rattle.std.proofs.Common.{◌≡◌, drop}
use Rattle.stock.specs.Sizes.{listed}
use Rattle.stock.specs.Places.{numbers}
use Rattle.stock.proofs.bad.list.stands_in.Given as goal

abbrev pub invariant-loop-place : goal.invariant-loop-place
invariant-loop-place l = listed (numbers (drop l.place-index l.places)) l.slot ≡ listed (numbers l.places) l.slot
