use Rattle.std.proofs.Common.{◌≡◌, ◌*◌, take}
use Rattle.listing.specs.Digits.{digits_of}
use Rattle.listing.proofs.digit.write_row.Given as goal

abbrev pub invariant-loop-i : goal.invariant-loop-i
invariant-loop-i l = take (2 * l.i) l.out ≡ digits_of (take l.i l.row)
