use Rattle.std.proofs.Common.{◌≡◌, ◌*◌, ◌++◌, take, drop}
use Rattle.listing.specs.Digits.{all_hex, row_of}
use Rattle.listing.proofs.digit.read_row.Given as goal

abbrev pub invariant-loop-i : goal.invariant-loop-i
invariant-loop-i l =
    (all_hex (drop (2 * l.i) l.text) ≡ all_hex l.text)
    × (take l.i l.row ++ row_of (drop (2 * l.i) l.text) ≡ row_of l.text)
