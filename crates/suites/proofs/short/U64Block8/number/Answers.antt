use Rattle.std.proofs.Common.{sym, refl, mod-eq_of_lt}
use Rattle.arith.specs.Rows.{bytes_of}
use Rattle.suites.specs.Numbers.{at}
use Rattle.suites.proofs.Meant.{meant}
use Rattle.suites.proofs.short.U64Block8.number.Goals as goal

pub returns : goal.returns
returns c =
    let j = c.args.j in
    sym (meant 8 j (at 8 j) (bytes_of 8 j) refl (mod-eq_of_lt c.ranges.j.fits))
