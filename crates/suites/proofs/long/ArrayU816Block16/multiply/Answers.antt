use Rattle.arith.specs.Fields.{field128}
use Rattle.suites.proofs.Meant.{meant}
use Rattle.suites.proofs.long.ArrayU816Block16.multiply.Goals as goal

pub returns : goal.returns
returns c = meant 16 _ _ _ c.multiply_rows.ensures (field128.mul_is _ _)
