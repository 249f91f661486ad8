use Rattle.arith.specs.Fields.{field128}
use Rattle.suites.proofs.Meant.{meant}
use Rattle.suites.proofs.long.ArrayU816Block16.add.Goals as goal

pub returns : goal.returns
returns c = meant 16 _ _ _ c.add_rows.ensures (field128.add_is _ _)
