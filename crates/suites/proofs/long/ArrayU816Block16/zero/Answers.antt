use Rattle.std.proofs.Common.{sym}
use Rattle.arith.specs.Fields.{field128}
use Rattle.arith.specs.Elems.{elem_path}
use Rattle.suites.proofs.long.ArrayU816Block16.zero.Goals as goal

pub returns : goal.returns
returns c = elem_path 128 (sym field128.zero_is)
