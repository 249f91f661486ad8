use Rattle.std.proofs.Common.{sym}
use Rattle.arith.specs.Fields.{field64}
use Rattle.arith.specs.Elems.{elem_path}
use Rattle.suites.proofs.short.U64Block8.zero.Goals as goal

pub returns : goal.returns
returns c = elem_path 64 (sym field64.zero_is)
