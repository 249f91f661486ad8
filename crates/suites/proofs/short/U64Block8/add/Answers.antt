use Rattle.std.proofs.Common.{sym, ◌∙◌}
use lib.Bits.{xor_mod}
use Rattle.arith.specs.Elems.{elem_path}
use Rattle.arith.specs.Fields.{field64}
use Rattle.suites.proofs.short.U64Block8.add.Goals as goal

pub returns : goal.returns
returns c = elem_path 64 (xor_mod c.args.self c.args.other 64 ∙ sym (field64.add_is _ _))
