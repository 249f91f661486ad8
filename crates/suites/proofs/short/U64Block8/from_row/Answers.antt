use Rattle.suites.proofs.Meant.{word_meant}
use Rattle.suites.proofs.short.U64Block8.from_row.Goals as goal

pub returns : goal.returns
returns c = word_meant c.args.row.now _ c.from_row.ensures
