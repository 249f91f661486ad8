use Rattle.std.proofs.Common.{sym, ◌∙◌}
use Rattle.stock.proofs.Rows.{slots_long}
use Rattle.flat.proofs.flat.calls.FlatStockStock.slots.Goals as goal

pub returns : goal.returns
returns c = c.args.self.now.count ∙ sym (slots_long _ _)
