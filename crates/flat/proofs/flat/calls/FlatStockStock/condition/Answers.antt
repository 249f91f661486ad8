use Rattle.std.proofs.Common.{vec_items, sym, ◌∙◌}
use Rattle.std.proofs.lemmas.Bool.{le-ltb}
use Rattle.stock.specs.BadLists.{bad_list}
use Rattle.stock.proofs.Rows.{slots_long}
use Rattle.flat.specs.FlatArea.{told_condition}
use Rattle.flat.proofs.flat.calls.FlatStockStock.condition.Goals as goal

pub returns-then-slot-self : goal.returns-then-slot-self
returns-then-slot-self c = let n = rw c.args.self.now.count at c.if-slot-self.true in rw (slots_long, le-ltb _ _ n)

pub returns : goal.returns
returns c =
    let s = c.args.self.now in
    let t = told_condition s.size.bytes _ (bad_list s.bad) (vec_items s.area) c.args.slot (rw s.count at c.if-slot-self.false) in
    (rw (c.has.ensures, c.mark.ensures) at c.condition_of.ensures) ∙ sym t
