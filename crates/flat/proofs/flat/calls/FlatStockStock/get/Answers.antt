use Rattle.std.proofs.Common.{ℕ, ◌<◌, length, vec_items, sym, ap, ◌∙◌}
use Rattle.stock.specs.Slots.{bytes_in}
use Rattle.stock.proofs.Rows.{slots_long}
use Rattle.stock.proofs.Allowed.{through, got}
use Rattle.flat.specs.Flats.{flat_count}
use Rattle.flat.specs.FlatHeld.{flat_held}
use Rattle.flat.specs.FlatArea.{body_is}
use Rattle.flat.proofs.flat.calls.FlatStockStock.get.Goals as goal

pub frame-requires : goal.frame-requires
frame-requires c =
    let s = c.args.self.now in
    let u = got (flat_held s) c.args.slot _ c.condition.ensures _ _ c.get.ensures _ _ c.in_ok-allows_get.ensures in
    rw s.count (rw slots_long at u.0.below)

pub returns-clause-area : goal.returns-clause-area
returns-clause-area c =
    let s = c.args.self.now in
    let i : ℕ = c.args.slot in
    let u = got (flat_held s) i _ c.condition.ensures _ _ c.get.ensures _ _ c.in_ok-allows_get.ensures in
    let h : i < flat_count s.size.bytes (length (vec_items s.area)) = rw slots_long at u.0.below in
    c.copy_from_slice.ensures.after ∙ (c.frame.ensures.bytes ∙ (body_is _ _ _ _ i h _ u.0.full ∙ sym (through _ _ _ u.2 ∙ ap bytes_in u.0.full)))
