use Rattle.std.proofs.Common.{◌≡◌, ◌*◌, length, ◌∙◌}
use Rattle.listing.proofs.Pairs.{write_more}
use Rattle.listing.proofs.digit.write_row.Goals as goal

pub loop-i-preserved : goal.loop-i-preserved
loop-i-preserved c =
    let l : length c.loop-i.out ≡ 2 * length c.args.row.now = c.loop-i.auto.out ∙ c.requires in
    write_more _ _ _ c.loop-i.i c.loop-i-test.true l (c.copy_from_slice.ensures.after ∙ c.digits.ensures) c.loop-i.invariant
