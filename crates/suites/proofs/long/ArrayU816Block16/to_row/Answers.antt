use Rattle.std.proofs.Common.{◌≡◌, length, sym, ◌∙◌, arith}
use Rattle.arith.proofs.Rows.{bytes_of_number}
use Rattle.arith.proofs.Places.{fitted_same}
use Rattle.suites.proofs.long.ArrayU816Block16.to_row.Goals as goal

pub returns : goal.returns
returns c =
    let long : length c.args.self ≡ 16 = omega arith in
    c.spread.ensures.row ∙ fitted_same 16 c.args.self long ∙ sym (bytes_of_number 16 c.args.self (long, c.spread.ensures.bytes))
