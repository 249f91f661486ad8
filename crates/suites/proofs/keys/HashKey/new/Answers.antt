use Rattle.stock.proofs.Allowed.{ok_answers}
use Rattle.suites.proofs.Making.{KeptHash, kept_hash}
use Rattle.suites.proofs.keys.HashKey.new.Given.{Over}
use Rattle.suites.proofs.keys.HashKey.new.Goals as goal

kept : (g : Over) (c : goal.After-spread g) → KeptHash g.row.N c.args.bytes.now c.spread.result
kept g c =
    let e = (ok_answers _ _ _ c.in_ok-check_hash_key.ensures).0 in
    kept_hash g.row.N c.args.bytes.now _ e c.spread.ensures.bytes c.spread.ensures.row

pub invariant_of-result : goal.invariant_of-result
invariant_of-result g c = let k = kept g c in record { long = k.long; bytes = k.bytes; some = k.some }

pub returns : goal.returns
returns g c =
    let e = (ok_answers _ _ _ c.in_ok-check_hash_key.ensures).0 in
    let same = (kept_hash g.row.N c.args.bytes.now _ e c.spread.ensures.bytes c.spread.ensures.row).same in
    rw e same
