use Rattle.suites.proofs.Meant.{product_meant}
use Rattle.suites.proofs.short.U64Block8.multiply.Goals as goal

pub returns : goal.returns
returns c = product_meant c.args.self c.args.other c.multiply.result c.ranges.self.fits c.ranges.other.fits c.multiply.type_inv c.multiply.ensures.value
