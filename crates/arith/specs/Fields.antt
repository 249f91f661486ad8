-- The two fields.
use Rattle.std.specs.Prelude.{◌≡◌, true, refl}
use Rattle.arith.specs.Domain.{Domain}
use Rattle.arith.specs.Field.{product_low, Elem, Field}
use Rattle.arith.specs.Certificate.{table, passes}
use Rattle.arith.specs.Elems.{domain, field}

pub passes64 : passes 63 0x1b ≡ true
unfolding product_low table
passes64 = refl

pub passes128 : passes 127 0x87 ≡ true
unfolding product_low table
passes128 = refl

abbrev pub gf64 : Domain (Elem 64)
gf64 = domain 63 0x1b passes64

abbrev pub gf128 : Domain (Elem 128)
gf128 = domain 127 0x87 passes128

pub field64 : Field 64 0x1b
field64 = field 63 0x1b passes64

pub field128 : Field 128 0x87
field128 = field 127 0x87 passes128
