use Rattle.std.proofs.Common.{◌*◌, ◌/◌, ◌%◌, refl, arith}
use lib.Bits.{bit_xor}
use Rattle.cipher.specs.Field.{xtime}
use Rattle.cipher.specs.Every.{same_below}
use Rattle.cipher.proofs.aes.steps.xtime.Goals as goal

pub returns : goal.returns
returns c = same_below (λ b. bit_xor (b * 2 % 256) (b / 128 * 27)) xtime 256 refl c.args.b (omega arith)
