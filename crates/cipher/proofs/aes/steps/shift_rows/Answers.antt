use Rattle.std.proofs.Common.{rules}
use Rattle.cipher.specs.Steps.{shifted_at, shift_rows}
use Rattle.cipher.proofs.Places.{made_by_place}
use Rattle.cipher.proofs.aes.steps.shift_rows.Goals as goal

pub returns : goal.returns
unfolding shift_rows
returns c = made_by_place (shifted_at c.args.s.now) 16 (λ i y q l k. search rules) c.from_fn.ensures.items
