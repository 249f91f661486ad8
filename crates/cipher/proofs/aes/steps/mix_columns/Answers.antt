use Rattle.std.proofs.Common.{rules}
use Rattle.cipher.specs.Steps.{mixed_at, mix_columns}
use Rattle.cipher.proofs.Places.{made_by_place}
use Rattle.cipher.proofs.aes.steps.mix_columns.Goals as goal

pub returns : goal.returns
unfolding mix_columns
returns c = made_by_place (mixed_at c.args.s.now) 16 (λ i y q l k. search rules) c.from_fn.ensures.items
