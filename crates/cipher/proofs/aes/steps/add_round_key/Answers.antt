use Rattle.std.proofs.Common.{rules}
use Rattle.cipher.specs.Steps.{keyed_at, add_round_key}
use Rattle.cipher.proofs.Places.{made_by_place}
use Rattle.cipher.proofs.aes.steps.add_round_key.Goals as goal

pub returns : goal.returns
unfolding add_round_key
returns c = made_by_place (keyed_at c.args.k.now 0 c.args.s.now) 16 (λ i y q l k. search rules) c.from_fn.ensures.items
