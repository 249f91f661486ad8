use Rattle.std.proofs.Common.{rules}
use Rattle.cipher.specs.Steps.{sub_at, sub_bytes}
use Rattle.cipher.proofs.Places.{made_by_place}
use Rattle.cipher.proofs.aes.steps.sub_bytes.Goals as goal

pub returns : goal.returns
unfolding sub_bytes
returns c = made_by_place (sub_at c.args.s.now) 16 (λ i y q l k. search rules) c.from_fn.ensures.items
