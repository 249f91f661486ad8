use Rattle.std.proofs.Common.{◌*◌, ◌/◌, length, rules, arith}
use Rattle.cipher.specs.Speck.{word}
use Rattle.cipher.proofs.Places.{made_by_place}
use Rattle.cipher.proofs.SpeckRounds.{word_of_chunk}
use Rattle.cipher.proofs.speck.steps.words.Goals as goal

pub returns : goal.returns
returns g c =
    made_by_place (λ i. word c.args.s.now (4 * i)) g.row.N
    (λ i y q l k.
    let w = word_of_chunk c.args.s.now c.as_chunks.result.0.now (length c.args.s.now / 4) i c.as_chunks.ensures.front (omega arith) in
    search rules)
    c.from_fn.ensures.items
