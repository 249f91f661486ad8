use Rattle.std.proofs.Common.{◌≡◌, [], ◌∷◌, sym, refl, ◌∙◌, arith}
use Rattle.cipher.specs.Speck.{word}
use Rattle.cipher.proofs.SpeckRounds.{rounds_more, rounds_all}
use Rattle.cipher.proofs.speck.steps.encrypt_by.Goals as goal

pub loop-k-preserved : goal.loop-k-preserved
loop-k-preserved c =
    let e = rounds_more c.args.keys.now c.loop-k.k-index c.loop-k.x c.loop-k.y (omega arith) in
    cc

pub returns : goal.returns
returns c =
    let block = c.args.block.now in
    let w : c.words.result ≡ word block 0 ∷ word block 4 ∷ [] = c.words.ensures in
    c.block_of.ensures ∙ sym (rounds_all c.args.keys.now c.loop-k.k-index c.loop-k.x c.loop-k.y (omega arith)) ∙ c.loop-k.invariant ∙ rw w refl
