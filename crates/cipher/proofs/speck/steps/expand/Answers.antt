use Rattle.std.proofs.Common.{◌≡◌, ◌∷◌, [], suc, ◌+◌, ◌-◌, refl, ◌∙◌, append_assoc, append-nil, arith, length-set}
use Rattle.std.proofs.lemmas.List.{take_more_set, take_all}
use Rattle.cipher.specs.Speck.{word}
use Rattle.cipher.proofs.SpeckRounds.{keys_none, keys_more}
use Rattle.cipher.proofs.speck.steps.expand.Goals as goal

pub loop-i-preserved : goal.loop-i-preserved
loop-i-preserved c =
    let l = c.loop-i in
    let n : 27 - l.i ≡ suc (27 - (l.i + 1)) = omega arith in
    let t = take_more_set l.round_key-items l.i l.k (omega arith) in
    (simp length-set l.invariant.0, rw (t, append_assoc, c.turn-k.ensures, c.mix-l.ensures) (rw (n, keys_more (27 - (l.i + 1))) at l.invariant.1))

pub returns : goal.returns
returns c =
    let l = c.loop-i in
    let n : 27 - l.i ≡ 0 = omega arith in
    let t = take_all l.i l.round_key-items (omega arith) in
    let key = c.args.key.now in
    let w : c.words.result ≡ word key 0 ∷ word key 4 ∷ word key 8 ∷ word key 12 ∷ [] = c.words.ensures in
    rw (n, keys_none, append-nil, t) at l.invariant.1 ∙ rw w refl
