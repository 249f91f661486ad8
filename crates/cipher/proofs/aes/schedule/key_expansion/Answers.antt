use Rattle.std.proofs.Common.{◌/◌, length, refl, arith, length-set}
use Rattle.std.proofs.lemmas.List.{take_more_set}
use Rattle.cipher.specs.Schedule.{expanded}
use Rattle.cipher.specs.AesApart.{taken_lengths}
use Rattle.cipher.proofs.AesRounds.{expanded_more, key_byte_take}
use Rattle.cipher.proofs.aes.schedule.key_expansion.Goals as goal

pub loop-j-init : goal.loop-j-init
unfolding expanded
loop-j-init c = (refl, refl)

pub loop-j-preserved : goal.loop-j-preserved
loop-j-preserved c =
    let l = c.loop-j in
    let p = taken_lengths (length c.args.key.now) c.requires in
    let t = take_more_set l.w l.j c.key_byte.result (omega arith) in
    let k = key_byte_take (length c.args.key.now / 4) c.args.key.now l.w l.j (omega arith) in
    let e = expanded_more (length c.args.key.now / 4) c.args.key.now l.j in
    (simp length-set l.invariant.0, cc)
