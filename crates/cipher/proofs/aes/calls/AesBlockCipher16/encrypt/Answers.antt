use Rattle.cipher.specs.AesKey.{aes_key}
use Rattle.cipher.specs.AesApart.{aes_one_to_one}
use Rattle.cipher.proofs.AesRounds.{aes_scheduled}
use Rattle.cipher.proofs.aes.calls.AesBlockCipher16.encrypt.Goals as goal

pub returns : goal.returns
returns c =
    let a = c.args.self.now in
    let e = aes_scheduled (aes_key a) a.schedule c.args.block.now a.made in
    record { value = cc; apart = aes_one_to_one (aes_key a) a.bytes }
