use Rattle.cipher.specs.SpeckApart.{speck_one_to_one}
use Rattle.cipher.specs.SpeckKey.{speck_key}
use Rattle.cipher.proofs.speck.calls.SpeckBlockCipher8.encrypt.Goals as goal

pub returns-clause-apart : goal.returns-clause-apart
returns-clause-apart c = speck_one_to_one (speck_key c.args.self.now) c.args.self.now.bytes
