use Rattle.std.proofs.Common.{◌≡◌}
use Rattle.cipher.specs.Aes.{after}
use Rattle.cipher.proofs.aes.steps.encrypt_by.Given as goal

abbrev pub invariant-loop-k : goal.invariant-loop-k
invariant-loop-k l = l.s ≡ after l.k-index l.w l.block
