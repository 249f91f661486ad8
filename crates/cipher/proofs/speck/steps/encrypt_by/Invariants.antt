-- what is left of the keys gives the block
use Rattle.std.proofs.Common.{◌≡◌, drop}
use Rattle.cipher.specs.Speck.{rounds}
use Rattle.cipher.proofs.speck.steps.encrypt_by.Given as goal

abbrev pub invariant-loop-k : goal.invariant-loop-k
invariant-loop-k l = rounds (drop l.k-index l.keys) l.x l.y ≡ rounds l.keys l.initial.x l.initial.y
