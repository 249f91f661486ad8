use Rattle.std.proofs.Common.{arith}
use Rattle.arith.proofs.Turns.{turn, turns_all}
use Rattle.arith.proofs.word.multiply.Goals as goal

pub loop-preserved : goal.loop-preserved
loop-preserved g c =
    turn _ _ c.loop.counter _ _ _ _ _ _ _ (omega arith) c.add_if_odd-sum.ensures c.double-left.ensures c.halve-right.ensures c.loop.invariant

pub returns-clause-value : goal.returns-clause-value
returns-clause-value g c = turns_all _ _ c.loop.counter _ _ _ _ (omega arith) c.loop.invariant
