use Rattle.std.proofs.Common.{◌-◌, ◌≤◌, length}
use Rattle.frames.proofs.read_input.Given as goal

abbrev pub invariant-loop-got : goal.invariant-loop-got
invariant-loop-got l = l.got ≤ length l.row

abbrev pub decreases-loop-got : goal.decreases-loop-got
decreases-loop-got l = length l.row - l.got
