use Rattle.flat.specs.Flats.{Unmarked}
use Rattle.flat.proofs.mark.clear_marks.Given as goal

abbrev pub invariant-loop-slot : goal.invariant-loop-slot
invariant-loop-slot l = Unmarked l.fn.size.bytes l.slot l.initial.area l.area
