-- The numbers in a bad-slot list, in the order in which they were added. Assumes nothing.
use Rattle.std.specs.Prelude.{ℕ, List}
use Rattle.stock.specs.Places.{numbers}
use Rattle.stock.specs.declared.bad.BadSlots.{BadSlots}

abbrev pub bad_list : BadSlots → List ℕ
bad_list b = numbers b.slots
