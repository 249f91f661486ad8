-- The number of each condition of a slot. Assumes nothing.
use Rattle.std.specs.Prelude.{ℕ}
use Rattle.stock.specs.declared.condition.Condition.{Condition}
use Rattle.stock.specs.declared.condition.Condition.TheVariants.{Blank, Filled, Bad, NoSlot}

abbrev pub condition_number : Condition → ℕ
condition_number Blank = 0
condition_number Filled = 1
condition_number Bad = 2
condition_number NoSlot = 3
