-- The number of each layer. Assumes nothing.
use Rattle.std.specs.Prelude.{ℕ}
use Rattle.fault.specs.declared.layer.Layer.{Layer}
use Rattle.fault.specs.declared.layer.Layer.TheVariants.{Parameters, Stock, Sealing, Reel, Lines}

abbrev pub layer_number : Layer → ℕ
layer_number Parameters = 0
layer_number Stock = 1
layer_number Sealing = 2
layer_number Reel = 3
layer_number Lines = 4
