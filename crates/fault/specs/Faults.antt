-- The number, layer and place of every refusal. Assumes nothing.
use Rattle.std.specs.Prelude.{ℕ}
use Rattle.fault.specs.declared.layer.Layer.TheVariants as layer
use Rattle.fault.specs.declared.report.Report.{Report}
use Rattle.fault.specs.declared.key.KeyFault.{KeyFault}
use Rattle.fault.specs.declared.key.KeyFault.TheVariants.{CipherKeyLength, HashKeyLength, ZeroHashKey}
use Rattle.fault.specs.declared.shape.ShapeFault.{ShapeFault}
use Rattle.fault.specs.declared.shape.ShapeFault.TheVariants.{FrameSize, ListFull}
use Rattle.fault.specs.declared.stock.StockFault.{StockFault}
use Rattle.fault.specs.declared.stock.StockCause.{StockCause}
use Rattle.fault.specs.declared.stock.StockCause.TheVariants as stock
use Rattle.fault.specs.declared.reel.ReelFault.{ReelFault}
use Rattle.fault.specs.declared.reel.ReelCause.{ReelCause}
use Rattle.fault.specs.declared.reel.ReelCause.TheVariants as reel
use Rattle.fault.specs.declared.line.LineFault.{LineFault}
use Rattle.fault.specs.declared.line.LineCause.{LineCause}
use Rattle.fault.specs.declared.line.LineCause.TheVariants as line

-- layer 0, where every place is 0
abbrev pub shape_number : ShapeFault → ℕ
shape_number FrameSize = 1
shape_number ListFull = 15

abbrev pub shape_report : ShapeFault → Report
shape_report e = record { number = shape_number e; layer = layer.Parameters; place = 0 }

abbrev pub key_number : KeyFault → ℕ
key_number CipherKeyLength = 2
key_number HashKeyLength = 3
key_number ZeroHashKey = 4

abbrev pub key_report : KeyFault → Report
key_report e = record { number = key_number e; layer = layer.Parameters; place = 0 }

-- layer 1: the place is a slot
abbrev pub at_slot : StockCause → ℕ → StockFault
at_slot c i = record { cause = c; slot = i }

abbrev pub stock_number : StockCause → ℕ
stock_number stock.NoSlot = 6
stock_number stock.WrongLength = 7
stock_number stock.BadSlot = 8
stock_number stock.BlankSlot = 9

abbrev pub stock_report : StockFault → Report
stock_report e = record { number = stock_number e.cause; layer = layer.Stock; place = e.slot }

-- layer 3: the place is an address. A stock's fault is kept whole, and the address is the slot of the same number; the number
-- is the lowest fault's.
abbrev pub at_address : ReelCause → ℕ → ReelFault
at_address c a = record { cause = c; address = a }

abbrev pub passed_up : StockFault → ReelFault
passed_up e = at_address (reel.Stock e) e.slot

abbrev pub reel_number : ReelCause → ℕ
reel_number reel.NotBlocks = 5
reel_number reel.NoAddress = 6
reel_number reel.WrongArea = 7
reel_number (reel.Stock e) = stock_number e.cause

abbrev pub reel_report : ReelFault → Report
reel_report e = record { number = reel_number e.cause; layer = layer.Reel; place = e.address }

-- layer 4: the place is a line, counted from 1. A reel's fault is kept whole; the number is the lowest fault's.
abbrev pub at_line : LineCause → ℕ → LineFault
at_line c n = record { cause = c; line = n }

abbrev pub line_number : LineCause → ℕ
line_number line.NotALine = 11
line_number line.NotDigits = 12
line_number line.NotAbove = 13
line_number line.NoRoom = 14
line_number (line.Reel e) = reel_number e.cause

abbrev pub line_report : LineFault → Report
line_report e = record { number = line_number e.cause; layer = layer.Lines; place = e.line }
