-- The number that the program prints of a loading's answer. Assumes nothing.
use Rattle.std.specs.Prelude.{ℕ, Ok, Err, Result}
use Rattle.fault.specs.declared.line.LineFault.{LineFault}
use Rattle.fault.specs.Faults.{line_number}

-- the refusal's number, or 0
abbrev pub refusal_number : Result ℕ LineFault → ℕ
refusal_number (Ok n) = 0
refusal_number (Err e) = line_number e.cause
