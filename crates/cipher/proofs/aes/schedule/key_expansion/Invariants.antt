use Rattle.std.proofs.Common.{◌≡◌, ◌/◌, length, take}
use Rattle.cipher.specs.Schedule.{expanded}
use Rattle.cipher.proofs.aes.schedule.key_expansion.Given as goal

abbrev pub invariant-loop-j : goal.invariant-loop-j
invariant-loop-j l = (length l.w ≡ 240) × (take l.j l.w ≡ expanded (length l.key / 4) l.key l.j)
