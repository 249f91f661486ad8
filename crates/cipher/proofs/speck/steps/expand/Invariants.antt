-- the keys so far, and then those from here on, are all of them
use Rattle.std.proofs.Common.{◌≡◌, ◌-◌, ◌++◌, length, take}
use Rattle.cipher.specs.Speck.{keys_from}
use Rattle.cipher.proofs.speck.steps.expand.Given as goal

abbrev pub invariant-loop-i : goal.invariant-loop-i
invariant-loop-i l = (length l.round_key-items ≡ 27)
    × (take l.i l.round_key-items ++ keys_from (27 - l.i) l.i l.k l.a l.b l.c
    ≡ keys_from 27 0 l.initial.k l.initial.a l.initial.b l.initial.c)
