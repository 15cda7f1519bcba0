use Rattle.std.proofs.Common.{◌≡◌, ◌+◌, ◌^◌, ◌<◌, drop}
use Rattle.lines.proofs.Numbers.{reads_on}
use Rattle.lines.proofs.number.digits_after.Given as goal

abbrev pub invariant-loop-byte : goal.invariant-loop-byte
invariant-loop-byte l =
    (l.value < 10 ^ (l.byte-index + 1)) × (reads_on l.value (drop l.byte-index l.rest) ≡ reads_on l.initial.value l.rest)
