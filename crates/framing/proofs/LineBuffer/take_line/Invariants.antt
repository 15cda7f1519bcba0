use Rattle.std.proofs.Common.{drop, length}
use Rattle.framing.specs.Buffer.{Takes}
use Rattle.framing.proofs.LineBuffer.take_line.Given as goal

abbrev pub invariant-loop-b : goal.invariant-loop-b
invariant-loop-b l = Takes l.initial.self l.self (drop l.at l.block) l.rest

abbrev pub decreases-loop-b : goal.decreases-loop-b
decreases-loop-b l = length l.rest
