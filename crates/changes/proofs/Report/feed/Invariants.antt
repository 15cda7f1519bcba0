use Rattle.std.proofs.Common.{length}
use Rattle.changes.proofs.Report.feed.Given as goal

abbrev pub decreases-loop-validator : goal.decreases-loop-validator
decreases-loop-validator l = length l.rest
