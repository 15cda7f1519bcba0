use Rattle.std.proofs.Common.{◌-◌, length}
use Rattle.library_tests.proofs.of_framing.take_block.Given as goal

abbrev pub decreases-loop-next : goal.decreases-loop-next
decreases-loop-next g l = length l.block - l.at
