use Rattle.lines.proofs.Texts.{one_line}
use Rattle.lines.proofs.laws.no_two_lines_mean_the_same.Goals as goal

pub returns : goal.returns
returns c = one_line
