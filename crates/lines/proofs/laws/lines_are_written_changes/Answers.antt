use Rattle.lines.proofs.Texts.{only_text}
use Rattle.lines.proofs.laws.lines_are_written_changes.Goals as goal

pub returns : goal.returns
returns c = only_text
