use Rattle.framing.proofs.Cuts.{one_cut}
use Rattle.framing.proofs.laws.one_cut_stands.Goals as goal

pub returns : goal.returns
returns c = one_cut
