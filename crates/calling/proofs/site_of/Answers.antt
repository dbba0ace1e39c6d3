-- Window and cores are set-up's own.
use Rattle.calling.specs.Laws.{site_so}
use Rattle.calling.proofs.site_of.Goals as goal

pub returns : goal.returns
returns c = search site_so
