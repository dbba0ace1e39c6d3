-- Each return of `fix_site` stands at a row of the table of statuses.
use Rattle.setup.specs.Laws.{sites}
use Rattle.setup.proofs.fix_site.Goals as goal

pub returns-then-is_ready : goal.returns-then-is_ready
returns-then-is_ready c = search sites

pub returns-then-is_fit : goal.returns-then-is_fit
returns-then-is_fit c = search sites

pub returns : goal.returns
returns c = search sites
