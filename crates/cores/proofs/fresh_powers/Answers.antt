-- `fresh_powers` meets its contract: of a table of zeros the state of core 0 alone is written.
use Rattle.cores.specs.Cores.{first_powers_are}
use borrow.Author.Rules.{rules}
use Rattle.cores.proofs.fresh_powers.Goals as goal

pub returns : goal.returns
returns c = search (rules, first_powers_are)
