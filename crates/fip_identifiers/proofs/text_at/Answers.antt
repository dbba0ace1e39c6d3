-- `text_at` meets its promise, since the digits are laid over a row of dashes.
use Rattle.fip_identifiers.specs.Identifiers.{over_dashes}
use borrow.Author.Rules.{rules}
use Rattle.fip_identifiers.proofs.text_at.Goals as goal

pub returns : goal.returns
returns c = search (over_dashes, rules)
