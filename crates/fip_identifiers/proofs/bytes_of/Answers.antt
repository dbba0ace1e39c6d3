use Rattle.hex_digits.specs.Rows.{filling}
use Rattle.fip_identifiers.specs.Identifiers.{byte_at_lem, filled_bytes}
use borrow.Author.Rules.{rules}
use Rattle.fip_identifiers.proofs.bytes_of.Goals as goal

pub loop-i-init : goal.loop-i-init
loop-i-init c = search (filling, rules)

pub loop-i-preserved : goal.loop-i-preserved
loop-i-preserved c = search (filling, byte_at_lem, rules)

pub returns : goal.returns
returns c = search (filled_bytes, rules)
