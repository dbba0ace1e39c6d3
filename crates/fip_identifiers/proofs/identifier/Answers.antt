-- `identifier` meets its promise, since the text is compared with that of the bytes that it names.
use Rattle.fip_identifiers.specs.Identifiers.{not_sized, compared}
use Rattle.std.proofs.Common.{rules}
use Rattle.fip_identifiers.proofs.identifier.Goals as goal

pub returns-then-text-ne-TEXT : goal.returns-then-text-ne-TEXT
returns-then-text-ne-TEXT c = search (not_sized, rules)

pub returns : goal.returns
returns c = search (compared, rules)
