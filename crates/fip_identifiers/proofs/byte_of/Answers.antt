-- `byte_of` meets its promise, since its digits are those of the definition.
use Rattle.fip_identifiers.specs.Identifiers.{byte_of}
use Rattle.fip_identifiers.proofs.byte_of.Goals as goal

pub returns : goal.returns
unfolding byte_of
returns c = cc
