-- `put_entry` meets its promise, since the numbers lie behind the identifier.
use Rattle.fip_lay.specs.Laying.{entry_laid}
use Rattle.fip_lay.proofs.put_entry.Goals as goal

pub returns : goal.returns
returns c = search entry_laid
