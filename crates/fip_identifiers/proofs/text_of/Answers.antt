-- `text_of` meets its promise, since entry k begins where the definition says.
use Rattle.fip_identifiers.proofs.text_of.Goals as goal

pub returns : goal.returns
returns c = rw (c.text_at.ensures, c.entry.ensures.0)
