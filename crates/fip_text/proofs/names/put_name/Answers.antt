-- `names::put_name` meets its promise, since the name stands behind a space.
use Rattle.std.proofs.Common.{rules}
use Rattle.fip_text.specs.Rows.{name_put, name_none}
use Rattle.fip_text.proofs.names.put_name.Goals as goal

pub returns-in-Some : goal.returns-in-Some
returns-in-Some c = name_put _ _ _ _ _ _ _ _ c.in-Some.ensures.0 c.in-Some.ensures.1 c.put_text-a.ensures c.put_text.ensures

pub returns-in-None : goal.returns-in-None
returns-in-None c = (name_none _ _ _ c.in-None.ensures, search rules)
