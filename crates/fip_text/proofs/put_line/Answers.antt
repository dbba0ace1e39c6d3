-- `put_line` meets its promise, since each piece is put behind the one before it.
use Rattle.fip_text.specs.Line.{line_put}
use borrow.Author.Rules.{rules}
use Rattle.fip_text.proofs.put_line.Goals as goal

pub returns : goal.returns
returns c = (search (line_put, rules), search rules)
