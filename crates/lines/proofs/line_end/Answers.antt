use borrow.Author.Rules.{rules}
use Rattle.lines.specs.Lines.{ends_ahead}
use Rattle.lines.proofs.line_end.Goals as goal

pub loop-i-init : goal.loop-i-init
loop-i-init c = search (ends_ahead, rules)

pub returns-then-s-i-eq-NEWLINE : goal.returns-then-s-i-eq-NEWLINE
returns-then-s-i-eq-NEWLINE c = search (ends_ahead, rules)

pub loop-i-preserved : goal.loop-i-preserved
loop-i-preserved c = search (ends_ahead, rules)

pub returns : goal.returns
returns c = search (ends_ahead, rules)
