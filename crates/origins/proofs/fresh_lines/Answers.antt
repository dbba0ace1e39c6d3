-- The number is the definition, written out.
use Rattle.origins.specs.Lines.{no_line_is}
use Rattle.origins.proofs.fresh_lines.Goals as goal

pub returns : goal.returns
returns c = no_line_is
