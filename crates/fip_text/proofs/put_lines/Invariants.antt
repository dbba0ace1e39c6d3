-- `put_lines` meets its promise, since each pass puts one line more behind those that stand there.
use Rattle.fip_text.specs.Line.{Lined}
use Rattle.fip_text.proofs.put_lines.Given as goal

abbrev pub invariant-loop-k : goal.invariant-loop-k
invariant-loop-k l = Lined l.initial.out l.out l.t l.n l.at l.k
