-- `form` meets its promise, since each pass takes one row off a search for the first.
use Rattle.std.proofs.Common.{◌≡◌, ◌-◌}
use Rattle.tools.specs.Search.{first}
use Rattle.asking.specs.Forms.{is_form}
use Rattle.asking.proofs.form.Given as goal

abbrev pub invariant-loop-k : goal.invariant-loop-k
invariant-loop-k l = first (is_form l.key) 0 20 ≡ first (is_form l.key) l.k (20 - l.k)
