-- `unpack` meets its promise, since each return is one outcome of it.
use Rattle.converting.specs.Outcomes.{outcomes, unpack_cramped}
use Rattle.std.proofs.lemmas.Result.{err_from_is_err_and}
use borrow.Author.Rules.{rules}
use Rattle.converting.proofs.unpack.Goals as goal

pub returns-in_err-count : goal.returns-in_err-count
returns-in_err-count c =
    let p = err_from_is_err_and c.from_residual.result c.from_residual.ensures.1 in rw (p.1, p.2, c.in_err-count.ensures.0) (unpack_cramped _ _ _ c.in_err-count.ensures.1)

pub returns-then-has_stray_mark : goal.returns-then-has_stray_mark
returns-then-has_stray_mark c = search (outcomes, rules)

pub returns : goal.returns
returns c = search (outcomes, rules)
