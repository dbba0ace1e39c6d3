-- `pack` meets its promise, since each return is one outcome of it.
use Rattle.converting.specs.Outcomes.{outcomes, pack_cramped}
use Rattle.std.proofs.lemmas.Result.{err_from_is_err_and}
use borrow.Author.Rules.{rules}
use Rattle.converting.proofs.pack.Goals as goal

pub returns-in_err-pages : goal.returns-in_err-pages
returns-in_err-pages c =
    let p = err_from_is_err_and c.from_residual.result c.from_residual.ensures.1 in rw (p.1, p.2, c.in_err-pages.ensures.0) (pack_cramped _ _ _ c.in_err-pages.ensures.1)

pub returns-then-has_stray_byte : goal.returns-then-has_stray_byte
returns-then-has_stray_byte c = search (outcomes, rules)

pub returns : goal.returns
returns c = search (outcomes, rules)
