use Rattle.std.proofs.Common.{◌≡◌, ◌+◌, ◌-◌, arith}
use Rattle.tools.specs.Search.{first_goes, first_stops, first_ends}
use Rattle.asking.specs.Forms.{form_yes, form_here, form_not}
use borrow.Author.Rules.{rules}
use Rattle.asking.proofs.form.Goals as goal

pub returns-then-key_at-key : goal.returns-then-key_at-key
returns-then-key_at-key c = form_yes _ _ _ (search rules) (first_stops _ _ _ _ c.loop-k.invariant (omega arith) (search (form_here, rules)))

pub loop-k-preserved : goal.loop-k-preserved
loop-k-preserved c =
    let z : 20 - (c.loop-k.k + 1) ≡ 20 - c.loop-k.k - 1 = omega arith in
    rw z (first_goes _ _ _ _ c.loop-k.invariant (omega arith) (search (form_not, rules)))

pub returns : goal.returns
returns c = let z : 20 - c.loop-k.k ≡ 0 = omega arith in let k : c.loop-k.k ≡ 20 = omega arith in form_yes _ _ _ (search rules) (rw k at (first_ends _ _ _ _ c.loop-k.invariant (omega arith)))
