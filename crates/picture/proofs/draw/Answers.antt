use borrow.Author.Rules.{rules}
use Rattle.std.proofs.Common.{refl, arith, length-set}
use native.Mathlib.Numerals.{unary_clauses}
use Rattle.picture.specs.Picture.{draw_goes, draw_put}
use Rattle.picture.proofs.draw.Goals as goal

pub loop-k-init : goal.loop-k-init
loop-k-init c = (refl, simp unary_clauses)

pub loop-k-preserved : goal.loop-k-preserved
loop-k-preserved c = (simp length-set (search rules), draw_goes _ _ _ _ _ _ _ _ c.loop-k.invariant.1 _ _ _ _ (omega arith) (cc) (omega arith) (omega arith) (omega arith))

pub returns : goal.returns
returns c = draw_put _ _ _ _ _ _ _ _ _ _ _ _ c.loop-k.invariant.1 (omega arith) (omega arith) (omega arith) (omega arith)
