-- The paper's cases P1 to P12 in one table, and one statement: every row of it holds.
use Rattle.std.proofs.Common.{inl, inr, arith}
use Rattle.rules.specs.Choice.{pick}
use Rattle.rules.specs.declared.Reason.TheVariants as Reason
use Rattle.identifiers.specs.Identifier.{identifier_of, parts, admitted}
use Rattle.pages.specs.Window.{run_past}
use Rattle.judgements.specs.declared.Answer.TheVariants as Answer
use Rattle.judgements.specs.declared.Deed.TheVariants as Deed
use Rattle.guarantees.specs.Cases.{All, Holds, case, no_page, p10, p11, p12, p4, p4_hint, p6, p8, p9, table, window, x}

p7 : Holds (case 7)
p7 c i to (inl r) f = no_page c i to r (run_past (window c) f.0 (x c 1) 1 (omega (arith, f.1)))
p7 c i to (inr x3) f = elim x3 [ ]

-- Every row of the table holds.
pub table_holds : All table
unfolding identifier_of parts admitted pick
table_holds = (λ x0 e. rw e, (λ x0 e. rw e, (λ x0 e. rw e, (p4_hint, (p4, (λ x0 e. rw e, (p6, (p7, (p8, (p9, (p10, (p11, (p12, tt)))))))))))))
