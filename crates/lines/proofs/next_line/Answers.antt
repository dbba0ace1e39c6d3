-- `lines::next_line` meets its promise: 132 digits have no newline among them, so the one behind them ends the line; all else is searched for.
use mathlib.Core.Path.{refl}
use borrow.Author.Rules.{rules}
use Rattle.lines.specs.Lines.{next_past, next_quick, next_no_hex, next_other}
use Rattle.lines.specs.Quick.{not_digits}
use Rattle.lines.proofs.next_line.Goals as goal

pub returns-then-s-at : goal.returns-then-s-at
returns-then-s-at c = search (next_past, rules)

pub returns-in-Call : goal.returns-in-Call
returns-in-Call c = next_quick _ _ _ _ _ c.quick.result refl (search rules) c.quick.ensures _ (cc) (search rules)

pub spoilt-requires : goal.spoilt-requires
spoilt-requires c = record { e_value = not_digits _ _ _ c.quick.result c.quick.ensures (cc); e_in_bounds = search rules }

pub returns-in-NoHex : goal.returns-in-NoHex
returns-in-NoHex c = next_no_hex _ _ _ _ _ c.quick.result refl (search rules) c.quick.ensures _ (cc) c.spoilt.ensures

pub returns-in-Other : goal.returns-in-Other
returns-in-Other c = next_other _ _ _ _ _ c.quick.result refl (search rules) c.quick.ensures _ (cc) c.scan-in-Other.ensures
