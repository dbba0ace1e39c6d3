-- `names::named` meets its promise, since each pass takes one row off the table that is searched.
use Rattle.std.proofs.Common.{◌≡◌, map, drop}
use Rattle.fip_text.specs.Rows.{named}
use Rattle.fip_text.proofs.names.named.Given as goal

abbrev pub invariant-loop-text : goal.invariant-loop-text
invariant-loop-text l = named (map (λ k. (k.0.now, k.1.now)) l.known) l.id ≡ named (map (λ k. (k.0.now, k.1.now)) (drop l.text-index l.known)) l.id
