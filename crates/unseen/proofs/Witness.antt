-- There are such runs: a board is set up, and Normal hands core 0 over to Realm; in the other run Realm then asks to map a page; Realm finishes in both. A pair in which the mapping is granted is run by the programs `unseen_without_run` and `unseen_with_run`.
use Rattle.std.specs.Prelude.{refl}
use Rattle.std.proofs.Common.{inl}
use Rattle.rules.specs.Choice.{pick}
use Rattle.identifiers.specs.Identifier.{identifier_of, key_of}
use Rattle.parsing.specs.declared.Frame.TheVariants as Frame
use Rattle.guarantees.specs.Runs.{next}
use Rattle.unseen.specs.Statements.{OwnCall, Fair}
use Rattle.unseen.specs.Witness.{both, even_finish, even_hand_over, hand_over, map_one, realm_runs, start}

maps : OwnCall (next start hand_over) map_one
unfolding identifier_of key_of pick
maps = record { core = 0; is_call = refl; by_realm = realm_runs; asks = inl refl }

pub such_runs : Fair start start both
unfolding Fair
such_runs = (even_hand_over start start, (maps, (even_finish (next start hand_over) (next (next start hand_over) map_one), tt)))
