-- Each statement about the machine, after any run.
use Rattle.std.proofs.Math.Path.{◌≡◌}
use Rattle.std.specs.Prelude.{refl}
use Rattle.std.proofs.Common.{sym, ◌∙◌}
use Rattle.std.proofs.Math.Bool.{true}
use Rattle.pages.specs.Owners.{packed_past}
use Rattle.mapping.specs.Entries.{beside_two}
use Rattle.mapping.specs.Once.{covered_few, one_address, one_place}
use Rattle.mapping.proofs.Once.{led, leads}
use Rattle.setup.specs.Table.{ready, ended}
use Rattle.calling.specs.Calling.{site_of}
use Rattle.frames.specs.Frames.{Machine}
use Rattle.frames.specs.Stays.{site_stays, settled}
use Rattle.guarantees.specs.Runs.{Event, Events, next, ran, replies, replies_count, always}
use Rattle.guarantees.specs.Fit.{Fit, fit_next}
use Rattle.guarantees.proofs.Owners.{owner_named, named_owner}
use Rattle.guarantees.specs.Statements.{window, mapped, Guaranteed}
use Rattle.guarantees.proofs.After.{fit_sound, fit_world, fit_packed, fit_past, fit_led, fit_leads, fit_runs, fit_absent}

-- All of it, after any run from a fit machine.
pub guaranteed_after : (m : Machine) → Fit m → (run : Events) → Guaranteed m run (ran m run) (replies m run)
guaranteed_after m fit run =
    let f = always Fit fit_next m run fit in
    let last = ran m run in
    record {
      owner_named = λ page. owner_named page run m fit;
      owner_alone = λ page to n. named_owner page run m to fit n;
      owner_world = fit_world last f;
      packed = fit_packed last f;
      packed_past = fit_past last f;
      mapped_owned = λ world. (fit_sound last f world).owned;
      mapped_inside = λ world. (fit_sound last f world).formed;
      one_address = λ world. one_address (window last) (mapped last world) (fit_sound last f world).formed (fit_sound last f world).apart;
      one_place = λ world. one_place (mapped last world) (fit_sound last f world).apart;
      nested = λ world n o. beside_two (mapped last world) n o (fit_sound last f world).apart;
      led = fit_led last f;
      leads = fit_leads last f;
      one_world = λ u v page a b. sym ((fit_sound last f u).owned page a) ∙ (fit_sound last f v).owned page b;
      mapped_few = λ world. covered_few (window last) last.owners world (mapped last world) (fit_sound last f world);
      sixteen = λ world. (fit_sound last f world).few;
      runs = fit_runs last f;
      absent = fit_absent last f;
      idle = f.idle;
      site_stays = λ e. always (λ (q : Machine). (ready q.setup ≡ true) × (site_of q.setup ≡ site_of m.setup)) site_next m run (e, refl);
      ledger_stays = λ e. always (λ (q : Machine). (ended q.setup ≡ true) × (q.ledger ≡ m.ledger)) ledger_next m run (e, refl);
      answered = replies_count m run;
    }
  where
    site_next : (q : Machine) (e : Event) → (ready q.setup ≡ true) × (site_of q.setup ≡ site_of m.setup) → (ready (next q e).setup ≡ true) × (site_of (next q e).setup ≡ site_of m.setup)
    site_next q e h = let s = site_stays q e.0 e.1 h.0 in (s.0, s.1 ∙ h.1)

    ledger_next : (q : Machine) (e : Event) → (ended q.setup ≡ true) × (q.ledger ≡ m.ledger) → (ended (next q e).setup ≡ true) × ((next q e).ledger ≡ m.ledger)
    ledger_next q e h = let s = settled q e.0 e.1 h.0 in (s.ended, s.ledger ∙ h.1)
