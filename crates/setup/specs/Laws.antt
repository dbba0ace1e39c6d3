-- How the code's branches meet the definitions of Frames: one law for each outcome.
use Rattle.std.specs.Prelude.{◌≡◌, Bool, true, false, not, List, ℕ, ◌≤◌, ◌<◌, leb, Err, Ok, Result, ⊤}
use Rattle.std.proofs.Math.Path.{refl, sym, ap}
use Rattle.std.proofs.Common.{◌∙◌}
use borrow.Author.Tests.{le-leb, lt-leb}
use Rattle.rules.specs.declared.Fault.{Fault}
use Rattle.rules.specs.Sizes.{root, most_cores}
use Rattle.rules.specs.Choice.{picked, passed, left_false, right_false, first_or, not_true, not_false}
use Rattle.ledger.specs.Ledger.{entered}
use Rattle.pages.specs.Window.{acceptable}
use Rattle.pages.specs.Owners.{given}
use Rattle.pages.specs.Naming.{naming}
use Rattle.pages.specs.declared.Window.{Window}
use Rattle.parsing.specs.declared.Status.{Status}
use Rattle.parsing.specs.declared.Status.TheVariants.{Accepted, Misplaced, OutOfRange, Clash}
use Rattle.setup.specs.Table.{ready, ended, window, cores, fixed}
use Rattle.setup.specs.Statuses.{ruled_misplaced, ruled_outside, ruled_clash, ruled_done, ruled_told}
use Rattle.setup.specs.Frames.{fits, sited, untimely, entered_status, entering, naming_in, core_ruled, core_verdict}

-- ---- a site
module _ (w : Window) (cores : ℕ) (a : Bool) (is : a ≡ acceptable w) where
  pub unfit_window : a ≡ false → false ≡ fits w cores
  unfolding fits
  unfit_window e = sym (left_false _ _ (sym is ∙ e))

  pub no_core : cores < 1 → false ≡ fits w cores
  unfolding fits
  no_core h = sym (right_false (acceptable w) _ (left_false _ _ (lt-leb _ _ h)))

  pub some_cores : a ≡ true → 1 ≤ cores → leb cores most_cores ≡ fits w cores
  unfolding fits
  some_cores e h = rw (← is, e, le-leb 1 cores h)

pub ruleset ranges = (unfit_window, no_core, some_cores)

module _ (s o : List ℕ) (base pages cores : ℕ) (r : Bool) (said : r ≡ ready s) where
  pub site_again : r ≡ true → ((s, o), Misplaced) ≡ sited s o base pages cores
  unfolding sited
  site_again e = ruled_misplaced _ _ _ _ _ _ (sym said ∙ e) refl

  module _ (early : r ≡ false) (f : Bool) (is : f ≡ fits (record { base = base; pages = pages }) cores) where
    pub site_unfit : f ≡ false → ((s, o), OutOfRange) ≡ sited s o base pages cores
    unfolding sited
    site_unfit e = ruled_outside _ _ _ _ _ _ (sym said ∙ early) (not_true _ (sym is ∙ e)) refl

    pub site_fixed : (t q : List ℕ) → f ≡ true → t ≡ fixed s base pages cores → q ≡ given o 0 pages root → ((t, q), Accepted) ≡ sited s o base pages cores
    unfolding sited
    site_fixed t q e h g = ruled_done _ _ _ _ _ _ (sym said ∙ early) (not_false _ (sym is ∙ e)) refl (rw (h, g))

pub ruleset sites = (site_again, site_unfit, site_fixed)

-- ---- the time for entries and names
module _ (s : List ℕ) (r : Bool) (said : r ≡ ready s) where
  pub too_early : r ≡ false → true ≡ untimely s
  unfolding untimely
  too_early e = sym (first_or _ _ (not_true _ (sym said ∙ e)))

  pub too_late : (d : Bool) → r ≡ true → d ≡ ended s → d ≡ untimely s
  unfolding untimely
  too_late d e h = rw (← said, e, h)

pub ruleset times = (too_early, too_late)

module _ (s : List ℕ) (u : Bool) (is : u ≡ untimely s) where
  module _ (t : List ℕ) (first last kind number : ℕ) where
    pub enters_not : u ≡ true → (t, Misplaced) ≡ entering s t first last kind number
    unfolding entering
    enters_not e = picked _ _ _ _ (sym is ∙ e) refl

    pub enters : (e : Result ⊤ Fault) (t' : List ℕ) (told : Status) → u ≡ false → (e, t') ≡ entered t first last kind number → told ≡ entered_status e
        → (t', told) ≡ entering s t first last kind number
    unfolding entering
    enters e t' told n h k = passed _ _ _ _ (sym is ∙ n) (rw (← h, k))

  module _ (o n : List ℕ) (first count to : ℕ) where
    pub names_not : u ≡ true → ((o, n), Misplaced) ≡ naming_in s o n first count to
    unfolding naming_in
    names_not e = picked _ _ _ _ (sym is ∙ e) refl

    pub names : (w : Window) (a : Result ⊤ Fault) (o' n' : List ℕ) (told : Status) → u ≡ false → w ≡ window s → (a, (o', n')) ≡ naming o n w.pages first count to → told ≡ entered_status a
        → ((o', n'), told) ≡ naming_in s o n first count to
    unfolding naming_in
    names w a o' n' told e i h k = passed _ _ _ _ (sym is ∙ e) (rw (← i, ← h, k))

pub ruleset attempts = (enters_not, enters, names_not, names)

-- ---- a frame for a core
module _ (s : List ℕ) (core : ℕ) (fits r : Bool) (is : r ≡ ready s) where
  pub core_early : r ≡ false → Err Misplaced ≡ core_verdict s core fits
  core_early e = ruled_misplaced _ _ _ _ _ _ (not_true _ (sym is ∙ e)) refl

  module _ (e : r ≡ true) (n : ℕ) (has : n ≡ cores s) where
    pub core_none : n ≤ core → Err OutOfRange ≡ core_verdict s core fits
    core_none h = ruled_outside _ _ _ _ _ _ (not_false _ (sym is ∙ e)) (le-leb _ _ (rw has at h)) refl

    pub core_unfit : core < n → fits ≡ false → Err Clash ≡ core_verdict s core fits
    core_unfit h f = ruled_clash _ _ _ _ _ _ (not_false _ (sym is ∙ e)) (lt-leb _ _ (rw has at h)) (not_true _ f) refl

    pub core_fit : core < n → fits ≡ true → (Ok tt) ≡ core_verdict s core fits
    core_fit h f = ruled_done _ _ _ _ _ _ (not_false _ (sym is ∙ e)) (lt-leb _ _ (rw has at h)) (not_false _ f) refl

pub ruleset core_rows = (core_early, core_none, core_unfit, core_fit)

-- what is made of a verdict
module _ {A : Type 0} (deny : Status → A) (s : List ℕ) (core : ℕ) (fits : Bool) (done : A) (v : Result ⊤ Status) (is : v ≡ core_verdict s core fits) where
  outcome : Result ⊤ Status → A
  outcome (Ok tt) = done
  outcome (Err why) = deny why

  by_verdict : outcome v ≡ core_ruled deny s core fits done
  unfolding outcome
  by_verdict = ap outcome is ∙ ruled_told outcome Err (not (ready s)) (leb (cores s) core) (not fits) (Ok tt)

  pub core_refused : (why : Status) → v ≡ Err why → deny why ≡ core_ruled deny s core fits done
  unfolding outcome
  core_refused why e = ap outcome (sym e) ∙ by_verdict

  pub core_granted : v ≡ (Ok tt) → done ≡ core_ruled deny s core fits done
  unfolding outcome
  core_granted e = ap outcome (sym e) ∙ by_verdict
