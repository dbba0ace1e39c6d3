-- Each frame of set-up by its outcomes: a case for all refusals, which change nothing, and one in which it is accepted, with what it has met.
use Rattle.std.specs.Prelude.{◌≡◌, refl, true, false, not, List, ℕ, Err, Ok, Result, ⊤}
use Rattle.std.proofs.Common.{arith}
use Rattle.std.proofs.lemmas.Bool.{not-false}
use Rattle.rules.specs.declared.Fault.TheVariants as Fault
use Rattle.rules.specs.declared.Fault.{Fault}
use Rattle.rules.specs.Sizes.{root}
use Rattle.rules.specs.Choice.{chosen, not_first, not_second}
use Rattle.ledger.specs.Ledger.{entered}
use Rattle.ledger.proofs.Ledger.{refused_same}
use Rattle.pages.specs.Owners.{given}
use Rattle.pages.specs.Naming.{naming, naming_refused}
use Rattle.parsing.specs.declared.Status.{Status}
use Rattle.parsing.specs.declared.Status.TheVariants.{Accepted, Misplaced, OutOfRange, Clash}
use Rattle.setup.specs.Table.{ready, ended, window, fixed}
use Rattle.setup.specs.Statuses.{misplaced_not, outside_not, clash_not, ruled_by}
use Rattle.setup.specs.Frames.{fits, sited, untimely, entered_status, entering, naming_in}

-- it is the time for entries and names
in_time : (s : List ℕ) → untimely s ≡ false → (ready s ≡ true) × (ended s ≡ false)
unfolding untimely
in_time s e = (not-false (ready s) (not_first (not (ready s)) (ended s) e), not_second (not (ready s)) (ended s) e)

module _ (s : List ℕ) where
  module _ (owners : List ℕ) (base pages cores : ℕ) (P : (List ℕ × List ℕ) × Status → Type 0) (refused : (why : Status) → (why ≡ Accepted → ⊥) → P ((s, owners), why))
      (done : ready s ≡ false → fits (record { base = base; pages = pages }) cores ≡ true → P ((fixed s base pages cores, given owners 0 pages root), Accepted)) where
    pub sited_by : P (sited s owners base pages cores)
    unfolding sited
    sited_by = ruled_by P _ _ _ _ _ refused (λ a b c. done a (not-false _ b))

  module _ (t : List ℕ) (first last kind number : ℕ) (P : List ℕ × Status → Type 0) (refused : (why : Status) → (why ≡ Accepted → ⊥) → P (t, why))
      (done : ready s ≡ true → ended s ≡ false → (entered t first last kind number).0 ≡ (Ok tt) → P ((entered t first last kind number).1, Accepted)) where
    pub entering_by : P (entering s t first last kind number)
    unfolding entering
    entering_by =
        chosen P (untimely s) _ _ (λ y. refused Misplaced misplaced_not) (λ n. by_entry n (entered t first last kind number).0 refl)
      where
        stays : {e : Result ⊤ Fault} → (entered t first last kind number).0 ≡ e → (e ≡ (Ok tt) → ⊥) → (entered t first last kind number).1 ≡ t
        stays k d = refused_same t first last kind number (λ y. d (rw k at y))

        by_entry : untimely s ≡ false → (e : Result ⊤ Fault) → (entered t first last kind number).0 ≡ e → P ((entered t first last kind number).1, entered_status e)
        by_entry n (Ok tt) k = done (in_time s n).0 (in_time s n).1 k
        by_entry n (Err Fault.OutOfRange) k = rw (stays k (λ e. let z : ◌≡◌ {A = ℕ} 0 1 = cc in omega arith)) (refused OutOfRange outside_not)
        by_entry n (Err Fault.Taken) k = rw (stays k (λ e. let z : ◌≡◌ {A = ℕ} 0 1 = cc in omega arith)) (refused Clash clash_not)

  module _ (owners named : List ℕ) (first count to : ℕ) (P : (List ℕ × List ℕ) × Status → Type 0) (refused : (why : Status) → (why ≡ Accepted → ⊥) → P ((owners, named), why))
      (done : ready s ≡ true → ended s ≡ false → (naming owners named (window s).pages first count to).0 ≡ (Ok tt) → P ((naming owners named (window s).pages first count to).1, Accepted)) where
    pub naming_in_by : P (naming_in s owners named first count to)
    unfolding naming_in
    naming_in_by =
        chosen P (untimely s) _ _ (λ y. refused Misplaced misplaced_not)
        (λ n. by_naming n (naming owners named (window s).pages first count to).0 refl)
      where
        stays : {a : Result ⊤ Fault} → (naming owners named (window s).pages first count to).0 ≡ a → (a ≡ (Ok tt) → ⊥) → (naming owners named (window s).pages first count to).1 ≡ (owners, named)
        stays k d = naming_refused owners named (window s).pages first count to (λ y. d (rw k at y))

        by_naming : untimely s ≡ false → (a : Result ⊤ Fault) → (naming owners named (window s).pages first count to).0 ≡ a → P ((naming owners named (window s).pages first count to).1, entered_status a)
        by_naming n (Ok tt) k = done (in_time s n).0 (in_time s n).1 k
        by_naming n (Err Fault.OutOfRange) k = rw (stays k (λ e. let z : ◌≡◌ {A = ℕ} 0 1 = cc in omega arith)) (refused OutOfRange outside_not)
        by_naming n (Err Fault.Taken) k = rw (stays k (λ e. let z : ◌≡◌ {A = ℕ} 0 1 = cc in omega arith)) (refused Clash clash_not)
