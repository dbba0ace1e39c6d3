-- The state's own table of owners is one that unpacks: after any lines that set a window up, for as many pages as the window has, it is accepted, and each byte is the page's owner.
use Rattle.std.specs.Prelude.{◌≡◌, true, List, ℕ, ◌≤◌, length}
use Rattle.std.proofs.Common.{arith}
use Rattle.pages.specs.Owners.{WholeOwners, owners_long}
use Rattle.pages.specs.Window.{Acceptable, accepted}
use Rattle.setup.specs.Table.{ready}
use Rattle.frames.specs.Frames.{Machine, first}
use Rattle.showing.specs.declared.Reply.{Reply}
use Rattle.guarantees.specs.Runs.{Events, Follows, by_following}
use Rattle.guarantees.specs.Fit.{ran_fit}
use Rattle.guarantees.specs.Statements.{window, owner_in}
use Rattle.guarantees.proofs.Theorems.{any_run}
use Rattle.conversions.specs.Conversions.{unpacked}
use Rattle.round_trips.specs.Statements.{Room, Granules, Shown}
use Rattle.round_trips.specs.Theorems.{any_shown}

module _ (run : Events) (m : Machine) (given : List Reply) (f : Follows first run m given) (set : ready m.setup ≡ true) where
  own_marks : Granules (window m).pages m.owners (owner_in m)
  own_marks =
      let g = any_run run m given f in
      record { worlds = λ page h. g.owner_world page; marks = λ page h. g.packed page set h; padding = λ page h l. g.packed_past page l (λ e. h) }

  own_window : Acceptable (window m)
  own_window =
      by_following (λ (q : Machine) (answers : List Reply). ready q.setup ≡ true → Acceptable (window q)) f (λ e. accepted _ ((ran_fit run).right e).window) set

  own_whole : WholeOwners m.owners
  own_whole =
      by_following (λ (q : Machine) (answers : List Reply). ready q.setup ≡ true → WholeOwners q.owners) f (λ e. ((ran_fit run).right e).whole.owners_whole) set

  -- Unpacked into any bytes that have room, it shows the owner of each page.
  pub own_table : (bytes : List ℕ) (answer : ℕ) (bytes' : List ℕ) → (window m).pages ≤ length bytes
      → (answer, bytes') ≡ unpacked (window m).pages m.owners bytes → Shown (window m).pages (owner_in m) bytes answer bytes'
  own_table bytes answer bytes' enough promise =
      let w = own_window in
      let long = owners_long m.owners own_whole in
      let r : Room (window m).pages bytes m.owners = record { some = w.some; most = w.most; bytes_fit = enough; numbers_fit = omega (arith, w.most) } in
      any_shown (window m).pages m.owners (owner_in m) own_marks bytes r answer bytes' promise
