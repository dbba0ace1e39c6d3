-- What a granted transfer says of its run, and what it leaves: the owner of each page, and the mappings of every world.
use Rattle.std.proofs.Math.Path.{◌≡◌, refl, sym}
use Rattle.std.proofs.Common.{arith}
use Rattle.std.specs.Prelude.{List, [], ◌∷◌, ℕ, ◌+◌, ◌≤◌, ◌<◌, eqb, None, Ok, Option, Some}
use borrow.Author.Tests.{ne_eqb, eqb-false, not-false}
use Rattle.rules.specs.Choice as Choice
use Rattle.rules.specs.Tests.{Clear, refuses, goes, ends}
use Rattle.rules.specs.declared.Reason.TheVariants.{NoPages}
use Rattle.rules.specs.Sizes.{last_world, most_pages}
use Rattle.pages.specs.Window.{run_of}
use Rattle.pages.specs.Owners.{WholeOwners, owner, given, owned_at, owned_ends, given_inside}
use Rattle.pages.specs.declared.Window.{Window}
use Rattle.ranges.specs.declared.Mapping.{Mapping}
use Rattle.transfers.specs.Transfer.{move_tests, transfer_verdict}
use Rattle.transfers.specs.Granted.{Movable, passes}

module _ (w : Window) (o : List ℕ) (list : List Mapping) (from start count first : ℕ) where
  there_granted : (k : Option ℕ) → run_of w start count ≡ k → move_tests k o list from start count ≡ Ok first → Movable w o list from start count first
  unfolding move_tests Clear
  there_granted (Some page) e g =
      let c = passes _ (Ok page) first g in
      let y : page ≡ first = cc in
      record { lies = rw (← y) e; mine = rw (← y) (not-false _ c.0.0); unmet = c.0.1.0 }
  there_granted None e g = let y : ◌≡◌ {A = ℕ} 0 1 = cc in absurd (omega arith)

  -- there is a page, and the run may move
  pub transfer_granted : transfer_verdict w o list from start count ≡ Ok first → Movable w o list from start count first × (count ≡ 0 → ⊥)
  unfolding transfer_verdict Clear
  transfer_granted g =
      let c = passes (refuses (eqb count 0) NoPages ∷ []) _ first g in (there_granted (run_of w start count) refl c.1, eqb-false _ _ c.0.0)

  -- and such a run is granted
  pub movable_granted : Movable w o list from start count first → (count ≡ 0 → ⊥) → transfer_verdict w o list from start count ≡ Ok first
  unfolding transfer_verdict move_tests
  movable_granted m n =
      sym (goes _ _ _ _ _ _ (ne_eqb count 0 n) (ends _ _ _
      (rw m.lies (goes _ _ _ _ _ _ (Choice.not_false _ m.mine) (goes _ _ _ _ _ _ m.unmet (ends _ _ _ refl))))))

  -- ---- the owners after a transfer
  module _ (m : Movable w o list from start count first) (page : ℕ) where
    -- a page of the run was the giver's, and is the receiver's; any other page keeps its owner (`given_outside`)
    pub moved_from : first ≤ page → page < first + count → owner o page ≡ from
    moved_from h l = owned_at o first count from page m.mine h l

    pub moved_to : (to : ℕ) → WholeOwners o → to ≤ last_world → first ≤ page → page < first + count → owner (given o first count to) page ≡ to
    moved_to to k t h l =
        let b : first + count ≤ most_pages = owned_ends o first count from m.mine (omega arith) in
        given_inside o first count to page k t b h l
