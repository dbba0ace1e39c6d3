-- A range of pages has one owner, named by one line, and the page behind it has another owner or another line.
use Rattle.std.specs.Prelude.{◌≡◌, false, not, List, ℕ, ◌-◌, ◌≤◌, ◌<◌, eqb, ltb}
use Rattle.std.proofs.Math.Path.{refl}
use Rattle.std.proofs.Common.{arith}
use borrow.Author.Tests.{eq-eqb, eqb-true, ltb-true, ltb-false, not-false}
use Rattle.rules.specs.Choice.{either, not_first, not_second, yes_or_no}
use Rattle.tools.specs.Search.{first_is}
use Rattle.pages.specs.Owners.{owner}
use Rattle.origins.specs.Origins.{origin}
use Rattle.inventory.specs.Inventory.{unlike, range_end}

module _ (o t : List ℕ) where
  pub record OneRange (pages page end : ℕ) : Type 0 where
    pub some : page < end
    pub inside : end ≤ pages
    pub owned : (p : ℕ) → page ≤ p → p < end → owner o p ≡ owner o page
    pub named : (p : ℕ) → page ≤ p → p < end → origin t p ≡ origin t page
    pub ends : end < pages → owner o end ≡ owner o page → origin t end ≡ origin t page → ⊥

  alike : (u line p : ℕ) → unlike o t u line p ≡ false → (owner o p ≡ u) × (origin t p ≡ line)
  unfolding unlike
  alike u line p e = (
    eqb-true _ _ (not-false _ (not_first (not (eqb (owner o p) u)) (not (eqb (origin t p) line)) e)),
    eqb-true _ _ (not-false _ (not_second (not (eqb (owner o p) u)) (not (eqb (origin t p) line)) e)),
  )

  same_not : (u line p : ℕ) → owner o p ≡ u → origin t p ≡ line → unlike o t u line p ≡ false
  unfolding unlike
  same_not u line p e f = rw (eq-eqb (owner o p) u e, eq-eqb (origin t p) line f)

  pub range_is : (pages page : ℕ) → page < pages → OneRange pages page (range_end o t pages page)
  unfolding range_end
  range_is pages page h =
      let f = first_is (unlike o t (owner o page) (origin t page)) page (pages - page) in
      let end = range_end o t pages page in
      record {
        some = either (ltb page end) (λ y. ltb-true page end y)
            (λ n. let z : end ≡ page = omega (arith, ltb-false page end n, f.low) in
            absurd (yes_or_no _ (rw z at (f.passes (omega arith))) (same_not (owner o page) (origin t page) page refl refl)));
        inside = omega (arith, f.high);
        owned = λ p g l. (alike _ _ p (f.before p g l)).0;
        named = λ p g l. (alike _ _ p (f.before p g l)).1;
        ends = λ g e k. yes_or_no _ (f.passes (omega arith)) (same_not (owner o page) (origin t page) end e k);
      }
