-- What is built from a list of mappings is accepted against it.
use Rattle.std.specs.Prelude.{◌≡◌, refl, true, List, ℕ, ◌+◌, ◌*◌, ◌≤◌, ◌<◌, ltb, length}
use Rattle.std.proofs.Common.{sym, ◌∙◌, ltb-true, ltb-false}
use native.Mathlib.Omega.{arith}
use Rattle.rules.specs.Sizes.{page_size}
use Rattle.rules.specs.Choice.{either}
use Rattle.pages.specs.Window.{Acceptable}
use Rattle.pages.specs.declared.Window.{Window}
use Rattle.ranges.specs.declared.Mapping.{Mapping}
use Rattle.mapping.specs.Entries.{Every}
use Rattle.mapping.specs.Sound.{Formed}
use Rattle.descriptors.specs.Numbers.{span, base_of}
use Rattle.descriptors.specs.Meaning.{is_table}
use Rattle.layout.specs.Rows.{Stands}
use Rattle.layout.specs.Layout.{part, tables, below, next, tree}
use Rattle.layout.proofs.Laws.{length_tree, few_tables}
use Rattle.building.specs.Built.{status}
use Rattle.tables_right.specs.Theorems.{said, left, refused_where, length_stays, tables_stand, leads_alike}
use Rattle.vetting.specs.Pass.{vetted}
use Rattle.vetting.specs.Outcome.{Accepted}
use Rattle.vet_theorems.specs.Tree.{Reached, Before, same_place}
use Rattle.vet_theorems.specs.Statements.{Sane, accepted_if}
use Rattle.vet_built.specs.Ascending.{Good, Here, Region, some_tables, next_within, next_more, all_good, row_later, ascending}

module _ (w : Window) (acc : Acceptable w) (l : List Mapping) (formed : Every (Formed w) l) (numbers : List ℕ) (ok : status (said l numbers) ≡ 0) where
  room : 512 * tables l 2 0 ≤ length (left l numbers)
  room =
      either (ltb (length numbers) (512 * tables l 2 0))
      (λ y. let z : 0 ≡ 136 = sym ok ∙ refused_where l numbers (ltb-true _ _ y) in absurd (omega arith))
      (λ n. let z : 512 * tables l 2 0 ≤ length numbers = ltb-false _ _ n in omega (arith, length_stays l numbers))

  stands : Stands (left l numbers) 0 (tree l 2 0 0)
  unfolding Stands
  stands j h = let z : 0 + j ≡ j = omega arith in rw z (tables_stand l numbers ok j (omega (arith, length_tree l 2 0 0)))

  top : Region w acc l formed (left l numbers) 2 0 0
  unfolding span
  top = record { level = omega arith; aligned = refl; ends = omega arith; few = omega (arith, few_tables l 0); stands = stands }

  top_is : (i : ℕ) → part 2 0 i ≡ i * 1073741824
  unfolding span
  top_is i = omega arith

  here : (k b e : ℕ) (r : Reached (left l numbers) k b e) → Here w acc l formed (left l numbers) 2 0 0 r.top k b e
  here k b e r = rw (← top_is r.top) at r.from

  reached_good : (k b e : ℕ) (r : Reached (left l numbers) k b e) → Good (next l 2 0 0 r.top) (below l 2 (part 2 0 r.top)) k e
  reached_good k b e r = all_good w acc l formed (left l numbers) 2 0 0 r.top k b e top (omega (arith, r.few)) (here k b e r)

  later : (k b e j c f : ℕ) → Reached (left l numbers) k b e → Reached (left l numbers) j c f → is_table k e ≡ true → is_table j f ≡ true → Before k b j c → base_of page_size e < base_of page_size f
  later k b e j c f p q y z o =
      let n = left l numbers in
      let h : q.top < 512 = omega (arith, q.few) in
      row_later w acc l formed n 2 0 0 p.top q.top k b e j c f top (omega (arith, p.few)) h
      (λ same. ascending w acc l formed n 2 0 0 q.top k b e j c f top h (rw same at (here k b e p)) (here j c f q) y z o) (here k b e p) (here j c f q) y z o

  -- 8A to 8C do not arise in them.
  pub built_sane : Sane (left l numbers)
  built_sane =
      record {
        room = omega (arith, room, some_tables w acc l formed numbers 2 0);
        inside = λ k b e r o.
            let g = reached_good k b e r in
            omega (arith, o.1, g.high o.0, next_within w acc l formed numbers 2 0 0 r.top (omega (arith, r.few)), room);
        plain = λ k b e r. (reached_good k b e r).plain;
        level_one = λ k b e r y z. omega (arith, (reached_good k b e r).low y, next_more w acc l formed numbers 2 0 0 r.top);
        once = λ k b e j c f p q y z s.
            same_place k b j c (λ o. let u = later j c f k b e q p z y o in omega arith) (λ o. let u = later k b e j c f p q y z o in omega arith);
      }

  -- **All that is built from a list is accepted against it**, whatever stood in the numbers before.
  pub built_accepted : vetted (left l numbers) l ≡ Accepted
  built_accepted = accepted_if (left l numbers) l built_sane (λ x u. leads_alike w acc l formed numbers ok x)
