-- Which new mappings are granted, in plain numbers: exactly those that may be made.
use Rattle.std.specs.Prelude.{◌≡◌, ℕ, ◌+◌, ◌/◌, ◌<◌, ◌≤◌, true, false, List, length, nat_eq, refl, Err, Ok, Some}
use Rattle.std.proofs.Math.Path.{sym}
use Rattle.std.proofs.Common.{arith}
use borrow.Author.Tests.{eq-eqb, ne_eqb, le-ltb, lt-leb}
use Rattle.mapping.specs.declared.Grant.TheVariants.{Hold}
use Rattle.rules.specs.Choice.{either, neither, not_false, passed}
use Rattle.rules.specs.Tests.{stops, goes, ends}
use Rattle.rules.specs.Sizes.{page_size, most_mappings, last_world, last_attributes}
use Rattle.rules.specs.declared.Reason.TheVariants.{Overlap}
use Rattle.pages.specs.Window.{acceptable, accepted, pages_to, run_yes}
use Rattle.pages.specs.Owners.{owned, Packed, owned_if}
use Rattle.pages.specs.declared.Window.{Window}
use Rattle.ranges.specs.Ranges.{meet_if}
use Rattle.ranges.specs.Mapping.{pages_of, is_outside}
use Rattle.ranges.specs.Nested.{beside_is, beside_clear}
use Rattle.mapping.specs.Mapping.{on_pages, clashes, clash, malformed, beyond, is_full, owns_run, owns_pages, map_verdict}
use Rattle.mapping.specs.Entries.{Every, Among, Beside, apart_one, any_none, any_among, every_among}
use Rattle.mapping.specs.Sound.{page_start, Formed}
use Rattle.mapping.proofs.Sound.{granted_formed, granted_room, granted_apart, granted_owned}
use Rattle.ranges.specs.declared.Mapping.{Mapping}
use Rattle.mapping.specs.Granted.{Mappable}

module _ (w : Window) (ok : acceptable w ≡ true) (o : List ℕ) (world : ℕ) (l : List Mapping) (m : Mapping) where
  -- A granted mapping may be made,
  pub granted_mappable : map_verdict l o w world m ≡ (Ok Hold) → Mappable w o world l m
  unfolding on_pages
  granted_mappable g = record {
    formed = granted_formed w ok l o world m g;
    room = granted_room w ok l o world m g;
    beside = λ n a. beside_is m n (apart_one l m n (granted_apart w ok l o world m g) a);
    owned = λ page h k. granted_owned w ok l o world m g page (meet_if (page_start w page) page_size m.phys m.size k (omega arith));
  }

  -- ---- the tests that a well-formed mapping passes
  module _ (f : Formed w m) where
    runs : pages_of w m ≡ Some (pages_to w m.phys)
    runs =
        let a = accepted w ok in
        run_yes w m.phys (m.size / page_size) (record { aligned = f.phys_aligned; low = f.low; inside = omega (arith, f.phys_aligned, f.size_aligned, f.low, f.high, a.aligned) })

    is_some : nat_eq m.size 0 ≡ false
    is_some = ne_eqb m.size 0 (λ z. omega (arith, f.some))

    is_formed : malformed m ≡ false
    unfolding malformed
    is_formed =
        neither _ _ (not_false _ (eq-eqb _ _ f.virt_aligned))
        (neither _ _ (not_false _ (eq-eqb _ _ f.phys_aligned)) (neither _ _ (not_false _ (eq-eqb _ _ f.size_aligned)) (le-ltb last_attributes m.attr f.attributes)))

    is_inside : beyond w m ≡ false
    unfolding beyond is_outside
    is_inside = neither (is_outside (pages_of w m)) _ (rw runs) (le-ltb _ (m.virt + m.size) f.ends)

    module _ (r : length l < most_mappings) where
      has_room : is_full l ≡ false
      unfolding is_full
      has_room = lt-leb most_mappings (length l) r

      -- where it may not stand beside one of the list, it is refused for that,
      pub overlap_refused : (n : Mapping) → Among n l → (Beside m n → ⊥) → map_verdict l o w world m ≡ Err Overlap
      unfolding map_verdict clash
      overlap_refused n a d =
          let c : clashes m n ≡ true = either (clashes m n) (λ y. y) (λ k. absurd (d (beside_is m n k))) in
          sym (passed _ _ _ _ is_some
          (goes _ _ _ _ _ _ is_formed (goes _ _ _ _ _ _ is_inside (goes _ _ _ _ _ _ has_room (stops _ _ _ _ _ _ (any_among (clashes m) l n a c) refl)))))

  -- and one that may be made is granted.
  pub mappable_granted : Packed o w.pages → world ≤ last_world → Every (λ (n : Mapping). 0 < n.size) l → Mappable w o world l m → map_verdict l o w world m ≡ (Ok Hold)
  unfolding map_verdict clash owns_pages owns_run
  mappable_granted p few some q =
      let f = q.formed in
      let a = accepted w ok in
      let first = pages_to w m.phys in
      let count = m.size / page_size in
      let start : m.phys ≡ page_start w first = omega (arith, f.phys_aligned, f.low, a.aligned) in
      let inside : first + count ≤ w.pages = omega (arith, start, f.size_aligned, f.high) in
      let c : clash l m ≡ false = any_none (clashes m) l (λ n i. beside_clear m n f.some (every_among (λ (n : Mapping). 0 < n.size) l n some i) (q.beside n i)) in
      let mine : owned o first count world ≡ true =
      owned_if o first count world w.pages p a.most inside few (λ page h k. q.owned page (omega (arith, start)) (omega (arith, start, f.size_aligned))) in
      let own : owns_pages o w world m ≡ true = rw (runs f) mine in
      sym (passed _ _ _ _ (is_some f)
      (goes _ _ _ _ _ _ (is_formed f) (goes _ _ _ _ _ _ (is_inside f) (goes _ _ _ _ _ _ (has_room f q.room) (goes _ _ _ _ _ _ c (goes _ _ _ _ _ _ (not_false _ own) (ends _ _ _ refl)))))))
