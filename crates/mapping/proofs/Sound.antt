-- What every step keeps of a world's mappings: each is well formed and inside the window, no two clash,
use Rattle.std.specs.Prelude.{◌≡◌, ℕ, ◌+◌, ◌-◌, ◌*◌, ◌/◌, ◌%◌, ◌<◌, ◌≤◌, Bool, true, false, not, ◌||◌, List, length, ◌==◌, ◌≢◌, Err, None, Ok, Option, Result, Some}
use Rattle.std.proofs.Math.Path.{refl, sym}
use Rattle.std.proofs.Common.{◌∙◌}
use native.Mathlib.Omega.{arith}
use borrow.Author.Tests.{ltb-false, leb-false, eqb-false, not-false}
use Rattle.mapping.specs.declared.Grant.TheVariants.{Hold, Nothing}
use Rattle.rules.specs.declared.Reason.{Reason}
use Rattle.mapping.specs.declared.Grant.{Grant}
use Rattle.rules.specs.Choice.{pick, pick_yes, pick_no, by, either, first_or, second_or, not_first, not_second, yes_or_no}
use Rattle.rules.specs.Tests.{Clear, sieve, sieved}
use Rattle.rules.specs.Sizes.{page_size, most_mappings}
use Rattle.pages.specs.Window.{acceptable, accepted, run_of, run_is}
use Rattle.pages.specs.Owners.{owner, owned, owned_at, given, given_outside}
use Rattle.pages.specs.declared.Window.{Window}
use Rattle.ranges.specs.Ranges.{within, meet, within_low, within_high, within_if, meet_inside}
use Rattle.mapping.specs.Mapping.{on_pages, any_of, clash, meets_run, without, has_exactly, malformed, beyond, is_full, owns_run, owns_pages, map_tests, map_verdict}
use Rattle.mapping.specs.Entries.{Inserted, Among, any_among, any_none, insert_any, any_less, insert_every, remove_every, insert_apart, remove_apart, insert_length, without_missing, without_removes}
use Rattle.ranges.specs.Mapping.{pages_of, is_outside}
use Rattle.ranges.specs.declared.Mapping.{Mapping}
use Rattle.mapping.specs.Sound.{Formed, Sound, aligned, covered_whole, covers, on_page, page_start}

-- no test held
granted_clear :
    (l : List Mapping) (o : List ℕ) (w : Window) (world : ℕ) (m : Mapping) →
    map_verdict l o w world m ≡ (Ok Hold) → ((m.size == 0) ≡ false) × Clear (map_tests l o w world m)
unfolding map_verdict
granted_clear l o w world m =
    by (λ (b : Bool). pick b (Ok Nothing) (sieve Err (map_tests l o w world m) (Ok Hold)) ≡ (Ok Hold) → (b ≡ false) × Clear (map_tests l o w world m)) (m.size == 0)
    (λ e g. let z : (Ok Nothing) ≡ (Ok Hold) = sym (pick_yes true (Ok Nothing) _ refl) ∙ g in let y : ◌≡◌ {A = ℕ} 0 1 = cc in absurd (omega arith))
    (λ e g. (refl, clear (sym (pick_no false (Ok Nothing) _ refl) ∙ g)))
  where
    clear : sieve Err (map_tests l o w world m) (Ok Hold) ≡ (Ok Hold) → Clear (map_tests l o w world m)
    clear = sieved (λ (v : Result Grant Reason). v ≡ (Ok Hold) → Clear (map_tests l o w world m)) Err (map_tests l o w world m) (Ok Hold)
        (λ r z. let y : ◌≡◌ {A = ℕ} 0 1 = cc in absurd (omega arith)) (λ c z. c)

module _ (w : Window) (ok : acceptable w ≡ true) (l : List Mapping) (o : List ℕ) (world : ℕ) (m : Mapping) (g : map_verdict l o w world m ≡ (Ok Hold)) where
  clear : ((m.size == 0) ≡ false) × Clear (map_tests l o w world m)
  clear = granted_clear l o w world m g

  shaped : malformed m ≡ false
  unfolding Clear
  shaped = clear.1.0

  inside : beyond w m ≡ false
  unfolding Clear
  inside = clear.1.1.0

  pub granted_room : length l < most_mappings
  unfolding Clear is_full
  granted_room = leb-false _ _ clear.1.1.1.0

  pub granted_apart : clash l m ≡ false
  unfolding Clear
  granted_apart = clear.1.1.1.1.0

  mine : owns_pages o w world m ≡ true
  unfolding Clear
  mine = not-false _ clear.1.1.1.1.1.0

  first_page : (k : Option ℕ) → is_outside k ≡ false → (first : ℕ) × (k ≡ Some first)
  unfolding is_outside
  first_page (Some first) e = (first, refl)
  first_page None e = let z : true ≡ false = e in absurd (yes_or_no true refl z)

  starts : (first : ℕ) × (pages_of w m ≡ Some first)
  unfolding beyond
  starts = first_page (pages_of w m) (not_first (is_outside (pages_of w m)) _ inside)

  pub granted_formed : Formed w m
  unfolding malformed beyond
  granted_formed =
      let r = run_is w ok m.phys (m.size / page_size) starts.0 starts.1 in
      let z : m.size ≡ 0 → ⊥ = eqb-false _ _ clear.0 in
      let a = not_second (not (m.virt % page_size == 0)) _ shaped in
      let b = not_second (not (m.phys % page_size == 0)) _ a in
      let c : m.size % page_size ≡ 0 = aligned m.size (not_first (not (m.size % page_size == 0)) _ b) in
      record {
        some = omega arith;
        virt_aligned = aligned m.virt (not_first (not (m.virt % page_size == 0)) _ shaped);
        phys_aligned = aligned m.phys (not_first (not (m.phys % page_size == 0)) _ a);
        size_aligned = c;
        ends = ltb-false _ _ (not_second (is_outside (pages_of w m)) _ inside);
        low = omega arith;
        high = omega arith;
        attributes = ltb-false _ _ (not_second (not (m.size % page_size == 0)) _ b);
      }

  pub granted_owned : (page : ℕ) → on_page w page m ≡ true → owner o page ≡ world
  unfolding owns_pages owns_run
  granted_owned page e =
      let r = run_is w ok m.phys (m.size / page_size) starts.0 starts.1 in
      let f = granted_formed in
      let all : owned o starts.0 (m.size / page_size) world ≡ true = rw starts.1 at mine in
      let c = covered_whole w (accepted w ok) m f page e in
      owned_at o starts.0 (m.size / page_size) world page all (omega arith) (omega arith)

-- ---- what keeps a list sound
module _ (w : Window) (o : List ℕ) (world : ℕ) where
  -- a granted mapping is put in
  pub granted_keeps :
      (l l' : List Mapping) (m : Mapping) →
      acceptable w ≡ true → map_verdict l o w world m ≡ (Ok Hold) → Inserted m l l' → Sound w o world l → Sound w o world l'
  unfolding covers meets_run
  granted_keeps l l' m ok g i s = record {
    formed = insert_every (Formed w) i (granted_formed w ok l o world m g) s.formed;
    apart = insert_apart i (granted_apart w ok l o world m g) s.apart;
    owned = λ page e.
        let p = on_page w page in
        let f : (p m || any_of p l) ≡ true = sym (insert_any p i) ∙ e in
        either (p m) (λ y. granted_owned w ok l o world m g page y) (λ n. s.owned page (rw n at f));
    few = omega (arith, insert_length i, granted_room w ok l o world m g);
  }

  -- a mapping is taken out
  pub removed_keeps : (l l' : List Mapping) (m : Mapping) → Inserted m l l' → Sound w o world l' → Sound w o world l
  unfolding covers meets_run
  removed_keeps l l' m i s = record {
    formed = remove_every (Formed w) i s.formed;
    apart = remove_apart i s.apart;
    owned = λ page e. s.owned page (insert_any (on_page w page) i ∙ second_or (on_page w page m) _ e);
    few = omega (arith, insert_length i, s.few);
  }

  pub without_keeps : (l : List Mapping) (v n : ℕ) → Sound w o world l → Sound w o world (without l v n)
  without_keeps l v n s =
      either (has_exactly l v n) (λ y. let r = without_removes v n l y in removed_keeps (without l v n) l r.gone r.was s)
      (λ k. rw (without_missing v n l k) s)

  -- owners change, but not that of a page that the list covers
  pub owners_keep :
      (l : List Mapping) (o' : List ℕ) →
      ((page : ℕ) → covers w l page ≡ true → owner o' page ≡ owner o page) → Sound w o world l → Sound w o' world l
  owners_keep l o' h s = record { formed = s.formed; apart = s.apart; owned = λ page e. h page e ∙ s.owned page e; few = s.few }

-- pages are given away that the giver owns and has not mapped: every world's list stays sound
pub given_keeps :
    (w : Window) (o : List ℕ) (lists : ℕ → List Mapping) (first count from to : ℕ) →
    owned o first count from ≡ true →
    ((page : ℕ) → first ≤ page → page < first + count → covers w (lists from) page ≡ false) →
    ((world : ℕ) → Sound w o world (lists world)) →
    (world : ℕ) → Sound w (given o first count to) world (lists world)
given_keeps w o lists first count from to own free s world =
    owners_keep w o world (lists world) (given o first count to)
    (λ page e. given_outside o first count to page (λ h l.
    let z : world ≡ from = sym ((s world).owned page e) ∙ owned_at o first count from page own h l in
    yes_or_no _ (rw z at e) (free page h l)))
    (s world)

-- ---- a run of pages that no mapping meets is not covered
module _ (w : Window) (l : List Mapping) (start count first : ℕ) where
  pub unmet_at :
      start ≡ page_start w first → meets_run l start count ≡ false →
      (page : ℕ) → first ≤ page → page < first + count → covers w l page ≡ false
  unfolding covers meets_run on_pages
  unmet_at e h page k n =
      any_less (on_pages start count) (on_page w page) l
      (λ m g. meet_inside start (count * page_size) m.phys m.size (page_start w page) page_size (omega arith) (omega arith) (omega arith) g)
      h

  pub unmet_run :
      acceptable w ≡ true → run_of w start count ≡ Some first → meets_run l start count ≡ false →
      (page : ℕ) → first ≤ page → page < first + count → covers w l page ≡ false
  unmet_run ok e = unmet_at (run_is w ok start count first e).starts

  -- and where no page of it is covered, none meets it
  pub unmet_if : start ≡ page_start w first → 0 < count → ((page : ℕ) → first ≤ page → page < first + count → covers w l page ≡ false) → meets_run l start count ≡ false
  unfolding covers meets_run on_pages meet
  unmet_if e some h = any_none (on_pages start count) l (λ m a. either (on_pages start count m) (λ y. absurd (met m a y)) (λ n. n))
    where
      at : (m : Mapping) → Among m l → (page : ℕ) → first ≤ page → page < first + count → on_page w page m ≢ true
      at m a page k n y = yes_or_no _ (any_among (on_page w page) l m a y) (h page k n)

      met : (m : Mapping) → Among m l → on_pages start count m ≢ true
      met m a y =
          either (within m.phys start (count * page_size))
          (λ z. let b = within_low m.phys start (count * page_size) z in
          let c = within_high m.phys start (count * page_size) z in
          let page : ℕ = first + (m.phys - start) / page_size in
          at m a page (omega arith) (omega arith) (first_or (within m.phys (page_start w page) page_size) _ (within_if m.phys (page_start w page) page_size (omega arith) (omega arith))))
          (λ z. let g : within start m.phys m.size ≡ true = (rw z at y) in
          at m a first (omega arith) (omega arith) (second_or (within m.phys (page_start w first) page_size) _ (rw (← e) g)))
