-- The mappings that each world holds, how one is put among them and how one is taken out. Shut: the laws say the rest.
use Rattle.std.specs.Prelude.{◌≡◌, ℕ, ◌-◌, ◌*◌, ◌<◌, ◌≤◌, Bool, true, false, ltb, List, [], length, ◌==◌, ◌≢◌, nat_lt, None, Some, Option}
use Rattle.std.proofs.Math.Path.{refl, sym}
use Rattle.std.proofs.Common.{ap, ◌∙◌, arith}
use borrow.Author.Tests.{lt-ltb, le-ltb, le-leb, lt-leb, ne_eqb, eqb-true, eqb-false, ltb-true, ltb-false}
use Rattle.rules.specs.Choice.{pick, picked, passed, either, chosen, chosen_two, yes_or_no}
use Rattle.rules.specs.Sizes.{worlds, page_size, most_mappings}
use Rattle.mapping.specs.Mapping.{on_pages, any_of, clash, is_full, has_exactly, meets_run, touched, decided_by, without}
use Rattle.mapping.specs.Entries.{Inserted, without_missing}
use Rattle.ranges.specs.Question.{asks_free, asks, answers}
use Rattle.tools.specs.Search.{first_is}
use Rattle.mapping.specs.Places.{gathered, lowest, lowest_any, lowest_none, gathered_clash, room_left, none_left, filled_in, removed, gathered_same, gathered_none, gathered_some}
pub use Rattle.places.specs.Table.{unmapped, WholeLists, unmapped_whole, place}
use Rattle.places.specs.Found.{found, latest, latest_most, latest_answers, latest_fails, latest_same, spot, spot_reach, spot_free, spot_full, spot_same, clashed}
use Rattle.places.specs.Table.{blank, reach, reach_no_world, place_out, stored, stored_whole, stored_at, stored_same, stored_within, stored_elsewhere, stored_no_world, stored_no_place, freed, freed_whole, freed_same, freed_within, freed_elsewhere, unmapped_blank}
use Rattle.ranges.specs.declared.Mapping.{Mapping}
use Rattle.ranges.specs.declared.Question.{Question}
use Rattle.ranges.specs.declared.Question.TheVariants.{Exact, OnPages, OnRange, Touches}

-- the mappings that the world holds, in the order of their places
unfoldable pub held : List ℕ → ℕ → List Mapping
held t w = gathered (place t w) 0 most_mappings

-- the mapping put behind the world's last, or at its lowest free place where the last place is held; nothing changes where none is free
pub holding : List ℕ → ℕ → Mapping → List ℕ
holding t w m = stored t w (spot t w) m

-- the world's last place of exactly this start and size made free; nothing changes where there is none
pub released : List ℕ → ℕ → ℕ → ℕ → List ℕ
released t w v s = pick (nat_lt 0 (latest t w v s)) (freed t w (latest t w v s - 1)) t

-- ---- the place found, and what the list of the held mappings says
module _ (t : List ℕ) (w : ℕ) (q : Question) (o : asks_free q ≡ false) where
  found_any : ltb (found t w q) most_mappings ≡ any_of (asks q) (held t w)
  unfolding found lowest held
  found_any =
      either (nat_lt (found t w q) most_mappings) (λ y. y ∙ sym (lowest_any (place t w) q most_mappings o (ltb-true _ _ y)))
      (λ n. n ∙ sym (lowest_none (place t w) q most_mappings o (ltb-false _ _ n)))

module _ (t : List ℕ) (w k : ℕ) where
  pub has_is : (v s : ℕ) → k ≡ latest t w v s → nat_lt 0 k ≡ has_exactly (held t w) v s
  unfolding asks_free asks has_exactly found
  has_is v s e =
      let n = latest t w v s in
      let r = first_is (λ (i : ℕ). answers (Exact v s) (place t w i)) 0 most_mappings in
      let i = found t w (Exact v s) in
      let z : ltb 0 n ≡ nat_lt i most_mappings
      = either (nat_lt 0 n)
      (λ y. let h = ltb-true 0 n y in
      y ∙ sym (either (nat_lt i most_mappings) (λ q. q)
      (λ q. absurd (yes_or_no _ (latest_answers t w v s h) (r.before (n - 1) (omega arith) (omega (arith, latest_most t w v s, ltb-false i most_mappings q)))))))
      (λ y. let h = ltb-false 0 n y in
      y ∙ sym (either (nat_lt i most_mappings)
      (λ q. let l = ltb-true i most_mappings q in absurd (yes_or_no _ (r.passes (omega arith)) (latest_fails t w v s i (omega arith) l))) (λ q. q))) in
      rw e (z ∙ found_any t w (Exact v s) refl)

  pub meets_is : (a n : ℕ) → k ≡ found t w (OnPages a n) → nat_lt k most_mappings ≡ meets_run (held t w) a n
  unfolding asks_free asks meets_run
  meets_is a n e = rw e (found_any t w (OnPages a n) refl)

  -- the same by the bytes of the run
  pub meets_bytes : (a n s : ℕ) → k ≡ found t w (OnRange a s) → s ≡ n * page_size → nat_lt k most_mappings ≡ meets_run (held t w) a n
  unfolding asks_free asks meets_run on_pages
  meets_bytes a n s e f = rw (e, f) (found_any t w (OnRange a (n * page_size)) refl)

  module _ (e : k ≡ spot t w) where
    pub full_yes : most_mappings ≤ k → is_full (held t w) ≡ true
    unfolding found lowest held is_full
    full_yes h = le-leb most_mappings (length (held t w)) (omega (arith, none_left (place t w) most_mappings (spot_full t w (rw e at h))))

    pub full_no : k < most_mappings → is_full (held t w) ≡ false
    unfolding held is_full
    full_no h = let l = (rw e at h) in lt-leb most_mappings (length (held t w)) (room_left (place t w) most_mappings (spot t w) l (spot_free t w l))

  pub touched_is : (a n : ℕ) → k ≡ found t w (Touches a n) → nat_lt k most_mappings ≡ touched (held t w) a n
  unfolding asks_free asks touched
  touched_is a n e = rw e (found_any t w (Touches a n) refl)

  pub holding_is : (m : Mapping) (t' : List ℕ) → k ≡ spot t w → t' ≡ stored t w k m → t' ≡ holding t w m
  unfolding holding
  holding_is m t' e f = rw (← e) f

  pub released_not : (v s : ℕ) → k ≡ latest t w v s → k ≡ 0 → t ≡ released t w v s
  unfolding released
  released_not v s e h = passed _ _ _ _ (le-ltb 0 (latest t w v s) (omega arith)) refl

  pub released_is : (v s : ℕ) (t' : List ℕ) → k ≡ latest t w v s → (k ≢ 0) → t' ≡ freed t w (k - 1) → t' ≡ released t w v s
  unfolding released
  released_is v s t' e d f = picked _ _ _ _ (lt-ltb 0 (latest t w v s) (omega arith)) (f ∙ rw e)

-- ---- a place that clashes is one of the list that does
module _ (t : List ℕ) (w : ℕ) (m : Mapping) (r : Bool) (e : r ≡ clashed t w m) where
  clash_is : r ≡ clash (held t w) m
  unfolding clashed held clash
  clash_is = e ∙ sym (gathered_clash (place t w) m 0 most_mappings)

  pub clash_yes : r ≡ true → clash (held t w) m ≡ true
  clash_yes h = sym clash_is ∙ h

  pub clash_no : r ≡ false → clash (held t w) m ≡ false
  clash_no h = sym clash_is ∙ h

-- ---- where an address leads, by who decides it
pub decided_some : (o : Option Mapping) (m : Mapping) → Some m ≡ decided_by o → o ≡ Some m
unfolding decided_by
decided_some None m e = let y : ◌≡◌ {A = ℕ} 0 1 = cc in absurd (omega arith)
decided_some (Some n) m e = let z : m ≡ n = cc in ap Some (sym z)

pub decided_none : (o : Option Mapping) → None ≡ decided_by o → o ≡ None
unfolding decided_by
decided_none None e = refl
decided_none (Some n) e = let y : ◌≡◌ {A = ℕ} 0 1 = cc in absurd (omega arith)

pub ruleset verdict_laws = (clash_yes, clash_no, full_yes, full_no)

-- ---- for the crates above

-- place by place
pub held_gathered : (t : List ℕ) (w : ℕ) → held t w ≡ gathered (place t w) 0 most_mappings
unfolding held
held_gathered t w = refl

-- no world holds anything at first, and a world that is none never does
pub held_unmapped : (w : ℕ) → held unmapped w ≡ []
unfolding held
held_unmapped w = gathered_none (place unmapped w) 0 most_mappings (λ i h l. rw (unmapped_blank w i))

pub held_no_world : (t : List ℕ) (w : ℕ) → worlds ≤ w → held t w ≡ []
unfolding held
held_no_world t w h = gathered_none (place t w) 0 most_mappings (λ i k l. rw (place_out t w i (omega (arith, reach_no_world t w h))))

pub held_some : (t : List ℕ) (w v : ℕ) → has_exactly (held t w) v 0 ≡ false
unfolding held
held_some t w v = gathered_some (place t w) 0 most_mappings v

module _ (t : List ℕ) (w : ℕ) (m : Mapping) where
  pub holding_whole : WholeLists t → WholeLists (holding t w m)
  unfolding holding
  holding_whole h = stored_whole t w (spot t w) m h

  pub holding_other : (u : ℕ) → (u ≢ w) → held (holding t w m) u ≡ held t u
  unfolding holding held
  holding_other u d = gathered_same (place (stored t w (spot t w) m) u) (place t u) 0 most_mappings (λ j h l. stored_elsewhere t w (spot t w) m u j d)

  -- where the world has room, the mapping is put in among those that it holds
  pub holding_inserts : WholeLists t → w < worlds → (m.size ≢ 0) → length (held t w) < most_mappings → Inserted m (held t w) (held (holding t w m) w)
  unfolding holding held found lowest
  holding_inserts h k d r =
      let i = spot t w in
      let l : i < most_mappings = either (nat_lt i most_mappings) (ltb-true _ _) (λ n. absurd (omega (arith, none_left (place t w) most_mappings (spot_full t w (ltb-false _ _ n))))) in
      let s : place (stored t w i m) w i ≡ m = stored_same t w i m h k l (spot_reach t w) d in
      (rw s at (filled_in (place t w) (place (stored t w i m) w) most_mappings i l (λ j e. stored_within t w i m h j e) (spot_free t w l) (rw s (ne_eqb _ _ d))))

module _ (t : List ℕ) (w v s : ℕ) where
  none_exact : has_exactly [] v s ≡ false
  unfolding has_exactly any_of
  none_exact = refl

  -- it is a place made free, or nothing changes
  released_cases : (P : List ℕ → Type 0) → (0 < latest t w v s → P (freed t w (latest t w v s - 1))) → (latest t w v s ≤ 0 → P t) → P (released t w v s)
  unfolding released
  released_cases P f p = chosen P (nat_lt 0 (latest t w v s)) _ _ (λ y. f (ltb-true 0 (latest t w v s) y)) (λ n. p (ltb-false 0 (latest t w v s) n))

  pub released_whole : WholeLists t → WholeLists (released t w v s)
  released_whole h = released_cases WholeLists (λ k. freed_whole t w (latest t w v s - 1) h) (λ k. h)

  pub released_other : (u : ℕ) → (u ≢ w) → held (released t w v s) u ≡ held t u
  unfolding held
  released_other u d =
      let i = latest t w v s - 1 in
      released_cases (λ (r : List ℕ). held r u ≡ held t u)
      (λ k. gathered_same (place (freed t w i) u) (place t u) 0 most_mappings (λ j h l. freed_elsewhere t w i u j d)) (λ k. refl)

  -- where the world holds no such mapping, nothing changes
  pub released_none : has_exactly (held t w) v s ≡ false → released t w v s ≡ t
  released_none e =
      released_cases (λ (r : List ℕ). r ≡ t) (λ k. absurd (yes_or_no _ (lt-ltb 0 (latest t w v s) k) (has_is t w (latest t w v s) v s refl ∙ e))) (λ k. refl)

  -- the last mapping of exactly this start and size is taken out
  pub released_takes : WholeLists t → held (released t w v s) w ≡ without (held t w) v s
  unfolding held
  released_takes h =
      let n = latest t w v s in
      let i = n - 1 in
      released_cases (λ (r : List ℕ). held r w ≡ without (held t w) v s)
      (λ k. let b : place (freed t w i) w i ≡ blank = freed_same t w i h in
      removed (place t w) (place (freed t w i) w) most_mappings v s i (omega (arith, latest_most t w v s)) (latest_answers t w v s k)
      (λ j l u. latest_fails t w v s j (omega arith) u) (λ j e. freed_within t w i h j e) (rw b))
      (λ k. sym (without_missing v s (held t w) (sym (has_is t w n v s refl) ∙ le-ltb 0 n k)))

-- ---- two tables with the same mappings of a world, place by place. That the lists are the same would not do: where a mapping goes depends on the places
abbrev pub SamePlaces : ℕ → List ℕ → List ℕ → Type 0
SamePlaces w t u = (i : ℕ) → place t w i ≡ place u w i

-- a change of one world's mappings leaves every other world's places
pub holding_places : (t : List ℕ) (w u : ℕ) (m : Mapping) → (u ≢ w) → SamePlaces u (holding t w m) t
unfolding holding
holding_places t w u m d i = stored_elsewhere t w (spot t w) m u i d

pub released_places : (t : List ℕ) (w u v s : ℕ) → (u ≢ w) → SamePlaces u (released t w v s) t
released_places t w u v s d i =
    released_cases t w v s (λ (r : List ℕ). place r u i ≡ place t u i) (λ k. freed_elsewhere t w (latest t w v s - 1) u i d) (λ k. refl)

module _ (w : ℕ) (t u : List ℕ) (same : SamePlaces w t u) where
  pub held_same : held t w ≡ held u w
  unfolding held
  held_same = gathered_same (place t w) (place u w) 0 most_mappings (λ i h l. same i)

  module _ (a : WholeLists t) (b : WholeLists u) where
    -- one mapping put at the place where it goes in both
    held_both : (m : Mapping) → SamePlaces w (stored t w (spot t w) m) (stored u w (spot u w) m)
    held_both m j =
        let i = spot u w in
        let e : spot t w ≡ i = spot_same t u w same in
        let r : i ≤ reach t w = (rw e at (spot_reach t w)) in
        rw e
        (either (j == i)
        (λ y. let f : j ≡ i = eqb-true j i y in
        rw f
        (either (nat_lt w worlds)
        (λ x. either (nat_lt i most_mappings)
        (λ z. let k = ltb-true w worlds x in let l = ltb-true i most_mappings z in stored_at t w i m a k l r ∙ sym (stored_at u w i m b k l (spot_reach u w)))
        (λ z. let l = ltb-false i most_mappings z in rw (← stored_no_place t w i m l, ← stored_no_place u w i m l) (same i)))
        (λ x. let k = ltb-false w worlds x in rw (← stored_no_world t w i m k, ← stored_no_world u w i m k) (same i))))
        (λ n. let d = eqb-false j i n in stored_within t w i m a j d ∙ same j ∙ sym (stored_within u w i m b j d)))

    -- one place made free in both
    freed_both : (i : ℕ) → SamePlaces w (freed t w i) (freed u w i)
    freed_both i j =
        either (j == i)
        (λ y. let f : j ≡ i = eqb-true j i y in rw f (freed_same t w i a ∙ sym (freed_same u w i b)))
        (λ n. let d = eqb-false j i n in freed_within t w i a j d ∙ same j ∙ sym (freed_within u w i b j d))

    pub holding_both : (v : ℕ) (m : Mapping) → SamePlaces w (holding t v m) (holding u v m)
    unfolding holding
    holding_both v m =
        either (w == v) (λ y. let e : v ≡ w = sym (eqb-true w v y) in rw e (held_both m))
        (λ n j. let d = eqb-false w v n in stored_elsewhere t v (spot t v) m w j d ∙ same j ∙ sym (stored_elsewhere u v (spot u v) m w j d))

    released_here : (x s : ℕ) → SamePlaces w (released t w x s) (released u w x s)
    unfolding released
    released_here x s j =
        let e : latest t w x s ≡ latest u w x s = latest_same t u w x s same in
        let n = latest u w x s in
        rw e
        (chosen_two (λ (a b : List ℕ). place a w j ≡ place b w j) (nat_lt 0 n) (freed t w (n - 1)) t (freed u w (n - 1)) u (λ y. freed_both (n - 1) j) (λ z. same j))

    pub released_both : (v x s : ℕ) → SamePlaces w (released t v x s) (released u v x s)
    released_both v x s =
        either (w == v) (λ y. let e : v ≡ w = sym (eqb-true w v y) in rw e (released_here x s))
        (λ n j. let d = eqb-false w v n in released_places t v w x s d j ∙ same j ∙ sym (released_places u v w x s d j))
