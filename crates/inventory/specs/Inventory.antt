-- What there is to tell in the end: how many lines came; each core; the pages in ranges of one owner and one line; each world's mappings.
use Rattle.std.specs.Prelude.{◌≡◌, Bool, true, false, not, ◌||◌, List, ℕ, ◌+◌, ◌-◌, ◌*◌, ◌/◌, ◌%◌, ◌≤◌, ◌<◌, ltb, eqb, max, Option, Some, None}
use Rattle.std.proofs.Math.Path.{refl}
use Rattle.std.proofs.Common.{sym, ◌∙◌, arith, lt-ltb, le-ltb, ltb-true, ltb-false, eq-eqb, ne_eqb}
use Rattle.std.specs.Option.{MatchOption, unwrap_or}
use Rattle.rules.specs.Choice.{pick, picked, passed, either, yes_or_no}
use Rattle.rules.specs.Sizes.{worlds, most_mappings}
use Rattle.tools.specs.Search.{first, first_ends, first_is}
use Rattle.pages.specs.Owners.{owner}
use Rattle.pages.specs.declared.Window.{Window}
use Rattle.mapping.specs.Lists.{place}
use Rattle.ranges.specs.declared.Mapping.{Mapping}
use Rattle.setup.specs.Table.{ready, window, cores}
use Rattle.origins.specs.Origins.{origin}
use Rattle.inventory.specs.declared.Thing.{Thing}
use Rattle.inventory.specs.declared.Thing.TheVariants.{Head, NoWindow, Core, Range, Held, NoMappings, End}

-- ---- ranges of pages, from the tables of owners and of origins
-- a page has another owner, or was named by another line
unfoldable pub unlike : List ℕ → List ℕ → ℕ → ℕ → ℕ → Bool
unlike o t u line page = not (eqb (owner o page) u) || not (eqb (origin t page) line)

-- the first page from this one on that is unlike it, or the window's end
unfoldable pub range_end : List ℕ → List ℕ → ℕ → ℕ → ℕ
range_end o t pages page = first (unlike o t (owner o page) (origin t page)) page (pages - page)

-- ---- mappings, by their places: each world has sixteen, one behind the other
abbrev pub places : ℕ
places = worlds * most_mappings

unfoldable pub is_held : List ℕ → ℕ → Bool
is_held l i = not (eqb (place l (i / most_mappings) (i % most_mappings)).size 0)

-- the first held place from this one on, or the one past the last
unfoldable pub held_from : List ℕ → ℕ → ℕ
held_from l i = first (is_held l) i (places - i)

-- ---- things, in their order
-- the mapping at the first held place from this one on, that there is none at all, or the end
unfoldable pub held_thing : List ℕ → ℕ → Thing
held_thing l i = pick (ltb (held_from l i) places) (Held (held_from l i)) (pick (eqb i 0) NoMappings End)

-- the range from this page on; behind the last, the mappings
unfoldable pub range_thing : List ℕ → List ℕ → List ℕ → List ℕ → ℕ → Thing
range_thing s o t l page = pick (ltb page (window s).pages) (Range page (range_end o t (window s).pages page)) (held_thing l 0)

-- this core; behind the last, the ranges
unfoldable pub core_thing : List ℕ → List ℕ → List ℕ → List ℕ → ℕ → Thing
core_thing s o t l core = pick (ltb core (cores s)) (Core core) (range_thing s o t l 0)

unfoldable pub after_head : List ℕ → List ℕ → List ℕ → List ℕ → Thing
after_head s o t l = pick (ready s) (core_thing s o t l 0) NoWindow

-- the thing after another
abbrev pub next : List ℕ → List ℕ → List ℕ → List ℕ → Thing → Thing
next s o t l Head = after_head s o t l
next s o t l NoWindow = End
next s o t l (Core core) = core_thing s o t l (core + 1)
next s o t l (Range page end) = range_thing s o t l end
next s o t l (Held i) = held_thing l (i + 1)
next s o t l NoMappings = End
next s o t l End = End

-- nothing is left to tell
abbrev pub is_end : Thing → Bool
is_end Head = false
is_end NoWindow = false
is_end (Core core) = false
is_end (Range page end) = false
is_end (Held i) = false
is_end NoMappings = false
is_end End = true

-- ---- how the code searches: what `find` gave over the numbers from a on and before b
module _ (p : ℕ → Bool) (a b : ℕ) where
  abbrev pub Found : Option ℕ → Type 0
  Found o = MatchOption o ((k : ℕ) → a ≤ k → k < b → p k ≡ false) (λ i. (a ≤ i) × (i < b) × (p i ≡ true) × ((k : ℕ) → a ≤ k → k < i → p k ≡ false))

  pub found : (o : Option ℕ) → Found o → (r d : ℕ) → r ≡ unwrap_or o d → d ≡ max a b → r ≡ first p a (b - a)
  found None h r d e m =
      let f = first_is p a (b - a) in
      let k = first p a (b - a) in
      either (ltb k b)
      (λ y. let l = ltb-true k b y in absurd (yes_or_no (p k) (f.passes (omega (arith, f.low))) (h k f.low l)))
      (λ n. omega (arith, ltb-false k b n, f.low, f.high))
  found (Some i) h r d e m =
      let f = first_is p a (b - a) in
      let k = first p a (b - a) in
      either (ltb k i)
      (λ y. let l = ltb-true k i y in absurd (yes_or_no (p k) (f.passes (omega (arith, h.1))) (h.3 k f.low l)))
      (λ n.
      let g = ltb-false k i n in
      either (ltb i k)
      (λ y. absurd (yes_or_no (p i) h.2 (f.before i h.0 (ltb-true i k y))))
      (λ m. omega (arith, ltb-false i k m)))

-- ---- how the code's branches meet these
module _ (o t : List ℕ) (u line page : ℕ) where
  pub unlike_owner : (a : ℕ) → a ≡ owner o page → (a ≡ u → ⊥) → not (eqb a u) ≡ unlike o t u line page
  unfolding unlike
  unlike_owner a e h = let n = ne_eqb (owner o page) u (λ z. h (e ∙ z)) in rw (e, n)

  pub unlike_line : (a b : ℕ) → a ≡ owner o page → a ≡ u → b ≡ origin t page → not (eqb b line) ≡ unlike o t u line page
  unfolding unlike
  unlike_line a b e h f = rw (eq-eqb (owner o page) u (sym e ∙ h), f)

pub ruleset unlikes = (unlike_owner, unlike_line)

pub end_starts : (o t : List ℕ) (pages page a b r : ℕ) → a ≡ owner o page → b ≡ origin t page → r ≡ first (unlike o t a b) page (pages - page) → r ≡ range_end o t pages page
unfolding range_end
end_starts o t pages page a b r e f h = h ∙ rw (e, f)

module _ (l : List ℕ) (i : ℕ) where
  pub held_is : (m : Mapping) → m ≡ place l (i / most_mappings) (i % most_mappings) → not (eqb m.size 0) ≡ is_held l i
  unfolding is_held
  held_is m e = rw e

  pub from_none : places < i → i ≡ held_from l i
  unfolding held_from
  from_none h = first_ends _ i (places - i) _ refl (omega arith)

  module _ (at : ℕ) (is : at ≡ held_from l i) where
    pub held_some : at < places → Held at ≡ held_thing l i
    unfolding held_thing
    held_some h = rw (← is) (picked _ _ _ _ (lt-ltb at places h) refl)

    pub held_none : places ≤ at → i ≡ 0 → NoMappings ≡ held_thing l i
    unfolding held_thing
    held_none h e = rw (← is) (passed _ _ _ _ (le-ltb at places h) (picked _ _ _ _ (eq-eqb i 0 e) refl))

    pub held_end : places ≤ at → (i ≡ 0 → ⊥) → End ≡ held_thing l i
    unfolding held_thing
    held_end h e = rw (← is) (passed _ _ _ _ (le-ltb at places h) (passed _ _ _ _ (ne_eqb i 0 e) refl))

pub ruleset helds = (held_some, held_none, held_end)

module _ (l : List ℕ) (i : ℕ) where
  pub held_past : places ≤ i → End ≡ held_thing l (i + 1)
  held_past h = held_end l (i + 1) (i + 1) (from_none l (i + 1) (omega arith)) (omega arith) (λ z. absurd (omega arith))

module _ (s o t l : List ℕ) where
  module _ (page : ℕ) (v : Window) (is : v ≡ window s) where
    pub range_here : (end : ℕ) → page < v.pages → end ≡ range_end o t v.pages page → Range page end ≡ range_thing s o t l page
    unfolding range_thing
    range_here end h e = rw (← is, e) (picked _ _ _ _ (lt-ltb page v.pages h) refl)

    pub range_past : (r : Thing) → v.pages ≤ page → r ≡ held_thing l 0 → r ≡ range_thing s o t l page
    unfolding range_thing
    range_past r h e = rw (← is) (passed _ _ _ _ (le-ltb page v.pages h) e)

  module _ (core n : ℕ) (is : n ≡ cores s) where
    pub core_here : core < n → Core core ≡ core_thing s o t l core
    unfolding core_thing
    core_here h = rw (← is) (picked _ _ _ _ (lt-ltb core n h) refl)

    pub core_past : (r : Thing) → n ≤ core → r ≡ range_thing s o t l 0 → r ≡ core_thing s o t l core
    unfolding core_thing
    core_past r h e = rw (← is) (passed _ _ _ _ (le-ltb core n h) e)

  pub core_behind : (core n : ℕ) → n ≡ cores s → (r : Thing) → n ≤ core → r ≡ range_thing s o t l 0 → r ≡ core_thing s o t l (core + 1)
  core_behind core n is r h e = core_past (core + 1) n is r (omega arith) e

  module _ (b : Bool) (is : b ≡ ready s) (r : Thing) where
    pub head_ready : b ≡ true → r ≡ core_thing s o t l 0 → r ≡ after_head s o t l
    unfolding after_head
    head_ready e h = picked _ _ _ _ (sym is ∙ e) h

    pub head_none : b ≡ false → r ≡ NoWindow → r ≡ after_head s o t l
    unfolding after_head
    head_none e h = passed _ _ _ _ (sym is ∙ e) h

pub ruleset things = (range_here, range_past, core_here, core_past, core_behind, head_ready, head_none, held_past)

-- ---- which thing it is
module _ (s o t l : List ℕ) (x r : Thing) where
  pub next_core : (core : ℕ) → x ≡ Core core → r ≡ core_thing s o t l (core + 1) → r ≡ next s o t l x
  next_core core e h = rw e h

  pub next_range : (page end : ℕ) → x ≡ Range page end → r ≡ range_thing s o t l end → r ≡ next s o t l x
  next_range page end e h = rw e h

  pub next_held : (i : ℕ) → x ≡ Held i → r ≡ held_thing l (i + 1) → r ≡ next s o t l x
  next_held i e h = rw e h

  pub next_head : x ≡ Head → r ≡ after_head s o t l → r ≡ next s o t l x
  next_head e h = rw e h

  pub next_alone : x ≡ NoWindow → r ≡ End → r ≡ next s o t l x
  next_alone e h = rw e h

  pub next_none : x ≡ NoMappings → r ≡ End → r ≡ next s o t l x
  next_none e h = rw e h

  pub next_end : x ≡ End → r ≡ End → r ≡ next s o t l x
  next_end e h = rw e h

pub ruleset nexts = (next_core, next_range, next_held, next_head, next_alone, next_none, next_end)

pub ruleset laws = (unlike_owner, unlike_line, held_is, helds, things, nexts)
