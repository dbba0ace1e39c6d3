-- Lists of mappings: which may not stand beside a new one, which decides an address, where the address leads, and how a new one is judged.
use Rattle.std.specs.Prelude.{◌≡◌, ℕ, ◌+◌, ◌-◌, ◌/◌, ◌%◌, ◌^◌, Bool, false, not, ◌||◌, List, [], ◌∷◌, length, ◌==◌, nat_le, Err, None, Ok, Option, Result, Some}
use Rattle.mapping.specs.declared.Grant.TheVariants.{Hold, Nothing}
use Rattle.mapping.specs.Leads.{To}
use Rattle.mapping.specs.declared.Lead.{Lead}
use Rattle.mapping.specs.declared.Grant.{Grant}
use Rattle.rules.specs.Sizes.{page_size, most_mappings}
use Rattle.rules.specs.Choice.{pick}
use Rattle.rules.specs.Tests.{Test, refuses, sieve}
use Rattle.rules.specs.declared.Reason.{Reason}
use Rattle.rules.specs.declared.Reason.TheVariants.{Malformed, Beyond, Full, Overlap, NotOwned}
use Rattle.pages.specs.Owners.{owned}
use Rattle.pages.specs.declared.Window.{Window}
use Rattle.ranges.specs.declared.Mapping.{Mapping}
unfoldable pub use Rattle.ranges.specs.Mapping.{exact, on_pages, holds, meets, clashes, malformed, beyond}
pub use Rattle.ranges.specs.Mapping.{unaligned, touches}
use Rattle.ranges.specs.Mapping.{pages_of}

-- ---- what is asked of a list

-- one of them passes
unfoldable pub any_of : (Mapping → Bool) → List Mapping → Bool
any_of p [] = false
any_of p (m ∷ l) = p m || any_of p l

-- the smaller of a mapping and one that comes after it, if there is one; of two of one size the first
unfoldable pub lesser : Mapping → Option Mapping → Mapping
lesser m None = m
lesser m (Some n) = pick (nat_le m.size n.size) m n

-- the smallest that passes, and the first of those
unfoldable pub smallest_of : (Mapping → Bool) → List Mapping → Option Mapping
smallest_of p [] = None
smallest_of p (m ∷ l) = pick (p m) (Some (lesser m (smallest_of p l))) (smallest_of p l)

-- a mapping of the list may not stand beside the new one
unfoldable pub clash : List Mapping → Mapping → Bool
clash l n = any_of (clashes n) l

-- a mapping of the list has exactly this start and size
unfoldable pub has_exactly : List Mapping → ℕ → ℕ → Bool
has_exactly l v s = any_of (exact v s) l

-- a mapping of the list meets the run of pages
unfoldable pub meets_run : List Mapping → ℕ → ℕ → Bool
meets_run l start count = any_of (on_pages start count) l

-- a mapping of the list meets the virtual range
unfoldable pub touched : List Mapping → ℕ → ℕ → Bool
touched l start size = any_of (touches start size) l

-- the mapping that decides an address: the smallest that holds it
unfoldable pub deciding : List Mapping → ℕ → Option Mapping
deciding l x = smallest_of (holds x) l

unfoldable pub decided_by : Option Mapping → Option Mapping
decided_by None = None
decided_by (Some m) = Some m

-- the list with the last mapping of exactly this start and size taken out
unfoldable pub without : List Mapping → ℕ → ℕ → List Mapping
without [] v s = []
without (m ∷ l) v s = pick (has_exactly l v s) (m ∷ without l v s) (pick (exact v s m) l (m ∷ l))

-- where an address leads by the mapping that decides it; the sum is cut to 64 bits, which in the lists of a run cuts nothing (`lead_exact` in Once)
unfoldable pub leading : ℕ → Option Mapping → Option Lead
leading x None = None
leading x (Some m) = To ((m.phys + (x - m.virt)) % 2 ^ 64) m.attr

unfoldable pub lead_of : List Mapping → ℕ → Option Lead
lead_of l x = leading x (deciding l x)

-- ---- how a new mapping is judged

-- sixteen are held
unfoldable pub is_full : List Mapping → Bool
is_full l = nat_le most_mappings (length l)

-- the world owns each of the pages
unfoldable pub owns_run : List ℕ → ℕ → ℕ → Option ℕ → Bool
owns_run o world count (Some first) = owned o first count world
owns_run o world count None = false

unfoldable pub owns_pages : List ℕ → Window → ℕ → Mapping → Bool
owns_pages o w world m = owns_run o world (m.size / page_size) (pages_of w m)

abbrev pub map_tests : List Mapping → List ℕ → Window → ℕ → Mapping → List (Test Reason)
map_tests l o w world m =
    refuses (malformed m) Malformed
    ∷ refuses (beyond w m) Beyond
    ∷ refuses (is_full l) Full
    ∷ refuses (clash l m) Overlap
    ∷ refuses (not (owns_pages o w world m)) NotOwned
    ∷ []

-- a mapping of size 0 is nothing, and done
unfoldable pub map_verdict : List Mapping → List ℕ → Window → ℕ → Mapping → Result Grant Reason
map_verdict l o w world m = pick (m.size == 0) (Ok Nothing) (sieve Err (map_tests l o w world m) (Ok Hold))

-- ---- how the code's test meets this: by the place of the mapping's pages
module _ (k : Option ℕ) (w : Window) (m : Mapping) (said : k ≡ pages_of w m) (o : List ℕ) (world : ℕ) where
  pub owns_none : k ≡ None → false ≡ owns_pages o w world m
  unfolding owns_pages owns_run
  owns_none e = rw (← said, e)

  pub owns_all : (first : ℕ) (r : Bool) → k ≡ Some first → r ≡ owned o first (m.size / page_size) world → r ≡ owns_pages o w world m
  unfolding owns_pages owns_run
  owns_all first r e h = rw (← said, e) h

pub ruleset owner_tests = (owns_none, owns_all)
