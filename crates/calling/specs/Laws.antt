-- How the code's branches meet the definitions of Calling: one law for each outcome.
use Rattle.std.specs.Prelude.{◌≡◌, Bool, List, ℕ, Err, Ok, Result, ⊤}
use Rattle.std.proofs.Common.{◌∙◌}
use Rattle.cores.specs.Power.{is_on}
use Rattle.cores.specs.Cores.{power}
use Rattle.cores.specs.declared.Power.{Power}
use Rattle.pages.specs.declared.Window.{Window}
use Rattle.calls.specs.Step.{State, state, called}
use Rattle.calls.specs.declared.Site.{Site}
use Rattle.calls.specs.declared.Made.{Made}
use Rattle.parsing.specs.declared.Status.{Status}
use Rattle.setup.specs.Table.{window, cores, over}
use Rattle.setup.specs.Frames.{core_verdict}
use Rattle.setup.specs.Laws.{core_refused, core_granted}
use Rattle.showing.specs.declared.Reply.{Reply}
use Rattle.showing.specs.declared.Reply.TheVariants.{Told}
use Rattle.calling.specs.Calling.{site_of, trying, shown_in, calling}

-- ---- what set-up has fixed, and a frame for a core
pub site_so : (s : List ℕ) (w : Window) (n : ℕ) → w ≡ window s → n ≡ cores s → record { window = w; cores = n } ≡ site_of s
site_so s w n e h = rw (e, h)

pub asks_on : (s p : List ℕ) (core : ℕ) (w : Power) (on fits : Bool) (v : Result ⊤ Status) → w ≡ power p core → on ≡ is_on w → on ≡ fits → v ≡ core_verdict s core fits
    → v ≡ core_verdict s core (is_on (power p core))
asks_on s p core w on fits v has said so is = is ∙ rw (← so, said, has)

-- ---- a call
module _ (s l o r p t k : List ℕ) (core : ℕ) (xs : List ℕ) (v : Result ⊤ Status) (is : v ≡ core_verdict s core (is_on (power p core))) where
  pub try_refused : (why : Status) → v ≡ Err why → ((s, state (site_of s) l o r p t k), Err why) ≡ trying s (state (site_of s) l o r p t k) core xs
  unfolding trying
  try_refused why e = core_refused (λ (why : Status). ((s, state (site_of s) l o r p t k), Err why)) s core (is_on (power p core)) _ v is why e

  pub try_called : (u : ⊤) (x : Site) (s' o' r' p' t' k' : List ℕ) (made : Made) → v ≡ Ok u → x ≡ site_of s → (state x l o' r' p' t' k', made) ≡ called (state x l o r p t k) core xs
      → s' ≡ over s → ((s', state (site_of s) l o' r' p' t' k'), Ok made) ≡ trying s (state (site_of s) l o r p t k) core xs
  unfolding trying
  try_called u x s' o' r' p' t' k' made e z g h =
      let q : (state (site_of s) l o' r' p' t' k', made) ≡ called (state (site_of s) l o r p t k) core xs = rw z at g in
      rw (h, ← q) (core_granted (λ (why : Status). ((s, state (site_of s) l o r p t k), Err why)) s core (is_on (power p core)) _ v is e)

pub ruleset tries = (try_refused, try_called)

module _ (s : List ℕ) (w : State) (core : ℕ) (xs : List ℕ) (s' : List ℕ) (w' : State) (t : Result Made Status) (is : ((s', w'), t) ≡ trying s w core xs) where
  pub call_refused : (why : Status) → t ≡ Err why → ((s', w'), Told why) ≡ calling s w core xs
  unfolding calling
  call_refused why e = rw (← is, e)

  pub call_shown : (made : Made) (r : Reply) → t ≡ Ok made → r ≡ shown_in core w' → ((s', w'), r) ≡ calling s w core xs
  unfolding calling
  call_shown made r e h = rw (← is, e, h)

pub ruleset callings = (call_refused, call_shown)
