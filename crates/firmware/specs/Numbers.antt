-- What the functions for C answer: the paper's number for each case, and what is told of a call.
use Rattle.std.specs.Prelude.{List, [], ◌∷◌, ℕ, Err, None, Ok, Option, Result, Some}
use Rattle.mapping.specs.Leads.{To}
use Rattle.mapping.specs.declared.Lead.{Lead}
use Rattle.rules.specs.Reasons.{minus}
use Rattle.rules.specs.declared.Reason.TheVariants as Reason
use Rattle.registers.specs.declared.Shown.{Shown}
use Rattle.judgements.specs.declared.Answer.{Answer}
use Rattle.judgements.specs.declared.Answer.TheVariants.{Version, PowerVersion, Done, On, Off, Pending, Owns, Leads, Count, Silent, No}
use Rattle.calls.specs.Step.{State}
use Rattle.calls.specs.declared.Made.{Made}
use Rattle.parsing.specs.Frame.{status_byte}
use Rattle.parsing.specs.declared.Status.{Status}
use Rattle.showing.specs.declared.Reply.{Reply}
use Rattle.showing.specs.declared.Reply.TheVariants as Reply
use Rattle.calling.specs.Calling.{trying, shown_in}

-- ---- set-up and arrivals: what is left, and the paper's byte of the status
abbrev pub in_byte : {A : Type 0} → A × Status → A × ℕ
in_byte o = (o.0, status_byte o.1)

-- ---- a call
-- n where a call is refused with -n, else 0
abbrev pub refusal : Answer → ℕ
refusal Version = 0
refusal PowerVersion = 0
refusal Done = 0
refusal On = 0
refusal Off = 0
refusal Pending = 0
refusal (Owns is) = 0
refusal (Leads phys attr) = 0
refusal (Count n) = 0
refusal Silent = 0
refusal (No r) = minus r

-- the seven numbers that are told of a call: the world that now runs, 255 where the core is not ON; x0 to x3 as a frame shows
-- them; who called; the refusal
abbrev pub listed : ℕ → Shown → ℕ → ℕ → List ℕ
listed world x caller refused = world ∷ x.x0 ∷ x.x1 ∷ x.x2 ∷ x.x3 ∷ caller ∷ refused ∷ []

abbrev pub told_of : Made → ℕ → Shown → List ℕ
told_of made world x = listed world x made.caller (refusal made.answer)

-- what C has then been told; what is shown of a core is never a status, as `shown_on` says
abbrev pub telling : List ℕ → Made → Reply → List ℕ
telling told made (Reply.Told why) = told
telling told made (Reply.Called core world x) = told_of made world x

-- what becomes of the frame of a call: of a refused one nothing is told
abbrev pub answering : List ℕ → ℕ → (List ℕ × State) × Result Made Status → ((List ℕ × State) × List ℕ) × ℕ
answering told core (o, Err why) = ((o, told), status_byte why)
answering told core (o, Ok made) = ((o, telling told made (shown_in core o.1)), 0)

-- set-up, the state, what is told, and the status
unfoldable pub call_told : List ℕ → State → List ℕ → ℕ → List ℕ → ((List ℕ × State) × List ℕ) × ℕ
call_told s w told core xs = answering told core (trying s w core xs)

-- ---- where an address leads: physical address and attributes, and 0; else what was there, and the number of the refusal
abbrev pub led_to : List ℕ → Option Lead → List ℕ × ℕ
led_to l (Some d) = (d.phys ∷ d.attr ∷ [], 0)
led_to l None = (l, minus Reason.Nowhere)
