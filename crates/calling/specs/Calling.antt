-- Frame 20: what it does to set-up and to the state of the calls, and how it is answered.
use Rattle.std.specs.Prelude.{List, ℕ, Err, Ok, Result}
use Rattle.calls.specs.declared.Made.{Made}
use Rattle.cores.specs.Power.{is_on}
use Rattle.cores.specs.Cores.{power}
use Rattle.calls.specs.Step.{State, called}
use Rattle.calls.specs.declared.Site.{Site}
use Rattle.parsing.specs.declared.Status.{Status}
use Rattle.setup.specs.Table.{window, cores, over}
use Rattle.setup.specs.Frames.{core_ruled}
use Rattle.showing.specs.Showing.{shown_on}
use Rattle.showing.specs.declared.Reply.{Reply}
use Rattle.showing.specs.declared.Reply.TheVariants.{Told}

-- what set-up fixes for the calls
abbrev pub site_of : List ℕ → Site
site_of s = record { window = window s; cores = cores s }

-- a call on a core that is ON; set-up has then ended
unfoldable pub trying : List ℕ → State → ℕ → List ℕ → (List ℕ × State) × Result Made Status
trying s w core xs =
    core_ruled (λ (why : Status). ((s, w), Err why)) s core (is_on (power w.powers core))
    ((over s, (called w core xs).0), Ok (called w core xs).1)

-- what is shown after it
abbrev pub shown_in : ℕ → State → Reply
shown_in core w = shown_on core w.saved w.powers w.turns

-- how it is answered
abbrev pub replied : ℕ → State → Result Made Status → Reply
replied core w (Err why) = Told why
replied core w (Ok made) = shown_in core w

-- an accepted one
unfoldable pub performed : List ℕ → State → ℕ → List ℕ → (List ℕ × State) × Reply
performed s w core xs = ((over s, (called w core xs).0), shown_in core (called w core xs).0)

unfoldable pub calling : List ℕ → State → ℕ → List ℕ → (List ℕ × State) × Reply
calling s w core xs = let o = trying s w core xs in (o.0, replied core o.0.1 o.1)
