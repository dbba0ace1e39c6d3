-- The lines about a page, worked out from the definition: transfers on either side of the page's first and last address, refused ones past the window, one that was handed over; mappings; and set-up.
use Rattle.std.specs.Prelude.{◌≡◌, refl, Bool, true, false, List, [], ◌∷◌, ℕ, None, Option}
use Rattle.spans.specs.Named.{Pages}
use Rattle.spans.specs.declared.Span.{Span}
use Rattle.rules.specs.Choice.{pick}
use Rattle.rules.specs.declared.Reason.TheVariants.{Unserved, Invalid, WrongOwner, NoPages}
use Rattle.identifiers.specs.Identifier.{parts, argument, key_of, identifier_of}
use Rattle.pages.specs.Window.{page_of}
use Rattle.pages.specs.declared.Window.{Window}
use Rattle.judgements.specs.Judge.{args_of, row_in}
use Rattle.judgements.specs.declared.Answer.{Answer}
use Rattle.judgements.specs.declared.Answer.TheVariants as Answer
use Rattle.parsing.specs.declared.Status.{Status}
use Rattle.parsing.specs.declared.Status.TheVariants.{Accepted, Clash}
use Rattle.parsing.specs.declared.Frame.TheVariants as Frame
use Rattle.outcomes.specs.declared.Came.TheVariants.{Told, Called}
use Rattle.spans.specs.Spans.{any_row, named, over_page, asks_over}
use Rattle.views.specs.Views.{holds, about, shows}
use Rattle.views.specs.declared.View.TheVariants as View

-- sixteen pages
abbrev sixteen : Window
sixteen = record { base = 0x80000000; pages = 16 }

abbrev take : ℕ → ℕ → List ℕ
take start count = 0xc2000010 ∷ start ∷ count ∷ []

abbrev page : ℕ → List ℕ
page start = 0xc40001b0 ∷ start ∷ []

-- ---- a call with this answer is told in the history of this address
abbrev calling : ℕ → List ℕ → Answer → Option Span → Bool
calling address xs a mapped = shows (View.Page address) sixteen (Frame.Call 0) xs (Called (record { caller = 3; answer = a })) mapped

abbrev asking : ℕ → List ℕ → Answer → Bool
asking address xs a = calling address xs a None

pub askings :
    asking 0x8000f000 (take 0x8000f000 2) (Answer.No Invalid)
    ∷ asking 0x8000e000 (take 0x8000f000 2) (Answer.No Invalid)
    ∷ asking 0x80010000 (take 0x8000f000 2) (Answer.No Invalid)
    ∷ asking 0x80000fff (take 0x7ffff000 2) (Answer.No Invalid)
    ∷ asking 0x80001000 (take 0x7ffff000 2) (Answer.No Invalid)
    ∷ asking 0x80002fff (page 0x80003008) (Answer.No Invalid)
    ∷ asking 0x80003000 (page 0x80003008) (Answer.No Invalid)
    ∷ asking 0x80004000 (page 0x80003008) (Answer.No Invalid)
    ∷ asking 0x80005000 (page 0x80003008) (Answer.No Invalid)
    ∷ asking 0x80003000 (page 0x80003000) Answer.Done
    ∷ asking 0x80004000 (page 0x80003000) Answer.Done
    ∷ asking 0x80003000 (page 0x80003000) (Answer.No WrongOwner)
    ∷ asking 0x80003000 (page 0x80003000) (Answer.No Unserved)
    ∷ asking 0x80003000 (take 0x80003000 1) Answer.Silent
    ∷ asking 0x80003000 (take 0x80003008 0) (Answer.No NoPages)
    ∷ asking 0x8000f000 (take 0 0xffffffffffffffff) (Answer.No Invalid)
    ∷ asking 0x80003000 (take 0xfffffffffffff000 0xffffffffffffffff) (Answer.No Invalid)
    ∷ asking 0x80003000 (0xc2000012 ∷ 0x80003000 ∷ []) (Answer.Owns true)
    ∷ []
    ≡ true ∷ false ∷ false ∷ true ∷ false ∷ false ∷ true ∷ true ∷ false ∷ true ∷ false ∷ true ∷ true ∷ false ∷ false ∷ true ∷ false ∷ false ∷ []
unfolding shows about holds asks_over over_page any_row row_in page_of args_of argument parts key_of identifier_of pick
askings = refl

-- ---- pages 3 and 4 are mapped or unmapped
pub mappings :
    calling 0x80002fff (0xc2000021 ∷ []) Answer.Done (Pages 3 2)
    ∷ calling 0x80003000 (0xc2000021 ∷ []) Answer.Done (Pages 3 2)
    ∷ calling 0x80004fff (0xc2000021 ∷ []) Answer.Done (Pages 3 2)
    ∷ calling 0x80005000 (0xc2000021 ∷ []) Answer.Done (Pages 3 2)
    ∷ calling 0x80003000 (0xc2000021 ∷ []) (Answer.No Invalid) (Pages 3 2)
    ∷ []
    ≡ false ∷ true ∷ true ∷ false ∷ false ∷ []
unfolding shows about holds asks_over over_page any_row row_in page_of args_of argument parts key_of identifier_of pick
mappings = refl

-- ---- pages 3 and 4 are named
abbrev naming : ℕ → Status → Bool
naming address why = shows (View.Page address) sixteen (Frame.Name 3 2 1) [] (Told why) None

pub namings : naming 0x80002fff Accepted ∷ naming 0x80003000 Accepted ∷ naming 0x80004fff Accepted ∷ naming 0x80005000 Accepted ∷ naming 0x80003000 Clash ∷ [] ≡ false ∷ true ∷ true ∷ false ∷ false ∷ []
unfolding shows about holds named page_of pick
namings = refl
