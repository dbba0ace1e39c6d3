-- The one table of words: what each says, and the name under which sentences cite it.
use Rattle.std.specs.Prelude.{List, [], ◌∷◌, ℕ, get_or}
use Prim.Native.String.{String}
use Rattle.hex_digits.specs.Signs.{signs}

unfoldable pub words : List String
words =
    "Root"
    ∷ "Secure"
    ∷ "Normal"
    ∷ "Realm"
    ∷ "architecture"
    ∷ "board"
    ∷ "standard"
    ∷ "trusted system"
    ∷ "read only"
    ∷ "writable"
    ∷ "executable"
    ∷ "yielding"
    ∷ "fast"
    ∷ "accepted"
    ∷ "accepted: ON in Normal"
    ∷ "not 1 to 66 pairs of digits 0 to 9 and a to f"
    ∷ "of an unknown kind, or a wrong length"
    ∷ "refused 71"
    ∷ "refused 72"
    ∷ "refused 73: wrong time"
    ∷ "refused 74: out of range"
    ∷ "refused 74: no such core"
    ∷ "refused 75: has a handler"
    ∷ "refused 75: named before"
    ∷ "refused 75: core not ON"
    ∷ "refused 75: core not pending"
    ∷ "not served"
    ∷ "invalid argument"
    ∷ "not the giver's"
    ∷ "already ON"
    ∷ "already pending"
    ∷ "asks for no page"
    ∷ "a page is mapped"
    ∷ "bad address"
    ∷ "has 16 mappings"
    ∷ "overlaps another"
    ∷ "not its page"
    ∷ "leads nowhere"
    ∷ "not well formed"
    ∷ "no such mapping"
    ∷ "past the limits"
    ∷ "refused -"
    ∷ "granted"
    ∷ "answered 0, known"
    ∷ "answered "
    ∷ "answered version 1.3"
    ∷ "answered version 1.1"
    ∷ "answered 0, ON"
    ∷ "answered 1, OFF"
    ∷ "answered 2, pending"
    ∷ "answered 1, yes"
    ∷ "answered 0, no"
    ∷ "to "
    ∷ " runs now"
    ∷ "the core is OFF now"
    ∷ "tell the version of calls"
    ∷ "tell whether this call is known: "
    ∷ "tell the version of core power"
    ∷ "turn this core OFF"
    ∷ "start core "
    ∷ "tell the state of core "
    ∷ "tell whether core power knows "
    ∷ "take the page at "
    ∷ "give back the page at "
    ∷ "take "
    ∷ "give back "
    ∷ "tell whether it owns "
    ∷ "map "
    ∷ "unmap "
    ∷ "tell where this address leads: "
    ∷ "count the cores that are ON"
    ∷ "finish with "
    ∷ "call "
    ∷ " from "
    ∷ " at "
    ∷ " with "
    ∷ " at level "
    ∷ ", "
    ∷ " "
    ∷ " page"
    ∷ " pages"
    ∷ " byte"
    ∷ " bytes"
    ∷ "attributes "
    ∷ "set-up"
    ∷ "no frame"
    ∷ "core "
    ∷ ":"
    ∷ "window of "
    ∷ " core"
    ∷ " cores"
    ∷ " calls, owners "
    ∷ " to "
    ∷ ": "
    ∷ "handler "
    ∷ "type "
    ∷ " from page "
    ∷ " for "
    ∷ "owner "
    ∷ "arrives"
    ∷ "how things stand after line "
    ∷ " ON, "
    ∷ " pending, to start at "
    ∷ " OFF"
    ∷ "line "
    ∷ "unnamed"
    ∷ "maps "
    ∷ "no mappings"
    ∷ "no window"
    ∷ " lies outside the window"
    ∷ ". Root, s Secure, n Normal, r Realm"
    ∷ "; what is mapped in capitals"
    ∷ []

abbrev pub many : ℕ
many = 112

-- the text of a word; nothing past the last
unfoldable pub word_text : ℕ → List ℕ
word_text k = signs (get_or words k "")

-- ---- worlds, which are owners too, from Root on
abbrev pub root : ℕ
root = 0

abbrev pub secure : ℕ
secure = 1

abbrev pub normal : ℕ
normal = 2

abbrev pub realm : ℕ
realm = 3

-- ---- handlers, from architecture on
abbrev pub architecture : ℕ
architecture = 4

abbrev pub board : ℕ
board = 5

abbrev pub standard : ℕ
standard = 6

abbrev pub trusted : ℕ
trusted = 7

-- ---- attributes of a mapping
abbrev pub read_only : ℕ
read_only = 8

abbrev pub writable : ℕ
writable = 9

abbrev pub executable : ℕ
executable = 10

-- ---- types of calls
abbrev pub yielding : ℕ
yielding = 11

abbrev pub fast : ℕ
fast = 12

-- ---- what comes of a frame
abbrev pub accepted : ℕ
accepted = 13

abbrev pub arrived : ℕ
arrived = 14

abbrev pub no_pairs : ℕ
no_pairs = 15

abbrev pub no_kind : ℕ
no_kind = 16

abbrev pub refused71 : ℕ
refused71 = 17

abbrev pub refused72 : ℕ
refused72 = 18

abbrev pub wrong_time : ℕ
wrong_time = 19

abbrev pub out_of_range : ℕ
out_of_range = 20

abbrev pub no_core : ℕ
no_core = 21

abbrev pub given_before : ℕ
given_before = 22

abbrev pub named_before : ℕ
named_before = 23

abbrev pub not_on : ℕ
not_on = 24

abbrev pub not_pending : ℕ
not_pending = 25

-- ---- why a call is refused, in the order of the reasons
abbrev pub unserved : ℕ
unserved = 26

abbrev pub invalid : ℕ
invalid = 27

abbrev pub wrong_owner : ℕ
wrong_owner = 28

abbrev pub already_on : ℕ
already_on = 29

abbrev pub already_pending : ℕ
already_pending = 30

abbrev pub no_pages : ℕ
no_pages = 31

abbrev pub mapped : ℕ
mapped = 32

abbrev pub bad_address : ℕ
bad_address = 33

abbrev pub full : ℕ
full = 34

abbrev pub overlap : ℕ
overlap = 35

abbrev pub not_owned : ℕ
not_owned = 36

abbrev pub nowhere : ℕ
nowhere = 37

abbrev pub malformed : ℕ
malformed = 38

abbrev pub no_mapping : ℕ
no_mapping = 39

abbrev pub beyond : ℕ
beyond = 40

-- ---- what comes of a call
abbrev pub minus : ℕ
minus = 41

abbrev pub granted : ℕ
granted = 42

abbrev pub known : ℕ
known = 43

abbrev pub answered : ℕ
answered = 44

abbrev pub version : ℕ
version = 45

abbrev pub power_version : ℕ
power_version = 46

abbrev pub is_on : ℕ
is_on = 47

abbrev pub is_off : ℕ
is_off = 48

abbrev pub is_pending : ℕ
is_pending = 49

abbrev pub owned : ℕ
owned = 50

abbrev pub unowned : ℕ
unowned = 51

abbrev pub leads : ℕ
leads = 52

abbrev pub runs : ℕ
runs = 53

abbrev pub off : ℕ
off = 54

-- ---- what a call asks
abbrev pub ask_calls : ℕ
ask_calls = 55

abbrev pub ask_known : ℕ
ask_known = 56

abbrev pub ask_power : ℕ
ask_power = 57

abbrev pub turn_off : ℕ
turn_off = 58

abbrev pub start : ℕ
start = 59

abbrev pub ask_state : ℕ
ask_state = 60

abbrev pub ask_powers : ℕ
ask_powers = 61

abbrev pub take_page : ℕ
take_page = 62

abbrev pub give_page : ℕ
give_page = 63

abbrev pub take : ℕ
take = 64

abbrev pub give : ℕ
give = 65

abbrev pub ask_owner : ℕ
ask_owner = 66

abbrev pub map : ℕ
map = 67

abbrev pub unmap : ℕ
unmap = 68

abbrev pub ask_where : ℕ
ask_where = 69

abbrev pub count : ℕ
count = 70

abbrev pub finish : ℕ
finish = 71

abbrev pub other : ℕ
other = 72

-- ---- between its arguments
abbrev pub from : ℕ
from = 73

abbrev pub at : ℕ
at = 74

abbrev pub context : ℕ
context = 75

abbrev pub level : ℕ
level = 76

abbrev pub comma : ℕ
comma = 77

abbrev pub blank : ℕ
blank = 78

abbrev pub page : ℕ
page = 79

abbrev pub pages : ℕ
pages = 80

abbrev pub byte : ℕ
byte = 81

abbrev pub bytes : ℕ
bytes = 82

abbrev pub attributes : ℕ
attributes = 83

-- ---- a frame of set-up, an arrival, and no frame
abbrev pub setup : ℕ
setup = 84

abbrev pub no_frame : ℕ
no_frame = 85

abbrev pub core : ℕ
core = 86

abbrev pub colon : ℕ
colon = 87

abbrev pub window : ℕ
window = 88

abbrev pub one_core : ℕ
one_core = 89

abbrev pub cores : ℕ
cores = 90

abbrev pub calls : ℕ
calls = 91

abbrev pub up_to : ℕ
up_to = 92

abbrev pub go_to : ℕ
go_to = 93

abbrev pub handler : ℕ
handler = 94

abbrev pub kind : ℕ
kind = 95

abbrev pub from_page : ℕ
from_page = 96

abbrev pub owner : ℕ
owner = 97

abbrev pub number : ℕ
number = 98

abbrev pub arrives : ℕ
arrives = 99

-- ---- how things stand in the end
abbrev pub stands : ℕ
stands = 100

abbrev pub on_and : ℕ
on_and = 101

abbrev pub pending : ℕ
pending = 102

abbrev pub off_still : ℕ
off_still = 103

abbrev pub line : ℕ
line = 104

abbrev pub unnamed : ℕ
unnamed = 105

abbrev pub maps : ℕ
maps = 106

abbrev pub no_mappings : ℕ
no_mappings = 107

abbrev pub no_window : ℕ
no_window = 108

abbrev pub outside : ℕ
outside = 109

-- ---- above the picture: what its letters mean
abbrev pub legend : ℕ
legend = 110

abbrev pub capitals : ℕ
capitals = 111
