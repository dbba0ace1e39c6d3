-- The words themselves, worked out from the definitions: each answer, each reason with its number, each status by its frame, the names of set-up, calls with what came of them, and lines far into a run.
use Rattle.std.specs.Prelude.{◌≡◌, refl, true, false, List, [], ◌∷◌, map, ℕ}
use Prim.Native.String.{String}
use Rattle.rules.specs.Choice.{pick}
use Rattle.rules.specs.declared.Reason.{Reason}
use Rattle.rules.specs.declared.Reason.TheVariants.{Unserved, Invalid, WrongOwner, AlreadyOn, AlreadyPending, NoPages, Mapped, BadAddress, Full, Overlap, NotOwned, Nowhere, Malformed, NoMapping, Beyond}
use Rattle.tools.specs.Search.{first}
use Rattle.identifiers.specs.Identifier.{parts, argument, key_of, identifier_of}
use Rattle.judgements.specs.Judge.{args_of}
use Rattle.judgements.specs.declared.Answer.{Answer}
use Rattle.judgements.specs.declared.Answer.TheVariants as Answer
use Rattle.parsing.specs.declared.Status.TheVariants.{Accepted, NoHex, Unknown, Misplaced, OutOfRange, Clash}
use Rattle.parsing.specs.declared.Frame.{Frame}
use Rattle.parsing.specs.declared.Frame.TheVariants as Frame
use Rattle.outcomes.specs.declared.Came.{Came}
use Rattle.outcomes.specs.declared.Came.TheVariants.{Told, Called}
use Rattle.hex_digits.specs.Hex.{in_hex, sign_of}
use Rattle.hex_digits.specs.Signs.{signs}
use Rattle.writing.specs.Decimal.{in_decimal}
use Rattle.writing.specs.Put.{row, blanks}
use Rattle.words.specs.Words.{words, word_text}
use Rattle.words.specs.Words as w
use Rattle.phrases.specs.Sentence.{blank, ◌▹◌}
use Rattle.phrases.specs.Text.{indent, right_text, hex_text, value_text, gap_text, extended, upto, text_of}
use Rattle.asking.specs.Names.{named_from, counted}
use Rattle.asking.specs.Forms.{forms, key_at, row_at, is_form, form, register, valued, slot, slots, asked, done_word}
use Rattle.outcome_words.specs.Came.{turned, answered}
use Rattle.telling.specs.Telling.{sentence_of}

-- texts as they are made, beside the texts that they have to be
abbrev Rows : Type 0
Rows = List (List ℕ × String)

abbrev Right : Rows → Type 0
Right rows = map (λ (p : List ℕ × String). p.0) rows ≡ map (λ (p : List ℕ × String). signs p.1) rows

-- ---- answers: the word for what is granted, and the world that runs then
abbrev answer : Answer → ℕ → ℕ → List ℕ
answer a done now = text_of (answered blank a done now)

pub answers :
    Right
    (
    (answer Answer.Version w.granted 2, "answered version 1.3")
    ∷ (answer Answer.PowerVersion w.granted 2, "answered version 1.1")
    ∷ (answer Answer.Done w.granted 2, "granted")
    ∷ (answer Answer.Done w.known 2, "answered 0, known")
    ∷ (answer Answer.On w.granted 2, "answered 0, ON")
    ∷ (answer Answer.Off w.granted 2, "answered 1, OFF")
    ∷ (answer Answer.Pending w.granted 2, "answered 2, pending")
    ∷ (answer (Answer.Owns true) w.granted 2, "answered 1, yes")
    ∷ (answer (Answer.Owns false) w.granted 2, "answered 0, no")
    ∷ (answer (Answer.Leads 0x80020010 0) w.granted 2, "to 80020010, read only")
    ∷ (answer (Answer.Leads 0x80020010 1) w.granted 2, "to 80020010, writable")
    ∷ (answer (Answer.Leads 0x80020010 2) w.granted 2, "to 80020010, executable")
    ∷ (answer (Answer.Count 8) w.granted 2, "answered 8")
    ∷ (answer Answer.Silent w.granted 1, "Secure runs now")
    ∷ (answer Answer.Silent w.granted 2, "Normal runs now")
    ∷ (answer Answer.Silent w.granted 3, "Realm runs now")
    ∷ (answer Answer.Silent w.granted 255, "the core is OFF now")
    ∷ []
    )
unfolding turned named_from text_of upto extended ◌▹◌ right_text indent hex_text gap_text blanks row word_text words in_decimal in_hex sign_of pick
answers = refl

-- ---- reasons
abbrev refused : Reason → List ℕ
refused r = answer (Answer.No r) 0 0

pub reasons :
    Right
    (
    (refused Unserved, "refused -1, not served")
    ∷ (refused Invalid, "refused -2, invalid argument")
    ∷ (refused WrongOwner, "refused -3, not the giver's")
    ∷ (refused AlreadyOn, "refused -4, already ON")
    ∷ (refused AlreadyPending, "refused -5, already pending")
    ∷ (refused NoPages, "refused -5, asks for no page")
    ∷ (refused Mapped, "refused -6, a page is mapped")
    ∷ (refused BadAddress, "refused -9, bad address")
    ∷ (refused Full, "refused -12, has 16 mappings")
    ∷ (refused Overlap, "refused -1, overlaps another")
    ∷ (refused NotOwned, "refused -13, not its page")
    ∷ (refused Nowhere, "refused -14, leads nowhere")
    ∷ (refused Malformed, "refused -22, not well formed")
    ∷ (refused NoMapping, "refused -22, no such mapping")
    ∷ (refused Beyond, "refused -34, past the limits")
    ∷ []
    )
unfolding text_of upto extended ◌▹◌ right_text indent hex_text gap_text blanks row word_text words in_decimal in_hex sign_of pick
reasons = refl

-- ---- lines
abbrev line : Frame → List ℕ → Came → ℕ → List ℕ
line f xs c now = text_of (sentence_of 7 f xs c now)

abbrev asks : List ℕ
asks = 0xc40001b0 ∷ 0x80003000 ∷ []

-- each status, by its frame
pub statuses :
    Right
    (
    (line (Frame.Site 0x80000000 16 2) [] (Told Accepted) 255, "     7 set-up         window of 16 pages at 80000000, 2 cores           accepted")
    ∷ (line (Frame.Site 0x80000000 16 2) [] (Told Misplaced) 255, "     7 set-up         window of 16 pages at 80000000, 2 cores           refused 73: wrong time")
    ∷ (line (Frame.Site 0x80000000 16 2) [] (Told OutOfRange) 255, "     7 set-up         window of 16 pages at 80000000, 2 cores           refused 74: out of range")
    ∷ (line (Frame.Entry 2 4 1 1) [] (Told Accepted) 255, "     7 set-up         fast calls, owners 2 to 4: board                  accepted")
    ∷ (line (Frame.Entry 2 4 1 1) [] (Told Misplaced) 255, "     7 set-up         fast calls, owners 2 to 4: board                  refused 73: wrong time")
    ∷ (line (Frame.Entry 2 4 1 1) [] (Told OutOfRange) 255, "     7 set-up         fast calls, owners 2 to 4: board                  refused 74: out of range")
    ∷ (line (Frame.Entry 2 4 1 1) [] (Told Clash) 255, "     7 set-up         fast calls, owners 2 to 4: board                  refused 75: has a handler")
    ∷ (line (Frame.Name 0 8 2) [] (Told Accepted) 255, "     7 set-up         8 pages from page 0 for Normal                    accepted")
    ∷ (line (Frame.Name 0 8 2) [] (Told Misplaced) 255, "     7 set-up         8 pages from page 0 for Normal                    refused 73: wrong time")
    ∷ (line (Frame.Name 0 8 2) [] (Told OutOfRange) 255, "     7 set-up         8 pages from page 0 for Normal                    refused 74: out of range")
    ∷ (line (Frame.Name 0 8 2) [] (Told Clash) 255, "     7 set-up         8 pages from page 0 for Normal                    refused 75: named before")
    ∷ (line (Frame.Call 1) asks (Told Misplaced) 255, "     7 core 1         take the page at 80003000                         refused 73: wrong time")
    ∷ (line (Frame.Call 1) asks (Told OutOfRange) 255, "     7 core 1         take the page at 80003000                         refused 74: no such core")
    ∷ (line (Frame.Call 1) asks (Told Clash) 255, "     7 core 1         take the page at 80003000                         refused 75: core not ON")
    ∷ (line (Frame.Arrival 1) [] (Told Accepted) 255, "     7 core 1         arrives                                           accepted: ON in Normal")
    ∷ (line (Frame.Arrival 1) [] (Told Misplaced) 255, "     7 core 1         arrives                                           refused 73: wrong time")
    ∷ (line (Frame.Arrival 1) [] (Told OutOfRange) 255, "     7 core 1         arrives                                           refused 74: no such core")
    ∷ (line (Frame.Arrival 1) [] (Told Clash) 255, "     7 core 1         arrives                                           refused 75: core not pending")
    ∷ (line (Frame.Refused NoHex) [] (Told NoHex) 255, "     7 no frame       not 1 to 66 pairs of digits 0 to 9 and a to f     refused 71")
    ∷ (line (Frame.Refused Unknown) [] (Told Unknown) 255, "     7 no frame       of an unknown kind, or a wrong length             refused 72")
    ∷ []
    )
unfolding sentence_of asked done_word slots slot valued register form is_form key_at row_at forms first named_from counted text_of upto extended ◌▹◌ right_text indent hex_text value_text gap_text blanks row word_text words in_decimal in_hex sign_of pick args_of argument parts key_of identifier_of
statuses = refl

-- the names of set-up, and one of something
pub set_up :
    Right
    (
    (line (Frame.Site 0x100000000 1 1) [] (Told Accepted) 255, "     7 set-up         window of 1 page at 000100000000, 1 core          accepted")
    ∷ (line (Frame.Entry 0 0 0 0) [] (Told Accepted) 255, "     7 set-up         yielding calls, owners 0 to 0: architecture       accepted")
    ∷ (line (Frame.Entry 4 5 1 2) [] (Told Accepted) 255, "     7 set-up         fast calls, owners 4 to 5: standard               accepted")
    ∷ (line (Frame.Entry 50 63 1 3) [] (Told Accepted) 255, "     7 set-up         fast calls, owners 50 to 63: trusted system       accepted")
    ∷ (line (Frame.Entry 1 2 3 9) [] (Told Accepted) 255, "     7 set-up         type 3 calls, owners 1 to 2: handler 9            accepted")
    ∷ (line (Frame.Name 3 1 0) [] (Told Accepted) 255, "     7 set-up         1 page from page 3 for Root                       accepted")
    ∷ (line (Frame.Name 3 2 1) [] (Told Accepted) 255, "     7 set-up         2 pages from page 3 for Secure                    accepted")
    ∷ (line (Frame.Name 3 2 3) [] (Told Accepted) 255, "     7 set-up         2 pages from page 3 for Realm                     accepted")
    ∷ (line (Frame.Name 3 2 4) [] (Told Accepted) 255, "     7 set-up         2 pages from page 3 for owner 4                   accepted")
    ∷ []
    )
unfolding sentence_of named_from counted text_of upto extended ◌▹◌ right_text indent hex_text gap_text blanks row word_text words in_decimal in_hex sign_of pick
set_up = refl

-- calls that were accepted
abbrev made : ℕ → Answer → Came
made caller a = Called (record { caller = caller; answer = a })

pub calls :
    Right
    (
    (line (Frame.Call 0) (0xc40001b0 ∷ 0x80003000 ∷ []) (made 3 Answer.Done) 3, "     7 core 0 Realm:  take the page at 80003000                         granted")
    ∷ (line (Frame.Call 0) (0xc40001b0 ∷ 0x80003000 ∷ []) (made 3 (Answer.No WrongOwner)) 3, "     7 core 0 Realm:  take the page at 80003000                         refused -3, not the giver's")
    ∷ (line (Frame.Call 0) (0xc2000011 ∷ 0x80003000 ∷ 2 ∷ []) (made 1 Answer.Done) 1, "     7 core 0 Secure: give back 2 pages from 80003000                   granted")
    ∷ (line (Frame.Call 0) (0x80000001 ∷ 0x80000000 ∷ []) (made 2 Answer.Done) 2, "     7 core 0 Normal: tell whether this call is known: 80000000         answered 0, known")
    ∷ (line (Frame.Call 0) (0x8400000a ∷ 0xc4000003 ∷ []) (made 2 Answer.Done) 2, "     7 core 0 Normal: tell whether core power knows c4000003            answered 0, known")
    ∷ (line (Frame.Call 0) (0x8400000a ∷ 0xc4000005 ∷ []) (made 2 (Answer.No Unserved)) 2, "     7 core 0 Normal: tell whether core power knows c4000005            refused -1, not served")
    ∷ (line (Frame.Call 0) (0xc4000150 ∷ 5 ∷ 6 ∷ 7 ∷ []) (made 2 Answer.Silent) 3, "     7 core 0 Normal: call c4000150 with 05 06 07                       Realm runs now")
    ∷ (line (Frame.Call 0) (0xc2000010 ∷ 0x80003000 ∷ 1 ∷ []) (made 2 Answer.Silent) 1, "     7 core 0 Normal: call c2000010 with 80003000 01 00                 Secure runs now")
    ∷ (line (Frame.Call 0) (0xf2000000 ∷ 0x1c ∷ 1 ∷ []) (made 1 Answer.Silent) 2, "     7 core 0 Secure: finish with 1c 01 00 00                           Normal runs now")
    ∷ (line (Frame.Call 0) (0xc400018f ∷ 1 ∷ 2 ∷ 3 ∷ 4 ∷ 5 ∷ []) (made 3 Answer.Silent) 2, "     7 core 0 Realm:  finish with 01 02 03 04 05                        Normal runs now")
    ∷ (line (Frame.Call 0) (0x84000002 ∷ []) (made 2 Answer.Silent) 255, "     7 core 0 Normal: turn this core OFF                                the core is OFF now")
    ∷ (line (Frame.Call 0) (0xc4000004 ∷ 1 ∷ 0 ∷ []) (made 2 Answer.Off) 2, "     7 core 0 Normal: tell the state of core 1 at level 0               answered 1, OFF")
    ∷ []
    )
unfolding sentence_of turned asked done_word slots slot valued register form is_form key_at row_at forms first named_from counted text_of upto extended ◌▹◌ right_text indent hex_text value_text gap_text blanks row word_text words in_decimal in_hex sign_of pick args_of argument parts key_of identifier_of
calls = refl

-- far into a run: the columns are the same up to a number of six signs, and move together behind a longer one
abbrev far : ℕ → ℕ → Answer → List ℕ
far n caller a = text_of (sentence_of n (Frame.Call 0) asks (made caller a) caller)

pub long_runs :
    Right
    (
    (far 9999 3 Answer.Done, "  9999 core 0 Realm:  take the page at 80003000                         granted")
    ∷ (far 10000 2 (Answer.No Unserved), " 10000 core 0 Normal: take the page at 80003000                         refused -1, not served")
    ∷ (far 999999 3 Answer.Done, "999999 core 0 Realm:  take the page at 80003000                         granted")
    ∷ (far 1000000 2 (Answer.No Unserved), "1000000 core 0 Normal: take the page at 80003000                         refused -1, not served")
    ∷ (far 1000001 3 Answer.Done, "1000001 core 0 Realm:  take the page at 80003000                         granted")
    ∷ []
    )
unfolding sentence_of asked done_word slots slot valued register form is_form key_at row_at forms first named_from counted text_of upto extended ◌▹◌ right_text indent hex_text value_text gap_text blanks row word_text words in_decimal in_hex sign_of pick args_of argument parts key_of identifier_of
long_runs = refl
