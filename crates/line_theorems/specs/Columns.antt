-- Columns line up: who asks takes 22 signs, the number of the line among them; behind it stands what is asked, filled up to 50 signs with
-- blanks, or behind it one blank where it takes 50 or more; and then what came of it. From line 1,000,000 on the first part is longer by the
-- digits of the number past the sixth.
use Rattle.std.specs.Prelude.{◌≡◌, refl, List, [], ◌∷◌, ◌++◌, ℕ, zero, suc, ◌+◌, ◌-◌, ◌≤◌, ◌<◌, ltb, length}
use Rattle.std.proofs.Common.{sym, ap, ◌∙◌, append_assoc, arith, length-append, lt-ltb, le-ltb, ltb-true, ltb-false}
use Rattle.rules.specs.Choice.{pick, either, pick_yes, pick_no}
use Rattle.calls.specs.declared.Made.{Made}
use Rattle.judgements.specs.declared.Answer.{Answer}
use Rattle.parsing.specs.declared.Frame.{Frame}
use Rattle.parsing.specs.declared.Frame.TheVariants as Frame
use Rattle.outcomes.specs.declared.Came.{Came}
use Rattle.outcomes.specs.declared.Came.TheVariants.{Told, Called}
use Rattle.writing.specs.Decimal.{decimal_text}
use Rattle.writing.specs.Put.{row, blanks}
use Rattle.hex_digits.specs.Signs.{signs}
use Rattle.words.specs.Words.{words, word_text}
use Rattle.words.specs.Words as w
use Rattle.phrases.specs.Sentence.{◌▹◌}
use Rattle.phrases.specs.Text.{right_text, gap_text, extended, upto, text_of}
use Rattle.phrases.specs.declared.Piece.TheVariants.{Word, Column}
use Rattle.asking.specs.Names.{named_from}
use Rattle.setup_words.specs.SetUp.{opening, setup_line}
use Rattle.telling.specs.Telling.{on_core, speaker, sentence_of}
use Rattle.line_theorems.specs.Growing.{whole, text_more, text_whole}
use Rattle.line_theorems.specs.Numbered.{past, blanks_long, digits_low, digits_below, number_room}
use Rattle.line_theorems.specs.Pieces.{who_of, asked_of}
use Rattle.line_theorems.specs.Room.{who_has, asked_has, column_has}
use Rattle.line_theorems.specs.Alike.{came_of, came_alone}

-- ---- the statement
-- the core that a line names
abbrev pub core_in : Frame → ℕ
core_in (Frame.Site base pages cores) = 0
core_in (Frame.Entry lowest last kind handler) = 0
core_in (Frame.Name lowest count owner) = 0
core_in (Frame.Call core) = core
core_in (Frame.Arrival core) = core
core_in (Frame.Refused why) = 0

-- what stands behind the number, up to what is asked: a core with one digit or more, and of an accepted call the world that calls
abbrev core_text : ℕ → List ℕ
core_text core = signs " core " ++ (decimal_text core ++ blanks (10 - length (decimal_text core)))

abbrev pub who_text : Frame → Came → List ℕ
who_text (Frame.Site base pages cores) c = signs " set-up         "
who_text (Frame.Entry lowest last kind handler) c = signs " set-up         "
who_text (Frame.Name lowest count owner) c = signs " set-up         "
who_text (Frame.Call core) (Told why) = core_text core
who_text (Frame.Call core) (Called made) = signs " core " ++ (decimal_text core ++ (signs " " ++ (word_text made.caller ++ (signs ":" ++ blanks (7 - length (word_text made.caller))))))
who_text (Frame.Arrival core) c = core_text core
who_text (Frame.Refused why) c = signs " no frame       "

-- the sentence of line n: its number and who asks, what is asked, and what came of it
pub record Lined (n : ℕ) (f : Frame) (xs : List ℕ) (c : Came) (now : ℕ) : Type 0 where
  pub number : text_of (who_of n f c) ≡ right_text 0 n ++ who_text f c
  pub who : length (text_of (who_of n f c)) ≡ 22 + past n
  pub what : List ℕ
  pub asked : text_of (asked_of n f xs c now) ≡ text_of (who_of n f c) ++ what
  pub line : text_of (sentence_of n f xs c now) ≡ text_of (asked_of n f xs c now) ++ (blanks (pick (ltb (length what) 50) (50 - length what) 1) ++ text_of (came_of f xs c now))

-- ---- texts
gap_is : (w c : ℕ) → w < c → gap_text w c ≡ blanks (c - w)
unfolding gap_text
gap_is w c h = ap blanks (pick_yes (ltb w c) (c - w) 1 (lt-ltb w c h))

-- behind 22 signs
gap_behind : (k : ℕ) → gap_text (22 + k) 72 ≡ blanks (pick (ltb k 50) (50 - k) 1)
unfolding gap_text
gap_behind k =
    either (ltb k 50)
    (λ y. let h = ltb-true k 50 y in
    let z : 72 - (22 + k) ≡ 50 - k = omega arith in
    ap blanks (pick_yes (ltb (22 + k) 72) (72 - (22 + k)) 1 (lt-ltb (22 + k) 72 (omega arith)) ∙ z ∙ sym (pick_yes (ltb k 50) (50 - k) 1 y)))
    (λ n. let h = ltb-false k 50 n in ap blanks (pick_no (ltb (22 + k) 72) (72 - (22 + k)) 1 (le-ltb (22 + k) 72 (omega arith)) ∙ sym (pick_no (ltb k 50) (50 - k) 1 n)))

-- ---- who asks, pieces one behind the other
below_four : (P : ℕ → Type 0) → P 0 → P 1 → P 2 → P 3 → (k : ℕ) → k < 4 → P k
below_four P a b c d zero h = a
below_four P a b c d (suc zero) h = b
below_four P a b c d (suc (suc zero)) h = c
below_four P a b c d (suc (suc (suc zero))) h = d
below_four P a b c d (suc (suc (suc (suc k)))) h = absurd (omega arith)

chain : List ℕ → List (List ℕ) → List ℕ
chain l [] = l
chain l (x ∷ xs) = chain (l ++ x) xs

joined : List ℕ → List (List ℕ) → List ℕ
joined x [] = x
joined x (y ∷ ys) = x ++ joined y ys

joined_more : (x y : List ℕ) (ys : List (List ℕ)) → joined (x ++ y) ys ≡ x ++ joined y ys
unfolding joined
joined_more x y [] = refl
joined_more x y (z ∷ zs) = append_assoc x y (joined z zs)

chained : (l x : List ℕ) (xs : List (List ℕ)) → chain (l ++ x) xs ≡ l ++ joined x xs
unfolding chain joined
chained l x [] = refl
chained l x (y ∷ ys) = ap (λ (m : List ℕ). chain m ys) (append_assoc l x y) ∙ chained l (x ++ y) ys ∙ ap (λ (m : List ℕ). l ++ m) (joined_more x y ys)

setup_text : (n : ℕ) → (whole (setup_line n)).0 ≡ right_text 0 n ++ signs " set-up         "
unfolding chain joined ◌▹◌ pick upto extended gap_text blanks row word_text words
setup_text n = chained (right_text 0 n) (gap_text 6 7) (word_text w.setup ∷ gap_text 13 22 ∷ [])

refused_text : (n : ℕ) → (whole (opening n ▹ Word w.no_frame ▹ Column 22)).0 ≡ right_text 0 n ++ signs " no frame       "
unfolding chain joined ◌▹◌ pick upto extended gap_text blanks row word_text words
refused_text n = chained (right_text 0 n) (gap_text 6 7) (word_text w.no_frame ∷ gap_text 15 22 ∷ [])

core_pieces : (n core : ℕ) → (whole (on_core n core ▹ Column 22)).0 ≡ right_text 0 n ++ (signs " core " ++ (decimal_text core ++ gap_text (12 + length (decimal_text core)) 22))
unfolding chain joined ◌▹◌ pick upto extended gap_text blanks row word_text words
core_pieces n core = chained (right_text 0 n) (gap_text 6 7) (word_text w.core ∷ decimal_text core ∷ gap_text (12 + length (decimal_text core)) 22 ∷ [])

core_text_lem : (n core : ℕ) → core < 256 → (whole (on_core n core ▹ Column 22)).0 ≡ right_text 0 n ++ core_text core
core_text_lem n core h =
    let d = length (decimal_text core) in
    let few : d ≤ 3 = digits_below 2 20 core (omega arith) in
    let z : 22 - (12 + d) ≡ 10 - d = omega arith in
    core_pieces n core ∙ ap (λ (g : List ℕ). right_text 0 n ++ (signs " core " ++ (decimal_text core ++ g))) (gap_is (12 + d) 22 (omega arith) ∙ ap blanks z)

-- behind the number, where a core of so many digits and a world speak
abbrev spoken_text : ℕ → ℕ → ℕ → List ℕ
spoken_text core d caller =
    signs " core " ++ (decimal_text core ++ (gap_text (12 + d) 14 ++ (word_text caller ++ (signs ":" ++ gap_text (12 + d + length (gap_text (12 + d) 14) + length (word_text caller) + 1) 22))))

called_pieces : (n core caller : ℕ) (a : Answer) → caller < 4 → (whole (speaker n core (Called (record { caller = caller; answer = a })))).0 ≡ right_text 0 n ++ spoken_text core (length (decimal_text core)) caller
unfolding chain joined ◌▹◌ pick upto extended gap_text blanks row word_text words named_from
called_pieces n core caller a g =
    let d = length (decimal_text core) in
    let from : ℕ → List (List ℕ) =
    λ c. word_text w.core ∷ decimal_text core ∷ gap_text (12 + d) 14 ∷ word_text c ∷ word_text w.colon ∷ gap_text (12 + d + length (gap_text (12 + d) 14) + length (word_text c) + 1) 22 ∷ [] in
    below_four (λ (c : ℕ). (whole (speaker n core (Called (record { caller = c; answer = a })))).0 ≡ right_text 0 n ++ spoken_text core d c)
    (chained (right_text 0 n) (gap_text 6 7) (from 0)) (chained (right_text 0 n) (gap_text 6 7) (from 1)) (chained (right_text 0 n) (gap_text 6 7) (from 2)) (chained (right_text 0 n) (gap_text 6 7) (from 3)) caller g

spoken_text_lem : (core caller : ℕ) → caller < 4 → spoken_text core 1 caller ≡ signs " core " ++ (decimal_text core ++ (signs " " ++ (word_text caller ++ (signs ":" ++ blanks (7 - length (word_text caller))))))
unfolding pick gap_text blanks row word_text words
spoken_text_lem core caller g =
    below_four (λ (c : ℕ). spoken_text core 1 c ≡ signs " core " ++ (decimal_text core ++ (signs " " ++ (word_text c ++ (signs ":" ++ blanks (7 - length (word_text c))))))) refl refl refl refl caller g

who_text_lem : (n : ℕ) (f : Frame) (c : Came) → core_in f < 256 → ((made : Made) → c ≡ Called made → (core_in f < 8) × (made.caller < 4)) → (whole (who_of n f c)).0 ≡ right_text 0 n ++ who_text f c
who_text_lem n (Frame.Site base pages cores) c h g = setup_text n
who_text_lem n (Frame.Entry lowest last kind handler) c h g = setup_text n
who_text_lem n (Frame.Name lowest count owner) c h g = setup_text n
who_text_lem n (Frame.Call core) (Told why) h g = core_text_lem n core h
who_text_lem n (Frame.Call core) (Called made) h g =
    let low = g made refl in
    let e : length (decimal_text core) ≡ 1 = digits_low 19 core (omega (arith, low.0)) in
    called_pieces n core made.caller made.answer low.1 ∙ ap (λ (d : ℕ). right_text 0 n ++ spoken_text core d made.caller) e
    ∙ ap (λ (l : List ℕ). right_text 0 n ++ l) (spoken_text_lem core made.caller low.1)
who_text_lem n (Frame.Arrival core) c h g = core_text_lem n core h
who_text_lem n (Frame.Refused why) c h g = refused_text n

-- its signs
core_long : (core : ℕ) → core < 256 → length (core_text core) ≡ 16
core_long core h =
    let d = decimal_text core in
    let few : length d ≤ 3 = digits_below 2 20 core (omega arith) in
    let b = blanks (10 - length d) in
    omega (arith, length-append (signs " core ") (d ++ b), length-append d b, blanks_long (10 - length d) (omega arith))

name_short : (caller : ℕ) → caller < 4 → length (word_text caller) ≤ 6
unfolding word_text words
name_short caller g = below_four (λ (c : ℕ). length (word_text c) ≤ 6) (omega arith) (omega arith) (omega arith) (omega arith) caller g

who_long : (f : Frame) (c : Came) → core_in f < 256 → ((made : Made) → c ≡ Called made → (core_in f < 8) × (made.caller < 4)) → length (who_text f c) ≡ 16
who_long (Frame.Site base pages cores) c h g = refl
who_long (Frame.Entry lowest last kind handler) c h g = refl
who_long (Frame.Name lowest count owner) c h g = refl
who_long (Frame.Call core) (Told why) h g = core_long core h
who_long (Frame.Call core) (Called made) h g =
    let low = g made refl in
    let d = decimal_text core in
    let name = word_text made.caller in
    let b = blanks (7 - length name) in
    omega (
      arith,
      length-append (signs " core ") (d ++ (signs " " ++ (name ++ (signs ":" ++ b)))),
      length-append d (signs " " ++ (name ++ (signs ":" ++ b))),
      length-append (signs " ") (name ++ (signs ":" ++ b)),
      length-append name (signs ":" ++ b),
      length-append (signs ":") b,
      digits_low 19 core (omega (arith, low.0)),
      name_short made.caller low.1,
      blanks_long (7 - length name) (omega arith),
    )
who_long (Frame.Arrival core) c h g = core_long core h
who_long (Frame.Refused why) c h g = refl

-- ---- any line: a frame names a core in one byte, and who calls on one of eight cores is Root or a world
pub columns : (n : ℕ) (f : Frame) (xs : List ℕ) (c : Came) (now : ℕ) → core_in f < 256 → ((made : Made) → c ≡ Called made → (core_in f < 8) × (made.caller < 4)) → Lined n f xs c now
columns n f xs c now h g =
    let s = asked_of n f xs c now in
    let w = who_has n f xs c now in
    let a = asked_has n f xs c now in
    let l = came_alone n f xs c now (column_has n f xs c now).long in
    let wt = text_whole 9 (who_of n f c) w.long (omega arith) in
    let at = text_whole 19 s a.long (omega arith) in
    let lt = text_whole 25 (sentence_of n f xs c now) l.first (omega arith) in
    let ct = text_whole 25 (came_of f xs c now) l.second (omega arith) in
    let text = who_text_lem n f c h g in
    let wide : length (whole (who_of n f c)).0 ≡ 22 + past n = ap length text ∙ omega (arith, length-append (right_text 0 n) (who_text f c), number_room n, who_long f c h g) in
    let what = a.rest in
    let size : length (whole s).0 ≡ 22 + past n + length what = ap length a.begins ∙ omega (arith, length-append (whole (who_of n f c)).0 what, wide) in
    let z : (whole s).1 ≡ 22 + length what = omega (arith, a.signs, size) in
    let gap = blanks (pick (ltb (length what) 50) (50 - length what) 1) in
    let column : (whole (s ▹ Column 72)).0 ≡ (whole s).0 ++ gap =
    text_more 19 s (Column 72) a.long (omega arith) ∙ ap (λ (k : ℕ). (whole s).0 ++ gap_text k 72) z ∙ ap (λ (t : List ℕ). (whole s).0 ++ t) (gap_behind (length what)) in
    let came = (whole (came_of f xs c now)).0 in
    record {
      number = wt ∙ text;
      who = ap length wt ∙ wide;
      what = what;
      asked = at ∙ a.begins ∙ ap (λ (t : List ℕ). t ++ what) (sym wt);
      line =
          lt ∙ l.is ∙ ap (λ (t : List ℕ). t ++ came) column ∙ append_assoc (whole s).0 gap came
          ∙ ap (λ (t : List ℕ). t ++ (gap ++ came)) (sym at) ∙ ap (λ (t : List ℕ). text_of s ++ (gap ++ t)) (sym ct);
    }
