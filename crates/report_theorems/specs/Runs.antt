-- Runs beside each other: each counts what it counts alone.
use Rattle.std.specs.Prelude.{◌≡◌, refl, true, false, ◌&&◌, List, [], ◌∷◌, ◌++◌, ℕ, zero, suc, ◌+◌, eqb, length, get_or}
use Rattle.std.proofs.Common.{sym, ap, ◌∙◌, append_assoc, append-nil, arith, eqb-true}
use Rattle.rules.specs.Choice.{pick, either, left_true, right_true}
use Rattle.lines.specs.Lines.{Unbroken}
use Rattle.lines.specs.Parts.{complete}
use Rattle.lines.specs.Meant.{meant, meant_none, meant_first, meant_closed, meant_parts}
use Rattle.lines.specs.Input.{reading}
use Rattle.frames.specs.Frames.{Machine, first, framed}
use Rattle.inputs.specs.Cut.{line_complete}
use Rattle.counting.specs.Counted.{apart, Line, meaning, Counted, counted_of, counted_in, counted}
use Rattle.guarantees.specs.Runs.{Events, next, ran, ran-two}
use Rattle.report_theorems.specs.Statements.{since_in, since, occurs}

-- ---- a line between two runs
abbrev pub separator : List ℕ
separator = 48 ∷ 48 ∷ []

separates : meaning separator ≡ (true, reading separator)
unfolding meaning apart
separates = refl

-- A line stands between two runs where it is 00, and nowhere else.
pub zeros_separate : apart separator ≡ true
unfolding apart
zeros_separate = refl

pub zeros_alone : (l : List ℕ) → apart l ≡ true → l ≡ 48 ∷ 48 ∷ []
unfolding apart
zeros_alone l y = by_length l (eqb-true _ _ (left_true (eqb (length l) 2) _ y)) (right_true (eqb (length l) 2) _ y)
  where
    by_length : (l : List ℕ) → length l ≡ 2 → (eqb (get_or l 0 0) 48 && eqb (get_or l 1 0) 48) ≡ true → l ≡ 48 ∷ 48 ∷ []
    by_length [] e h = absurd (omega arith)
    by_length (a ∷ []) e h = absurd (omega arith)
    by_length (a ∷ b ∷ []) e h =
        let p : a ≡ 48 = eqb-true _ _ (left_true (eqb a 48) _ h) in
        let q : b ≡ 48 = eqb-true _ _ (right_true (eqb a 48) _ h) in
        rw (p, q)
    by_length (a ∷ b ∷ c ∷ l) e h = absurd (omega arith)

whole_separator : Unbroken separator
whole_separator zero h e = omega arith
whole_separator (suc zero) h e = omega arith
whole_separator (suc (suc k)) h e = omega arith

between : (ls : List Line) (e : Line) (ms : List Line) (m : Machine) → e.0 ≡ true → counted_in m (ls ++ e ∷ ms) ≡ counted_in m ls ++ counted_in first ms
unfolding counted_in pick
between [] e ms m y = rw y
between ((true, l) ∷ ls) e ms m y = between ls e ms first y
between ((false, l) ∷ ls) e ms m y =
    ap (λ (cs : List Counted). counted_of m l.0 l.1 ++ cs) (between ls e ms (framed m l.0 l.1).0 y)
    ∙ sym (append_assoc (counted_of m l.0 l.1) (counted_in (framed m l.0 l.1).0 ls) (counted_in first ms))

-- complete lines, a line of 00 and any bytes
parted : (a b : List ℕ) → counted (complete a ++ (separator ++ 10 ∷ b)) ≡ counted (complete a) ++ counted b
unfolding counted
parted a b =
    ap (counted_in first) (meant_parts meaning a (separator ++ 10 ∷ b) ∙ ap (λ (ls : List Line). meant meaning (complete a) ++ ls) (meant_first meaning separator b whole_separator))
    ∙ between (meant meaning (complete a)) (meaning separator) (meant meaning b) first (ap (λ (l : Line). l.0) separates)

none_counted : counted [] ≡ []
unfolding counted counted_in
none_counted = ap (counted_in first) (meant_none meaning)

-- ---- two runs
-- Any bytes and a newline, a line of 00 and any bytes count what the two parts count, each alone.
pub runs_part : (a b : List ℕ) → counted ((a ++ 10 ∷ []) ++ (48 ∷ 48 ∷ 10 ∷ b)) ≡ counted (a ++ 10 ∷ []) ++ counted b
runs_part a b =
    ap (λ (l : List ℕ). counted (l ++ (separator ++ 10 ∷ b))) (sym (line_complete a)) ∙ parted (a ++ 10 ∷ []) b ∙ ap (λ (l : List ℕ). counted l ++ counted b) (line_complete a)

-- Nothing is counted before the first or behind the last: a 00 there counts nothing.
pub first_part : (b : List ℕ) → counted (48 ∷ 48 ∷ 10 ∷ b) ≡ counted b
unfolding complete
first_part b = parted [] b ∙ ap (λ (cs : List Counted). cs ++ counted b) none_counted

pub last_part : (a : List ℕ) → counted ((a ++ 10 ∷ []) ++ (48 ∷ 48 ∷ [])) ≡ counted (a ++ 10 ∷ [])
unfolding counted
last_part a =
    let e = line_complete a in
    let z : meant meaning ((a ++ 10 ∷ []) ++ separator) ≡ meant meaning ((a ++ 10 ∷ []) ++ (separator ++ 10 ∷ [])) =
    ap (λ (l : List ℕ). meant meaning (l ++ separator)) (sym e) ∙ meant_parts meaning (a ++ 10 ∷ []) separator
    ∙ ap (λ (ls : List Line). meant meaning (complete (a ++ 10 ∷ [])) ++ ls) (sym (meant_closed meaning separator whole_separator (λ z. omega arith)))
    ∙ sym (meant_parts meaning (a ++ 10 ∷ []) (separator ++ 10 ∷ [])) ∙ ap (λ (l : List ℕ). meant meaning (l ++ (separator ++ 10 ∷ []))) e in
    ap (counted_in first) z ∙ runs_part a [] ∙ ap (λ (cs : List Counted). counted (a ++ 10 ∷ []) ++ cs) none_counted ∙ append-nil (counted (a ++ 10 ∷ []))

-- ---- in either order
pub occurs_two : (world x : ℕ) (cs ds : List Counted) → occurs world x (cs ++ ds) ≡ occurs world x cs + occurs world x ds
unfolding occurs
occurs_two world x [] ds = omega arith
occurs_two world x (c ∷ cs) ds = omega (arith, occurs_two world x cs ds)

-- So two runs count the same in either order.
pub either_order : (a b : List ℕ) (world x : ℕ)
    → occurs world x (counted ((a ++ 10 ∷ []) ++ (48 ∷ 48 ∷ 10 ∷ (b ++ 10 ∷ [])))) ≡ occurs world x (counted ((b ++ 10 ∷ []) ++ (48 ∷ 48 ∷ 10 ∷ (a ++ 10 ∷ []))))
either_order a b world x =
    let p = runs_part a (b ++ 10 ∷ []) in
    let q = runs_part b (a ++ 10 ∷ []) in
    rw (p, q) (omega (arith, occurs_two world x (counted (a ++ 10 ∷ [])) (counted (b ++ 10 ∷ [])), occurs_two world x (counted (b ++ 10 ∷ [])) (counted (a ++ 10 ∷ []))))

-- ---- a line more
more_in : (ls : List Line) (l : Line) (es : Events)
    → counted_in (ran first es) (ls ++ l ∷ []) ≡ counted_in (ran first es) ls ++ pick l.0 [] (counted_of (ran first (since_in es ls)) l.1.0 l.1.1)
unfolding counted_in since_in pick ran
more_in [] l es = either l.0 (λ y. rw y) (λ n. rw n (append-nil (counted_of (ran first es) l.1.0 l.1.1)))
more_in ((true, e) ∷ ls) l es = more_in ls l []
more_in ((false, e) ∷ ls) l es =
    let m = ran first es in
    let z : next m e ≡ ran first (es ++ e ∷ []) = sym (ran-two first es (e ∷ [])) in
    ap (λ (cs : List Counted). counted_of m e.0 e.1 ++ cs) (rw z (more_in ls l (es ++ e ∷ [])))
    ∙ sym (append_assoc (counted_of m e.0 e.1) (counted_in (next m e) ls) (pick l.0 [] (counted_of (ran first (since_in (es ++ e ∷ []) ls)) l.1.0 l.1.1)))

-- Behind complete lines a line adds what it counts, by the machine that the lines since the last 00 leave; a 00 adds nothing.
pub line_more : (a l : List ℕ) → Unbroken l
    → counted (complete a ++ (l ++ 10 ∷ [])) ≡ counted (complete a) ++ pick (apart l) [] (counted_of (ran first (since (complete a))) (reading l).0 (reading l).1)
unfolding counted meaning ran
line_more a l u =
    ap (counted_in first) (meant_parts meaning a (l ++ 10 ∷ []) ∙ ap (λ (ls : List Line). meant meaning (complete a) ++ ls) (meant_first meaning l [] u ∙ ap (λ (ls : List Line). meaning l ∷ ls) (meant_none meaning)))
    ∙ more_in (meant meaning (complete a)) (meaning l) []
