-- What a call asks, in words: a table with a row for each call, and one for all others.
use Rattle.std.specs.Prelude.{◌≡◌, Bool, true, false, List, [], ◌∷◌, map, ℕ, zero, suc, ◌+◌, ◌<◌, eqb, length, get_or, replicate}
use Rattle.std.proofs.Math.Path.{refl, subst}
use Rattle.std.proofs.Common.{ap, ◌∙◌, arith}
use borrow.Author.Tests.{eq-eqb, ne_eqb}
use Rattle.rules.specs.Choice.{pick, picked, passed}
use Rattle.tools.specs.Search.{first}
use Rattle.judgements.specs.Names.{version, features, power_version, core_off, core_start, core_start_wide, core_state, core_state_wide, power_features, granule_to_realm, granule_to_normal, take_pages, give_pages, owns_page, map_pages, unmap_pages, where_leads, count_on, realm_finish, secure_finish}
use Rattle.judgements.specs.declared.Request.{Request}
use Rattle.judging.specs.Laws.{request_of}
use Rattle.words.specs.Words as w
use Rattle.phrases.specs.Sentence.{◌▹◌}
use Rattle.phrases.specs.declared.Piece.TheVariants.{Word, Number, Hex, Value}
use Rattle.phrases.specs.declared.Sentence.{Sentence}
use Rattle.asking.specs.Names.{named, counted, names}
use Rattle.asking.specs.declared.Given.{Given}
use Rattle.asking.specs.declared.Known.TheVariants.{Attributes}

-- how an argument is told: by its word alone, or behind its word as one of these
abbrev alone : ℕ
alone = 1

abbrev in_number : ℕ
in_number = 2

abbrev as_address : ℕ
as_address = 3

abbrev as_value : ℕ
as_value = 4

abbrev in_pages : ℕ
in_pages = 5

abbrev in_bytes : ℕ
in_bytes = 6

abbrev as_attributes : ℕ
as_attributes = 7

-- so many arguments that are not told
abbrev nothing : ℕ → List ℕ
nothing n = replicate (n + n + n) 0

-- a call's key, and for each of its arguments the word, the register, and how it is told; register 0 stands for the key
unfoldable pub forms : List (ℕ × List ℕ)
forms =
    (version, w.ask_calls ∷ 0 ∷ alone ∷ nothing 4)
    ∷ (features, w.ask_known ∷ 1 ∷ as_address ∷ nothing 4)
    ∷ (power_version, w.ask_power ∷ 0 ∷ alone ∷ nothing 4)
    ∷ (core_off, w.turn_off ∷ 0 ∷ alone ∷ nothing 4)
    ∷ (core_start, w.start ∷ 1 ∷ in_number ∷ w.at ∷ 2 ∷ as_address ∷ w.context ∷ 3 ∷ as_value ∷ nothing 2)
    ∷ (core_start_wide, w.start ∷ 1 ∷ in_number ∷ w.at ∷ 2 ∷ as_address ∷ w.context ∷ 3 ∷ as_value ∷ nothing 2)
    ∷ (core_state, w.ask_state ∷ 1 ∷ in_number ∷ w.level ∷ 2 ∷ in_number ∷ nothing 3)
    ∷ (core_state_wide, w.ask_state ∷ 1 ∷ in_number ∷ w.level ∷ 2 ∷ in_number ∷ nothing 3)
    ∷ (power_features, w.ask_powers ∷ 1 ∷ as_address ∷ nothing 4)
    ∷ (granule_to_realm, w.take_page ∷ 1 ∷ as_address ∷ nothing 4)
    ∷ (granule_to_normal, w.give_page ∷ 1 ∷ as_address ∷ nothing 4)
    ∷ (take_pages, w.take ∷ 2 ∷ in_pages ∷ w.from ∷ 1 ∷ as_address ∷ nothing 3)
    ∷ (give_pages, w.give ∷ 2 ∷ in_pages ∷ w.from ∷ 1 ∷ as_address ∷ nothing 3)
    ∷ (owns_page, w.ask_owner ∷ 1 ∷ as_address ∷ nothing 4)
    ∷ (map_pages, w.map ∷ 1 ∷ as_address ∷ w.at ∷ 2 ∷ as_address ∷ w.comma ∷ 3 ∷ in_bytes ∷ w.comma ∷ 4 ∷ as_attributes ∷ nothing 1)
    ∷ (unmap_pages, w.unmap ∷ 1 ∷ as_address ∷ w.comma ∷ 2 ∷ in_bytes ∷ nothing 3)
    ∷ (where_leads, w.ask_where ∷ 1 ∷ as_address ∷ nothing 4)
    ∷ (count_on, w.count ∷ 0 ∷ alone ∷ nothing 4)
    ∷ (realm_finish, w.finish ∷ 1 ∷ as_value ∷ w.blank ∷ 2 ∷ as_value ∷ w.blank ∷ 3 ∷ as_value ∷ w.blank ∷ 4 ∷ as_value ∷ w.blank ∷ 5 ∷ as_value ∷ [])
    ∷ (secure_finish, w.finish ∷ 1 ∷ as_value ∷ w.blank ∷ 2 ∷ as_value ∷ w.blank ∷ 3 ∷ as_value ∷ w.blank ∷ 4 ∷ as_value ∷ nothing 1)
    ∷ (0, w.other ∷ 0 ∷ as_address ∷ w.context ∷ 1 ∷ as_value ∷ w.blank ∷ 2 ∷ as_value ∷ w.blank ∷ 3 ∷ as_value ∷ nothing 1)
    ∷ []

unfoldable pub key_at : ℕ → ℕ
key_at k = (get_or forms k (0, [])).0

unfoldable pub row_at : ℕ → List ℕ
row_at k = (get_or forms k (0, [])).1

-- row k is that of the key
unfoldable pub is_form : ℕ → ℕ → Bool
is_form key k = eqb (key_at k) key

-- the row of a key; the last where it has none of its own
unfoldable pub form : ℕ → List ℕ
form key = row_at (first (is_form key) 0 20)

-- ---- the sentence of a row
unfoldable pub register : ℕ → Given → ℕ
register i g = pick (eqb i 0) g.key (pick (eqb i 1) g.x1 (pick (eqb i 2) g.x2 (pick (eqb i 3) g.x3 (pick (eqb i 4) g.x4 g.x5))))

unfoldable pub valued : Sentence → ℕ → ℕ → Sentence
valued s how x =
    pick (eqb how alone) s
    (pick (eqb how in_number) (s ▹ Number x)
    (pick (eqb how as_address) (s ▹ Hex x)
    (pick (eqb how as_value) (s ▹ Value x)
    (pick (eqb how in_pages) (counted s x w.page w.pages)
    (pick (eqb how in_bytes) (counted s x w.byte w.bytes)
    (named s Attributes x))))))

-- one argument, behind its word
unfoldable pub slot : Sentence → ℕ → ℕ → ℕ → Given → Sentence
slot s word i how g = pick (eqb how 0) s (valued (s ▹ Word word) how (register i g))

-- all of them
unfoldable pub slots : Sentence → List ℕ → Given → Sentence
slots s r g =
    let s1 = slot s (get_or r 0 0) (get_or r 1 0) (get_or r 2 0) g in
    let s2 = slot s1 (get_or r 3 0) (get_or r 4 0) (get_or r 5 0) g in
    let s3 = slot s2 (get_or r 6 0) (get_or r 7 0) (get_or r 8 0) g in
    let s4 = slot s3 (get_or r 9 0) (get_or r 10 0) (get_or r 11 0) g in
    slot s4 (get_or r 12 0) (get_or r 13 0) (get_or r 14 0) g

-- ---- a call with these eight numbers
-- what it is told by; the fifth argument is Realm's finish's alone, and whole
abbrev pub given_in : Request → ℕ → Given
given_in q fifth = record { key = q.key; x1 = q.args.x1; x2 = q.args.x2; x3 = q.args.x3; x4 = q.args.x4; x5 = fifth }

-- what it asks; where it was handed over, as a call that the table does not have
unfoldable pub asked : Sentence → Bool → List ℕ → Sentence
asked s handed xs = let q = request_of xs in slots s (pick handed (row_at 20) (form q.key)) (given_in q (get_or xs 5 0))

-- how it is told to be granted: of a question whether a call is known, that it is
unfoldable pub done_word : List ℕ → ℕ
done_word xs = let k = (request_of xs).key in pick (eqb k features) w.known (pick (eqb k power_features) w.known w.granted)

-- ---- how the code's branches meet these
-- a column of the table, whatever stands for a row that is not there
column : {A : Type 0} (f : ℕ × List ℕ → A) (l : List (ℕ × List ℕ)) (k : ℕ) (d : A) → k < length l → get_or (map f l) k d ≡ f (get_or l k (0, []))
column f [] k d h = absurd (omega arith)
column f (x ∷ xs) zero d h = refl
column f (x ∷ xs) (suc k) d h = column f xs k d (omega arith)

unfoldable pub keys : List ℕ
keys = map (λ (p : ℕ × List ℕ). p.0) forms

unfoldable pub rows : List (List ℕ)
rows = map (λ (p : ℕ × List ℕ). p.1) forms

pub key_is : (k d : ℕ) → k < 21 → get_or keys k d ≡ key_at k
unfolding key_at keys forms
key_is k d h = column (λ (p : ℕ × List ℕ). p.0) forms k d h

pub row_is : (k : ℕ) (d : List ℕ) → k < 21 → get_or rows k d ≡ row_at k
unfolding row_at rows forms
row_is k d h = column (λ (p : ℕ × List ℕ). p.1) forms k d h

pub form_yes : (key k : ℕ) (r : List ℕ) → r ≡ row_at k → k ≡ first (is_form key) 0 20 → r ≡ form key
unfolding form
form_yes key k r e h = e ∙ ap row_at h

module _ (key k x : ℕ) (e : x ≡ key_at k) where
  pub form_here : x ≡ key → is_form key k ≡ true
  unfolding is_form
  form_here h = eq-eqb (key_at k) key (rw (← e) h)

  pub form_not : (x ≡ key → ⊥) → is_form key k ≡ false
  unfolding is_form
  form_not h = ne_eqb (key_at k) key (λ z. h (rw e z))

module _ (i : ℕ) (g : Given) where
  pub register_row : (n v : ℕ) → i ≡ n → v ≡ register n g → v ≡ register i g
  register_row n v e h = rw e h

  pub register_last : (i ≡ 0 → ⊥) → (i ≡ 1 → ⊥) → (i ≡ 2 → ⊥) → (i ≡ 3 → ⊥) → (i ≡ 4 → ⊥) → g.x5 ≡ register i g
  unfolding register pick
  register_last p q r t u = rw (ne_eqb _ _ p, ne_eqb _ _ q, ne_eqb _ _ r, ne_eqb _ _ t, ne_eqb _ _ u)

module _ (s r : Sentence) (how x : ℕ) where
  pub value_row : (n : ℕ) → how ≡ n → r ≡ valued s n x → r ≡ valued s how x
  value_row n e h = rw e h

  pub value_last : (how ≡ 1 → ⊥) → (how ≡ 2 → ⊥) → (how ≡ 3 → ⊥) → (how ≡ 4 → ⊥) → (how ≡ 5 → ⊥) → (how ≡ 6 → ⊥) → r ≡ named s Attributes x → r ≡ valued s how x
  unfolding valued pick
  value_last a b c d e f h = rw (ne_eqb _ _ a, ne_eqb _ _ b, ne_eqb _ _ c, ne_eqb _ _ d, ne_eqb _ _ e, ne_eqb _ _ f) h

module _ (s : Sentence) (word i how : ℕ) (g : Given) where
  pub slot_none : how ≡ 0 → s ≡ slot s word i how g
  unfolding slot
  slot_none e = picked _ _ _ _ (eq-eqb how 0 e) refl

  pub slot_some : (t r : Sentence) (x : ℕ) → (how ≡ 0 → ⊥) → x ≡ register i g → t ≡ (s ▹ Word word) → r ≡ valued t how x → r ≡ slot s word i how g
  unfolding slot
  slot_some t r x n e f h = passed _ _ _ _ (ne_eqb how 0 n) (rw (← e, ← f) h)

pub all_slots : (s s1 s2 s3 s4 s5 : Sentence) (r : List ℕ) (g : Given)
    → s1 ≡ slot s (get_or r 0 0) (get_or r 1 0) (get_or r 2 0) g → s2 ≡ slot s1 (get_or r 3 0) (get_or r 4 0) (get_or r 5 0) g
    → s3 ≡ slot s2 (get_or r 6 0) (get_or r 7 0) (get_or r 8 0) g → s4 ≡ slot s3 (get_or r 9 0) (get_or r 10 0) (get_or r 11 0) g
    → s5 ≡ slot s4 (get_or r 12 0) (get_or r 13 0) (get_or r 14 0) g → s5 ≡ slots s r g
unfolding slots
all_slots s s1 s2 s3 s4 s5 r g e f h i j = rw (← e, ← f, ← h, ← i) j

module _ (s t : Sentence) (handed : Bool) (xs r : List ℕ) (q : Request) (e : q ≡ request_of xs) (h : t ≡ slots s r (given_in q (get_or xs 5 0))) where
  pub asks_number : handed ≡ true → r ≡ row_at 20 → t ≡ asked s handed xs
  unfolding asked pick
  asks_number y f = subst (λ (q : Request). t ≡ slots s (pick handed (row_at 20) (form q.key)) (given_in q (get_or xs 5 0))) e (rw (y, ← f) h)

  pub asks_so : handed ≡ false → r ≡ form q.key → t ≡ asked s handed xs
  unfolding asked pick
  asks_so n f = subst (λ (q : Request). t ≡ slots s (pick handed (row_at 20) (form q.key)) (given_in q (get_or xs 5 0))) e (rw (n, ← f) h)

module _ (xs : List ℕ) (q : Request) (e : q ≡ request_of xs) where
  pub done_known : q.key ≡ features → w.known ≡ done_word xs
  unfolding done_word
  done_known f = picked _ _ _ _ (eq-eqb _ _ (rw e at f)) refl

  pub done_power : q.key ≡ power_features → w.known ≡ done_word xs
  unfolding done_word pick
  done_power f = let z : (request_of xs).key ≡ power_features = rw e at f in rw z

  pub done_other : (q.key ≡ features → ⊥) → (q.key ≡ power_features → ⊥) → w.granted ≡ done_word xs
  unfolding done_word
  done_other n m = passed _ _ _ _ (ne_eqb _ _ (rw e at n)) (passed _ _ _ _ (ne_eqb _ _ (rw e at m)) refl)

pub ruleset slotting = (register_row, register_last, slot_none, slot_some, all_slots, asks_number, asks_so)

pub ruleset dones = (done_known, done_power, done_other)

pub ruleset laws = (names, slotting, dones)
