-- How things stand, a sentence for each core, range of pages and mapping.
use Rattle.std.specs.Prelude.{◌≡◌, Bool, true, false, ◌&&◌, ℕ, ◌+◌, ◌-◌, ◌*◌, ◌/◌, ◌≤◌, ◌<◌, leb, ltb, eqb}
use Rattle.std.proofs.Math.Path.{refl}
use Rattle.std.proofs.Common.{sym, ◌∙◌, arith, le-leb, eq-eqb, ne_eqb}
use Rattle.std.proofs.lemmas.Bool.{lt-leb}
use Rattle.rules.specs.Choice.{pick, picked, passed, pick_yes, both_true, left_false, right_false}
use Rattle.rules.specs.Sizes.{page_size, most_pages, window_limit}
use Rattle.cores.specs.Power.{is_on, is_pending}
use Rattle.cores.specs.declared.Power.{Power}
use Rattle.pages.specs.Window.{acceptable, accepted}
use Rattle.pages.specs.declared.Window.{Window}
use Rattle.ranges.specs.declared.Mapping.{Mapping}
use Rattle.words.specs.Words as w
use Rattle.phrases.specs.Sentence.{blank, ◌▹◌}
use Rattle.phrases.specs.declared.Sentence.{Sentence}
use Rattle.phrases.specs.declared.Piece.TheVariants.{Word, Number, Right, Hex, Column}

-- ---- parts
-- the address at which a page starts, or at which the window ends; 0 where no window has such a page
unfoldable pub address_of : Window → ℕ → ℕ
address_of v page = pick (leb page most_pages && leb v.base window_limit) (v.base + page_size * page) 0

-- a page of the window has addresses of more than eight digits
abbrev pub is_wide : Window → Bool
is_wide v = ltb 0x100000000 (address_of v v.pages)

-- one page, or several
unfoldable pub pages_word : ℕ → ℕ
pages_word n = pick (eqb n 1) w.page w.pages

-- read only, writable or executable
unfoldable pub attributes_word : ℕ → ℕ
attributes_word attr = pick (leb attr 2) (w.read_only + attr) w.attributes

-- ---- sentences
abbrev pub word_said : ℕ → Sentence
word_said word = blank ▹ Word word

-- how many lines came
abbrev pub head_said : ℕ → Sentence
head_said lines = blank ▹ Word w.stands ▹ Number lines

-- an address that is in no page of the window
abbrev pub outside_said : ℕ → Sentence
outside_said address = blank ▹ Hex address ▹ Word w.outside

-- a core: ON, and which world runs there, pending or OFF
abbrev pub core_named : ℕ → Sentence
core_named core = blank ▹ Word w.core ▹ Number core ▹ Word w.colon

unfoldable pub core_said : ℕ → Power → ℕ → Sentence
core_said core power world =
    pick (is_on power) (core_named core ▹ Word w.on_and ▹ Word world ▹ Word w.runs)
    (pick (is_pending power) (core_named core ▹ Word w.pending ▹ Hex power.start)
    (core_named core ▹ Word w.off_still))

-- the line that named an owner, or that none did
unfoldable pub origin_said : Sentence → ℕ → Sentence
origin_said s line = pick (eqb line 0) (s ▹ Word w.unnamed) (s ▹ Word w.line ▹ Number line)

-- the first and the last address of the pages from one on and before another
unfoldable pub place_said : Window → ℕ → ℕ → Sentence
place_said v first end = blank ▹ Hex (address_of v first) ▹ Word w.up_to ▹ Hex (address_of v end - 1)

-- how many pages, and whose: behind two addresses of eight digits, or of up to sixteen
unfoldable pub owner_said : Sentence → Bool → ℕ → ℕ → Sentence
owner_said s wide count owner =
    s ▹ Column (pick wide 38 22) ▹ Right count ▹ Word (pages_word count) ▹ Column (pick wide 50 34) ▹ Word owner ▹ Column (pick wide 58 42)

-- these pages: where they lie, how many they are, whose, and by which line
unfoldable pub range_said : Window → ℕ → ℕ → ℕ → ℕ → Sentence
range_said v first end owner line = origin_said (owner_said (place_said v first end) (is_wide v) (end - first) owner) line

-- a world, and how many pages it maps
unfoldable pub maps_said : ℕ → ℕ → Sentence
maps_said world count = blank ▹ Word world ▹ Column 8 ▹ Word w.maps ▹ Number count ▹ Word (pages_word count)

-- a mapping of a world
unfoldable pub mapping_said : ℕ → Mapping → Sentence
mapping_said world m =
    maps_said world (m.size / page_size) ▹ Word w.from ▹ Hex m.phys ▹ Word w.at ▹ Hex m.virt ▹ Word w.comma ▹ Word (attributes_word m.attr)

-- ---- in a window there may be, the sum is exact
pub address_exact : (v : Window) (page : ℕ) → acceptable v ≡ true → page ≤ v.pages → address_of v page ≡ v.base + page_size * page
unfolding address_of
address_exact v page ok h =
    let a = accepted v ok in
    pick_yes _ _ _ (both_true _ _ (le-leb page most_pages (omega (arith, a.most))) (le-leb v.base window_limit (omega (arith, a.ends))))

-- ---- how the code's branches meet these
module _ (v : Window) (page : ℕ) where
  pub address_past : most_pages < page → 0 ≡ address_of v page
  unfolding address_of
  address_past h = passed _ _ _ _ (left_false _ _ (lt-leb page most_pages h)) refl

  pub address_high : window_limit < v.base → 0 ≡ address_of v page
  unfolding address_of
  address_high h = passed _ _ _ _ (right_false (leb page most_pages) _ (lt-leb v.base window_limit h)) refl

  pub address_sum : page ≤ most_pages → v.base ≤ window_limit → v.base + page_size * page ≡ address_of v page
  unfolding address_of
  address_sum h g = picked _ _ _ _ (both_true _ _ (le-leb page most_pages h) (le-leb v.base window_limit g)) refl

pub ruleset addresses = (address_past, address_high, address_sum)

module _ (n : ℕ) where
  pub one_page : n ≡ 1 → w.page ≡ pages_word n
  unfolding pages_word
  one_page h = picked _ _ _ _ (eq-eqb n 1 h) refl

  pub some_pages : (n ≡ 1 → ⊥) → w.pages ≡ pages_word n
  unfolding pages_word
  some_pages h = passed _ _ _ _ (ne_eqb n 1 h) refl

  pub known_attributes : n ≤ 2 → w.read_only + n ≡ attributes_word n
  unfolding attributes_word
  known_attributes h = picked _ _ _ _ (le-leb n 2 h) refl

  pub other_attributes : 2 < n → w.attributes ≡ attributes_word n
  unfolding attributes_word
  other_attributes h = passed _ _ _ _ (lt-leb n 2 h) refl

pub ruleset word_laws = (one_page, some_pages, known_attributes, other_attributes)

module _ (core : ℕ) (power : Power) (world : ℕ) (s n c : Sentence) (e : s ≡ word_said w.core) (f : n ≡ (s ▹ Number core)) (g : c ≡ (n ▹ Word w.colon)) (b : Bool) (is : b ≡ is_on power) where
  pub core_on : (x y r : Sentence) → b ≡ true → x ≡ (c ▹ Word w.on_and) → y ≡ (x ▹ Word world) → r ≡ (y ▹ Word w.runs) → r ≡ core_said core power world
  unfolding core_said
  core_on x y r t h i j = picked _ _ _ _ (sym is ∙ t) (rw (j, i, h, g, f, e))

  module _ (t : b ≡ false) (p : Bool) (waits : p ≡ is_pending power) where
    pub core_pending : (x r : Sentence) → p ≡ true → x ≡ (c ▹ Word w.pending) → r ≡ (x ▹ Hex power.start) → r ≡ core_said core power world
    unfolding core_said
    core_pending x r u h i = passed _ _ _ _ (sym is ∙ t) (picked _ _ _ _ (sym waits ∙ u) (rw (i, h, g, f, e)))

    pub core_off : (r : Sentence) → p ≡ false → r ≡ (c ▹ Word w.off_still) → r ≡ core_said core power world
    unfolding core_said
    core_off r u h = passed _ _ _ _ (sym is ∙ t) (passed _ _ _ _ (sym waits ∙ u) (rw (h, g, f, e)))

pub ruleset core_laws = (core_on, core_pending, core_off)

module _ (s r : Sentence) (line : ℕ) where
  pub origin_none : line ≡ 0 → r ≡ (s ▹ Word w.unnamed) → r ≡ origin_said s line
  unfolding origin_said
  origin_none h e = picked _ _ _ _ (eq-eqb line 0 h) e

  pub origin_line : (line ≡ 0 → ⊥) → r ≡ (s ▹ Word w.line ▹ Number line) → r ≡ origin_said s line
  unfolding origin_said
  origin_line h e = passed _ _ _ _ (ne_eqb line 0 h) e

pub ruleset origins_said = (origin_none, origin_line)

module _ (wide : Bool) (a b : ℕ) where
  pub column_wide : wide ≡ true → b ≡ pick wide b a
  column_wide e = picked _ _ _ _ e refl

  pub column_plain : wide ≡ false → a ≡ pick wide b a
  column_plain e = passed _ _ _ _ e refl

pub ruleset columns = (column_wide, column_plain)

-- ---- piece behind piece
pub place_said_lem : (v : Window) (first end : ℕ) (s a b r : Sentence) (x y z : ℕ) → s ≡ blank → x ≡ address_of v first → a ≡ (s ▹ Hex x) → b ≡ (a ▹ Word w.up_to) → y ≡ address_of v end → z ≡ y - 1 → r ≡ (b ▹ Hex z)
    → r ≡ place_said v first end
unfolding place_said
place_said_lem v first end s a b r x y z p q f g h i j = rw (j, g, f, p, q, i, h)

pub owner_said_lem : (s : Sentence) (wide : Bool) (count owner : ℕ) (a b c d e r : Sentence) (x n y z : ℕ) → x ≡ pick wide 38 22 → a ≡ (s ▹ Column x) → b ≡ (a ▹ Right count) → n ≡ pages_word count → c ≡ (b ▹ Word n)
    → y ≡ pick wide 50 34 → d ≡ (c ▹ Column y) → e ≡ (d ▹ Word owner) → z ≡ pick wide 58 42 → r ≡ (e ▹ Column z) → r ≡ owner_said s wide count owner
unfolding owner_said
owner_said_lem s wide count owner a b c d e r x n y z h i j k l m o p q t = rw (t, p, o, l, j, i, h, k, m, q)

pub maps_said_lem : (world count : ℕ) (s a b c r : Sentence) (n : ℕ) → s ≡ word_said world → a ≡ (s ▹ Column 8) → b ≡ (a ▹ Word w.maps) → c ≡ (b ▹ Number count) → n ≡ pages_word count → r ≡ (c ▹ Word n) → r ≡ maps_said world count
unfolding maps_said
maps_said_lem world count s a b c r n f g h i j k = rw (k, i, h, g, f, j)

pub mapping_said_lem : (world : ℕ) (m : Mapping) (s a b c d e r : Sentence) (n : ℕ) → s ≡ maps_said world (m.size / page_size) → a ≡ (s ▹ Word w.from) → b ≡ (a ▹ Hex m.phys) → c ≡ (b ▹ Word w.at) → d ≡ (c ▹ Hex m.virt)
    → e ≡ (d ▹ Word w.comma) → n ≡ attributes_word m.attr → r ≡ (e ▹ Word n) → r ≡ mapping_said world m
unfolding mapping_said
mapping_said_lem world m s a b c d e r n f g h i j k l o = rw (o, k, j, i, h, g, f, l)

pub range_said_lem : (v : Window) (first end owner line : ℕ) (s t r : Sentence) (wide : Bool) (n : ℕ) → s ≡ place_said v first end → wide ≡ is_wide v → n ≡ end - first → t ≡ owner_said s wide n owner → r ≡ origin_said t line
    → r ≡ range_said v first end owner line
unfolding range_said
range_said_lem v first end owner line s t r wide n e f g h i = rw (i, h, e, f, g)

pub ruleset pieces = (place_said_lem, range_said_lem, owner_said_lem, maps_said_lem, mapping_said_lem)

pub ruleset laws = (addresses, word_laws, core_laws, origins_said, columns, pieces)
