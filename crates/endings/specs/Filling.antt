-- What is put into a space from a part on, and the text from the next part on, are the text from that part on.
use Rattle.std.specs.Prelude.{◌≡◌, Bool, true, leb}
use Rattle.std.proofs.Math.Path.{refl, sym, ap}
use Rattle.std.proofs.Common.{◌∙◌, arith, length-append}
use Rattle.std.proofs.Math.Bool.{false}
use mathlib.Core.List.{List, [], ◌∷◌, ◌++◌, append_assoc, cons≢nil, head-eq_of_cons-eq, tail-eq_of_cons-eq}
use Prim.Native.Nat.{ℕ, suc, ◌+◌, ◌-◌, ◌≤◌, ◌<◌}
use Rattle.std.proofs.Math.ListN.{length, take}
use borrow.Author.Tests.{le-leb, lt-leb, leb-true}
use Rattle.rules.specs.Choice.{pick_yes, pick_no, either, chosen}
use Rattle.tools.specs.Laid.{laid, put_take, length_laid}
use Rattle.inputs.specs.Reads.{joined}
use Rattle.phrases.specs.Text.{text_of, line_text, longest, told, line_short}
use Rattle.phrases.specs.declared.Sentence.{Sentence}
use Rattle.picture.specs.Picture.{text_short, text_some}
use Rattle.views.specs.declared.View.{View}
use Rattle.views.specs.declared.View.TheVariants as View
use Rattle.endings.specs.declared.Part.{Part}
use Rattle.endings.specs.declared.Part.TheVariants.{Stands, Page, Legend, Row}
use Rattle.endings.specs.Ending.{end_lines, end_text}
use Rattle.endings.specs.Rest.{first_part, is_over, next_part, part_line, lines_from, text_from, filling}
use Rattle.endings.specs.Behind.{parts_go, parts_over}

abbrev Filled : Type 0
Filled = List (List ℕ) × (ℕ × List ℕ)

full : (lines : List (List ℕ)) (at : ℕ) (out : List ℕ) → length out < at + longest → filling lines at out ≡ (lines, (at, out))
unfolding filling
full [] at out h = refl
full (line ∷ lines) at out h = pick_no _ _ _ (lt-leb (at + longest) (length out) h)

no_more : (lines : List (List ℕ)) (at : ℕ) (out : List ℕ) → length (filling lines at out).0 ≤ length lines
unfolding filling
no_more [] at out = omega arith
no_more (line ∷ lines) at out =
    chosen (λ (q : Filled). length q.0 ≤ suc (length lines)) (leb (at + longest) (length out)) _ _ (λ y. omega (arith, no_more lines (at + length line) (laid out at line))) (λ m. omega arith)

no_less : (lines : List (List ℕ)) (at : ℕ) (out : List ℕ) → at ≤ (filling lines at out).1.0
unfolding filling
no_less [] at out = omega arith
no_less (line ∷ lines) at out =
    chosen (λ (q : Filled). at ≤ q.1.0) (leb (at + longest) (length out)) _ _ (λ y. omega (arith, no_less lines (at + length line) (laid out at line))) (λ m. omega arith)

line_some : (a : Sentence) → 0 < length (line_text a)
unfolding line_text
line_some a = omega (arith, length-append (text_of a) (10 ∷ []))

module _ (n s o t p u l : List ℕ) where
  abbrev from : Part → List (List ℕ)
  from = lines_from n s o t p u l

  short : (x : Part) → length (part_line n s o t p u l x) ≤ longest
  short (Stands x) = line_short _
  short (Page address) = line_short _
  short Legend = line_short _
  short (Row page) = text_short _ o l page

  some_line : (x : Part) → 0 < length (part_line n s o t p u l x)
  some_line (Stands x) = line_some _
  some_line (Page address) = line_some _
  some_line Legend = line_some _
  some_line (Row page) = text_some _ o l page

  -- ---- the loop: `k` is what the whole filling gives
  module _ (k : Filled) (x : Part) (at : ℕ) (out : List ℕ) (inv : k ≡ filling (from x) at out) where
    pub fills_over : (b : Bool) → b ≡ is_over x → b ≡ true → (from x, (at, out)) ≡ k
    unfolding filling
    fills_over b is e = let z = parts_over n s o t p u l x (sym is ∙ e) in sym (inv ∙ rw z)

    pub fills_full : length out - at < longest → (from x, (at, out)) ≡ k
    fills_full h = sym (inv ∙ full (from x) at out (omega arith))

    module _ (b : Bool) (is : b ≡ is_over x) (some : b ≡ false) (room : longest ≤ length out - at) (r : ℕ) (out' : List ℕ) (e : (r, out') ≡ told out at (part_line n s o t p u l x)) where
      was_put : ◌≡◌ {A = ℕ × List ℕ} (r, out') (at + length (part_line n s o t p u l x), laid out at (part_line n s o t p u l x))
      unfolding told
      was_put = e ∙ pick_yes _ _ _ (le-leb (at + longest) (length out) (omega arith))

      pub fills_next : (y : Part) → y ≡ next_part s o t l x → k ≡ filling (from y) r out'
      unfolding filling
      fills_next y z =
          inv ∙ rw (parts_go n s o t p u l x (sym is ∙ some)) (pick_yes _ _ _ (le-leb (at + longest) (length out) (omega arith)))
          ∙ ap (λ (q : ℕ × List ℕ). filling (from (next_part s o t l x)) q.0 q.1) (sym was_put) ∙ ap (λ (w : Part). filling (from w) r out') (sym z)

      pub fills_inside : r ≤ length out'
      fills_inside =
          let a : r ≡ at + length (part_line n s o t p u l x) = ap (λ (q : ℕ × List ℕ). q.0) was_put in
          let z : length out' ≡ length out = ap (λ (q : ℕ × List ℕ). length q.1) was_put ∙ length_laid out at (part_line n s o t p u l x) in
          omega (arith, short x)

  pub lines_fewer : (x y : Part) (b : Bool) → b ≡ is_over x → b ≡ false → y ≡ next_part s o t l x → length (from y) < length (from x)
  lines_fewer x y b is e z = rw (z, parts_go n s o t p u l x (sym is ∙ e)) (omega arith)

  -- ---- all that was put
  fills : (lines : List (List ℕ)) (x : Part) → lines ≡ from x → (at : ℕ) (out : List ℕ) → at ≤ length out
      → take (filling lines at out).1.0 (filling lines at out).1.1 ++ joined (filling lines at out).0 ≡ take at out ++ joined lines
  unfolding filling joined
  fills [] x e at out h = refl
  fills (line ∷ lines) x e at out h =
      let some : is_over x ≡ false = either (is_over x) (λ y. absurd (cons≢nil (e ∙ parts_over n s o t p u l x y))) (λ m. m) in
      let go = e ∙ parts_go n s o t p u l x some in
      let few : length line ≤ longest = rw (head-eq_of_cons-eq go) (short x) in
      chosen (λ (q : Filled). take q.1.0 q.1.1 ++ joined q.0 ≡ take at out ++ (line ++ joined lines)) (leb (at + longest) (length out)) _ _
      (λ y.
      let room = leb-true (at + longest) (length out) y in
      fills lines (next_part s o t l x) (tail-eq_of_cons-eq go) (at + length line) (laid out at line) (omega (arith, length_laid out at line))
      ∙ rw (put_take out at line (length line) refl (omega arith)) (append_assoc (take at out) line (joined lines)))
      (λ m. refl)

  -- what was put, and the text that is left
  pub put_text : (x y : Part) (put : ℕ) (out out' : List ℕ) → (from y, (put, out')) ≡ filling (from x) 0 out → text_from n s o t p u l x ≡ take put out' ++ text_from n s o t p u l y
  put_text x y put out out' e =
      sym (ap (λ (q : Filled). take q.1.0 q.1.1 ++ joined q.0) e ∙ fills (from x) x refl 0 out (omega arith))

  -- where there is room for a line, one is put, and fewer are left
  module _ (x y : Part) (put : ℕ) (out out' : List ℕ) (e : (from y, (put, out')) ≡ filling (from x) 0 out) (b : Bool) (is : b ≡ is_over x) (some : b ≡ false) (room : longest ≤ length out) where
    abbrev line : List ℕ
    line = part_line n s o t p u l x

    abbrev behind : List (List ℕ)
    behind = from (next_part s o t l x)

    one_put : (from y, (put, out')) ≡ filling behind (0 + length line) (laid out 0 line)
    unfolding filling
    one_put =
        e ∙ rw (parts_go n s o t p u l x (sym is ∙ some)) (pick_yes _ _ _ (le-leb (0 + longest) (length out) (omega arith)))

    pub put_fewer : length (from y) < length (from x)
    put_fewer =
        let a : length (from y) ≡ length (filling behind (0 + length line) (laid out 0 line)).0 = ap (λ (q : Filled). length q.0) one_put in
        rw (parts_go n s o t p u l x (sym is ∙ some)) (omega (arith, no_more behind (0 + length line) (laid out 0 line)))

    pub put_some : 0 < put
    put_some =
        let a : put ≡ (filling behind (0 + length line) (laid out 0 line)).1.0 = ap (λ (q : Filled). q.1.0) one_put in
        omega (arith, no_less behind (0 + length line) (laid out 0 line), some_line x)

  -- ---- from the first part on it is the whole end
  pub first_lines : (v : View) → from (first_part v) ≡ end_lines n s o t p u l v
  first_lines View.All = refl
  first_lines (View.Page address) = refl
  first_lines View.Map = refl

  pub first_text : (v : View) → text_from n s o t p u l (first_part v) ≡ end_text n s o t p u l v
  unfolding end_text
  first_text v = ap joined (first_lines v)
