-- A text that is written in chunks, each put at the front of one space and then written.
use Rattle.std.specs.Prelude.{◌≡◌, Bool, true, not, length}
use Rattle.std.proofs.Math.Path.{refl, sym, ap}
use Rattle.std.proofs.Common.{◌∙◌, arith}
use Rattle.std.proofs.Math.Bool.{false}
use mathlib.Core.List.{List, [], ◌++◌, append-nil, append_assoc}
use Prim.Native.Nat.{ℕ, zero, suc, ◌≤◌, ◌<◌}
use Rattle.std.proofs.Math.ListN.{take}
use Rattle.std.proofs.lemmas.Bool.{not-false}
use Rattle.inputs.specs.Reads.{joined}
use Rattle.views.specs.declared.View.{View}
use Rattle.endings.specs.Ending.{end_lines}
use Rattle.endings.specs.Rest.{first_part, is_over, lines_from, text_from, filling}
use Rattle.endings.specs.Behind.{parts_over}
use Rattle.endings.specs.Filling.{put_text, put_fewer, put_some, first_lines}
use Rattle.endings.specs.declared.Part.{Part}

-- the lines that are left behind so many chunks, each filled from the front of the space, and the space
unfoldable pub passes : ℕ → List (List ℕ) → List ℕ → List (List ℕ) × List ℕ
passes zero lines out = (lines, out)
passes (suc count) lines out = let q = passes count lines out in let f = filling q.0 0 q.1 in (f.0, f.1.1)

-- all of some lines was written in chunks: behind so many nothing is left, and the space is as they leave it; the text is that of the chunks before the last one, and of the last, which still lies at the front
pub record Written (lines : List (List ℕ)) (out out' : List ℕ) : Type 0 where
  pub chunks : ℕ
  pub all : ([], out') ≡ passes chunks lines out
  pub before : List ℕ
  pub last : ℕ
  pub some : 0 < last
  pub inside : last ≤ length out'
  pub whole : joined lines ≡ before ++ take last out'

-- what was written of some lines, where these are left
pub record Writing (lines rest : List (List ℕ)) (out out' : List ℕ) : Type 0 where
  pub chunks : ℕ
  pub all : (rest, out') ≡ passes chunks lines out
  pub before : List ℕ
  pub whole : joined lines ≡ before ++ joined rest

-- ---- the loop
first_some : (v : View) → is_over (first_part v) ≡ false
first_some View.All = refl
first_some (View.Page address) = refl
first_some View.Map = refl

module _ (n s o t p u l : List ℕ) where
  -- from part x₀ on all was written up to part x, and that is some part
  abbrev pub Telling : Part → List ℕ → Part → List ℕ → Type 0
  Telling x₀ out₀ x out = (is_over x ≡ false) × Writing (lines_from n s o t p u l x₀) (lines_from n s o t p u l x) out₀ out

  pub telling_first : (x : Part) (out : List ℕ) (v : View) → x ≡ first_part v → Telling x out x out
  unfolding passes
  telling_first x out v e = (ap is_over e ∙ first_some v, record { chunks = 0; all = refl; before = []; whole = refl })

  -- a chunk more, which could be written
  module _ (x₀ : Part) (out₀ : List ℕ) (x : Part) (out : List ℕ) (w : Telling x₀ out₀ x out) (y : Part) (put : ℕ) (out' : List ℕ) (e : (lines_from n s o t p u l y, (put, out')) ≡ filling (lines_from n s o t p u l x) 0 out) (b : Bool) (is : b ≡ is_over y) where
    before : List ℕ
    before = w.1.before

    more : text_from n s o t p u l x₀ ≡ before ++ take put out' ++ text_from n s o t p u l y
    unfolding before
    more = w.1.whole ∙ ap (λ (rest : List ℕ). w.1.before ++ rest) (put_text n s o t p u l x y put out out' e) ∙ sym (append_assoc w.1.before (take put out') (text_from n s o t p u l y))

    passed : (lines_from n s o t p u l y, out') ≡ passes (suc w.1.chunks) (lines_from n s o t p u l x₀) out₀
    unfolding passes
    passed =
        ap (λ (f : List (List ℕ) × (ℕ × List ℕ)). (f.0, f.1.1)) e
        ∙ ap (λ (q : List (List ℕ) × List ℕ). let f = filling q.0 0 q.1 in (f.0, f.1.1)) w.1.all

    pub telling_next : b ≡ false → Telling x₀ out₀ y out'
    telling_next m = (sym is ∙ m, record { chunks = suc w.1.chunks; all = passed; before = before ++ take put out'; whole = more })

    pub telling_fewer : length out ≡ 65536 → length (lines_from n s o t p u l y) < length (lines_from n s o t p u l x)
    telling_fewer size = put_fewer n s o t p u l x y put out out' e false (sym w.0) refl (omega arith)

    pub telling_last : (v : View) (k : Bool) → x₀ ≡ first_part v → length out ≡ 65536 → (k ≡ true → put ≤ length out') → not k ≡ false → b ≡ true → Written (end_lines n s o t p u l v) out₀ out'
    unfolding joined
    telling_last v k first size fits written over =
        let none = parts_over n s o t p u l y (sym is ∙ over) in
        let whole = ap (lines_from n s o t p u l) first ∙ first_lines n s o t p u l v in
        record {
          chunks = suc w.1.chunks;
          all = rw (← whole, ← none) passed;
          before = before;
          last = put;
          some = put_some n s o t p u l x y put out out' e false (sym w.0) refl (omega arith);
          inside = fits (not-false k written);
          whole =
              sym (ap joined whole) ∙ more ∙ ap (λ (rest : List (List ℕ)). before ++ take put out' ++ joined rest) none ∙ append-nil (before ++ take put out');
        }
