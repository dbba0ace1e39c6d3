-- The table of names as rows, and the search in it.
use Rattle.std.specs.Prelude.{◌≡◌, refl, Option, Some, None, MatchOption, Bool, true, false, ◌&&◌, ℕ, ◌+◌, ◌≤◌, leb}
use Rattle.std.proofs.Common.{◌<◌, sym, ◌∙◌, arith, add-one, get_or, drop, drop_of_length-le}
use Rattle.std.proofs.Math.Seq.{drop-cons}
use borrow.Author.Tests.{leb-true}
use mathlib.Core.List.{List, [], ◌∷◌, map}
use Prim.Native.String.{String}
use Rattle.std.proofs.Math.ListN.{length}
use Rattle.rules.specs.Choice.{pick, pick_yes, pick_no, by, either, left_true, right_true}
use Rattle.tools.specs.Search.{all}
use Rattle.tools.specs.Laid.{laid}
use Rattle.hex_digits.specs.Signs.{signs}
use Rattle.fip_identifiers.specs.Identifiers.{agree}
use Rattle.fip_text.specs.declared.names.TheConstants.{KNOWN}
use Rattle.fip_text.specs.Names.{names, is_text, name_among, name_text}
use Rattle.writing.specs.Pieces.{Stands, stands_then}

-- the name in the first row that has the identifier in the text
unfoldable pub named : List (List ℕ × List ℕ) → List ℕ → Option (List ℕ)
named [] id = None
named (p ∷ ps) id = pick (all (agree p.0 id) 0 36) (Some p.1) (named ps id)

-- what is put of it: a space and the name, or nothing
unfoldable shown : Option (List ℕ) → List ℕ
shown None = []
shown (Some name) = 32 ∷ name

-- ---- the rows are those of the definition
spelled : String × String → List ℕ × List ℕ
spelled p = (signs p.0, signs p.1)

known : map (λ k. (k.0.now, k.1.now)) KNOWN ≡ map spelled names
unfolding spelled names
known = refl

shown_among : (ps : List (String × String)) (id : List ℕ) → shown (named (map spelled ps) id) ≡ name_among ps id
unfolding spelled shown named name_among is_text
shown_among [] id = refl
shown_among (p ∷ ps) id =
    by (λ (b : Bool). shown (pick b (Some (signs p.1)) (named (map spelled ps) id)) ≡ pick b (32 ∷ signs p.1) (name_among ps id)) (all (agree (signs p.0) id) 0 36)
    (λ y. rw (pick_yes true (Some (signs p.1)) (named (map spelled ps) id), pick_yes true (32 ∷ signs p.1) (name_among ps id)) refl)
    (λ n. rw (pick_no false (Some (signs p.1)) (named (map spelled ps) id), pick_no false (32 ∷ signs p.1) (name_among ps id)) (shown_among ps id))

shown_is : (id : List ℕ) → shown (named (map (λ k. (k.0.now, k.1.now)) KNOWN) id) ≡ name_text id
unfolding name_text
shown_is id = rw known (shown_among names id)

-- ---- no name is longer than 51 bytes
short : List (List ℕ × List ℕ) → Bool
short [] = true
short (p ∷ ps) = leb (length p.1) 51 && short ps

named_short : (ps : List (List ℕ × List ℕ)) (id name : List ℕ) → short ps ≡ true → named ps id ≡ Some name → length name ≤ 51
unfolding short named
named_short [] id name s e = cc
named_short (p ∷ ps) id name s e =
    let b = all (agree p.0 id) 0 36 in
    either b
    (λ y. let same : p.1 ≡ name = (let f : Some p.1 ≡ Some name = sym (pick_yes b (Some p.1) (named ps id) y) ∙ e in cc) in
    rw (← same) (leb-true _ _ (left_true (leb (length p.1) 51) (short ps) s)))
    (λ n. named_short ps id name (right_true (leb (length p.1) 51) (short ps) s) (sym (pick_no b (Some p.1) (named ps id) n) ∙ e))

-- ---- the search, row by row: those from i on are still to be seen
module _ {A : Type 0} (f : A → List ℕ × List ℕ) (rows : List A) (id : List ℕ) (i : ℕ) (e : named (map f rows) id ≡ named (map f (drop i rows)) id) where
  module _ (d : A) (h : i < length rows) where
    pub named_here : all (agree (f (get_or rows i d)).0 id) 0 36 ≡ true → named (map f rows) id ≡ Some (f (get_or rows i d)).1
    unfolding named
    named_here y = e ∙ rw (drop-cons rows i d h) (pick_yes _ _ _ y)

    pub named_next : all (agree (f (get_or rows i d)).0 id) 0 36 ≡ false → named (map f rows) id ≡ named (map f (drop (i + 1) rows)) id
    unfolding named
    named_next n = e ∙ rw (drop-cons rows i d h, add-one) (pick_no _ _ _ n)

  pub named_none : length rows ≤ i → named (map f rows) id ≡ None
  unfolding named
  named_none h = e ∙ rw (drop_of_length-le rows h)

-- ---- the name, or nothing
module _ (id : List ℕ) where
  no_name : named (map (λ k. (k.0.now, k.1.now)) KNOWN) id ≡ None → name_text id ≡ []
  unfolding shown
  no_name e = sym (shown_is id) ∙ rw e

  its_name : (name : List ℕ) → named (map (λ k. (k.0.now, k.1.now)) KNOWN) id ≡ Some name → (name_text id ≡ 32 ∷ name) × (length name ≤ 51)
  unfolding shown short
  its_name name e = (sym (shown_is id) ∙ rw e, named_short (map (λ k. (k.0.now, k.1.now)) KNOWN) id name refl e)

pub name_or_none :
    {A : Type 0} (text : A → List ℕ) (id : List ℕ) (r : Option A)
    → MatchOption r (named (map (λ k. (k.0.now, k.1.now)) KNOWN) id ≡ None) (λ name. named (map (λ k. (k.0.now, k.1.now)) KNOWN) id ≡ Some (text name))
    → MatchOption r (name_text id ≡ []) (λ name. (name_text id ≡ 32 ∷ text name) × (length (text name) ≤ 51))
name_or_none text id None h = no_name id h
name_or_none text id (Some name) h = its_name id (text name) h

module _ (o : List ℕ) (at : ℕ) (id : List ℕ) where
  pub name_put :
      (o₁ o₂ name : List ℕ) (a r : ℕ) → name_text id ≡ 32 ∷ name → length name ≤ 51 → Stands o at (32 ∷ []) a o₁ → Stands o₁ a name r o₂ →
      Stands o at (name_text id) r o₂ × (r ≤ at + 52)
  name_put o₁ o₂ name a r e h s d = (rw e (stands_then o o₁ o₂ (32 ∷ []) name at a r s d), omega (arith, s.behind, d.behind))

  pub name_none : name_text id ≡ [] → Stands o at (name_text id) at o
  unfolding laid
  name_none e = rw e (record { behind = omega arith; bytes = refl })
