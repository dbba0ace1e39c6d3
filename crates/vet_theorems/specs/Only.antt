-- There is one first offence: what is told is the only answer that is so.
use Rattle.std.specs.Prelude.{◌≡◌, refl, true, false, List, ◌⊎◌, ltb, length}
use Rattle.std.proofs.Common.{sym, ◌∙◌, ltb-true, ltb-false}
use Rattle.std.proofs.Math.Logic.{⊎_elim}
use Prim.Native.Nat.{ℕ, zero, suc, ◌+◌, ◌*◌, ◌%◌, ◌≤◌, ◌<◌}
use native.Mathlib.Omega.{arith}
use Rattle.rules.specs.Sizes.{page_size}
use Rattle.rules.specs.Choice.{either, yes_or_no}
use Rattle.ranges.specs.declared.Mapping.{Mapping}
use Rattle.mapping.specs.Mapping.{lead_of}
use Rattle.descriptors.specs.Numbers.{span, base_of}
use Rattle.descriptors.specs.Meaning.{is_table}
use Rattle.walks.specs.Walk.{entry_of, walked}
use Rattle.vetting.specs.Pass.{place, vetted}
use Rattle.vetting.specs.Outcome.{Vetted}
use Rattle.vetting.specs.Outcome.{Accepted, Refused}
use Rattle.vet_theorems.specs.Tree.{Itself, From, Reached, Before, same_place, reached_lies}
use Rattle.vet_theorems.specs.Once.{AtGib, Earlier, at_gib, at_slot}
use Rattle.vet_theorems.specs.Statements.{Is8A, Is8B, Is8C, Is8D, Blamed, FirstOffence, accepted_only, refused_first}

module _ (numbers : List ℕ) where
  -- ---- the entries above one
  record UnderGib (c : ℕ) : Type 0 where
    gib : ℕ
    few : gib < 4
    low : gib * 1073741824 ≤ c
    high : c < gib * 1073741824 + 1073741824
    table : is_table 2 (entry_of numbers 0 gib) ≡ true

  record AtPage (c f : ℕ) : Type 0 where
    gib : ℕ
    few : gib < 4
    slot : ℕ
    small : slot < 512
    page : ℕ
    tiny : page < 512
    start : c ≡ ((gib * 512 + slot) * 512 + page) * 4096
    upper : is_table 1 (entry_of numbers (base_of page_size (entry_of numbers 0 gib)) slot) ≡ true
    number : f ≡ entry_of numbers (base_of page_size (entry_of numbers (base_of page_size (entry_of numbers 0 gib)) slot)) page

  at_page : (c f : ℕ) → Reached numbers 0 c f → AtPage c f × UnderGib c
  unfolding From span
  at_page c f r =
      let g = r.top in
      let e = entry_of numbers 0 g in
      ⊎_elim (λ (y : Itself 2 (g * 1073741824) e 0 c f). absurd (omega (arith, y.level)))
      (λ (y : (is_table 2 e ≡ true) × ((i : ℕ) × (i < 512) × From numbers 1 (place 1 (g * 1073741824) i) (entry_of numbers (base_of page_size e) i) 0 c f)).
      let i = y.1.0 in
      let e' = entry_of numbers (base_of page_size e) i in
      ⊎_elim (λ (z : Itself 1 (place 1 (g * 1073741824) i) e' 0 c f). absurd (omega (arith, z.level)))
      (λ (z : (is_table 1 e' ≡ true) × ((n : ℕ) × (n < 512) × From numbers 0 (place 0 (place 1 (g * 1073741824) i) n) (entry_of numbers (base_of page_size e') n) 0 c f)).
      let n = z.1.0 in
      let s : c ≡ ((g * 512 + i) * 512 + n) * 4096 = z.1.2.start ∙ omega arith in (
        record { gib = g; few = r.few; slot = i; small = y.1.1; page = n; tiny = z.1.1; start = s; upper = z.0; number = z.1.2.number },
        record { gib = g; few = r.few; low = omega (arith, y.1.1, z.1.1); high = omega (arith, y.1.1, z.1.1); table = y.0 },
      ))
      y.1.2)
      r.from

  slot_under : (c f : ℕ) → Reached numbers 1 c f → UnderGib c
  slot_under c f r =
      let a = at_slot numbers c f r in
      record { gib = a.gib; few = a.few; low = omega (arith, a.small, a.start); high = omega (arith, a.small, a.start); table = a.table }

  -- ---- one number at one place
  reached_same : (k b e f : ℕ) → Reached numbers k b e → Reached numbers k b f → e ≡ f
  reached_same zero b e f p q =
      let a = (at_page b e p).0 in
      let c = (at_page b f q).0 in
      let g : a.gib ≡ c.gib = omega (arith, a.start, c.start, a.small, c.small, a.tiny, c.tiny) in
      let i : a.slot ≡ c.slot = omega (arith, a.start, c.start, a.small, c.small, a.tiny, c.tiny) in
      let n : a.page ≡ c.page = omega (arith, a.start, c.start, a.small, c.small, a.tiny, c.tiny) in
      a.number ∙ rw (g, i, n) (sym c.number)
  reached_same (suc zero) b e f p q =
      let a = at_slot numbers b e p in
      let c = at_slot numbers b f q in
      let g : a.gib ≡ c.gib = omega (arith, a.start, c.start, a.small, c.small) in
      let i : a.index ≡ c.index = omega (arith, a.start, c.start, a.small, c.small) in
      a.number ∙ rw (g, i) (sym c.number)
  reached_same (suc (suc zero)) b e f p q =
      let a = at_gib numbers b e p in
      let c = at_gib numbers b f q in
      let g : a.gib ≡ c.gib = omega (arith, a.start, c.start) in
      a.number ∙ rw g (sym c.number)
  reached_same (suc (suc (suc k))) b e f p q = absurd (omega (arith, (reached_lies numbers (suc (suc (suc k))) b e p).level))

  -- ---- no entry behind a page or block lies among its addresses
  on_page : (k b : ℕ) → k ≤ 2 → b % span k ≡ 0 → b % 4096 ≡ 0
  unfolding span
  on_page zero b m a = a
  on_page (suc zero) b m a = omega arith
  on_page (suc (suc zero)) b m a = omega arith
  on_page (suc (suc (suc k))) b m a = absurd (omega arith)

  on_slot : (k b : ℕ) → k ≤ 2 → 0 < k → b % span k ≡ 0 → b % 2097152 ≡ 0
  unfolding span
  on_slot zero b m h a = absurd (omega arith)
  on_slot (suc zero) b m h a = a
  on_slot (suc (suc zero)) b m h a = omega arith
  on_slot (suc (suc (suc k))) b m h a = absurd (omega arith)

  leaf_alone : (k b e j c f : ℕ) → Reached numbers k b e → is_table k e ≡ false → Reached numbers j c f → Before k b j c → c < b + span k → ⊥
  unfolding span
  leaf_alone zero b e j c f p n q o u =
      let x = reached_lies numbers zero b e p in
      let y = reached_lies numbers j c f q in
      let z = on_page j c y.level y.aligned in
      ⊎_elim (λ (h : b < c). omega (arith, x.aligned)) (λ (h : (b ≡ c) × (j < 0)). omega (arith, h.1)) o
  leaf_alone (suc zero) b e zero c f p n q o u =
      let a = at_slot numbers b e p in
      let d = (at_page c f q).0 in
      let lo : b ≤ c = ⊎_elim (λ (h : b < c). omega arith) (λ (h : (b ≡ c) × (0 < 1)). omega (arith, h.0)) o in
      let g : d.gib ≡ a.gib = omega (arith, a.start, d.start, a.small, d.small, d.tiny) in
      let i : d.slot ≡ a.index = omega (arith, a.start, d.start, a.small, d.small, d.tiny) in
      yes_or_no _ (rw (g, i, ← a.number) at d.upper) n
  leaf_alone (suc zero) b e (suc j) c f p n q o u =
      let a = at_slot numbers b e p in
      let y = reached_lies numbers (suc j) c f q in
      let z = on_slot (suc j) c y.level (omega arith) y.aligned in
      ⊎_elim (λ (h : b < c). omega (arith, a.start)) (λ (h : (b ≡ c) × (suc j < 1)). omega (arith, h.1)) o
  leaf_alone (suc (suc zero)) b e j c f p n q o u = gib j q o
    where
      a : AtGib numbers b e
      a = at_gib numbers b e p

      above : UnderGib c → b ≤ c → ⊥
      above d lo = let g : d.gib ≡ a.gib = omega (arith, a.start, d.low, d.high) in yes_or_no _ (rw (g, ← a.number) at d.table) n

      low : (j : ℕ) → Before 2 b j c → b ≤ c
      low j o = ⊎_elim (λ (h : b < c). omega arith) (λ (h : (b ≡ c) × (j < 2)). omega (arith, h.0)) o

      gib : (j : ℕ) → Reached numbers j c f → Before 2 b j c → ⊥
      gib zero q o = above (at_page c f q).1 (low 0 o)
      gib (suc zero) q o = above (slot_under c f q) (low 1 o)
      gib (suc (suc zero)) q o =
          let d = at_gib numbers c f q in
          ⊎_elim (λ (h : b < c). omega (arith, a.start, d.start)) (λ (h : (b ≡ c) × (2 < 2)). omega (arith, h.1)) o
      gib (suc (suc (suc j))) q o = omega (arith, (reached_lies numbers (suc (suc (suc j))) c f q).level)
  leaf_alone (suc (suc (suc k))) b e j c f p n q o u = omega (arith, (reached_lies numbers (suc (suc (suc k))) b e p).level)

-- ---- two first offences are one
module _ (numbers : List ℕ) (l : List Mapping) where
  offence_by :
      {P : Type 0} (k b e s x : ℕ) → (Is8A numbers l k b e s x → P) → (Is8B numbers l k b e s x → P) → (Is8C numbers l k b e s x → P) → (Is8D numbers l k e s x → P)
      → Blamed numbers l k b e s x → P
  offence_by k b e s x p q r d o =
      ⊎_elim p
      (λ (y : Is8B numbers l k b e s x ⊎ Is8C numbers l k b e s x ⊎ Is8D numbers l k e s x).
      ⊎_elim q (λ (z : Is8C numbers l k b e s x ⊎ Is8D numbers l k e s x). ⊎_elim r d z) y)
      o.offence

  module _ (s x t y : ℕ) (f : FirstOffence numbers l s x) (g : FirstOffence numbers l t y) where
    -- the entry of the one does not come before that of the other
    not_before : Before f.level f.start g.level g.start → ⊥
    not_before o =
        let u = g.before f.level f.start f.number f.reached o in
        offence_by f.level f.start f.number s x (λ a. u.inside a.2) (λ b. yes_or_no _ b.3 u.plain) (λ c. u.new c.4)
        (λ d.
        let late : y ≤ x = either (ltb x y) (λ v. absurd (d.3 (g.alike x (ltb-true x y v)))) (λ v. ltb-false x y v) in
        leaf_alone numbers f.level f.start f.number g.level g.start g.number f.reached d.1 g.reached o
        (omega (arith, g.blamed.low, f.blamed.high)))
        f.blamed

  -- of one entry: its status is one, and so is its address
  module _ (k b e s x t y : ℕ) (alike : (z : ℕ) → z < y → walked numbers z ≡ lead_of l z) (like : (z : ℕ) → z < x → walked numbers z ≡ lead_of l z) where
    same_offence : Blamed numbers l k b e s x → Blamed numbers l k b e t y → (s ≡ t) × (x ≡ y)
    same_offence f g =
        offence_by k b e s x
        (λ a. offence_by k b e t y (λ a'. (a.0 ∙ sym a'.0, a.1 ∙ sym a'.1)) (λ b'. absurd (b'.2 a.2)) (λ c'. absurd (c'.2 a.2))
        (λ d'. absurd (yes_or_no _ a.2.0 d'.1)) g)
        (λ b₁. offence_by k b e t y (λ a'. absurd (b₁.2 a'.2)) (λ b'. (b₁.0 ∙ sym b'.0, b₁.1 ∙ sym b'.1)) (λ c'. absurd (yes_or_no _ b₁.3 c'.3))
        (λ d'. absurd (yes_or_no _ b₁.3 d'.2)) g)
        (λ c. offence_by k b e t y (λ a'. absurd (c.2 a'.2)) (λ b'. absurd (yes_or_no _ b'.3 c.3)) (λ c'. (c.0 ∙ sym c'.0, c.1 ∙ sym c'.1))
        (λ d'. absurd (yes_or_no _ c.4.0 d'.1)) g)
        (λ d. offence_by k b e t y (λ a'. absurd (yes_or_no _ a'.2.0 d.1)) (λ b'. absurd (yes_or_no _ b'.3 d.2)) (λ c'. absurd (yes_or_no _ c'.4.0 d.1))
        (λ d'. (
          d.0 ∙ sym d'.0,
          either (ltb x y) (λ v. absurd (d.3 (alike x (ltb-true x y v))))
              (λ v. either (ltb y x) (λ w. absurd (d'.3 (like y (ltb-true y x w)))) (λ w. let m = ltb-false x y v in let o = ltb-false y x w in omega arith)),
        )) g)
        f

  -- **There is at most one first offence.**
  pub one_first : (s x t y : ℕ) → FirstOffence numbers l s x → FirstOffence numbers l t y → (s ≡ t) × (x ≡ y)
  one_first s x t y f g =
      let p = same_place f.level f.start g.level g.start (not_before t y s x g f) (not_before s x t y f g) in
      let q : Reached numbers f.level f.start g.number = rw (p.0, p.1) g.reached in
      let e = reached_same numbers f.level f.start f.number g.number f.reached q in
      let b : Blamed numbers l f.level f.start f.number t y = rw (p.0, p.1, e) g.blamed in
      same_offence f.level f.start f.number s x t y g.alike f.alike f.blamed b

  -- nothing is accepted that has one
  sane_not : (s x : ℕ) → FirstOffence numbers l s x → vetted numbers l ≡ Accepted → ⊥
  sane_not s x f h =
      let r = accepted_only numbers l h in
      let k = f.level in
      let b = f.start in
      let e = f.number in
      offence_by k b e s x (λ a. r.0.inside k b e f.reached a.2) (λ b₁. yes_or_no _ b₁.3 (r.0.plain k b e f.reached))
      (λ c.
      ⊎_elim (λ (z : base_of page_size e ≡ 0). r.0.level_one k b e f.reached c.4.0 z)
      (λ (z : Earlier numbers k b (base_of page_size e)).
      let w = r.0.once k b e z.level z.start z.number f.reached z.reached c.4.0 z.table (sym z.same) in
      ⊎_elim (λ (u : z.start < b). omega (arith, w.1)) (λ (u : (z.start ≡ b) × (k < z.level)). omega (arith, w.0, u.1)) z.before)
      c.4.1)
      (λ d. d.3 (r.1 x f.below)) f.blamed

  -- **It is what is told.**
  pub first_told : (s x : ℕ) → 512 ≤ length numbers → FirstOffence numbers l s x → vetted numbers l ≡ Refused s x
  first_told s x room f = go (vetted numbers l) refl
    where
      go : (v : Vetted) → vetted numbers l ≡ v → v ≡ Refused s x
      go Accepted h = absurd (sane_not s x f h)
      go (Refused t y) h =
          ⊎_elim (λ (z : (length numbers < 512) × (t ≡ 138) × (y ≡ 0)). absurd (omega (arith, z.0)))
          (λ (z : (512 ≤ length numbers) × FirstOffence numbers l t y). let p = one_first t y s x z.1 f in rw (p.0, p.1))
          (refused_first numbers l t y h)
