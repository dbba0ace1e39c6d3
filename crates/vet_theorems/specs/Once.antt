-- A table that was reached before is level 1, or an entry before this one leads to it; and where none was, no two entries lead to one table.
use Rattle.std.specs.Prelude.{◌≡◌, Bool, List, ◌⊎◌, eqb}
use Rattle.std.proofs.Math.Path.{refl, ap}
use Rattle.std.proofs.Common.{sym, ◌∙◌, eq-or-lt_of_le}
use Rattle.std.proofs.Math.Bool.{true, false}
use Rattle.std.proofs.Math.Logic.{inl, inr, ⊎_elim}
use Prim.Native.Nat.{ℕ, zero, suc, ◌+◌, ◌*◌, ◌/◌, ◌%◌, ◌≤◌, ◌<◌}
use native.Mathlib.Omega.{arith}
use borrow.Author.Tests.{eq-eqb, eqb-true, ltb-true}
use Rattle.rules.specs.Sizes.{page_size, virtual_limit}
use Rattle.rules.specs.Choice.{pick, pick_yes, pick_no, either, not_first, not_second, yes_or_no}
use Rattle.tools.specs.Search.{any, first, first_is, any_first, any_not}
use Rattle.descriptors.specs.Numbers.{span, slot_size, base_of}
use Rattle.descriptors.specs.Meaning.{is_table, reserved, meaning, last_level, table_says, means_two}
use Rattle.descriptors.specs.declared.Descriptor.{Descriptor}
use Rattle.descriptors.specs.declared.Descriptor.TheVariants.{Nothing, Table, Leaf}
use Rattle.walks.specs.Walk.{entry_of, entry_for}
use Rattle.vetting.specs.Reached.{is_at, gibs_before, gib, under, slot, says, leads, earlier, again}
use Rattle.vetting.specs.Pass.{place}
use Rattle.vet_theorems.specs.Tree.{Itself, From, Reached, Before, itself, from_table, from_lies, reached_lies, before_both}

-- ---- what says that it is a table, is one, and at this offset
module _ (t : ℕ) where
  not_table : {A : Type 0} (d : Descriptor) → is_at t d ≡ false → d ≡ Table t → A
  unfolding is_at
  not_table d n h = absurd (yes_or_no (is_at t (Table t)) (eq-eqb t t refl) (rw h at n))

  at_is : (d : Descriptor) → is_at t d ≡ true → d ≡ Table t
  unfolding is_at
  at_is Nothing h = let z : false ≡ true = h in absurd (yes_or_no false z refl)
  at_is (Table u) h = rw (eqb-true u t h)
  at_is (Leaf p a) h = let z : false ≡ true = h in absurd (yes_or_no false z refl)

  pub table_of : (k e x : ℕ) → meaning k x e ≡ Table t → (is_table k e ≡ true) × (base_of page_size e ≡ t) × (reserved k e ≡ false)
  unfolding is_at
  table_of k e x =
      means_two k e x x (λ (d c : Descriptor). d ≡ Table t → (is_table k e ≡ true) × (base_of page_size e ≡ t) × (reserved k e ≡ false)) (not_table Nothing refl)
      (λ y v h. (y, same (base_of page_size e) h, v)) (λ y v. not_table (Leaf _ _) refl)
    where
      same : (u : ℕ) → Table u ≡ Table t → u ≡ t
      same u h = cc

-- one that passes, if any does
some_passes : (p : ℕ → Bool) (n : ℕ) → any p 0 n ≡ true → (i : ℕ) × (i < n) × (p i ≡ true)
some_passes p n h =
    let i = first p 0 n in
    let u = ltb-true i (0 + n) (any_first p 0 n ∙ h) in
    (i, omega arith, (first_is p 0 n).passes u)

module _ (numbers : List ℕ) where
  gib_is : (g x : ℕ) → x / 1073741824 % 512 ≡ g → gib numbers x ≡ meaning 2 x (entry_of numbers 0 g)
  unfolding gib entry_for span
  gib_is g x e = rw e

  under_is : (i x t : ℕ) → x / 2097152 % 512 ≡ i → under numbers x (Table t) ≡ meaning 1 x (entry_of numbers t i)
  unfolding under entry_for span
  under_is i x t e = rw e

  under_table : (x t : ℕ) (d : Descriptor) → under numbers x d ≡ Table t → (v : ℕ) × (d ≡ Table v)
  unfolding under is_at
  under_table x t Nothing h = not_table t Nothing refl h
  under_table x t (Table v) h = (v, refl)
  under_table x t (Leaf p a) h = not_table t Nothing refl h

  -- ---- an entry before, that leads to the table
  pub record Earlier (k b to : ℕ) : Type 0 where
    pub level : ℕ
    pub start : ℕ
    pub number : ℕ
    pub reached : Reached numbers level start number
    pub before : Before level start k b
    pub table : is_table level number ≡ true
    pub same : base_of page_size number ≡ to

  module _ (k b to : ℕ) (u : b < virtual_limit) where
    gib_before : (g : ℕ) → g < gibs_before k b → (g < 4) × Before 2 (g * 1073741824) k b
    unfolding gibs_before
    gib_before g h =
        either (eqb k 1)
        (λ y. let e = eqb-true k 1 y in
        let n : g < b / 1073741824 + 1 = rw (y, pick_yes {A = ℕ} true) at h in
        (omega arith, ⊎_elim (λ (z : g * 1073741824 ≡ b). inr (z, omega arith)) (λ (z : g * 1073741824 < b). inl z) (eq-or-lt_of_le (omega arith))))
        (λ y. let n : g < b / 1073741824 + 0 = rw (y, pick_no {A = ℕ} false) at h in (omega arith, inl (omega arith)))

    by_gib : (g : ℕ) → g < gibs_before k b → leads numbers 2 to g ≡ true → Earlier k b to
    unfolding leads says span pick
    by_gib g h y =
        let e : g * 1073741824 / 1073741824 % 512 ≡ g = let q = (gib_before g h).0 in omega arith in
        let m = table_of to 2 (entry_of numbers 0 g) (g * 1073741824) (sym (gib_is g (g * 1073741824) e) ∙ at_is to _ y) in
        let q = gib_before g h in
        record {
          level = 2;
          start = g * 1073741824;
          number = entry_of numbers 0 g;
          reached = record { top = g; few = q.0; from = itself numbers 2 (g * 1073741824) (entry_of numbers 0 g) };
          before = q.1;
          table = m.0;
          same = m.1;
        }

    slot_place : (s : ℕ) → place 1 (s / 512 * 1073741824) (s % 512) ≡ s * 2097152
    unfolding span
    slot_place s = omega arith

    by_slot : (s : ℕ) → s < b / slot_size → leads numbers 1 to s ≡ true → Earlier k b to
    unfolding leads says span pick slot
    by_slot s h y =
        let x = s * 2097152 in
        let g = s / 512 in
        let i = s % 512 in
        let ei : s * 2097152 / 2097152 % 512 ≡ i = omega arith in
        let eg : s * 2097152 / 1073741824 % 512 ≡ g = omega arith in
        let w = at_is to (under numbers x (gib numbers x)) y in
        let v = under_table x to (gib numbers x) w in
        let up = table_of v.0 2 (entry_of numbers 0 g) x (sym (gib_is g x eg) ∙ v.1) in
        let t = base_of page_size (entry_of numbers 0 g) in
        let w' : under numbers x (Table t) ≡ Table to = ap (under numbers x) (sym (v.1 ∙ ap Table (sym up.1))) ∙ w in
        let m = table_of to 1 (entry_of numbers t i) x (sym (under_is i x t ei) ∙ w') in
        let r = itself numbers 1 (place 1 (g * 1073741824) i) (entry_of numbers t i) in
        record {
          level = 1;
          start = x;
          number = entry_of numbers t i;
          reached = record { top = g; few = omega arith; from = rw (slot_place s) at (from_table numbers 1 (g * 1073741824) (entry_of numbers 0 g) i 1 _ (entry_of numbers t i) up.0 (omega arith) r) };
          before = inl (omega arith);
          table = m.0;
          same = m.1;
        }

    pub earlier_found : earlier numbers k b to ≡ true → (to ≡ 0) ⊎ Earlier k b to
    unfolding earlier
    earlier_found h =
        either (eqb to 0) (λ y. inl (eqb-true to 0 y))
        (λ n. inr (either (any (leads numbers 2 to) 0 (gibs_before k b))
        (λ y. let r = some_passes (leads numbers 2 to) (gibs_before k b) y in by_gib r.0 r.1 r.2)
        (λ m. let r = some_passes (leads numbers 1 to) (b / slot_size) (rw (n, m) at h) in by_slot r.0 r.1 r.2)))

  -- ---- where entries stand
  pub record AtGib (c f : ℕ) : Type 0 where
    pub gib : ℕ
    pub few : gib < 4
    pub start : c ≡ gib * 1073741824
    pub number : f ≡ entry_of numbers 0 gib

  pub record AtSlot (c f : ℕ) : Type 0 where
    pub gib : ℕ
    pub few : gib < 4
    pub index : ℕ
    pub small : index < 512
    pub start : c ≡ (gib * 512 + index) * 2097152
    pub table : is_table 2 (entry_of numbers 0 gib) ≡ true
    pub number : f ≡ entry_of numbers (base_of page_size (entry_of numbers 0 gib)) index

  slot_aligned : (g i : ℕ) → place 1 (g * 1073741824) i % span 1 ≡ 0
  unfolding span
  slot_aligned g i = omega arith

  pub at_gib : (c f : ℕ) → Reached numbers 2 c f → AtGib c f
  unfolding From
  at_gib c f r =
      let g = r.top in
      let e = entry_of numbers 0 g in
      ⊎_elim (λ (y : Itself 2 (g * 1073741824) e 2 c f). record { gib = g; few = r.few; start = y.start; number = y.number })
      (λ (y : (is_table 2 e ≡ true) × ((i : ℕ) × (i < 512) × From numbers 1 (place 1 (g * 1073741824) i) (entry_of numbers (base_of page_size e) i) 2 c f)).
      absurd (deep y.1.0 y.1.2))
      r.from
    where
      deep : (i : ℕ) → From numbers 1 (place 1 (r.top * 1073741824) i) (entry_of numbers (base_of page_size (entry_of numbers 0 r.top)) i) 2 c f → ⊥
      deep i s = let z = from_lies numbers 1 (omega arith) _ _ 2 c f (slot_aligned r.top i) s in omega (arith, z.level)

  pub at_slot : (c f : ℕ) → Reached numbers 1 c f → AtSlot c f
  unfolding From span
  at_slot c f r =
      let g = r.top in
      let e = entry_of numbers 0 g in
      ⊎_elim (λ (y : Itself 2 (g * 1073741824) e 1 c f). absurd (omega (arith, y.level)))
      (λ (y : (is_table 2 e ≡ true) × ((i : ℕ) × (i < 512) × From numbers 1 (place 1 (g * 1073741824) i) (entry_of numbers (base_of page_size e) i) 1 c f)).
      let i = y.1.0 in
      ⊎_elim
      (λ (z : Itself 1 (place 1 (g * 1073741824) i) (entry_of numbers (base_of page_size e) i) 1 c f).
      record { gib = g; few = r.few; index = i; small = y.1.1; start = z.start ∙ omega arith; table = y.0; number = z.number })
      (λ (z : (is_table 1 (entry_of numbers (base_of page_size e) i) ≡ true) × ((j : ℕ) × (j < 512) × From numbers 0 (place 0 (place 1 (g * 1073741824) i) j) (entry_of numbers (base_of page_size (entry_of numbers (base_of page_size e) i)) j) 1 c f)).
      absurd (omega (arith, z.1.2.level)))
      y.1.2)
      r.from

  -- ---- where no number is reserved before some entry of the pass, each table's entry there leads to it
  module _ (level start : ℕ) (plain : (k b e : ℕ) → Reached numbers k b e → Before k b level start → reserved k e ≡ false) where
    top_reached : (g : ℕ) → g < 4 → Reached numbers 2 (g * 1073741824) (entry_of numbers 0 g)
    top_reached g u = record { top = g; few = u; from = itself numbers 2 (g * 1073741824) (entry_of numbers 0 g) }

    at_self : (t : ℕ) (d : Descriptor) → d ≡ Table t → is_at t d ≡ true
    unfolding is_at
    at_self t d h = rw h (eq-eqb t t refl)

    gib_leads : (c f : ℕ) → Reached numbers 2 c f → Before 2 c level start → is_table 2 f ≡ true → leads numbers 2 (base_of page_size f) (c / 1073741824) ≡ true
    unfolding leads says span pick
    gib_leads c f r h y =
        let a = at_gib c f r in
        let g = a.gib in
        let x = c / 1073741824 * 1073741824 in
        let e : c / 1073741824 * 1073741824 / 1073741824 % 512 ≡ g = omega (arith, a.few, a.start) in
        at_self (base_of page_size f) (gib numbers x) (gib_is g x e ∙ rw (← a.number) (table_says 2 f x y (plain 2 c f r h)))

    -- the entry above comes before too
    upper_before : (c d : ℕ) → d ≤ c → Before 1 c level start → Before 2 d level start
    upper_before c d u h =
        ⊎_elim (λ (v : c < start). inl (omega arith))
        (λ (v : (c ≡ start) × (level < 1)).
        ⊎_elim (λ (z : d ≡ c). inr (z ∙ v.0, omega (arith, v.1))) (λ (z : d < c). inl (omega (arith, v.0))) (eq-or-lt_of_le u))
        h

    split : (g i : ℕ) → g < 4 → i < 512 → ((g * 512 + i) * 2097152 / 1073741824 % 512 ≡ g) × ((g * 512 + i) * 2097152 / 2097152 % 512 ≡ i)
    split g i u v =
        let z : (g * 512 + i) * 2097152 / 1073741824 ≡ g = omega arith in
        let w : (g * 512 + i) * 2097152 / 2097152 ≡ g * 512 + i = omega arith in
        (rw z (omega arith), rw w (omega arith))

    slot_leads : (c f : ℕ) → Reached numbers 1 c f → Before 1 c level start → is_table 1 f ≡ true → leads numbers 1 (base_of page_size f) (c / 2097152) ≡ true
    unfolding leads says span pick slot
    slot_leads c f r h y =
        let a = at_slot c f r in
        let g = a.gib in
        let i = a.index in
        let x = c / 2097152 * 2097152 in
        let sl : c / 2097152 ≡ g * 512 + i = omega (arith, a.start) in
        let eg : c / 2097152 * 2097152 / 1073741824 % 512 ≡ g = rw sl (split g i a.few a.small).0 in
        let ei : c / 2097152 * 2097152 / 2097152 % 512 ≡ i = rw sl (split g i a.few a.small).1 in
        let up = gib_is g x eg ∙ table_says 2 (entry_of numbers 0 g) x a.table (plain 2 (g * 1073741824) (entry_of numbers 0 g) (top_reached g a.few) (upper_before c (g * 1073741824) (omega (arith, a.start)) h)) in
        at_self (base_of page_size f) (under numbers x (gib numbers x))
        (ap (under numbers x) up ∙ under_is i x _ ei ∙ rw (← a.number) (table_says 1 f x y (plain 1 c f r h)))

    -- ---- what was new was not there before
    module _ (k b to : ℕ) (n : earlier numbers k b to ≡ false) where
      pub not_first_table : to ≡ 0 → ⊥
      unfolding earlier
      not_first_table z = yes_or_no (eqb to 0) (eq-eqb to 0 z) (not_first _ _ n)

      not_gib : (c f : ℕ) → Reached numbers 2 c f → Before 2 c level start → is_table 2 f ≡ true → base_of page_size f ≡ to → c / 1073741824 < gibs_before k b → ⊥
      unfolding earlier
      not_gib c f r w y e h =
          yes_or_no (leads numbers 2 to (c / 1073741824)) (rw e at (gib_leads c f r w y))
          (any_not (leads numbers 2 to) 0 (gibs_before k b) (c / 1073741824) (not_first _ _ (not_second (eqb to 0) _ n)) (omega arith) (omega arith))

      not_slot : (c f : ℕ) → Reached numbers 1 c f → Before 1 c level start → is_table 1 f ≡ true → base_of page_size f ≡ to → c / 2097152 < b / slot_size → ⊥
      unfolding earlier
      not_slot c f r w y e h =
          yes_or_no (leads numbers 1 to (c / 2097152)) (rw e at (slot_leads c f r w y))
          (any_not (leads numbers 1 to) 0 (b / slot_size) (c / 2097152) (not_second (any (leads numbers 2 to) 0 (gibs_before k b)) _ (not_second (eqb to 0) _ n)) (omega arith) (omega arith))

    -- ---- an entry before another is among those that are asked
    slots_ascend : (k b c : ℕ) → 0 < k → k ≤ 2 → b % span k ≡ 0 → c < b → c / 2097152 < b / slot_size
    unfolding span
    slots_ascend zero b c h m a u = absurd (omega arith)
    slots_ascend (suc zero) b c h m a u = omega arith
    slots_ascend (suc (suc zero)) b c h m a u = omega arith
    slots_ascend (suc (suc (suc k))) b c h m a u = absurd (omega arith)

    gibs_ascend : (k b c : ℕ) → 0 < k → k ≤ 2 → b % span k ≡ 0 → Before 2 c k b → c / 1073741824 < gibs_before k b
    unfolding span gibs_before pick
    gibs_ascend zero b c h m a u = absurd (omega arith)
    gibs_ascend (suc zero) b c h m a u = ⊎_elim (λ (v : c < b). omega arith) (λ (v : (c ≡ b) × (1 < 2)). omega (arith, v.0)) u
    gibs_ascend (suc (suc zero)) b c h m a u = ⊎_elim (λ (v : c < b). omega arith) (λ (v : (c ≡ b) × (2 < 2)). absurd (omega (arith, v.1))) u
    gibs_ascend (suc (suc (suc k))) b c h m a u = absurd (omega arith)

    some_below : (k e : ℕ) → is_table k e ≡ true → 0 < k
    some_below zero e y = absurd (yes_or_no _ y (last_level e))
    some_below (suc k) e y = omega arith

    -- no entry before a new one leads to its table
    module _ (k b e : ℕ) (p : Reached numbers k b e) (w : Before k b level start) (y : is_table k e ≡ true) (n : again numbers k b e ≡ false) where
      new : earlier numbers k b (base_of page_size e) ≡ false
      unfolding again
      new = rw y at n

      pub apart : (j c f : ℕ) → Reached numbers j c f → is_table j f ≡ true → Before j c k b → base_of page_size f ≡ base_of page_size e → ⊥
      apart zero c f q z h s = yes_or_no _ z (last_level f)
      apart (suc zero) c f q z h s =
          let r = reached_lies numbers k b e p in
          not_slot k b (base_of page_size e) new c f q (before_both 1 c k b level start h w) z s
          (⊎_elim (λ (u : c < b). slots_ascend k b c (some_below k e y) r.level r.aligned u)
          (λ (u : (c ≡ b) × (k < 1)). absurd (omega (arith, u.1, some_below k e y))) h)
      apart (suc (suc zero)) c f q z h s =
          let r = reached_lies numbers k b e p in
          not_gib k b (base_of page_size e) new c f q (before_both 2 c k b level start h w) z s (gibs_ascend k b c (some_below k e y) r.level r.aligned h)
      apart (suc (suc (suc j))) c f q z h s = let r = reached_lies numbers (suc (suc (suc j))) c f q in omega (arith, r.level)

      pub not_level_one : base_of page_size e ≡ 0 → ⊥
      not_level_one = not_first_table k b (base_of page_size e) new
