-- The theorems: what is stated holds of every write that keeps the writer's promise, whatever the numbers and the bytes.
use Rattle.std.proofs.Math.Path.{◌≡◌, refl, sym, ap}
use Rattle.std.proofs.Common.{◌∙◌, length-append}
use Rattle.std.proofs.Math.Bool.{Bool}
use Rattle.std.specs.Prelude.{true, false, ℕ, ◌+◌, ◌≤◌, ◌<◌, ltb}
use mathlib.Core.List.{List, ◌++◌}
use native.Mathlib.Omega.{arith}
use Rattle.std.proofs.Math.ListN.{length}
use borrow.Author.Tests.{lt-ltb, ltb-true, ltb-false}
use Rattle.rules.specs.Choice.{pick_yes, either}
use Rattle.tools.specs.Laid.{laid, length_laid}
use Rattle.fip_entries.specs.Entries.{entry}
use Rattle.fip_lay.specs.Bytes.{spell, length_spell, entry_of}
use Rattle.fip_plan.specs.Plan.{planned, planned_at, plan_kept}
use Rattle.fip_theorems.specs.Statements.{Planned}
use Rattle.fip_theorems.specs.Bytes.{copied_whole, number, number_spell}
use Rattle.fip_theorems.specs.Layout.{first_part, second_part, Three, three, entry_of_lem}
use Rattle.fip_theorems.specs.Over.{laid_here, laid_before, laid_behind}

-- ---- a plan, whatever it was, if setting an image keeps its promise
module _ (id : List ℕ) (offset size flags : ℕ) (e : length id ≡ 16) where
  abbrev tail : List ℕ
  tail = spell 8 size ++ spell 8 flags

  planned_parts : Three (entry_of id offset size flags) id (spell 8 offset) tail 16 8 16
  unfolding entry_of
  planned_parts = three id (spell 8 offset) tail 16 8 16 e (length_spell 8 offset) (simp (length-append, length_spell))

  planned_long : length (entry_of id offset size flags) ≡ 40
  unfolding entry_of
  planned_long = simp (length-append, length_spell, e)

  -- An image that is set in a plan has its entry there, and every other entry stays.
  pub any_planned : (d : List ℕ) (answer : Bool) (d' : List ℕ) (k : ℕ) → (answer, d') ≡ planned_at d k id offset size flags → k < planned d → offset < 0x10000000000000000 → size < 0x10000000000000000 → flags < 0x10000000000000000 → Planned d k id offset size flags answer d'
  unfolding planned_at
  any_planned d answer d' k promise h a b c =
      let w = entry_of id offset size flags in
      let l : entry k + 40 ≤ length d = omega arith in
      let q : ◌≡◌ {A = Bool × List ℕ} (answer, d') (true, laid d (entry k) w) = promise ∙ pick_yes _ _ _ (lt-ltb k (planned d) h) in
      let s : d' ≡ laid d (entry k) w = ap (λ (x : Bool × List ℕ). x.1) q in
      let n = entry_of_lem d' w id (spell 8 offset) tail k (rw s (laid_here d w (entry k) 40 planned_long l)) planned_parts in
      let y = first_part (spell 8 size) (spell 8 flags) 8 (length_spell 8 size) in
      let z = second_part (spell 8 size) (spell 8 flags) 8 (length_spell 8 size) _ 8 0 8 refl (copied_whole (spell 8 flags) 8 (length_spell 8 flags)) in
      record {
        answered = ap (λ (x : Bool × List ℕ). x.0) q;
        as_long = rw s (length_laid d (entry k) w);
        made = record {
          has_identifier = n.has_identifier;
          has_offset = n.has_offset ∙ number_spell 8 offset a;
          has_size = n.has_size ∙ ap number y ∙ number_spell 8 size b;
          has_flags = n.has_flags ∙ ap number z ∙ number_spell 8 flags c;
        };
        others = λ j q. rw s
            (either (ltb j k) (λ x. let m = ltb-true j k x in laid_before d w (entry k) 40 planned_long l (entry j) 40 (omega arith))
            (λ x. let m = ltb-false j k x in laid_behind d w (entry k) 40 planned_long l (entry j) 40 (omega arith)));
      }

-- Where the plan has no such entry, the answer says so and the plan stays whole.
pub none_planned : (id : List ℕ) (offset size flags : ℕ) (d : List ℕ) (answer : Bool) (d' : List ℕ) (k : ℕ) → (answer, d') ≡ planned_at d k id offset size flags → planned d ≤ k → (answer ≡ false) × (d' ≡ d)
none_planned id offset size flags d answer d' k promise h =
    let q : ◌≡◌ {A = Bool × List ℕ} (answer, d') (false, d) = promise ∙ sym (plan_kept d k id offset size flags h) in
    (ap (λ (x : Bool × List ℕ). x.0) q, ap (λ (x : Bool × List ℕ). x.1) q)
