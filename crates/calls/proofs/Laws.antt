-- How the code's branches meet the definitions of Step.
use Rattle.std.specs.Prelude.{◌≡◌, refl, Bool, not, List, ℕ}
use Rattle.std.proofs.Math.Path.{ap}
use Rattle.std.proofs.Common.{◌∙◌}
use Rattle.std.proofs.Math.Bool.{true}
use Rattle.registers.specs.Registers.{saving}
use Rattle.mapping.specs.Lists.{held}
use Rattle.rules.specs.Sizes.{normal}
use Rattle.rules.specs.Tests.{stops}
use Rattle.rules.specs.declared.Reason.TheVariants.{Unserved}
use Rattle.judgements.specs.Judge.{denied, one_of, callers, handler_sight, sighted, judged_by, judged}
use Rattle.judgements.specs.declared.Answer.TheVariants.{No}
use Rattle.judgements.specs.Read.{args_by}
use Rattle.judging.specs.Laws.{request_of, request_args}
use Rattle.judgements.specs.declared.Judged.{Judged}
use Rattle.judgements.specs.declared.Request.{Request}
use Rattle.judgements.specs.declared.Caller.{Caller}
use Rattle.answers.specs.Answers.{written}
use Rattle.answers.specs.Laws.{answered}
use Rattle.deeds.specs.Deeds.{Tables, tables, with_saved, carried_out}
use Rattle.calls.specs.Step.{state, caller_on, with_tables, applied, called}
use Rattle.calls.specs.declared.Site.{Site}
use Rattle.calls.specs.Laws.{Quietly, late, quietly}

-- ---- the whole call, from what each part ensures
stepped : (w : Site) (l o r p t m xs : List ℕ) (core : ℕ) (v : Caller) (k : Request) (j : Judged) (n q o' r' p' t' m' : List ℕ)
    → v ≡ caller_on w t core
    → n ≡ saving r core v.world xs
    → k ≡ request_of xs
    → j ≡ judged_by (sighted l (handler_sight v p o (held m v.world) (held m normal))) k.parts k.args k.key
    → q ≡ saving n core v.world (written k.parts j.answer)
    → tables o' r' p' t' m' ≡ carried_out j.deed core v.world xs (tables o q p t m)
    → (state w l o' r' p' t' m', record { caller = v.world; answer = j.answer }) ≡ called (state w l o r p t m) core xs
unfolding called applied judged
stepped w l o r p t m xs core v k j n q o' r' p' t' m' ev en ek ej ew es =
    let eq = answered r n q xs core v.world k.parts j.answer en ew in
    ap (λ (y : Tables). (with_tables (state w l o r p t m) y, record { caller = v.world; answer = j.answer })) es ∙ rw (eq, ej, ek, ev)

pub stepped_late : (w : Site) (l o r p t m xs : List ℕ) (core : ℕ) (v : Caller) (k : Request) (j : Judged) (n q o' r' p' t' m' : List ℕ)
    → v ≡ caller_on w t core
    → n ≡ saving r core v.world xs
    → k ≡ request_of xs
    → j ≡ judged_by (sighted l (handler_sight v p o (held m v.world) (held m normal))) k.parts (args_by k.key xs) k.key
    → tables o' q p' t' m' ≡ carried_out j.deed core v.world xs (tables o n p t m)
    → r' ≡ saving q core v.world (written k.parts j.answer)
    → (state w l o' r' p' t' m', record { caller = v.world; answer = j.answer }) ≡ called (state w l o r p t m) core xs
unfolding judged
stepped_late w l o r p t m xs core v k j n q o' r' p' t' m' ev en ek ej es ew =
    let sees = sighted l (handler_sight v p o (held m v.world) (held m normal)) in
    let is : j ≡ judged_by sees k.parts k.args k.key = rw (request_args xs k ek) at ej in
    let whole : j ≡ judged sees xs = rw ek at is in
    let quiet : Quietly j.deed j.answer = rw whole (quietly sees xs (judged sees xs).deed refl) in
    let done : tables o' r' p' t' m' ≡ carried_out j.deed core v.world xs (tables o (saving n core v.world (written k.parts j.answer)) p t m) =
    rw ew (ap (λ (y : Tables). with_saved y (saving y.saved core v.world (written k.parts j.answer))) es ∙ late core v.world xs k.parts j.answer o n p t m j.deed quiet) in
    stepped w l o r p t m xs core v k j n (saving n core v.world (written k.parts j.answer)) o' r' p' t' m' ev en ek is refl done

-- a world that makes no calls is refused, and nothing is done for it
pub unheard : (w : Site) (l o r p t m xs : List ℕ) (core : ℕ) (v : Caller) (heard : Bool) (k : Request) (n q : List ℕ)
    → v ≡ caller_on w t core
    → heard ≡ one_of v.world callers
    → not heard ≡ true
    → n ≡ saving r core v.world xs
    → k ≡ request_of xs
    → q ≡ saving n core v.world (written k.parts (No Unserved))
    → (state w l o q p t m, record { caller = v.world; answer = No Unserved }) ≡ called (state w l o r p t m) core xs
unfolding judged_by
unheard w l o r p t m xs core v heard k n q ev eh er en ek ew =
    stepped w l o r p t m xs core v k (denied Unserved) n q o q p t m ev en ek (stops denied _ Unserved _ _ (denied Unserved) (rw eh at er) refl) ew refl

pub ruleset steps = (stepped_late, unheard)
