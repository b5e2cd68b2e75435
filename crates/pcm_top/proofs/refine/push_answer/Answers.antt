use Rattle.std.proofs.Common.{rules, refl, List, ℕ, [], ◌∷◌, ◌++◌, codes, inl, inr, ◌∙◌, subst}
use Rattle.pcm_base.specs.declared.config.CardModel.{CardModel}
use Rattle.hw_params.specs.Hull.{IsHull, HasNone}
use Rattle.pcm_line.specs.declared.line.Line.TheVariants.{Space}
use Rattle.pcm_line.specs.Spelling.{spelling}
use Rattle.pcm_top.specs.Refine.{IsAnswer}
use Rattle.pcm_top.proofs.BoxLemmas.{box-fits, on-appended, appended-twice}
use Rattle.pcm_top.proofs.refine.push_answer.Goals as goal

pub returns-in_ok-push_line-in-Ok : goal.returns-in_ok-push_line-in-Ok
returns-in_ok-push_line-in-Ok c =
    let m = c.args.model in
    let s = c.args.space.now in
    let line = spelling (Space m c.in-Ok.least) in
    let hull = subst (λ (k : CardModel). IsHull k s c.in-Ok.least) c.model_of.ensures.table c.in-Ok.ensures.hull in
    let says = c.in_ok-push_line-in-Ok.ensures.line (box-fits m s c.in-Ok.least hull) in
    let answer : IsAnswer m s (line ++ 10 ∷ []) = inl (record { box = c.in-Ok.least; line = line; hull = hull; says = says; whole = refl }) in
    on-appended c.extend_from_slice.result (λ (x : List ℕ). IsAnswer m s x) c.args.text.now.items (line ++ 10 ∷ []) c.extend_from_slice.new.self.items c.push_line.new.text.items answer
    (c.extend_from_slice.ensures.items ∙ appended-twice c.args.text.now.items line c.push_line.new.text.items _ c.in_ok-push_line-in-Ok.ensures.text)

pub returns-in-Err : goal.returns-in-Err
returns-in-Err c =
    let m = c.args.model in
    let s = c.args.space.now in
    let none = subst (λ (k : CardModel). HasNone k s) c.model_of.ensures.table c.in-Err.ensures.none in
    on-appended c.extend_from_slice-in-Err.result (λ (x : List ℕ). IsAnswer m s x) c.args.text.now.items (codes "err EINVAL 22" ++ 10 ∷ []) c.extend_from_slice-in-Err.new.self.items c.args.text.now.items (inr (none, refl)) (search rules)
