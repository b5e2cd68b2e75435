use Rattle.std.proofs.Common.{◌≡◌, inl, ℕ, List, [], ◌∷◌, ◌++◌, length, Some, refl, sym, ap, ◌∙◌, subst}
use Rattle.std.specs.Prelude.{slice_get}
use Rattle.pcm_base.specs.declared.act.Act.TheVariants as act
use Rattle.pcm_base.specs.declared.act.Outcome.TheVariants as outcome
use Rattle.pcm_base.specs.declared.act.Vote.TheVariants as vote
use Rattle.floor_rule.specs.declared.entry.Joint.{Joint}
use Rattle.floor_rule.specs.declared.rule.Marked.{Marked}
use Rattle.floor_rule.specs.Causes.{HasJoint}
use Rattle.floor_rule.specs.Lists.{Stands}
use Rattle.room_parts.proofs.tests.linking.Goals as goal

two : (xs ys zs : List Marked) (a b : Marked) → zs ≡ ys ++ b ∷ [] → ys ≡ xs ++ a ∷ [] → xs ≡ [] → length zs ≡ 2
two xs ys zs a b z y x = ap length (z ∙ ap (λ l. l ++ b ∷ []) (y ∙ ap (λ l. l ++ a ∷ []) x))

third : (xs : List Marked) (e : Marked) → length xs ≡ 2 → slice_get (xs ++ e ∷ []) 2 ≡ Some e
third (x ∷ y ∷ []) e h = refl
third [] e h = absurd (cc)
third (x ∷ []) e h = absurd (cc)
third (x ∷ y ∷ z ∷ xs) e h = absurd (cc)

stands_third : (logs rest : List (ℕ × List Marked)) (s : ℕ) (log before : List Marked) (e : Marked) → logs ≡ (s, log) ∷ rest → s ≡ 0 → log ≡ before ++ e ∷ [] → length before ≡ 2 → Stands logs 0 2 e
stands_third logs rest s log before e is first grown count =
    subst (λ (l : List (ℕ × List Marked)). Stands l 0 2 e) (sym is) (inl (first, subst (λ l. slice_get l 2 ≡ Some e) (sym grown) (third before e count)))

pub join-requires-clause-cause : goal.join-requires-clause-cause
join-requires-clause-cause g c =
    let begun = c.reserve.ensures.same ∙ c.new-first.ensures ∙ ap (λ s. s.knows) c.add_rec.ensures.seat in
    let first : c.call_on.new.rec.knows.sub ≡ 0 = c.call_on.ensures.same.0 ∙ ap (λ r. r.knows.sub) c.tell-news-2.ensures.same ∙ c.move_to.ensures.same ∙ ap (λ r. r.knows.sub) c.tell-news.ensures.same ∙ c.link_on.ensures.same.0 ∙ ap (λ k. k.sub) begun ∙ ap (λ m. m.knows.recs) c.requires.maker in
    let count = two _ _ c.tell-news-2.new.self.knows.log _ _ (ap (λ r. r.knows.log) c.tell-news-2.ensures.same ∙ c.move_to.ensures.log) (ap (λ r. r.knows.log) c.tell-news.ensures.same ∙ c.link_on.ensures.first) (ap (λ k. k.log) begun) in
    let joint : Joint = record { act = act.Start; room = 16; serial = 0; vote = vote.Yes; outcome = outcome.Done } in
    let told : c.push.new.self ≡ joint ∷ [] = c.push.ensures ∙ ap (λ l. l ++ joint ∷ []) c.new-joints.ensures in
    (_, stands_third _ _ _ _ _ _ (ap (λ n. n.lists.logs) c.tell-news-3.ensures.note) first c.call_on.ensures.log count, subst (λ (js : List Joint). HasJoint js joint) (sym told) (inl (refl, refl, refl, refl)))

pub call_on-requires-clause-sub : goal.call_on-requires-clause-sub
call_on-requires-clause-sub g c =
    let begun = c.reserve.ensures.same ∙ c.new-first.ensures ∙ ap (λ s. s.knows) c.add_rec.ensures.seat in
    sym (ap (λ r. r.knows.sub) c.tell-news-2.ensures.same ∙ c.move_to.ensures.same ∙ ap (λ r. r.knows.sub) c.tell-news.ensures.same ∙ c.link_on.ensures.same.0 ∙ ap (λ k. k.sub) begun ∙ ap (λ m. m.knows.recs) c.requires.maker)
