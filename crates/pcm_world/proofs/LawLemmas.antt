-- Nobody is woken where each may wait, and other groups stay.
use Rattle.std.proofs.Common.{◌≡◌, Bool, true, false, cond, not, ◌||◌, ◌&&◌, List, [], ◌∷◌, ◌++◌, refl, sym, ap, ◌∙◌}
use Rattle.pcm_base.specs.declared.ids.ClientId.{ClientId}
use Rattle.pcm_base.specs.declared.ids.SubId.{SubId}
use Rattle.pcm_base.specs.model.Sleep.{group_drains, is_among, may_wait, sleepers_that, woken, woken_in}
use Rattle.pcm_base.specs.model.Stream.{Member, Stream, Waiting}
use Rattle.pcm_base.specs.model.World.{group_of, holds, with_group}
use Rattle.pcm_group.specs.Waiting.{all_wait, calls_wait, members_wait}

one_stays : (a m r : Bool) (c : ClientId) (o : List ClientId) → ((not a || m) && r) ≡ true → cond (a && not m) (c ∷ o) o ≡ o
one_stays true true r c o h = refl
one_stays true false r c o h = absurd (let no : ⊥ = cc in no)
one_stays false m r c o h = refl

rest_waits : (a r : Bool) → (a && r) ≡ true → r ≡ true
rest_waits true r h = h
rest_waits false r h = absurd (let no : ⊥ = cc in no)

first_waits : (a r : Bool) → (a && r) ≡ true → a ≡ true
first_waits true r h = refl
first_waits false r h = h

none_woken : (g : Bool) (s : Stream) (marks : List ClientId) (ps : List Waiting) → calls_wait g s marks ps ≡ true → sleepers_that false g s marks ps ≡ []
none_woken g s marks [] h = refl
none_woken g s marks (p ∷ ps) h =
    one_stays (is_among p.client marks) (may_wait g s p.task) (calls_wait g s marks ps) p.client (sleepers_that false g s marks ps) h
    ∙ none_woken g s marks ps (rest_waits (not (is_among p.client marks) || may_wait g s p.task) (calls_wait g s marks ps) h)

none_woken_in : (g : Bool) (xs : List Member) → members_wait g xs ≡ true → woken_in g xs ≡ []
none_woken_in g [] h = refl
none_woken_in g (x ∷ xs) h =
    ap (λ (l : List ClientId). l ++ woken_in g xs) (none_woken g x.stream x.asleep x.stream.sleepers (first_waits (calls_wait g x.stream x.asleep x.stream.sleepers) (members_wait g xs) h))
    ∙ none_woken_in g xs (rest_waits (calls_wait g x.stream x.asleep x.stream.sleepers) (members_wait g xs) h)

pub nobody_woken : (xs : List Member) → all_wait xs ≡ true → woken xs ≡ []
nobody_woken xs h = none_woken_in (group_drains xs) xs h

pub other_groups : (k j : SubId) (now : List Member) (xs : List (List Member)) → holds j (group_of k xs) ≡ false → holds j now ≡ false → group_of j (with_group k now xs) ≡ group_of j xs
other_groups k j now [] h e = refl
other_groups k j now (ms ∷ xs) h e = by (holds k ms) h (λ f. other_groups k j now xs f e)
  where
    by : (b : Bool) → holds j (cond b ms (group_of k xs)) ≡ false → (holds j (group_of k xs) ≡ false → group_of j (with_group k now xs) ≡ group_of j xs)
        → group_of j (cond b (now ∷ xs) (ms ∷ with_group k now xs)) ≡ cond (holds j ms) ms (group_of j xs)
    by true f r = ap (λ (b : Bool). cond b now (group_of j xs)) e ∙ sym (ap (λ (b : Bool). cond b ms (group_of j xs)) f)
    by false f r = ap (λ (l : List Member). cond (holds j ms) ms l) (r f)
