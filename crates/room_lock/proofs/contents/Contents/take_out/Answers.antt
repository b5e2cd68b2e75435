use Rattle.std.proofs.Common.{◌≡◌, ◌+◌, ℕ, zero, suc, Bool, true, false, cond, nat_eq, List, [], ◌∷◌, ◌++◌, length, slice_get, get_or, Some, refl, sym, ap, ◌∙◌, subst, arith}
use Rattle.std.specs.List.{remove}
use Rattle.std.specs.Prelude.{◌||◌}
use Rattle.std.proofs.lemmas.Bool.Decides.{nat_tests}
use Rattle.std.proofs.lemmas.Option.{slice_get_read}
use Rattle.card_emul.specs.declared.any_card.AnyCard.{AnyCard}
use Rattle.card_emul.specs.contracts.any_card.AnyCardCard.TheImpl.{ghosts}
use Rattle.link_group.specs.Numbers.{first_of}
use Rattle.pcm_base.specs.declared.ids.SubId.{SubId}
use Rattle.pcm_base.specs.model.Replay.{Distinct, is_member}
use Rattle.pcm_group.specs.Inside.{members_in}
use Rattle.pcm_group.specs.declared.group.Group.{Group}
use Rattle.pcm_stream.specs.Members.{members_of, numbers_of}
use Rattle.pcm_stream.specs.declared.members.Member.{Member}
use Rattle.room_parts.specs.Recs.{sub_of, subs_of}
use Rattle.room_lock.proofs.LeavingLemmas.{map_remove}
use Rattle.room_lock.proofs.MemberLemmas.{distinct_of}
use Rattle.room_lock.proofs.RecLemmas.{found, no_rec, some_one}
use Rattle.room_lock.proofs.Records.{get_map, later, number_at}
use Rattle.room_lock.proofs.SharedLemmas.{member_at}
use Rattle.room_lock.proofs.contents.Contents.take_out.Goals as goal

-- what stands at the place of a number
first_number : (ks : List SubId) (k : SubId) → is_member k ks ≡ true → slice_get ks (first_of k ks) ≡ Some k
first_number [] k there = absurd (cc)
first_number (j ∷ ks) k there = by (nat_eq j.0 k.0) refl there (λ h. first_number ks k h)
  where
    by : (b : Bool) → nat_eq j.0 k.0 ≡ b → (b || is_member k ks) ≡ true → (is_member k ks ≡ true → slice_get ks (first_of k ks) ≡ Some k) → slice_get (j ∷ ks) (cond b 0 (first_of k ks + 1)) ≡ Some k
    by true e h rest = let n : j.0 ≡ k.0 = grind (arith, nat_tests, e) in ap (λ (i : ℕ). let x : SubId = record { 0 = i } in Some x) n
    by false e h rest = let next : first_of k ks + 1 ≡ suc (first_of k ks) = omega arith in ap (slice_get (j ∷ ks)) next ∙ rest h

-- a number stands at no other place
first_place : (ks : List SubId) (i : ℕ) (k : SubId) → Distinct ks → slice_get ks i ≡ Some k → first_of k ks ≡ i
first_place [] i k d at = absurd (cc)
first_place (j ∷ ks) zero k d at =
    let e : j ≡ k = cc in
    let n : j.0 ≡ k.0 = ap (λ (x : SubId). x.0) e in
    let test : nat_eq j.0 k.0 ≡ true = grind (arith, nat_tests, n) in
    ap (λ (b : Bool). cond b 0 (first_of k ks + 1)) test
first_place (j ∷ ks) (suc i) k d at = let rest = first_place ks i k d.1 at in ap (λ (b : Bool). cond b 0 (first_of k ks + 1)) (later j ks i k d.0 at) ∙ omega (arith, rest)

pub leave_member-gone-requires-clause-member : goal.leave_member-gone-requires-clause-member
leave_member-gone-requires-clause-member g c =
    let rs = c.args.self.now.recs.items in
    let r = get_or rs c.args.place no_rec in
    let at = found rs c.args.place c.requires.place in
    let here : is_member c.args.sub (subs_of rs) ≡ true = subst (λ (k : SubId). is_member k (subs_of rs) ≡ true) (c.requires.sub r at) (member_at rs c.args.place r at) in
    let members = c.into_members-members.ensures.members ∙ ap (λ (x : Group AnyCard ghosts). members_in x) c.replace.ensures.value in
    ap (λ (l : List (Member AnyCard ghosts)). is_member c.args.sub (numbers_of l)) members ∙ ap (is_member c.args.sub) c.requires.members ∙ here

pub returns-clause-rec : goal.returns-clause-rec
returns-clause-rec g c =
    let rs = c.args.self.now.recs.items in slice_get_read rs (length rs) c.args.place c.remove-rec.result refl c.requires.place c.remove-rec.ensures.value

pub returns-clause-number : goal.returns-clause-number
returns-clause-number g c =
    let rs = c.args.self.now.recs.items in
    let r = get_or rs c.args.place no_rec in
    let at = found rs c.args.place c.requires.place in
    let here : is_member c.args.sub (subs_of rs) ≡ true = subst (λ (k : SubId). is_member k (subs_of rs) ≡ true) (c.requires.sub r at) (member_at rs c.args.place r at) in
    let ms = members_of c.into_members-members.result in
    let members = c.into_members-members.ensures.members ∙ ap (λ (x : Group AnyCard ghosts). members_in x) c.replace.ensures.value in
    let there : is_member c.args.sub (numbers_of ms) ≡ true = ap (λ (l : List (Member AnyCard ghosts)). is_member c.args.sub (numbers_of l)) members ∙ ap (is_member c.args.sub) c.requires.members ∙ here in
    let gone = c.leave_member-gone.result.gone in
    let none = c.into_members-single.ensures.members ∙ c.requires.way in
    ap (λ (l : List (Member AnyCard ghosts)). numbers_of l) (c.add.ensures ∙ ap (λ (l : List (Member AnyCard ghosts)). l ++ gone ∷ []) none)
    ∙ ap (λ (k : SubId). k ∷ []) (some_one gone.sub c.args.sub (sym (get_map (λ (m : Member AnyCard ghosts). m.sub) ms (first_of c.args.sub (numbers_of ms)) gone c.leave_member-gone.ensures.taken) ∙ first_number (numbers_of ms) c.args.sub there))

pub returns-clause-others : goal.returns-clause-others
returns-clause-others g c =
    let rs = c.args.self.now.recs.items in
    let i = c.args.place in
    let k = c.args.sub in
    let r = get_or rs i no_rec in
    let at = found rs i c.requires.place in
    let ms = members_of c.into_members-members.result in
    let members = c.into_members-members.ensures.members ∙ ap (λ (x : Group AnyCard ghosts). members_in x) c.replace.ensures.value in
    let numbers : numbers_of ms ≡ subs_of rs = ap (λ (l : List (Member AnyCard ghosts)). numbers_of l) members ∙ c.requires.members in
    let apart : Distinct (subs_of rs) = subst Distinct numbers (distinct_of (numbers_of ms) c.into_members-members.ensures.distinct) in
    let place : first_of k (numbers_of ms) ≡ i = ap (first_of k) numbers ∙ first_place (subs_of rs) i k apart (number_at (subs_of rs) rs i r k refl at (c.requires.sub r at)) in
    ap (λ (l : List (Member AnyCard ghosts)). numbers_of l) (c.back.ensures.members ∙ c.leave_member-gone.ensures.kept)
    ∙ map_remove (λ (m : Member AnyCard ghosts). m.sub) ms (first_of k (numbers_of ms))
    ∙ ap (λ (z : List SubId × ℕ). remove z.0 z.1) (λ n. (numbers n, place n))
    ∙ sym (map_remove sub_of rs i)
    ∙ ap subs_of (sym c.remove-rec.ensures.items)
