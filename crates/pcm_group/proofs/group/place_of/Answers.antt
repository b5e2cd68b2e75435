use Rattle.std.proofs.Common.{◌≡◌, ◌+◌, ℕ, suc, List, [], ◌∷◌, drop, sym, ◌∙◌, ap, arith}
use Rattle.pcm_base.specs.declared.ids.SubId.{SubId}
use Rattle.pcm_base.specs.model.Replay.{is_member}
use Rattle.pcm_stream.specs.Members.{members_of, numbers_of}
use Rattle.group_trigger.proofs.ListLemmas.{present}
use Rattle.pcm_group.proofs.PlaceLemmas.{drop_at, drop_last, member_alone, member_later, number_at, numbers-length}
use Rattle.pcm_group.proofs.group.place_of.Goals as goal

pub returns-then-at-sub-clause-number : goal.returns-then-at-sub-clause-number
returns-then-at-sub-clause-number g c = number_at (members_of c.args.members.now) c.places.i c.at.result.now c.args.sub c.at.ensures c.if-at-sub.true

pub places-preserved : goal.places-preserved
places-preserved g c =
    let ks = numbers_of (members_of c.args.members.now) in
    let m = c.at.result.now in
    let next : c.places.i + 1 ≡ suc c.places.i = omega arith in
    record {
      within = omega (arith, c.len.ensures.value, c.places-test.true);
      behind = ap (λ (n : ℕ). is_member c.args.sub (drop n ks)) next
          ∙ member_later c.args.sub m.sub (drop (suc c.places.i) ks) c.if-at-sub.false (ap (λ (l : List SubId). is_member c.args.sub l) (sym (drop_at (members_of c.args.members.now) c.places.i m c.at.ensures)) ∙ c.places.invariant.behind);
    }

pub returns-clause-number : goal.returns-clause-number
returns-clause-number g c =
    let ms = members_of c.args.members.now in
    let ks = numbers_of ms in
    let p = present ms c.places.i c.places.invariant.within in
    let last : drop (suc c.places.i) ks ≡ [] = drop_last ks (suc c.places.i) (omega (arith, c.len.ensures.value, c.places-test.false, numbers-length ms)) in
    let e : drop c.places.i ks ≡ p.0.sub ∷ [] = drop_at ms c.places.i p.0 p.1 ∙ ap (λ (l : List SubId). p.0.sub ∷ l) last in
    number_at ms c.places.i p.0 c.args.sub p.1 (member_alone c.args.sub p.0.sub (ap (λ (l : List SubId). is_member c.args.sub l) (sym e) ∙ c.places.invariant.behind))
