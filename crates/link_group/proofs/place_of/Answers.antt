use Rattle.std.proofs.Common.{◌≡◌, ◌+◌, ◌<◌, ◌≤◌, ℕ, suc, true, List, [], ◌∷◌, drop, length, add-one, refl, sym, ◌∙◌, ap, subst, arith}
use Rattle.pcm_base.specs.declared.ids.SubId.{SubId}
use Rattle.pcm_base.specs.model.Replay.{is_member}
use Rattle.pcm_stream.specs.Members.{members_of, numbers_of}
use Rattle.link_group.specs.Numbers.{first_of}
use Rattle.link_group.proofs.PlaceLemmas.{drop_at, drop_last, first_here, first_later, member_alone, member_later, numbers-length, present}
use Rattle.link_group.proofs.place_of.Goals as goal

pub returns-then-at-sub-clause-value : goal.returns-then-at-sub-clause-value
returns-then-at-sub-clause-value g c =
    let ms = members_of c.args.group.now in
    let ks = numbers_of ms in
    let m = c.at.result.now in
    let zero_more : first_of c.args.sub (drop c.places.i ks) ≡ 0 = ap (λ (l : List SubId). first_of c.args.sub l) (drop_at ms c.places.i m c.at.ensures) ∙ first_here c.args.sub m.sub (drop (suc c.places.i) ks) c.if-at-sub.true in
    omega (arith, c.places.invariant.first, zero_more)

pub places-preserved : goal.places-preserved
places-preserved g c =
    let ms = members_of c.args.group.now in
    let ks = numbers_of ms in
    let m = c.at.result.now in
    let e = drop_at ms c.places.i m c.at.ensures in
    let next : c.places.i + 1 ≡ suc c.places.i = omega arith in
    let other : m.sub.0 ≡ c.args.sub.0 → ⊥ = c.if-at-sub.false in
    let more : first_of c.args.sub (drop c.places.i ks) ≡ first_of c.args.sub (drop (suc c.places.i) ks) + 1 = ap (λ (l : List SubId). first_of c.args.sub l) e ∙ first_later c.args.sub m.sub (drop (suc c.places.i) ks) other in
    record {
      within = omega (arith, c.len.ensures.value, c.places-test.true);
      behind = ap (λ (n : ℕ). is_member c.args.sub (drop n ks)) next
          ∙ member_later c.args.sub m.sub (drop (suc c.places.i) ks) other (ap (λ (l : List SubId). is_member c.args.sub l) (sym e) ∙ c.places.invariant.behind);
      first = (let f : first_of c.args.sub ks ≡ c.places.i + 1 + first_of c.args.sub (drop (suc c.places.i) ks) = omega (arith, c.places.invariant.first, more) in
          f ∙ ap (λ (n : ℕ). c.places.i + 1 + first_of c.args.sub (drop n ks)) (sym next));
    }

pub returns-clause-value : goal.returns-clause-value
returns-clause-value g c =
    let ms = members_of c.args.group.now in
    let ks = numbers_of ms in
    let p = present ms c.places.i c.places.invariant.within in
    let last : drop (suc c.places.i) ks ≡ [] = drop_last ks (suc c.places.i) (omega (arith, c.len.ensures.value, c.places-test.false, numbers-length ms)) in
    let e : drop c.places.i ks ≡ p.0.sub ∷ [] = drop_at ms c.places.i p.0 p.1 ∙ ap (λ (l : List SubId). p.0.sub ∷ l) last in
    let here = member_alone c.args.sub p.0.sub (ap (λ (l : List SubId). is_member c.args.sub l) (sym e) ∙ c.places.invariant.behind) in
    let zero_more : first_of c.args.sub (drop c.places.i ks) ≡ 0 = ap (λ (l : List SubId). first_of c.args.sub l) e ∙ first_here c.args.sub p.0.sub [] here in
    omega (arith, c.places.invariant.first, zero_more)
